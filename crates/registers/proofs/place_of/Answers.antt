-- The code makes the definition's tests in the same order, but asks for the page's row before it asks for page 0, which has none.
use mathlib.Core.Logic.{◌≢◌}
use Prim.Native.Nat.{◌/◌, ◌≤◌}
use native.Mathlib.Omega.{arith}
use lib.ListN.{get_or}
use Rattle.std.proofs.lemmas.Grind.{common_steps}
use Rattle.rules.specs.Image.{at, PPR}
use Rattle.rules.specs.Registers.{place_of}
use Rattle.channels.proofs.LaidLaws.{laid_without_row, laid_not_zero, laid_in_row}
use Rattle.registers.proofs.place_of.Goals as goal

pub returns-in-0 : goal.returns-in-0
unfolding place_of
returns-in-0 c =
    let high : at c.args.image.now PPR / 4 ≤ 63 = omega (arith, c.fits-image PPR) in
    let none = laid_without_row c.args.masks.now.laid _ high c.in-0.is c.args.register (omega arith) (omega arith) in
    grind (arith, common_steps, none)

pub returns-in_default-rows : goal.returns-in_default-rows
unfolding place_of
returns-in_default-rows c =
    let high : at c.args.image.now PPR / 4 ≤ 63 = omega (arith, c.fits-image PPR) in
    let row : get_or c.args.masks.now.rows (at c.args.image.now PPR / 4) 0 ≢ 0 = omega arith in
    let placed = laid_in_row c.args.masks.now.laid _ high row c.args.register (omega arith) (omega arith) in
    let paged = laid_not_zero c.args.masks.now.laid _ high row in
    grind (arith, common_steps, placed, paged)
