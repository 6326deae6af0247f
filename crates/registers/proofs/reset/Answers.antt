use mathlib.Core.Path.{◌≡◌}
use native.Mathlib.Omega.{arith}
use native.Mathlib.Numerals.{add-one}
use Rattle.rules.specs.Table.{row_count}
use Rattle.rules.specs.Registers.{reset_byte, reset_row, reset_rows, reset_of}
use Rattle.rules.proofs.ResetLaws.{row_below}
use Rattle.registers.proofs.reset.Goals as goal

pub bounds-image-row_place : goal.bounds-image-row_place
bounds-image-row_place c = omega (arith, c.row_place.ensures, row_below _ c.loop-k-test.true)

pub loop-k-preserved : goal.loop-k-preserved
unfolding reset_rows reset_row reset_byte
loop-k-preserved c = simp (add-one, c.row_place.ensures, c.reset_at.ensures, c.value_at.ensures, c.loop-k.invariant)

pub returns : goal.returns
unfolding reset_of
returns c =
    let e : c.loop-k.k ≡ row_count = omega (arith, c.loop-k-test.false, c.loop-k.auto.k-end) in
    simp (c.loop-k.invariant, e)
