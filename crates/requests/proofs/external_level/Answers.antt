-- The group's two bits are one field of EIPLR.
use mathlib.Core.Path.{sym, ap, ◌∙◌}
use Prim.Native.Nat.{ℕ, ◌+◌, ◌*◌, ◌/◌, ◌%◌, ◌^◌}
use native.Mathlib.Omega.{arith}
use Rattle.bits.proofs.Tests.{same-below}
use Rattle.rules.proofs.LevelLaws.{external-level}
use Rattle.requests.proofs.external_level.Goals as goal

pub returns : goal.returns
returns c =
    let e = c.args.eiplr in
    let k = c.args.k in
    ap (λ (x : ℕ). 2 * (e / x % 4) + k % 2) (same-below 4 (λ g. 2 ^ (g * 2)) (λ g. 4 ^ g) tt (k / 2) (omega (arith, c.requires)))
    ∙ sym (external-level e k c.requires)
