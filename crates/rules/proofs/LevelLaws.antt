-- The vector and the level of a source, read a second time: as fields of EIVR, IVR, EIPLR and IDCR. Assumes nothing.
use mathlib.Core.Path.{◌≡◌}
use mathlib.Core.List.{List}
use Prim.Native.Nat.{ℕ, ◌+◌, ◌*◌, ◌/◌, ◌%◌, ◌^◌, ◌≤◌, ◌<◌}
use native.Mathlib.Omega.{arith}
use native.Mathlib.Nat.{mod-lt, zero-lt-suc}
use lib.Pow.{shr-shr}
use borrow.Author.Tests.{lt-ltb, le-ltb}
use Rattle.bits.specs.Bits.{digit}
use Rattle.bits.proofs.BitLaws.{digit_lt}
use Rattle.bits.proofs.Tests.{same-below}
use Rattle.rules.specs.declared.Channel.{Channel}
use Rattle.rules.specs.Image.{Image, at, EIPLR, EIVR}
use Rattle.rules.specs.Channels.{idcr_byte, ivr_byte}
use Rattle.rules.specs.Sources.{external, record_of, external_level, level}
use Rattle.rules.specs.Arbitration.{vector_of}
use Rattle.rules.proofs.Bools.{cond_elim}

-- the vector of external channel k has EIVR's upper half, and 2k below it
pub vector-external : (m : Image) (cs : List Channel) (k : ℕ) → k < 8 → (vector_of m cs k / 16 ≡ at m EIVR / 16) × (vector_of m cs k % 16 ≡ 2 * k)
unfolding vector_of
vector-external m cs k h = rw (lt-ltb k 8 h) (omega arith, omega arith)

-- the vector of a record is the even one of IVR's pair
pub vector_record : (m : Image) (cs : List Channel) (s : ℕ) → 8 ≤ s → (vector_of m cs s / 2 ≡ at m (ivr_byte (record_of cs s)) / 2) × (vector_of m cs s % 2 ≡ 0)
unfolding vector_of
vector_record m cs s h = rw (le-ltb s 8 h) (omega arith, omega arith)

-- the two group bits are one field of EIPLR: 2 times it, plus k modulo 2
pub external-level : (e k : ℕ) → k < 8 → external_level e k ≡ 2 * (e / 4 ^ (k / 2) % 4) + k % 2
unfolding external_level digit
external-level e k h =
    rw (same-below 4 (λ g. 4 ^ g) (λ g. 2 ^ (2 * g)) tt (k / 2) (omega arith), ← shr-shr e (2 * (k / 2)) 1) (omega arith)

-- a level is one of eight
pub level_lt : (m : Image) (cs : List Channel) (s : ℕ) → level m cs s < 8
unfolding level external_level
level_lt m cs s =
    cond_elim (λ x. x < 8) (external s)
    (λ t. omega (arith, digit_lt (2 * (s / 2) + 1) (at m EIPLR), digit_lt (2 * (s / 2)) (at m EIPLR)))
    (λ f. mod-lt (at m (idcr_byte (record_of cs s))) (zero-lt-suc 7))
