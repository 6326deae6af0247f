-- A shifted 1 is the mask of its bit.
use Rattle.std.proofs.Common.{ap, ℕ, ◌-◌, bit_and, bit_or}
use Rattle.bits.specs.Bits.{put_bit}
use Rattle.bits.proofs.BitLaws.{shl_byte}
use Rattle.bits.proofs.put_bit.Goals as goal

pub returns-then-v : goal.returns-then-v
unfolding put_bit
returns-then-v c = rw c.if-v.true (ap (bit_or c.args.b) (shl_byte c.args.k c.requires))

pub returns : goal.returns
unfolding put_bit
returns c = rw c.if-v.false (ap (λ (x : ℕ). bit_and c.args.b (255 - x)) (shl_byte c.args.k c.requires))
