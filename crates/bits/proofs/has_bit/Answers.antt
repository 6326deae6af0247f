-- A shift is a division.
use Rattle.std.proofs.Common.{rules}
use Rattle.bits.specs.Bits.{bit, digit}
use Rattle.bits.proofs.has_bit.Goals as goal

pub returns : goal.returns
unfolding bit digit
returns c = search rules
