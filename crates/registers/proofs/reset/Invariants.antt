-- The invariant: the rows before k are reset.
use Rattle.std.proofs.Common.{◌≡◌}
use Rattle.rules.specs.Registers.{reset_rows}
use Rattle.registers.proofs.reset.Given as goal

abbrev pub invariant-loop-k : goal.invariant-loop-k
invariant-loop-k l = l.image ≡ reset_rows l.k l.initial.image
