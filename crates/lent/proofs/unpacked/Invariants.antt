-- The first i records are put.
use Rattle.std.proofs.Common.{◌≡◌}
use Rattle.rules.specs.Encodings.{list_in}
use Rattle.lent.specs.Copies.{items_up_to}
use Rattle.lent.proofs.unpacked.Given as goal

abbrev pub invariant-loop-i : goal.invariant-loop-i
invariant-loop-i l = l.items ≡ items_up_to (list_in l.bytes) l.i
