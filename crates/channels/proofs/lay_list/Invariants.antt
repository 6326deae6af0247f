-- The invariant: the list is within the rules exactly if what is left of it is, after the registers met so far; the masks hold these, no byte is twice
-- among them, and the records so far stand in the places.
use mathlib.Core.Path.{◌≡◌}
use Prim.Native.Nat.{◌≤◌}
use lib.ListN.{length}
use Rattle.rules.specs.Channels.{most_records}
use Rattle.channels.proofs.MetLaws.{Checked}
use Rattle.channels.proofs.FilledLaws.{Filled}
use Rattle.channels.proofs.lay_list.Given as goal

abbrev pub invariant-loop-k : goal.invariant-loop-k
invariant-loop-k l = record {
  short : l.all.count ≤ most_records;
  full : length l.all.items ≡ most_records;
  checked : Checked l.all l.k l.masks;
  filled : Filled l.all l.places l.k;
}
