use Rattle.channels.proofs.LaidLaws.{none_ok, laid_none}
use Rattle.channels.proofs.accepted.Places.empty.Goals as goal

pub invariant_of-result : goal.invariant_of-result
invariant_of-result c = rw (c.no_records.ensures, c.no_places.ensures) record { ok = none_ok; laid = laid_none.1 }
