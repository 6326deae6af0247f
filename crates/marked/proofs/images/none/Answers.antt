-- Its first 0 records.
use Rattle.rules.specs.Channels.{list_of}
use Rattle.marked.proofs.images.none.Goals as goal

pub returns : goal.returns
unfolding list_of
returns c = rw c.records.ensures.1
