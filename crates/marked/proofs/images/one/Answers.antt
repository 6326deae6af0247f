-- Its first record.
use Rattle.rules.specs.Channels.{list_of}
use Rattle.marked.proofs.images.one.Goals as goal

pub returns : goal.returns
unfolding list_of
returns c = rw (c.records.ensures.0, c.records.ensures.1)
