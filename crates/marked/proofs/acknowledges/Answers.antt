-- There is no record.
use Rattle.marked.proofs.acknowledges.Goals as goal

pub returns : goal.returns
returns c = rw (c.arbitrates.ensures, c.none.ensures)
