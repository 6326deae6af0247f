-- There is the one record.
use Rattle.marked.proofs.serves.Goals as goal

pub returns : goal.returns
returns c = rw (c.arbitrates.ensures, c.one.ensures)
