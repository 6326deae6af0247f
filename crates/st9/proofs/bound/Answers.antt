-- What `machine::bound` promises of the copy it promises of the lent list.
use Rattle.st9.proofs.PromiseLaws.{lent_bounds}
use Rattle.st9.proofs.bound.Goals as goal

pub returns : goal.returns
returns c =
    lent_bounds c.args.image.now c.args.cs.now c.args.source c.args.words.now c.bound.result
    (rw c.copied-all.ensures at c.bound.ensures)
