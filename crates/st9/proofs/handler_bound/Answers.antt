-- What `machine::handler_bound` promises of the copy it promises of the lent list.
use Rattle.st9.proofs.PromiseLaws.{lent_handler_bounds}
use Rattle.st9.proofs.handler_bound.Goals as goal

pub returns : goal.returns
returns c =
    lent_handler_bounds c.args.image.now c.args.cs.now c.args.source c.args.words.now c.handler_bound.result
    (rw c.copied-all.ensures at c.handler_bound.ensures)
