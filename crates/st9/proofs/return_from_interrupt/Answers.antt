-- What `machine::return_from_interrupt` promises of the copy it promises of the lent list.
use Rattle.rules.specs.declared.Step.TheVariants as step
use Rattle.rules.specs.Outcomes.{alone}
use Rattle.st9.proofs.PromiseLaws.{lent-does}
use Rattle.st9.proofs.return_from_interrupt.Goals as goal

pub returns : goal.returns
returns c =
    lent-does (alone c.args.image.now) c.args.cs.now step.Return c.return_from_interrupt.result (alone c.return_from_interrupt.new.image)
    (rw c.copied-all.ensures at c.return_from_interrupt.ensures)
