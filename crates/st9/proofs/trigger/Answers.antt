-- What `machine::trigger` promises of the copy it promises of the lent list.
use Rattle.rules.specs.declared.Step.TheVariants as step
use Rattle.rules.specs.Outcomes.{alone}
use Rattle.st9.proofs.PromiseLaws.{lent-does}
use Rattle.st9.proofs.trigger.Goals as goal

pub returns : goal.returns
returns c =
    lent-does (alone c.args.image.now) c.args.cs.now (step.Trigger c.args.event) c.trigger.result (alone c.trigger.new.image)
    (rw c.copied-all.ensures at c.trigger.ensures)
