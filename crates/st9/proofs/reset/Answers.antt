-- What `machine::reset` promises of the copy it promises of the lent list.
use Rattle.rules.specs.declared.Step.TheVariants as step
use Rattle.rules.specs.Outcomes.{alone}
use Rattle.st9.proofs.PromiseLaws.{lent-does}
use Rattle.st9.proofs.reset.Goals as goal

pub returns : goal.returns
returns c =
    lent-does (alone c.args.image.now) c.args.cs.now step.Reset c.reset.result (alone c.reset.new.image)
    (rw c.copied-all.ensures at c.reset.ensures)
