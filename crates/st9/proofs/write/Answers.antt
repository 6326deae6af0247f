-- What `machine::write` promises of the copy it promises of the lent list.
use Rattle.rules.specs.declared.Step.TheVariants as step
use Rattle.rules.specs.Outcomes.{alone}
use Rattle.st9.proofs.PromiseLaws.{lent-does}
use Rattle.st9.proofs.write.Goals as goal

pub returns : goal.returns
returns c =
    lent-does (alone c.args.image.now) c.args.cs.now (step.Write c.args.register c.args.value) c.write.result (alone c.write.new.image)
    (rw c.copied-all.ensures at c.write.ensures)
