-- What `machine::arbitrate` promises of the copy it promises of the lent list.
use Rattle.rules.specs.declared.Step.TheVariants as step
use Rattle.rules.specs.Outcomes.{state}
use Rattle.st9.proofs.PromiseLaws.{lent-does}
use Rattle.st9.proofs.arbitrate.Goals as goal

pub returns : goal.returns
returns c =
    lent-does (state c.args.image.now c.args.memory.now) c.args.cs.now step.Arbitrate c.arbitrate.result (state c.arbitrate.new.image c.arbitrate.new.memory)
    (rw c.copied-all.ensures at c.arbitrate.ensures)
