-- What `machine::run` promises of the copy it promises of the lent list.
use Rattle.rules.specs.Outcomes.{state}
use Rattle.st9.proofs.PromiseLaws.{lent_runs}
use Rattle.st9.proofs.run.Goals as goal

pub returns : goal.returns
returns c =
    lent_runs (state c.args.image.now c.args.memory.now) c.args.cs.now c.args.words.now c.run.result (state c.run.new.image c.run.new.memory)
    (rw c.copied-all.ensures at c.run.ensures)
