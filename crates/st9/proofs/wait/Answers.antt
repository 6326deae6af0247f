-- What `machine::wait` promises of the copy it promises of the lent list.
use Rattle.rules.specs.Outcomes.{state}
use Rattle.st9.proofs.PromiseLaws.{lent-waits}
use Rattle.st9.proofs.wait.Goals as goal

pub returns : goal.returns
returns c =
    lent-waits (state c.args.image.now c.args.memory.now) c.args.cs.now c.args.source c.args.words.now c.wait.result (state c.wait.new.image c.wait.new.memory)
    (rw c.copied-all.ensures at c.wait.ensures)
