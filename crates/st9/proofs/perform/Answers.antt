-- What `machine::perform` promises of the copy it promises of the lent list.
use Rattle.rules.specs.Outcomes.{state}
use Rattle.rules.specs.Encodings.{decode_of}
use Rattle.st9.proofs.PromiseLaws.{lent-does}
use Rattle.st9.proofs.perform.Goals as goal

pub returns : goal.returns
returns c =
    lent-does (state c.args.image.now c.args.memory.now) c.args.cs.now (decode_of c.args.word) c.perform.result (state c.perform.new.image c.perform.new.memory)
    (rw c.copied-all.ensures at c.perform.ensures)
