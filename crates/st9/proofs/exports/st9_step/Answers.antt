-- What `machine::perform` promises of the copy, said of the bytes and told in numbers.
use Rattle.rules.specs.Outcomes.{state}
use Rattle.st9.proofs.PackedPromises.{packed_does}
use Rattle.st9.proofs.exports.st9_step.Goals as goal

pub returns : goal.returns
returns c =
    let d = c.perform in
    let u = c.unpacked-all in
    let a = c.args in (
      d.result,
      c.tell.ensures,
      packed_does a.channels.now u.result u.ensures (state a.image.now a.memory.now) a.word d.result (state d.new.image d.new.memory) d.ensures,
    )
