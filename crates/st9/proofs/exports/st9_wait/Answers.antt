-- What `machine::wait` promises of the copy, said of the bytes and told in numbers.
use Rattle.rules.specs.Outcomes.{state}
use Rattle.st9.proofs.PackedPromises.{packed_waits}
use Rattle.st9.proofs.exports.st9_wait.Goals as goal

pub returns : goal.returns
returns c =
    let d = c.wait in
    let u = c.unpacked-all in
    let a = c.args in (
      d.result,
      c.tell.ensures,
      packed_waits a.channels.now u.result u.ensures (state a.image.now a.memory.now) a.source a.words.now d.result (state d.new.image d.new.memory) d.ensures,
    )
