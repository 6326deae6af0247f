-- What `machine::bound` promises of the copy, said of the bytes and told in numbers.
use Rattle.st9.proofs.PackedPromises.{packed_bounds}
use Rattle.st9.proofs.exports.st9_bound.Goals as goal

pub returns : goal.returns
returns c =
    let u = c.unpacked-all in
    let a = c.args in (
      c.bound.result,
      c.tell.ensures,
      packed_bounds a.channels.now u.result u.ensures a.image.now a.source a.words.now c.bound.result c.bound.ensures,
    )
