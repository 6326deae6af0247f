-- What `machine::handler_bound` promises of the copy, said of the bytes and told in numbers.
use Rattle.st9.proofs.PackedPromises.{packed_handler_bounds}
use Rattle.st9.proofs.exports.st9_handler_bound.Goals as goal

pub returns : goal.returns
returns c =
    let u = c.unpacked-all in
    let a = c.args in (
      c.handler_bound.result,
      c.tell.ensures,
      packed_handler_bounds a.channels.now u.result u.ensures a.image.now a.source a.words.now c.handler_bound.result c.handler_bound.ensures,
    )
