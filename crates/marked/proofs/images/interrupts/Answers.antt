-- The bytes are stored in the definition's order.
use Rattle.rules.specs.Examples.{image}
use Rattle.marked.proofs.images.interrupts.Goals as goal

pub returns : goal.returns
unfolding image
returns c = rw c.zeros-m.ensures
