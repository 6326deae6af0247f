-- Each step is compared with the example.
use mathlib.Core.Bool.{and-true}
use Rattle.rules.specs.Examples.{c03}
use Rattle.marked.proofs.c03.Goals as goal

pub returns : goal.returns
unfolding c03
returns c = rw (c.acknowledges.ensures, c.interrupts-n.ensures, c.interrupts-m.ensures) (simp and-true)
