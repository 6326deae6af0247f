-- Each step is compared with the example.
use mathlib.Core.Bool.{and-true}
use Rattle.rules.specs.Examples.{c12}
use Rattle.marked.proofs.c12.Goals as goal

pub returns : goal.returns
unfolding c12
returns c = rw (c.writes.ensures, c.interrupts.ensures, c.interrupts-m.ensures) (simp and-true)
