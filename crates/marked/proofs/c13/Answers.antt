-- Each step is compared with the example.
use mathlib.Core.Bool.{and-true}
use Rattle.rules.specs.Examples.{c13}
use Rattle.marked.proofs.c13.Goals as goal

pub returns : goal.returns
unfolding c13
returns c = rw (c.writes.ensures, c.interrupts-m.ensures) (simp and-true)
