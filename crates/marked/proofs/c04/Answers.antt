-- Each step is compared with the example.
use mathlib.Core.Bool.{and-true}
use Rattle.rules.specs.Examples.{c04}
use Rattle.marked.proofs.c04.Goals as goal

pub returns : goal.returns
unfolding c04
returns c =
    rw (
      c.acknowledges.ensures,
      c.returns.ensures,
      c.interrupts-last.ensures,
      c.interrupts-n.ensures,
      c.interrupts-m.ensures,
    ) (simp and-true)
