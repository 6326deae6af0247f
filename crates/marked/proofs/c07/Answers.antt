-- Each step is compared with the example.
use mathlib.Core.Bool.{and-true}
use Rattle.rules.specs.Examples.{c07}
use Rattle.marked.proofs.c07.Goals as goal

pub returns : goal.returns
unfolding c07
returns c =
    rw (
      c.acknowledges.ensures,
      c.arbitrates.ensures,
      c.none.ensures,
      c.interrupts-last.ensures,
      c.interrupts-n.ensures,
      c.interrupts-m.ensures,
    ) (simp and-true)
