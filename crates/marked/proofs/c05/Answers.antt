-- Each step is compared with the example.
use mathlib.Core.Bool.{and-true}
use Rattle.rules.specs.Examples.{c05}
use Rattle.marked.proofs.c05.Goals as goal

pub returns : goal.returns
unfolding c05
returns c =
    rw (
      c.returns-unnested.ensures,
      c.interrupts.ensures,
      c.acknowledges-nested.ensures,
      c.interrupts-n.ensures,
      c.interrupts-m.ensures,
    ) (simp and-true)
