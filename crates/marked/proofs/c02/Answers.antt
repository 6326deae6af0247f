-- Each step is compared with the example.
use mathlib.Core.Bool.{and-true}
use Rattle.rules.specs.Examples.{c02}
use Rattle.marked.proofs.c02.Goals as goal

pub returns : goal.returns
unfolding c02
returns c =
    rw (
      c.triggers-2.ensures,
      c.triggers.ensures,
      c.none-all.ensures,
      c.with-n.ensures,
      c.interrupts-m.ensures,
    ) (simp and-true)
