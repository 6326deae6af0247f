-- Each step is compared with the example.
use mathlib.Core.Bool.{and-true}
use Rattle.rules.specs.Examples.{c01}
use Rattle.marked.proofs.c01.Goals as goal

pub returns : goal.returns
unfolding c01
returns c =
    rw (
      c.resets.ensures,
      c.with-3.ensures,
      c.with-2.ensures,
      c.with-n.ensures,
      c.with.ensures,
      c.zeros-m.ensures,
    ) (simp and-true)
