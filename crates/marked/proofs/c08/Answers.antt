-- Each step is compared with the example.
use mathlib.Core.Bool.{and-true, and_assoc}
use Rattle.rules.specs.Examples.{c08}
use Rattle.marked.proofs.c08.Goals as goal

pub returns : goal.returns
unfolding c08
returns c =
    rw (
      and_assoc,
      c.returns.ensures,
      c.arbitrates-2.ensures,
      c.arbitrates.ensures,
      c.none-all.ensures,
      c.with-in_service.ensures,
      c.interrupts-n.ensures,
      c.interrupts-m.ensures,
    ) (simp and-true)
