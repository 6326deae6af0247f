-- Each step is compared with the example.
use mathlib.Core.Bool.{and-true, and_assoc}
use Rattle.rules.specs.Image.{page_byte}
use Rattle.rules.specs.Channels.{idcr_byte}
use Rattle.rules.specs.Examples.{c10}
use Rattle.marked.proofs.c10.Goals as goal

pub returns : goal.returns
unfolding c10 idcr_byte page_byte
returns c =
    rw (
      and_assoc,
      c.arbitrates.ensures,
      c.triggers.ensures,
      c.serves.ensures,
      c.with_transfer-3.ensures,
      c.one-all.ensures,
      c.with-requested.ensures,
      c.with_transfer-2.ensures,
      c.with-after.ensures,
      c.with_transfer.ensures,
      c.interrupts-m.ensures,
    ) (simp and-true)
