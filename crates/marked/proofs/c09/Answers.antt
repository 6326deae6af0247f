-- Each step is compared with the example.
use mathlib.Core.Bool.{and-true}
use Rattle.rules.specs.Image.{page_byte}
use Rattle.rules.specs.Channels.{idcr_byte}
use Rattle.rules.specs.Examples.{c09}
use Rattle.marked.proofs.c09.Goals as goal

pub returns : goal.returns
unfolding c09 idcr_byte page_byte
returns c =
    rw (
      c.serves.ensures,
      c.with_transfer-2.ensures,
      c.with-after.ensures,
      c.with_transfer.ensures,
      c.interrupts-m.ensures,
    ) (simp and-true)
