-- The code tests each rule but "at most 255", which every byte keeps, the five registers by their common bits.
use mathlib.Core.Bool.{and-true, and_assoc}
use native.Mathlib.Omega.{arith}
use borrow.Author.Tests.{le-leb}
use Rattle.channels.proofs.HighLaws.{high_five}
use Rattle.channels.proofs.record_ok.Goals as goal

pub returns : goal.returns
returns c =
    let r = c.args.c in
    simp (
      high_five r.idcr r.ivr r.dcpr r.dapr r.io (omega arith) (omega arith) (omega arith) (omega arith) (omega arith),
      le-leb r.idcr 255 (omega arith),
      le-leb r.ivr 255 (omega arith),
      le-leb r.dcpr 255 (omega arith),
      le-leb r.dapr 255 (omega arith),
      le-leb r.io 255 (omega arith),
      and-true,
      and_assoc,
    )
