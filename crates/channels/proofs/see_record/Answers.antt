-- The five registers are seen in order, each of them in range.
use mathlib.Core.Bool.{Bool, ◌&&◌, and-true, and_assoc}
use mathlib.Core.List.{List}
use Prim.Native.Nat.{ℕ}
use Rattle.rules.specs.declared.Channel.{Channel}
use Rattle.channels.specs.Seen.{registers_of, Sees, SeesAll, unseen, seeing}
use Rattle.channels.proofs.see_record.Goals as goal

module _ (row : ℕ) (c : Channel) (m m1 m2 m3 m4 m5 : List ℕ) (idcr ivr dcpr dapr io : Bool) where
  five : Sees m row c.idcr 0x3f idcr m1 → Sees m1 row c.ivr 0xff ivr m2 → Sees m2 row c.dcpr 0xff dcpr m3 → Sees m3 row c.dapr 0xff dapr m4
      → Sees m4 row c.io 0xff io m5 → SeesAll m row (registers_of c) (idcr && ivr && dcpr && dapr && io) m5
  unfolding unseen seeing
  five p1 p2 p3 p4 p5 =
      (simp (p1.0, p2.0, p3.0, p4.0, p5.0, p1.1, p2.1, p3.1, p4.1, and-true, and_assoc), simp (p5.1, p4.1, p3.1, p2.1, p1.1))

pub returns : goal.returns
returns c =
    five _ c.args.c _ _ _ _ _ _ _ _ _ _ _ c.see-idcr.ensures c.see-ivr.ensures c.see-dcpr.ensures
    c.see-dapr.ensures c.see-io.ensures
