use mathlib.Core.Path.{◌≡◌, ◌∙◌}
use mathlib.Core.List.{List}
use Prim.Native.Nat.{ℕ, ◌+◌}
use native.Mathlib.Omega.{arith}
use Rattle.rules.specs.declared.Channel.{Channel}
use Rattle.rules.specs.Image.{Image, at}
use Rattle.rules.specs.Channels.{record_at, idcr_byte}
use Rattle.rules.specs.Sources.{sources}
use Rattle.requests.specs.declared.Limits.{Limits}
use Rattle.requests.specs.Ranks.{record_request, rank_of, rank_at}
use Rattle.requests.proofs.RankLaws.{rank_of_record}
use Rattle.requests.proofs.FrontLaws.{front_keep, front_take}
use Rattle.requests.proofs.records_front.Goals as goal

-- the rank of record k, by the IDCR that the code reads
asks : (limits : Limits) (m : Image) (cs : List Channel) (k i r : ℕ) → i ≡ idcr_byte (record_at cs k)
    → r ≡ rank_of limits (record_request (at m i)) → r ≡ rank_at limits m cs (8 + k)
asks limits m cs k i r e d = rw e at d ∙ rank_of_record limits m cs k

pub loop-k-preserved-then-rank-eq-NO_RANK : goal.loop-k-preserved-then-rank-eq-NO_RANK
loop-k-preserved-then-rank-eq-NO_RANK c =
    let i = c.loop-k.invariant in
    let e = asks c.args.limits c.args.image.now c.args.places.now.all.now c.loop-k.k _ _ c.idcr.ensures.place
    c.record_rank-rank.ensures in
    front_keep _ _ _ _ i _ (omega arith) (omega (arith, i.top, e, c.if-rank-eq-NO_RANK.true))

pub loop-k-preserved-then-front-rank : goal.loop-k-preserved-then-front-rank
loop-k-preserved-then-front-rank c =
    let e = asks c.args.limits c.args.image.now c.args.places.now.all.now c.loop-k.k _ _ c.idcr.ensures.place
    c.record_rank-rank.ensures in
    front_keep _ _ _ _ c.loop-k.invariant _ (omega arith) (omega (arith, e, c.if-front-rank.true))

pub loop-k-preserved : goal.loop-k-preserved
loop-k-preserved c =
    let e = asks _ _ _ c.loop-k.k _ _ c.idcr.ensures.place c.record_rank-rank.ensures in
    front_take _ _ _ _ c.loop-k.invariant _ _ _ (omega arith) (omega arith) e c.if-front-rank.false

pub returns : goal.returns
unfolding sources
returns c =
    let e : c.loop-k.k ≡ c.count-k-end.result = omega (arith, c.loop-k.auto.k-end) in
    rw (e, c.count-k-end.ensures.all) at c.loop-k.invariant
