use mathlib.Core.Path.{◌≡◌, sym, ap, ◌∙◌}
use Prim.Native.Nat.{ℕ}
use native.Mathlib.Omega.{arith}
use Rattle.rules.specs.Sources.{external_level}
use Rattle.rules.proofs.LevelLaws.{external-level}
use Rattle.requests.specs.Ranks.{Lowest, interrupt_rank, external_rank}
use Rattle.requests.proofs.RankLaws.{external_ranked}
use Rattle.requests.proofs.FrontLaws.{Left, front_limit, left-all, left-none, left_keep, left-take, left_less}
use Rattle.requests.proofs.externals_front.Goals as goal

-- the rank of the lowest channel that is left
asks : (limit eiplr requesting least position left k l r : ℕ) → Left limit eiplr requesting least position left → Lowest left k → l ≡ external_level eiplr k
    → r ≡ interrupt_rank limit l → r ≡ external_rank limit eiplr requesting k
asks limit eiplr requesting least position left k l r a low e d =
    d ∙ ap (interrupt_rank limit) e ∙ sym (external_ranked limit eiplr requesting k (a.coming k low.byte low.one).1)

pub returns-then-limit-eq0 : goal.returns-then-limit-eq0
returns-then-limit-eq0 c = front_limit _ _ _ c.if-limit-eq0.true

pub loop-left-init : goal.loop-left-init
loop-left-init c = left-all _ _ _

pub interrupt_rank-rank-requires : goal.interrupt_rank-rank-requires
interrupt_rank-rank-requires c =
    let k = c.lowest-k in
    omega (arith, c.external_level.ensures, external-level c.args.eiplr k.result k.ensures.byte)

pub loop-left-preserved-then-front-rank : goal.loop-left-preserved-then-front-rank
loop-left-preserved-then-front-rank c =
    let i = c.loop-left.invariant in
    let low = c.lowest-k.ensures in
    let e = asks _ _ _ _ _ _ _ _ _ i low c.external_level.ensures c.interrupt_rank-rank.ensures in
    rw c.put_bit-left.ensures (left_keep _ _ _ _ _ _ _ i low (omega (arith, e, c.if-front-rank.true)))

pub loop-left-preserved : goal.loop-left-preserved
loop-left-preserved c =
    let i = c.loop-left.invariant in
    let low = c.lowest-k.ensures in
    let e = asks _ _ _ _ _ _ _ _ _ i low c.external_level.ensures c.interrupt_rank-rank.ensures in
    rw c.put_bit-left.ensures (left-take _ _ _ _ _ _ _ i low _ e (omega (arith, c.if-front-rank.false)))

pub returns : goal.returns
returns c =
    let e : c.loop-left.left ≡ 0 = omega (arith, c.loop-left-test.false) in
    left-none _ _ _ _ _ (rw e at c.loop-left.invariant)

pub loop-left-smaller-then-front-rank : goal.loop-left-smaller-then-front-rank
loop-left-smaller-then-front-rank c = rw c.put_bit-left.ensures (left_less _ _ c.lowest-k.ensures)

pub loop-left-smaller : goal.loop-left-smaller
loop-left-smaller c = rw c.put_bit-left.ensures (left_less _ _ c.lowest-k.ensures)
