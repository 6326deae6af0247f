use mathlib.Core.Path.{refl, sym, ◌∙◌}
use Prim.Native.Nat.{◌+◌, ◌*◌, ◌<◌}
use native.Mathlib.Omega.{arith}
use Rattle.rules.specs.Sources.{sources}
use Rattle.rules.specs.Requests.{first}
use Rattle.rules.proofs.WinnerLaws.{won_somebody}
use Rattle.requests.specs.Ranks.{found_of_kind, found_at_level, scanned}
use Rattle.requests.proofs.FirstLaws.{first_more, first_hit, first_end}
use Rattle.requests.proofs.FrontLaws.{found_none, found_here, found_below, level-below, found-start}
use Rattle.requests.proofs.scan.Goals as goal

pub loop-level-init : goal.loop-level-init
loop-level-init c = level-below _ _ _ _ c.requires

pub loop-kind-init : goal.loop-kind-init
unfolding first
loop-kind-init c = refl

pub loop-kind-preserved-then-rank-front : goal.loop-kind-preserved-then-rank-front
loop-kind-preserved-then-rank-front c =
    let below : 2 * c.loop-level.level + c.loop-kind.kind < c.args.front.rank = omega (arith, c.if-rank-front.true) in
    first_more _ _ c.loop-kind.invariant (found_below _ _ _ _ c.requires _ _ below)

pub loop-position-init : goal.loop-position-init
loop-position-init c = (found-start _ _ _ _ c.requires c.loop-level.level c.loop-kind.kind _ c.start_of-position.ensures).1

pub rank_at-requires : goal.rank_at-requires
unfolding sources
rank_at-requires c = omega (arith, c.loop-position-test.true, c.count-positions.ensures.all)

pub loop-position-preserved : goal.loop-position-preserved
loop-position-preserved c = first_more _ _ c.loop-position.invariant (found_none _ _ _ _ (λ e. c.if-rank_at-rank.false (c.rank_at.ensures ∙ e)))

pub loop-kind-preserved : goal.loop-kind-preserved
unfolding found_of_kind sources
loop-kind-preserved c =
    let start = (found-start _ _ _ _ c.requires c.loop-level.level c.loop-kind.kind _ c.start_of-position.ensures).0 in
    let n = c.count-positions.ensures.all in
    first_more _ _ c.loop-kind.invariant
    (first_end _ _ _ (omega (arith, n, start, c.loop-position.auto.position-end)) (omega (arith, n, c.loop-position-test.false)) c.loop-position.invariant)

pub loop-level-preserved : goal.loop-level-preserved
unfolding found_at_level
loop-level-preserved c =
    first_more _ _ c.loop-level.invariant (first_end _ _ _ c.loop-kind.auto.kind-end c.loop-kind-test.false c.loop-kind.invariant)

pub returns-after-loop-level : goal.returns-after-loop-level
unfolding scanned
returns-after-loop-level c =
    sym (first_end _ _ _ (omega (arith, c.requires.top, c.loop-level.auto.level-end)) c.loop-level-test.false c.loop-level.invariant)

pub returns-then-rank_at-rank : goal.returns-then-rank_at-rank
unfolding scanned found_at_level found_of_kind sources
returns-then-rank_at-rank c =
    let s = won_somebody c.loop-level.level c.loop-kind.kind c.loop-position.position in
    c.won.ensures
    ∙ sym
    (first_hit _ 8 _ _ c.loop-level-test.true c.loop-level.invariant
    (first_hit _ 2 _ _ c.loop-kind-test.true c.loop-kind.invariant
    (first_hit _ _ _ _ (omega (arith, c.loop-position-test.true, c.count-positions.ensures.all)) c.loop-position.invariant (found_here _ _ _ _ (sym c.rank_at.ensures ∙ c.if-rank_at-rank.true)) s) s) s)
