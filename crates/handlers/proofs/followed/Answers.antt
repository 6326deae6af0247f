use mathlib.Core.Bool.{false}
use mathlib.Core.Path.{◌≡◌, refl, sym, ◌∙◌}
use Prim.Native.Nat.{◌≤◌}
use native.Mathlib.Omega.{arith}
use Rattle.std.specs.Prelude.{Ok, Err}
use Rattle.std.proofs.lemmas.Result.{err_from_is_err_and}
use Rattle.rules.specs.Outcomes.{acknowledges}
use Rattle.dispatch.proofs.NextSteps.{next_alone, no_word}
use Rattle.handlers.proofs.FollowLaws.{follows_few, broken_some, broken-none, followed-start, followed_end, followed-broken, followed-last, followed_on}
use Rattle.handlers.proofs.followed.Goals as goal

pub returns-in_err-seen : goal.returns-in_err-seen
returns-in_err-seen c =
    let i = c.loop-index.invariant in
    let p = err_from_is_err_and c.from_residual.result c.from_residual.ensures.1 in
    let failed : c.follow-seen.result.broken ≡ Err c.in_err-seen.field-0.0 = grind arith in
    rw (p.1, p.2) (sym (followed-start _ _ _ _
    ∙ i.3
    ∙ followed-broken _ _ _ _ _
    (next_alone _ _ i.2 c.args.laid.now.places.ok c.loop-index-test.true refl c.follow-seen.ensures.did) _ _
    (broken_some _ _ (sym c.follow-seen.ensures.breaks ∙ failed))))

pub returns-then-acknowledged : goal.returns-then-acknowledged
returns-then-acknowledged c =
    let i = c.loop-index.invariant in
    sym (followed-start _ _ _ _
    ∙ i.3
    ∙ followed-last _ _ _ _ _
    (next_alone _ _ i.2 c.args.laid.now.places.ok c.loop-index-test.true refl c.follow-seen.ensures.did) _
    (broken-none _ (sym c.follow-seen.ensures.breaks ∙ (let held : c.follow-seen.result.broken ≡ Ok tt = grind arith in held))) (sym c.acknowledged.ensures ∙ c.if-acknowledged.true)
    ∙ rw (c.within.ensures, c.follow-seen.ensures.counts))

pub loop-index-preserved : goal.loop-index-preserved
loop-index-preserved c =
    let few : c.follow-seen.result.more ≤ 12 = follows_few _ _ _ _ _ _ _ _ c.args.laid.now.places.ok c.follow-seen.ensures in
    let kept : acknowledges c.args.source c.follow-seen.result.answer ≡ false = sym c.acknowledged.ensures ∙ c.if-acknowledged.false in
    let i = c.loop-index.invariant in (
      omega arith,
      omega (arith, few),
      omega arith,
      rw c.follow-seen.ensures.counts (i.3
          ∙ followed_on _ _ _ _ _
          (next_alone _ _ i.2 c.args.laid.now.places.ok c.loop-index-test.true refl c.follow-seen.ensures.did) _
          (broken-none _ (sym c.follow-seen.ensures.breaks ∙ (let held : c.follow-seen.result.broken ≡ Ok tt = grind arith in held))) kept),
    )

pub returns : goal.returns
returns c = sym (followed-start _ _ _ _ ∙ c.loop-index.invariant.3 ∙ followed_end _ _ _ _ _ _ _ (no_word _ _ c.loop-index-test.false) ∙ sym c.within-2.ensures)
