use mathlib.Core.Path.{◌≡◌, sym, ap, ◌∙◌}
use Prim.Native.Nat.{◌≤◌}
use lib.ListN.{length}
use Rattle.std.specs.Prelude.{None}
use native.Mathlib.Omega.{arith}
use Rattle.rules.specs.Runs.{one_if}
use Rattle.rules.specs.Demand3.{rival}
use Rattle.rules.proofs.Counting.{byte_one, one_le}
use Rattle.dispatch.proofs.NextSteps.{next_alone, no_word}
use Rattle.runs.proofs.RunSteps.{as_decoded}
use Rattle.bounds.proofs.FollowedSteps.{triggers-told, followed-start, followed_end, followed-other, followed_on}
use Rattle.bounds.proofs.followed.Goals as goal

pub returns-then-other_step : goal.returns-then-other_step
returns-then-other_step c =
    let i = c.loop-index.invariant in
    let x = c.decode-step.ensures in
    sym (followed-start _ _ _ _
    ∙ i.3
    ∙ followed-other _ _ _ _
    (next_alone _ _ i.2 c.args.laid.now.places.ok c.loop-index-test.true x (as_decoded _ _ x c.perform_alone-a.ensures))
    _ (sym c.other_step.ensures ∙ c.if-other_step.true))

pub loop-index-preserved : goal.loop-index-preserved
loop-index-preserved c =
    let i = c.loop-index.invariant in
    let t = c.loop-index-test.true in
    let x = c.decode-step.ensures in
    let did = as_decoded _ _ x c.perform_alone-a.ensures in
    let e = c.from-triggers.ensures ∙ byte_one c.is_rival_trigger.result ∙ ap one_if (c.is_rival_trigger.ensures ∙ sym (triggers-told _ _ c.args.laid.now.places.ok (rival _ _ _) _ _ _ did)) in (
      omega (arith, t),
      omega (arith, c.from-triggers.ensures, byte_one c.is_rival_trigger.result, one_le c.is_rival_trigger.result),
      omega arith,
      rw (c.first_disabled-disabled.ensures, c.has_bit-enabled.ensures, e) (i.3
          ∙ followed_on _ _ _ _
          (next_alone _ _ i.2 c.args.laid.now.places.ok t x did)
          _ (sym c.other_step.ensures ∙ c.if-other_step.false)),
    )

pub returns-in-Some : goal.returns-in-Some
returns-in-Some c =
    let i = c.loop-index.invariant in
    let left : length c.args.words.now ≤ c.loop-index.index = omega (arith, i.0, c.loop-index-test.false) in
    sym (followed-start _ _ _ _ ∙ i.3 ∙ followed_end _ _ _ _ _ _ _ (no_word _ _ left) ∙ rw c.in-Some.is)

pub returns : goal.returns
returns c =
    let i = c.loop-index.invariant in
    let left : length c.args.words.now ≤ c.loop-index.index = omega (arith, i.0, c.loop-index-test.false) in
    let none : c.loop-index.disabled ≡ None = grind arith in
    sym (followed-start _ _ _ _ ∙ i.3 ∙ followed_end _ _ _ _ _ _ _ (no_word _ _ left) ∙ rw (none, c.within.ensures))
