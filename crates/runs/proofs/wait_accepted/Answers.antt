use mathlib.Core.Path.{refl, sym, ◌∙◌}
use native.Mathlib.Omega.{arith}
use borrow.Author.Rules.{rules}
use Rattle.rules.specs.Runs.{is_arbitration}
use Rattle.rules.proofs.Counting.{one_le}
use Rattle.dispatch.proofs.NextSteps.{next_word, no_word}
use Rattle.runs.proofs.RunSteps.{wait-starts, wait_on, wait-acknowledges, wait_stop, wait_end}
use Rattle.runs.proofs.wait_accepted.Goals as goal

pub loop-done-init : goal.loop-done-init
loop-done-init c = (search rules, omega arith, wait-starts _ _ (search rules) c.args.laid.now.places.ok c.requires.0 _ _ c.requires.1)

pub returns-then-acknowledged : goal.returns-then-acknowledged
returns-then-acknowledged c =
    rw (c.arbitrations-arbitrations.ensures, c.decode.ensures) (sym (c.loop-done.invariant.2
    ∙ wait-acknowledges (next_word _ _ c.loop-done.invariant.0 c.args.laid.now.places.ok (omega arith) c.loop-done-test.true refl c.in-Ok.ensures)
    _ _ _
    (sym c.acknowledged.ensures ∙ c.if-acknowledged.true)))

pub loop-done-preserved : goal.loop-done-preserved
loop-done-preserved c =
    let k = c.arbitrations-arbitrations.ensures in
    let x = c.decode in (
      search rules,
      omega (arith, k, one_le (is_arbitration x.result)),
      rw (k, x.ensures) (c.loop-done.invariant.2
          ∙ wait_on (next_word _ _ c.loop-done.invariant.0 c.args.laid.now.places.ok (omega arith) c.loop-done-test.true refl c.in-Ok.ensures)
          _ _ _
          (sym c.acknowledged.ensures ∙ c.if-acknowledged.false)),
    )

pub returns-in-Err : goal.returns-in-Err
returns-in-Err c =
    sym (c.loop-done.invariant.2
    ∙ wait_stop (next_word _ _ c.loop-done.invariant.0 c.args.laid.now.places.ok (omega arith) c.loop-done-test.true refl c.in-Err.ensures) _ _ _)

pub returns : goal.returns
returns c = sym (c.loop-done.invariant.2 ∙ wait_end _ _ (no_word _ _ c.loop-done-test.false) _ _ _)
