use mathlib.Core.Path.{◌≡◌, sym, ◌∙◌}
use native.Mathlib.Omega.{arith}
use lib.ListN.{length}
use borrow.Author.Rules.{rules}
use Rattle.dispatch.proofs.NextSteps.{next_word, no_word}
use Rattle.runs.proofs.RunSteps.{run_starts, run_on, run_stop, run_end}
use Rattle.runs.proofs.run_accepted.Goals as goal

pub loop-index-init : goal.loop-index-init
loop-index-init c = (search rules, run_starts _ _ (search rules) c.args.laid.now.places.ok c.requires _)

pub loop-index-preserved : goal.loop-index-preserved
loop-index-preserved c = (
  search rules,
  c.loop-index.invariant.1
      ∙ run_on (next_word _ _ c.loop-index.invariant.0 c.args.laid.now.places.ok (omega arith) c.loop-index-test.true c.decode.ensures c.in-Ok.ensures) _ _,
)

pub returns-in-Err : goal.returns-in-Err
returns-in-Err c =
    sym (c.loop-index.invariant.1
    ∙ run_stop (next_word _ _ c.loop-index.invariant.0 c.args.laid.now.places.ok (omega arith) c.loop-index-test.true c.decode.ensures c.in-Err.ensures) _ _)

pub returns : goal.returns
returns c =
    let all : length c.args.words.now ≡ c.loop-index.index = omega arith in
    rw all (sym (c.loop-index.invariant.1 ∙ run_end _ _ (no_word _ _ c.loop-index-test.false) _ _))
