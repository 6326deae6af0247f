-- Each refusal is the definition's, in its order; past them the steps are done.
use mathlib.Core.Path.{◌≡◌, sym, ◌∙◌}
use native.Mathlib.Omega.{arith}
use Rattle.std.specs.Prelude.{Some, None, Ok, Err}
use Rattle.std.proofs.lemmas.Option.{MatchOption-at_some, MatchOption-at_none}
use Rattle.std.proofs.lemmas.Result.{err_from_is_err_and, MatchResult-at_ok, MatchResult-at_err}
use Rattle.rules.specs.declared.Refusal.TheVariants as refusal
use Rattle.rules.specs.Outcomes.{accepted}
use Rattle.rules.specs.Encodings.{told_wait}
use Rattle.rules.proofs.Refusals.{lent_length, lent_list}
use Rattle.rules.proofs.WaitLaws.{lent-first, wait-by_source}
use Rattle.runs.proofs.RunSteps.{promised}
use Rattle.machine.proofs.LentLaws.{lent-by_memory, wait-refuses}
use Rattle.machine.proofs.wait.Goals as goal

pub returns-in_err-image : goal.returns-in_err-image
returns-in_err-image c =
    let p = err_from_is_err_and c.from_residual.result c.from_residual.ensures.1 in
    let none : c.as_mut_array.result ≡ None = grind arith in
    let e : c.in_err-image.field-0.0 ≡ refusal.Length = grind arith in
    rw (p.1, p.2, e) (wait-refuses _ _ _ _ _ (lent-first _ _ _ _ (lent_length _ _ (MatchOption-at_none _ _ none c.as_mut_array.ensures.cases))))

pub returns-in_err-lay : goal.returns-in_err-lay
returns-in_err-lay c =
    let p = err_from_is_err_and c.from_residual-in_err-lay.result c.from_residual-in_err-lay.ensures.1 in
    let some : c.as_mut_array.result ≡ Some c.in_ok-image.image = grind arith in
    let whole = MatchOption-at_some _ _ _ some c.as_mut_array.ensures.cases in
    let v : c.lay.result ≡ Err c.in_err-lay.field-0.0 = grind arith in
    let bad = MatchResult-at_err _ _ _ v c.lay.ensures in
    rw (p.1, p.2, bad.0, whole.same) (wait-refuses _ _ _ _ _ (lent-first _ _ _ _ (lent_list _ _ whole.long bad.1)))

pub returns-in_err-memory_verdict : goal.returns-in_err-memory_verdict
returns-in_err-memory_verdict c =
    let p = err_from_is_err_and c.from_residual-in_err-memory_verdict.result c.from_residual-in_err-memory_verdict.ensures.1 in
    let some : c.as_mut_array.result ≡ Some c.in_ok-image.image = grind arith in
    let whole = MatchOption-at_some _ _ _ some c.as_mut_array.ensures.cases in
    let laid : c.lay.result ≡ Ok tt = grind arith in
    let its = MatchResult-at_ok _ _ _ laid c.lay.ensures in
    let ok = rw its.1 at c.lay.new.self.places.ok in
    let v : c.memory_verdict.result ≡ Err c.in_err-memory_verdict.field-0.0 = grind arith in
    rw (p.1, p.2, whole.same) (wait-refuses _ _ _ _ _ (lent-first _ _ _ _ (lent-by_memory _ _ whole.long ok ∙ sym c.memory_verdict.ensures ∙ v)))

pub returns-in_err-source_verdict : goal.returns-in_err-source_verdict
returns-in_err-source_verdict c =
    let p = err_from_is_err_and c.from_residual-in_err-source_verdict.result c.from_residual-in_err-source_verdict.ensures.1 in
    let some : c.as_mut_array.result ≡ Some c.in_ok-image.image = grind arith in
    let whole = MatchOption-at_some _ _ _ some c.as_mut_array.ensures.cases in
    let laid : c.lay.result ≡ Ok tt = grind arith in
    let its = MatchResult-at_ok _ _ _ laid c.lay.ensures in
    let ok = rw its.1 at c.lay.new.self.places.ok in
    let v : c.memory_verdict.result ≡ accepted = grind arith in
    let lent = lent-by_memory _ _ whole.long ok ∙ sym c.memory_verdict.ensures ∙ v in
    let w : c.source_verdict.result ≡ Err c.in_err-source_verdict.field-0.0 = grind arith in
    rw (p.1, p.2, whole.same) (wait-refuses _ _ _ _ _ (wait-by_source _ _ _ lent ∙ sym (rw its.1 at c.source_verdict.ensures) ∙ w))

pub returns : goal.returns
returns c =
    let some : c.as_mut_array.result ≡ Some c.in_ok-image.image = grind arith in
    let whole = MatchOption-at_some _ _ _ some c.as_mut_array.ensures.cases in
    let laid : c.lay.result ≡ Ok tt = grind arith in
    let its = MatchResult-at_ok _ _ _ laid c.lay.ensures in
    let ok = rw its.1 at c.lay.new.self.places.ok in
    promised told_wait (rw (whole.same, its.1) at c.wait_accepted.ensures)
