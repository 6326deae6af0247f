-- Each refusal is the definition's, in its order; past them the step that the word stands for is done.
use mathlib.Core.Path.{◌≡◌, refl, sym, ◌∙◌}
use native.Mathlib.Omega.{arith}
use Rattle.std.specs.Prelude.{Some, None, Ok, Err}
use Rattle.std.proofs.lemmas.Option.{MatchOption-at_some, MatchOption-at_none}
use Rattle.std.proofs.lemmas.Result.{err_from_is_err_and, MatchResult-at_ok, MatchResult-at_err}
use Rattle.rules.specs.declared.Refusal.TheVariants as refusal
use Rattle.rules.specs.Outcomes.{accepted}
use Rattle.rules.proofs.Refusals.{lent_length, lent_list}
use Rattle.machine.proofs.LentLaws.{lent-by_memory, does-by}
use Rattle.machine.proofs.perform.Goals as goal

pub returns-in_err-image : goal.returns-in_err-image
returns-in_err-image c =
    let p = err_from_is_err_and c.from_residual.result c.from_residual.ensures.1 in
    let none : c.as_mut_array.result ≡ None = grind arith in
    let e : c.in_err-image.field-0.0 ≡ refusal.Length = grind arith in
    rw (p.1, p.2, e) (does-by _ _ _ _ _ _ (lent_length _ _ (MatchOption-at_none _ _ none c.as_mut_array.ensures.cases)) refl)

pub returns-in_err-lay : goal.returns-in_err-lay
returns-in_err-lay c =
    let p = err_from_is_err_and c.from_residual-in_err-lay.result c.from_residual-in_err-lay.ensures.1 in
    let some : c.as_mut_array.result ≡ Some c.in_ok-image.image = grind arith in
    let whole = MatchOption-at_some _ _ _ some c.as_mut_array.ensures.cases in
    let v : c.lay.result ≡ Err c.in_err-lay.field-0.0 = grind arith in
    let bad = MatchResult-at_err _ _ _ v c.lay.ensures in
    rw (p.1, p.2, bad.0, whole.same) (does-by _ _ _ _ _ _ (lent_list _ _ whole.long bad.1) refl)

pub returns-in_err-memory_verdict : goal.returns-in_err-memory_verdict
returns-in_err-memory_verdict c =
    let p = err_from_is_err_and c.from_residual-in_err-memory_verdict.result c.from_residual-in_err-memory_verdict.ensures.1 in
    let some : c.as_mut_array.result ≡ Some c.in_ok-image.image = grind arith in
    let whole = MatchOption-at_some _ _ _ some c.as_mut_array.ensures.cases in
    let laid : c.lay.result ≡ Ok tt = grind arith in
    let its = MatchResult-at_ok _ _ _ laid c.lay.ensures in
    let ok = rw its.1 at c.lay.new.self.places.ok in
    let v : c.memory_verdict.result ≡ Err c.in_err-memory_verdict.field-0.0 = grind arith in
    rw (p.1, p.2, whole.same) (does-by _ _ _ _ _ _ (lent-by_memory _ _ whole.long ok ∙ sym c.memory_verdict.ensures ∙ v) refl)

pub returns : goal.returns
returns c =
    let some : c.as_mut_array.result ≡ Some c.in_ok-image.image = grind arith in
    let whole = MatchOption-at_some _ _ _ some c.as_mut_array.ensures.cases in
    let laid : c.lay.result ≡ Ok tt = grind arith in
    let its = MatchResult-at_ok _ _ _ laid c.lay.ensures in
    let ok = rw its.1 at c.lay.new.self.places.ok in
    let v : c.memory_verdict.result ≡ accepted = grind arith in
    let lent = lent-by_memory _ _ whole.long ok ∙ sym c.memory_verdict.ensures ∙ v in
    does-by _ _ _ _ _ _ lent (rw (whole.same, its.1) at c.perform.ensures)
