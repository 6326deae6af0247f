-- Each refusal is the definition's, in its order; past them the premises are looked at.
use mathlib.Core.Path.{◌≡◌, refl, sym, ◌∙◌}
use native.Mathlib.Omega.{arith}
use Rattle.std.specs.Prelude.{Some, None, Ok, Err}
use Rattle.std.proofs.lemmas.Option.{MatchOption-at_some, MatchOption-at_none}
use Rattle.std.proofs.lemmas.Result.{err_from_is_err_and, MatchResult-at_ok, MatchResult-at_err}
use Rattle.rules.specs.declared.Refusal.TheVariants as refusal
use Rattle.rules.specs.Outcomes.{accepted}
use Rattle.rules.proofs.Refusals.{lent_length, lent_list, lent-accepted}
use Rattle.rules.proofs.WaitLaws.{lent-first, wait-by_source}
use Rattle.machine.proofs.LentLaws.{handler_bounds_by}
use Rattle.machine.proofs.handler_bound.Goals as goal

pub returns-in_err-image : goal.returns-in_err-image
returns-in_err-image c =
    let p = err_from_is_err_and c.from_residual.result c.from_residual.ensures.1 in
    let none : c.as_array.result ≡ None = grind arith in
    let e : c.in_err-image.field-0.0 ≡ refusal.Length = grind arith in
    rw (p.1, p.2, e) (handler_bounds_by _ _ _ _ _ _ (lent-first _ _ _ _ (lent_length _ _ (MatchOption-at_none _ _ none c.as_array.ensures.cases))) refl)

pub returns-in_err-lay : goal.returns-in_err-lay
returns-in_err-lay c =
    let p = err_from_is_err_and c.from_residual-in_err-lay.result c.from_residual-in_err-lay.ensures.1 in
    let some : c.as_array.result ≡ Some c.in_ok-image.image = grind arith in
    let whole = MatchOption-at_some _ _ _ some c.as_array.ensures.cases in
    let v : c.lay.result ≡ Err c.in_err-lay.field-0.0 = grind arith in
    let bad = MatchResult-at_err _ _ _ v c.lay.ensures in
    rw (p.1, p.2, bad.0) (handler_bounds_by _ _ _ _ _ _ (lent-first _ _ _ _ (lent_list _ _ whole.long bad.1)) refl)

pub returns-in_err-source_verdict : goal.returns-in_err-source_verdict
returns-in_err-source_verdict c =
    let p = err_from_is_err_and c.from_residual-in_err-source_verdict.result c.from_residual-in_err-source_verdict.ensures.1 in
    let some : c.as_array.result ≡ Some c.in_ok-image.image = grind arith in
    let whole = MatchOption-at_some _ _ _ some c.as_array.ensures.cases in
    let laid : c.lay.result ≡ Ok tt = grind arith in
    let its = MatchResult-at_ok _ _ _ laid c.lay.ensures in
    let ok = rw its.1 at c.lay.new.self.places.ok in
    let lent = lent-accepted _ _ whole.long ok (omega arith) in
    let w : c.source_verdict.result ≡ Err c.in_err-source_verdict.field-0.0 = grind arith in
    rw (p.1, p.2) (handler_bounds_by _ _ _ _ _ _ (wait-by_source _ _ _ lent ∙ sym (rw its.1 at c.source_verdict.ensures) ∙ w) refl)

pub returns : goal.returns
returns c =
    let some : c.as_array.result ≡ Some c.in_ok-image.image = grind arith in
    let whole = MatchOption-at_some _ _ _ some c.as_array.ensures.cases in
    let laid : c.lay.result ≡ Ok tt = grind arith in
    let its = MatchResult-at_ok _ _ _ laid c.lay.ensures in
    let ok = rw its.1 at c.lay.new.self.places.ok in
    let lent = lent-accepted _ _ whole.long ok (omega arith) in
    let w : c.source_verdict.result ≡ accepted = grind arith in
    handler_bounds_by _ _ _ _ _ _ (wait-by_source _ _ _ lent ∙ sym (rw its.1 at c.source_verdict.ensures) ∙ w) (rw (whole.same, its.1) at c.handler_bound_accepted.ensures)
