-- Each refusal is the definition's, in its order; past them the register is read.
use mathlib.Core.Path.{◌≡◌, refl, ap}
use native.Mathlib.Omega.{arith}
use Rattle.std.specs.Prelude.{Some, None, Ok, Err}
use Rattle.std.proofs.lemmas.Option.{MatchOption-at_some, MatchOption-at_none}
use Rattle.std.proofs.lemmas.Result.{err_from_is_err_and, MatchResult-at_ok, MatchResult-at_err}
use Rattle.rules.specs.declared.Refusal.TheVariants as refusal
use Rattle.rules.specs.Outcomes.{Answered, alone, outcome}
use Rattle.rules.specs.Steps.{act_of}
use Rattle.rules.proofs.Refusals.{lent_length, lent_list, lent-accepted}
use Rattle.machine.proofs.LentLaws.{does-by}
use Rattle.machine.proofs.read.Goals as goal

pub returns-in_err-image : goal.returns-in_err-image
returns-in_err-image c =
    let p = err_from_is_err_and c.from_residual.result c.from_residual.ensures.1 in
    let none : c.as_array.result ≡ None = grind arith in
    let e : c.in_err-image.field-0.0 ≡ refusal.Length = grind arith in
    rw (p.1, p.2, e) ((does-by _ _ _ _ _ _ (lent_length _ _ (MatchOption-at_none _ _ none c.as_array.ensures.cases)) refl).0)

pub returns-in_err-lay : goal.returns-in_err-lay
returns-in_err-lay c =
    let p = err_from_is_err_and c.from_residual-in_err-lay.result c.from_residual-in_err-lay.ensures.1 in
    let some : c.as_array.result ≡ Some c.in_ok-image.image = grind arith in
    let whole = MatchOption-at_some _ _ _ some c.as_array.ensures.cases in
    let v : c.lay.result ≡ Err c.in_err-lay.field-0.0 = grind arith in
    let bad = MatchResult-at_err _ _ _ v c.lay.ensures in
    rw (p.1, p.2, bad.0) ((does-by _ _ _ _ _ _ (lent_list _ _ whole.long bad.1) refl).0)

pub returns : goal.returns
unfolding act_of
returns c =
    let some : c.as_array.result ≡ Some c.in_ok-image.image = grind arith in
    let whole = MatchOption-at_some _ _ _ some c.as_array.ensures.cases in
    let laid : c.lay.result ≡ Ok tt = grind arith in
    let its = MatchResult-at_ok _ _ _ laid c.lay.ensures in
    let ok = rw its.1 at c.lay.new.self.places.ok in
    let lent = lent-accepted _ _ whole.long ok (omega arith) in
    (does-by _ _ _ _ _ _ lent (ap (λ (a : Answered). outcome a (alone c.args.image.now)) (rw (whole.same, its.0) at c.read.ensures))).0
