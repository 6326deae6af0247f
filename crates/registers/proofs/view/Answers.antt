-- An accepted view has an image of the right length and a page of 0 to 63 (`view_only`), so the page's part lies in the image.
use mathlib.Core.Path.{sym, ◌∙◌}
use native.Mathlib.Omega.{arith}
use native.Mathlib.Nat.{add-zero, add-sub_cancel_left}
use Rattle.rules.specs.Image.{page_byte}
use Rattle.rules.specs.Registers.{view_of}
use Rattle.rules.proofs.ViewLaws.{view_only, view_empty}
use Rattle.registers.proofs.view.Goals as goal

pub slice_bounds-result-end : goal.slice_bounds-result-end
slice_bounds-result-end c =
    let fits = view_only _ _ (sym c.view_verdict.ensures ∙ c.in-Ok.is) in
    omega (arith, fits.0, fits.1)

pub returns-in-Ok : goal.returns-in-Ok
unfolding view_of page_byte
returns-in-Ok c = simp (sym c.view_verdict.ensures, c.in-Ok.is, add-zero, add-sub_cancel_left)

pub returns-in-Err : goal.returns-in-Err
returns-in-Err c = sym (view_empty _ _ _ (sym c.view_verdict.ensures ∙ c.in-Err.is))
