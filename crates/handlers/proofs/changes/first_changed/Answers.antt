-- The first that changed is the first that is found.
use mathlib.Core.Path.{◌≡◌, refl, sym, ap, ◌∙◌}
use mathlib.Core.Bool.{Bool, true, false, cond}
use mathlib.Core.List.{List, [], ◌∷◌}
use mathlib.Core.Option.{some}
use Prim.Native.Nat.{ℕ}
use Rattle.std.specs.Prelude.{Option, Some, None, Ok, Err}
use Rattle.std.specs.List.{find}
use Rattle.rules.specs.declared.Basis.{Basis}
use Rattle.rules.specs.declared.NoBound.TheVariants as no_bound
use Rattle.rules.specs.HandlerBounds.{bases, first_changed}
use Rattle.bounds.specs.Followed.{Premises}
use Rattle.handlers.specs.Handled.{broken}
use Rattle.handlers.proofs.changes.first_changed.Goals as goal

-- what is answered by what was found
abbrev told : ℕ → Option Basis → Premises
told i None = Ok tt
told i (Some b) = Err (no_bound.Changed b i)

first_told : (p : Basis → Bool) (i : ℕ) (xs : List Basis) → broken (first_changed p xs i) ≡ told i (find p xs)
unfolding first_changed
first_told p i [] = refl
first_told p i (x ∷ xs) = go (p x) (first_told p i xs)
  where
    go : (b : Bool) → broken (first_changed p xs i) ≡ told i (find p xs)
        → broken (cond b (some (no_bound.Changed x i)) (first_changed p xs i)) ≡ told i (cond b (Some x) (find p xs))
    go true e = refl
    go false e = e

pub returns-in-Some : goal.returns-in-Some
returns-in-Some c = ap (told c.args.index) c.in-Some.ensures ∙ sym (first_told _ _ bases)

pub returns-in-None : goal.returns-in-None
returns-in-None c = ap (told c.args.index) c.in-None.ensures ∙ sym (first_told _ _ bases)
