-- The numbers of a range that pass a test, against those below its end. Assumes nothing.
use mathlib.Core.Path.{◌≡◌, refl, sym, ap, ◌∙◌}
use mathlib.Core.Bool.{Bool, true, false, ◌||◌, cond}
use mathlib.Core.List.{List, ◌∷◌}
use Prim.Native.Nat.{ℕ, zero, suc, ◌+◌}
use native.Mathlib.Nat.{add-zero, zero-add}
use native.Mathlib.Omega.{arith}
use native.Mathlib.Numerals.{add-one}
use lib.ListN.{length}
use Rattle.std.specs.List.{filter, list_any, range_with_len}
use Rattle.rules.specs.Runs.{one_if}
use Rattle.rules.specs.Demand3.{count_below}
use Rattle.rules.specs.Bounds.{any_below}

module _ (test : ℕ → Bool) where
  -- some number from a on passes, or one below a
  any_from : (n a : ℕ) → any_below (a + n) test ≡ (any_below a test || list_any test (range_with_len a n))
  unfolding any_below
  any_from zero a = rw add-zero (sym (or-false (any_below a test)))
    where
      or-false : (b : Bool) → (b || false) ≡ b
      or-false true = refl
      or-false false = refl
  any_from (suc n) a =
      let e : a + suc n ≡ suc a + n = omega arith in
      ap (λ (k : ℕ). any_below k test) e ∙ any_from n (suc a)
      ∙ ap (λ (k : ℕ). (test a || any_below a test) || list_any test (range_with_len k n)) (sym (add-one a))
      ∙ turned (test a) (any_below a test) (list_any test (range_with_len (a + 1) n))
    where
      turned : (x y z : Bool) → ((x || y) || z) ≡ (y || (x || z))
      turned true true z = refl
      turned true false z = refl
      turned false y z = refl

  -- none below a: those from a on decide
  pub any_range : (a n end : ℕ) → a + n ≡ end → any_below a test ≡ false → list_any test (range_with_len a n) ≡ any_below end test
  any_range a n end e none = sym (ap (λ (k : ℕ). any_below k test) (sym e) ∙ any_from n a ∙ rw none refl)

  -- so many from a on pass, beside those below a
  count_from : (n a : ℕ) → count_below (a + n) test ≡ count_below a test + length (filter test (range_with_len a n))
  unfolding count_below
  count_from zero a = ap (λ (k : ℕ). count_below k test) (add-zero a) ∙ sym (add-zero (count_below a test))
  count_from (suc n) a =
      let e : a + suc n ≡ suc a + n = omega arith in
      ap (λ (k : ℕ). count_below k test) e ∙ count_from n (suc a)
      ∙ ap (λ (k : ℕ). one_if (test a) + count_below a test + length (filter test (range_with_len k n))) (sym (add-one a))
      ∙ turned (test a) (count_below a test) (filter test (range_with_len (a + 1) n))
    where
      turned : (b : Bool) (x : ℕ) (xs : List ℕ) → one_if b + x + length xs ≡ x + length (cond b (a ∷ xs) xs)
      turned true x xs = omega arith
      turned false x xs = omega arith

  pub count_range : (n : ℕ) → length (filter test (range_with_len 0 n)) ≡ count_below n test
  unfolding count_below
  count_range n = sym (ap (λ (k : ℕ). count_below k test) (sym (zero-add n)) ∙ count_from n 0 ∙ zero-add _)
