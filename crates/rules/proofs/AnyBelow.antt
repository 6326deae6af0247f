-- Whether some number below n passes a test. Assumes nothing.
use mathlib.Core.Path.{◌≡◌, refl, sym, ap, ◌∙◌}
use mathlib.Core.Bool.{Bool, true, false, false≢true, ◌||◌}
use Prim.Native.Nat.{ℕ, zero, suc, ◌+◌, ◌<◌}
use native.Mathlib.Nat.{not-suc-le-zero, le_refl}
use native.Mathlib.Omega.{arith}
use native.Mathlib.Numerals.{add-one}
use native.Mathlib.Decide.{ℕ_discrete}
use Rattle.rules.specs.Bounds.{any_below}
use Rattle.rules.proofs.Bools.{or_l, or_r}

module _ (p : ℕ → Bool) where
  -- one that passes
  pub any_one : (n k : ℕ) → k < n → p k ≡ true → any_below n p ≡ true
  unfolding any_below
  any_one zero k h e = absurd (not-suc-le-zero h)
  any_one (suc n) k h e = go (λ (l : k < n). any_one n k l e) (ℕ_discrete n k)
    where
      go : (k < n → any_below n p ≡ true) → Dec (n ≡ k) → (p n || any_below n p) ≡ true
      go ih (yes d) = or_l (p n) (any_below n p) (ap p d ∙ e)
      go ih (no d) = or_r (p n) (any_below n p) (ih (omega arith))

  -- none passes
  pub any_none : (n : ℕ) → ((k : ℕ) → k < n → p k ≡ false) → any_below n p ≡ false
  unfolding any_below
  any_none zero h = refl
  any_none (suc n) h = ap (λ (b : Bool). b || any_below n p) (h n (le_refl (suc n))) ∙ any_none n (λ k l. h k (omega arith))

  -- so it is where the answer is no
  pub none_passes : (n k : ℕ) → any_below n p ≡ false → k < n → p k ≡ false
  none_passes n k e h = go (p k) refl
    where
      go : (b : Bool) → p k ≡ b → p k ≡ false
      go true d = absurd (false≢true (sym e ∙ any_one n k h d))
      go false d = d

  -- and where it is yes there is one
  pub any_some : (n : ℕ) → any_below n p ≡ true → (k : ℕ) × (k < n) × (p k ≡ true)
  unfolding any_below
  any_some zero e = absurd (false≢true e)
  any_some (suc n) e = go (any_some n) (p n) refl e
    where
      go : (any_below n p ≡ true → (k : ℕ) × (k < n) × (p k ≡ true)) → (b : Bool) → p n ≡ b → (b || any_below n p) ≡ true → (k : ℕ) × (k < suc n) × (p k ≡ true)
      go ih true d e = (n, le_refl (suc n), d)
      go ih false d e = let r = ih e in (r.0, omega (arith, r.1), r.2)

  -- none below n, and not n
  pub none_more : (n : ℕ) → any_below n p ≡ false → p n ≡ false → any_below (n + 1) p ≡ false
  unfolding any_below
  none_more n h e = rw (add-one n, e) h
