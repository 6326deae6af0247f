-- A test that holds at every number below n, by one computation. Assumes nothing.
use mathlib.Core.Path.{◌≡◌, refl, sym, subst}
use mathlib.Core.Bool.{Bool, true, false, not, ◌&&◌}
use Prim.Native.Nat.{ℕ, zero, suc, ◌<◌}
use native.Mathlib.Nat.{not-suc-le-zero}
use native.Mathlib.Omega.{arith}
use native.Mathlib.Decide.{ℕ_discrete}
use lib.Dec.{T, eqb, eqb→eq}

-- f holds at each number below n
abbrev pub every : ℕ → (ℕ → Bool) → Bool
every zero f = true
every (suc n) f = f n && every n f

and_left : (a b : Bool) → T (a && b) → T a
and_left true b t = tt
and_left false b t = t

and_right : (a b : Bool) → T (a && b) → T b
and_right true b t = t
and_right false b t = absurd t

pub passes : (n : ℕ) (f : ℕ → Bool) → T (every n f) → (k : ℕ) → k < n → T (f k)
passes zero f t k h = absurd (not-suc-le-zero h)
passes (suc n) f t k h = go (passes n f (and_right (f n) (every n f) t) k) (ℕ_discrete k n)
  where
    go : (k < n → T (f k)) → Dec (k ≡ n) → T (f k)
    go rest (yes e) = subst (λ (x : ℕ). T (f x)) (sym e) (and_left (f n) (every n f) t)
    go rest (no d) = rest (omega arith)

-- the same for two numbers, below n and below o
pub passes₂ : (n o : ℕ) (f : ℕ → ℕ → Bool) → T (every n (λ j. every o (f j))) → (j k : ℕ) → j < n → k < o → T (f j k)
passes₂ n o f t j k hj hk = passes o (f j) (passes n (λ j. every o (f j)) t j hj) k hk

-- two functions to numbers that agree below n
pub same-below : (n : ℕ) (f g : ℕ → ℕ) → T (every n (λ k. eqb (f k) (g k))) → (k : ℕ) → k < n → f k ≡ g k
same-below n f g t k h = eqb→eq (f k) (g k) (passes n (λ k. eqb (f k) (g k)) t k h)

-- a test that holds, and one that does not
pub holds : (b : Bool) → T b → b ≡ true
holds true t = refl
holds false t = absurd t

pub fails : (b : Bool) → T (not b) → b ≡ false
fails true t = absurd t
fails false t = refl
