-- Counts of the numbers below n that pass a test, where two tests differ at one number at most; then of the pending sources of a set, where
-- one source's pending bit changes at most, or any do. Assumes nothing.
use mathlib.Core.Path.{◌≡◌, refl, sym, ap, ap₂, ◌∙◌}
use mathlib.Core.Logic.{◌≢◌}
use mathlib.Core.Bool.{Bool, true, false, not, ◌&&◌}
use mathlib.Core.List.{List}
use Prim.Native.Nat.{ℕ, zero, suc, ◌+◌, ◌≤◌, ◌<◌}
use native.Mathlib.Nat.{not-suc-le-zero, le-suc, le_trans, le_refl}
use native.Mathlib.Omega.{arith}
use native.Mathlib.Numerals.{add-one}
use native.Mathlib.Decide.{ℕ_discrete}
use mir.Val.{bool_byte}
use Rattle.rules.specs.declared.Channel.{Channel}
use Rattle.rules.specs.Image.{Image}
use Rattle.rules.specs.Sources.{sources, pending}
use Rattle.rules.specs.Runs.{one_if}
use Rattle.rules.specs.Demand3.{count_below, pending_of}
use Rattle.rules.specs.Handlers.{raises, raised}
use Rattle.rules.proofs.Bools.{both}

-- a truth value as the code's number
pub byte_one : (b : Bool) → bool_byte b ≡ one_if b
byte_one true = refl
byte_one false = refl

-- `one_if` is at most 1
pub one_le : (t : Bool) → one_if t ≤ 1
one_le true = omega arith
one_le false = omega arith

-- no more than there are
pub count_le : (p : ℕ → Bool) (n : ℕ) → count_below n p ≤ n
unfolding count_below
count_le p zero = omega arith
count_le p (suc n) = omega (arith, one_le (p n), count_le p n)

-- one number further: at most one more, and counted
pub count-more : (p : ℕ → Bool) (k n x : ℕ) → n ≡ count_below k p → x ≡ one_if (p k) → (x ≤ 1) × (n + x ≡ count_below (k + 1) p)
unfolding count_below
count-more p k n x e d = (omega (arith, one_le (p k)), rw (add-one k) (omega arith))

-- the tests agree everywhere
pub count_same : (p q : ℕ → Bool) (n : ℕ) → ((k : ℕ) → k < n → q k ≡ p k) → count_below n q ≡ count_below n p
unfolding count_below
count_same p q zero h = refl
count_same p q (suc n) h = ap₂ (λ (b : Bool) (x : ℕ). one_if b + x) (h n (le_refl (suc n))) (count_same p q n (λ k l. h k (le_trans l (le-suc n))))

-- where q passes, p passes or d does
pub count_sum : (p q d : ℕ → Bool) (n : ℕ) → ((k : ℕ) → one_if (q k) ≤ one_if (p k) + one_if (d k)) → count_below n q ≤ count_below n p + count_below n d
unfolding count_below
count_sum p q d zero h = omega arith
count_sum p q d (suc n) h = omega (arith, h n, count_sum p q d n h)

-- they agree everywhere but at w: q may pass there besides
pub count_up : (p q : ℕ → Bool) (w n : ℕ) → ((k : ℕ) → k < n → k ≢ w → q k ≡ p k) → count_below n q ≤ count_below n p + one_if (q w)
unfolding count_below
count_up p q w zero h = omega arith
count_up p q w (suc n) h = go (count_up p q w n (λ k l. h k (le_trans l (le-suc n)))) (ℕ_discrete n w)
  where
    go : count_below n q ≤ count_below n p + one_if (q w) → Dec (n ≡ w) → one_if (q n) + count_below n q ≤ one_if (p n) + count_below n p + one_if (q w)
    go ih (yes e) =
        omega (arith, count_same p q n (λ k l. h k (le_trans l (le-suc n)) (λ d. omega (arith, d ∙ sym e))), ap (λ (x : ℕ). one_if (q x)) e)
    go ih (no d) = omega (arith, ih, ap one_if (h n (le_refl (suc n)) d))

-- they agree everywhere but at w, where p passes and q does not
pub count_down : (p q : ℕ → Bool) (w n : ℕ) → w < n → p w ≡ true → q w ≡ false → ((k : ℕ) → k < n → k ≢ w → q k ≡ p k) → count_below n q + 1 ≡ count_below n p
unfolding count_below
count_down p q w zero l pw qw h = absurd (not-suc-le-zero l)
count_down p q w (suc n) l pw qw h = go (λ (g : w < n). count_down p q w n g pw qw (λ k l. h k (le_trans l (le-suc n)))) (ℕ_discrete n w)
  where
    go : (w < n → count_below n q + 1 ≡ count_below n p) → Dec (n ≡ w) → one_if (q n) + count_below n q + 1 ≡ one_if (p n) + count_below n p
    go ih (yes e) =
        omega (
          arith,
          count_same p q n (λ k l. h k (le_trans l (le-suc n)) (λ d. omega (arith, d ∙ sym e))),
          ap (λ (x : ℕ). one_if (q x)) e ∙ ap one_if qw,
          ap (λ (x : ℕ). one_if (p x)) e ∙ ap one_if pw,
        )
    go ih (no d) = omega (arith, ih (omega arith), ap one_if (h n (le_refl (suc n)) d))

-- ---- the pending sources of a set, counted before and after

abbrev counts : Image → List Channel → (ℕ → Bool) → ℕ → Bool
counts m cs r k = pending m cs k && r k

-- at most all of them
pub pending_of_le : (m : Image) (cs : List Channel) (r : ℕ → Bool) → pending_of m cs r ≤ sources cs
unfolding pending_of
pending_of_le m cs r = count_le (counts m cs r) (sources cs)

module _ (cs : List Channel) (m m' : Image) (r : ℕ → Bool) where
  counts_same : (k : ℕ) → pending m' cs k ≡ pending m cs k → counts m' cs r k ≡ counts m cs r k
  counts_same k e = ap (λ (t : Bool). t && r k) e

  -- none changes
  pub pending_of-same : ((k : ℕ) → k < sources cs → pending m' cs k ≡ pending m cs k) → pending_of m' cs r ≡ pending_of m cs r
  unfolding pending_of
  pending_of-same h = count_same (counts m cs r) (counts m' cs r) (sources cs) (λ k g. counts_same k (h k g))

  one_and : (a b : Bool) → one_if (a && b) ≤ one_if b
  one_and true b = omega arith
  one_and false b = omega arith

  newly : (before after b : Bool) → one_if (after && b) ≤ one_if (before && b) + one_if (not before && after && b)
  newly true true b = omega arith
  newly true false b = omega arith
  newly false true b = omega arith
  newly false false b = omega arith

  -- no more than before, and those that were raised
  pub pending_of-raised : pending_of m' cs r ≤ pending_of m cs r + raised cs r m m'
  unfolding pending_of raised
  pending_of-raised =
      count_sum (counts m cs r) (counts m' cs r) (raises cs r m m') (sources cs)
      (λ k. newly (pending m cs k) (pending m' cs k) (r k))

  -- one more may be pending
  pub pending_of_up : (w : ℕ) → ((k : ℕ) → k < sources cs → k ≢ w → pending m' cs k ≡ pending m cs k) → pending_of m' cs r ≤ pending_of m cs r + one_if (r w)
  unfolding pending_of
  pending_of_up w h = omega (arith, count_up (counts m cs r) (counts m' cs r) w (sources cs) (λ k g n. counts_same k (h k g n)), one_and (pending m' cs w) (r w))

  -- one of the set is pending no more
  pub pending_of_down : (w : ℕ) → w < sources cs → pending m cs w ≡ true → r w ≡ true → pending m' cs w ≡ false
      → ((k : ℕ) → k < sources cs → k ≢ w → pending m' cs k ≡ pending m cs k) → pending_of m' cs r + 1 ≡ pending_of m cs r
  unfolding pending_of
  pending_of_down w g p q p' h =
      count_down (counts m cs r) (counts m' cs r) w (sources cs) g (both (pending m cs w) (r w) p q) (ap (λ (t : Bool). t && r w) p')
      (λ k l n. counts_same k (h k l n))
