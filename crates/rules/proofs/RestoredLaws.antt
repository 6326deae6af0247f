-- The level that a nested return restores, read a second time: the smallest set HL bit, by its properties and as a count of trailing zeros.
-- Assumes nothing.
use mathlib.Core.Path.{◌≡◌, refl, sym, ap, ap₂, ◌∙◌}
use mathlib.Core.Bool.{Bool, true, false, cond}
use Prim.Native.Nat.{ℕ, zero, suc, ◌+◌, ◌/◌, ◌%◌, ◌^◌, ◌≤◌, ◌<◌}
use native.Mathlib.Omega.{arith}
use native.Mathlib.Numerals.{add-one}
use native.Mathlib.Nat.{le_of_suc-le-suc, not-suc-le-zero, mod-lt, zero-lt-suc}
use lib.Dec.{lit≤, eqb, ltb}
use lib.Pow.{shr-shr, mod-mod-pow, field}
use lib.Bits.{bit_and, bit_or, and_mask}
use lib.Count.{count_trailing_zeros, under}
use borrow.Author.Tests.{ltb-true, ltb-false}
use Rattle.bits.specs.Bits.{digit, bit}
use Rattle.bits.proofs.Tests.{same-below}
use Rattle.rules.specs.Image.{Image, at, has, HL, NICR}
use Rattle.rules.specs.Return.{smallest, restored_level}
use Rattle.rules.proofs.Bools.{cond_elim, not_both}

-- ---- the smallest number below n of which p holds

smallest_least : (n : ℕ) (p : ℕ → Bool) (y : ℕ) → y < smallest n p → p y ≡ false
unfolding smallest
smallest_least zero p y = λ h. absurd (not-suc-le-zero h)
smallest_least (suc n) p zero = cond_elim (λ x. 0 < x → p 0 ≡ false) (p 0) (λ t h. absurd (not-suc-le-zero h)) (λ f h. f)
smallest_least (suc n) p (suc y) =
    cond_elim (λ x. suc y < x → p (suc y) ≡ false) (p 0) (λ t h. absurd (not-suc-le-zero h)) (λ f h. smallest_least n (λ x. p (suc x)) y (le_of_suc-le-suc h))

smallest_le : (n : ℕ) (p : ℕ → Bool) → smallest n p ≤ n
unfolding smallest
smallest_le zero p = lit≤ tt
smallest_le (suc n) p = cond_elim (λ x. x ≤ suc n) (p 0) (λ t. omega arith) (λ f. omega (arith, smallest_le n (λ x. p (suc x))))

smallest-holds : (n : ℕ) (p : ℕ → Bool) → smallest n p < n → p (smallest n p) ≡ true
unfolding smallest
smallest-holds zero p = λ h. absurd (not-suc-le-zero h)
smallest-holds (suc n) p =
    cond_elim (λ x. x < suc n → p x ≡ true) (p 0) (λ t h. t) (λ f h. smallest-holds n (λ x. p (suc x)) (le_of_suc-le-suc h))

-- it is the only such number
smallest-is : (n : ℕ) (p : ℕ → Bool) (x : ℕ) → x < n → p x ≡ true → ((y : ℕ) → y < x → p y ≡ false) → smallest n p ≡ x
smallest-is n p x h t below = go (ltb (smallest n p) x) refl (ltb x (smallest n p)) refl
  where
    go : (a : Bool) → ltb (smallest n p) x ≡ a → (b : Bool) → ltb x (smallest n p) ≡ b → smallest n p ≡ x
    go true l b g =
        let lt = ltb-true (smallest n p) x l in
        absurd (not_both (p (smallest n p)) (smallest-holds n p (omega arith)) (below (smallest n p) lt))
    go false l true g = absurd (not_both (p x) t (smallest_least n p x (ltb-true x (smallest n p) g)))
    go false l false g = omega (arith, ltb-false (smallest n p) x l, ltb-false x (smallest n p) g)

smallest-same : (n : ℕ) (p q : ℕ → Bool) → ((x : ℕ) → p x ≡ q x) → smallest n p ≡ smallest n q
unfolding smallest
smallest-same zero p q h = refl
smallest-same (suc n) p q h = rw (h 0, smallest-same n (λ x. p (suc x)) (λ x. q (suc x)) (λ x. h (suc x)))

digit-under : (d t : ℕ) → d < 2 → cond (eqb d 1) 0 (suc t) ≡ under d t
digit-under zero t h = refl
digit-under (suc zero) t h = refl
digit-under (suc (suc d)) t h = absurd (omega arith)

bit_half : (n x : ℕ) → bit (suc x) n ≡ bit x (n / 2)
unfolding bit digit
bit_half n x =
    let e : suc x ≡ 1 + x = omega arith in
    ap (λ (d : ℕ). eqb (d % 2) 1) (ap (λ (k : ℕ). n / 2 ^ k) e ∙ sym (shr-shr n 1 x))

-- of the bits of a number it is the count of trailing zeros
smallest_trailing : (k n : ℕ) → smallest k (λ x. bit x n) ≡ count_trailing_zeros k n
unfolding smallest count_trailing_zeros bit digit
smallest_trailing zero n = refl
smallest_trailing (suc k) n =
    let rest : smallest k (λ x. bit (suc x) n) ≡ count_trailing_zeros k (n / 2) =
    smallest-same k (λ x. bit (suc x) n) (λ x. bit x (n / 2)) (bit_half n) ∙ smallest_trailing k (n / 2) in
    let lowest : n / 2 ^ 0 % 2 ≡ n % 2 = omega arith in
    rw (rest, lowest) (digit-under (n % 2) (count_trailing_zeros k (n / 2)) (omega arith))

-- so bits below that count are 0, and where it is below the width the bit there is 1
pub trailing_clear : (k n y : ℕ) → y < count_trailing_zeros k n → bit y n ≡ false
trailing_clear k n y h = smallest_least k (λ x. bit x n) y (omega (arith, smallest_trailing k n))

pub trailing_set : (k n : ℕ) → count_trailing_zeros k n < k → bit (count_trailing_zeros k n) n ≡ true
trailing_set k n h = rw (smallest_trailing k n) at (smallest-holds k (λ x. bit x n) (omega (arith, smallest_trailing k n)))

-- ---- the restored level

module _ (m : Image) where
  -- it is at most 7,
  pub restored_le : restored_level m ≤ 7
  unfolding restored_level
  restored_le = smallest_le 7 (λ x. has m (HL x))

  -- HL of it is set where it is below 7,
  pub restored_set : restored_level m < 7 → has m (HL (restored_level m)) ≡ true
  unfolding restored_level
  restored_set = smallest-holds 7 (λ x. has m (HL x))

  -- no HL bit below it is,
  pub restored_least : (y : ℕ) → y < restored_level m → has m (HL y) ≡ false
  unfolding restored_level
  restored_least = smallest_least 7 (λ x. has m (HL x))

  -- it is the only level so,
  pub restored_is : (x : ℕ) → x < 7 → has m (HL x) ≡ true → ((y : ℕ) → y < x → has m (HL y) ≡ false) → restored_level m ≡ x
  unfolding restored_level
  restored_is = smallest-is 7 (λ x. has m (HL x))

  -- and 7 with no HL bit set
  pub restored_none : ((y : ℕ) → y < 7 → has m (HL y) ≡ false) → restored_level m ≡ 7
  restored_none none = go (ltb (restored_level m) 7) refl
    where
      go : (b : Bool) → ltb (restored_level m) 7 ≡ b → restored_level m ≡ 7
      go true t =
          let h = ltb-true (restored_level m) 7 t in
          absurd (not_both (has m (HL (restored_level m))) (restored_set h) (none (restored_level m) h))
      go false f = omega (arith, restored_le, ltb-false (restored_level m) 7 f)

  -- it is the number of trailing zeros of NICR's seven low bits,
  pub restored_trailing : restored_level m ≡ count_trailing_zeros 7 (at m NICR)
  unfolding restored_level
  restored_trailing = smallest_trailing 7 (at m NICR)

-- the count looks at the k low bits only
trailing_low : (k n : ℕ) → count_trailing_zeros k (n % 2 ^ k) ≡ count_trailing_zeros k n
unfolding count_trailing_zeros
trailing_low zero n = refl
trailing_low (suc k) n =
    let more : 2 ^ suc k ≡ 2 ^ (k + 1) = ap (λ (x : ℕ). 2 ^ x) (sym (add-one k)) in
    ap₂ (λ (d t : ℕ). under d t) (ap (λ (x : ℕ). n % x % 2) more ∙ mod-mod-pow n k 1)
    (ap (λ (x : ℕ). count_trailing_zeros k (n % x / 2)) more ∙ ap (count_trailing_zeros k) (field n k 1) ∙ trailing_low k (n / 2))

-- and of a word of 32 bits with bit 7 set in place of TLNM, as code computes it
pub trailing_word : (n : ℕ) → count_trailing_zeros 7 n ≡ count_trailing_zeros 32 (bit_or (bit_and n 0x7f) 0x80)
unfolding count_trailing_zeros
trailing_word n =
    sym (trailing_low 7 n)
    ∙ same-below 128 (λ x. count_trailing_zeros 7 x) (λ x. count_trailing_zeros 32 (bit_or x 0x80)) tt (n % 128) (mod-lt n (zero-lt-suc 127))
    ∙ ap (λ (x : ℕ). count_trailing_zeros 32 (bit_or x 0x80)) (sym (and_mask n 7))
