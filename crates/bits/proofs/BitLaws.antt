-- Laws of bits, each once for every bit and every byte: a put bit reads back, the others stay, the bits of an and, an or and a complement,
-- the low field, the bounds. Assumes nothing.
use mathlib.Core.Path.{◌≡◌, refl, sym, ap, ◌∙◌}
use mathlib.Core.Logic.{◌≢◌}
use mathlib.Core.Bool.{Bool, true, false, cond, not, ◌&&◌, ◌||◌}
use Prim.Native.Nat.{ℕ, zero, suc, ◌+◌, ◌-◌, ◌*◌, ◌/◌, ◌%◌, ◌^◌, ◌≤◌, ◌<◌, min, max}
use native.Mathlib.Nat.{mod-lt, mod-mod, mod-eq_of_lt, zero-lt-suc, add-sub_of_le}
use lib.Arith.{digits_div}
use lib.Pow.{shr-shr}
use native.Mathlib.Omega.{arith}
use lib.Dec.{T, eqb, leb, eqb→eq}
use lib.Bits.{bit_and, bit_or, and_step, or_step, or_shr, or_mod, and_shr, and_mod, or_zero_r, and_mask}
use borrow.Author.Tests.{eq-eqb, ne_eqb, le-leb}
use Rattle.bits.specs.Bits.{digit, bit, put_bit}
use Rattle.bits.proofs.Tests.{every, passes, passes₂, same-below, fails}

-- ---- a digit is 0 or 1, and the test tells which

pub digit_lt : (k b : ℕ) → digit k b < 2
unfolding digit
digit_lt k b = mod-lt (b / 2 ^ k) (zero-lt-suc 1)

two : (d : ℕ) → d < 2 → d ≡ cond (eqb d 1) 1 0
two zero h = refl
two (suc zero) h = refl
two (suc (suc d)) h = absurd (omega arith)

pub digit-bit : (k b : ℕ) → digit k b ≡ cond (bit k b) 1 0
unfolding bit
digit-bit k b = two (digit k b) (digit_lt k b)

-- no bit of 0 is 1
pub bit_zero : (k : ℕ) → k < 8 → bit k 0 ≡ false
unfolding bit digit
bit_zero k h = fails (bit k 0) (passes 8 (λ k. not (bit k 0)) tt k h)

-- ---- and, or, complement

min_test : (x y : ℕ) → x < 2 → y < 2 → eqb (min x y) 1 ≡ (eqb x 1 && eqb y 1)
min_test zero zero hx hy = refl
min_test zero (suc zero) hx hy = refl
min_test zero (suc (suc y)) hx hy = absurd (omega arith)
min_test (suc zero) zero hx hy = refl
min_test (suc zero) (suc zero) hx hy = refl
min_test (suc zero) (suc (suc y)) hx hy = absurd (omega arith)
min_test (suc (suc x)) y hx hy = absurd (omega arith)

max_test : (x y : ℕ) → x < 2 → y < 2 → eqb (max x y) 1 ≡ (eqb x 1 || eqb y 1)
max_test zero zero hx hy = refl
max_test zero (suc zero) hx hy = refl
max_test zero (suc (suc y)) hx hy = absurd (omega arith)
max_test (suc zero) zero hx hy = refl
max_test (suc zero) (suc zero) hx hy = refl
max_test (suc zero) (suc (suc y)) hx hy = absurd (omega arith)
max_test (suc (suc x)) y hx hy = absurd (omega arith)

digit_and : (k a b : ℕ) → digit k (bit_and a b) ≡ min (digit k a) (digit k b)
unfolding digit
digit_and k a b = rw and_shr (omega (arith, and_step (a / 2 ^ k) (b / 2 ^ k)))

digit_or : (k a b : ℕ) → digit k (bit_or a b) ≡ max (digit k a) (digit k b)
unfolding digit
digit_or k a b = rw or_shr (omega (arith, or_step (a / 2 ^ k) (b / 2 ^ k)))

pub bit-bit_and : (k a b : ℕ) → bit k (bit_and a b) ≡ (bit k a && bit k b)
unfolding bit
bit-bit_and k a b = ap (λ (x : ℕ). eqb x 1) (digit_and k a b) ∙ min_test (digit k a) (digit k b) (digit_lt k a) (digit_lt k b)

pub bit-bit_or : (k a b : ℕ) → bit k (bit_or a b) ≡ (bit k a || bit k b)
unfolding bit
bit-bit_or k a b = ap (λ (x : ℕ). eqb x 1) (digit_or k a b) ∙ max_test (digit k a) (digit k b) (digit_lt k a) (digit_lt k b)

abbrev agree : Bool → Bool → Bool
agree true b = b
agree false b = not b

agreed : (a b : Bool) → T (agree a b) → a ≡ b
agreed true true t = refl
agreed true false t = absurd t
agreed false true t = absurd t
agreed false false t = refl

-- `!b` of a byte is 255 - b
pub bit_not : (k b : ℕ) → k < 8 → b < 256 → bit k (255 - b) ≡ not (bit k b)
unfolding bit digit
bit_not k b hk hb = agreed (bit k (255 - b)) (not (bit k b)) (passes₂ 8 256 (λ k b. agree (bit k (255 - b)) (not (bit k b))) tt k b hk hb)

-- all eight bits of a byte
pub and_byte : (b : ℕ) → b < 256 → bit_and b 255 ≡ b
and_byte b h = and_mask b 8 ∙ mod-eq_of_lt h

-- ---- the masks of one bit

-- `1u8 << k`, as the code has it
pub shl_byte : (k : ℕ) → k < 8 → 1 * 2 ^ k % 256 ≡ 2 ^ k
shl_byte = same-below 8 (λ k. 1 * 2 ^ k % 256) (λ k. 2 ^ k) tt

pow_byte : (k : ℕ) → k < 8 → 2 ^ k < 256
pow_byte k h = omega (arith, shl_byte k h)

bit_pow : (j k : ℕ) → j < 8 → k < 8 → bit j (2 ^ k) ≡ eqb j k
unfolding bit digit
bit_pow j k hj hk = agreed (bit j (2 ^ k)) (eqb j k) (passes₂ 8 8 (λ j k. agree (bit j (2 ^ k)) (eqb j k)) tt j k hj hk)

-- ---- a put bit

or_pick : (e b : Bool) → (b || e) ≡ cond e true b
or_pick true true = refl
or_pick true false = refl
or_pick false true = refl
or_pick false false = refl

and_pick : (e b : Bool) → (b && not e) ≡ cond e false b
and_pick true true = refl
and_pick true false = refl
and_pick false true = refl
and_pick false false = refl

pub bit-put : (j k : ℕ) (v : Bool) (b : ℕ) → j < 8 → k < 8 → bit j (put_bit k v b) ≡ cond (eqb j k) v (bit j b)
unfolding put_bit
bit-put j k true b hj hk = bit-bit_or j b (2 ^ k) ∙ ap (λ (t : Bool). bit j b || t) (bit_pow j k hj hk) ∙ or_pick (eqb j k) (bit j b)
bit-put j k false b hj hk =
    bit-bit_and j b (255 - 2 ^ k)
    ∙ ap (λ (t : Bool). bit j b && t) (bit_not j (2 ^ k) hj (pow_byte k hk) ∙ ap not (bit_pow j k hj hk))
    ∙ and_pick (eqb j k) (bit j b)

-- the same bit
pub bit-same : (k : ℕ) (v : Bool) (b : ℕ) → k < 8 → bit k (put_bit k v b) ≡ v
bit-same k v b h = bit-put k k v b h h ∙ ap (λ (t : Bool). cond t v (bit k b)) (eq-eqb k k refl)

-- another bit
pub bit-other : (j k : ℕ) (v : Bool) (b : ℕ) → j < 8 → k < 8 → j ≢ k → bit j (put_bit k v b) ≡ bit j b
bit-other j k v b hj hk d = bit-put j k v b hj hk ∙ ap (λ (t : Bool). cond t v (bit j b)) (ne_eqb j k d)

-- ---- the low field: the n low bits as a number, where a bit above them is put

low-masks : (n k : ℕ) → n ≤ k → k < 8 → (2 ^ k % 2 ^ n ≡ 0) × ((255 - 2 ^ k) % 2 ^ n ≡ 2 ^ n - 1)
low-masks n k l h = (
  eqb→eq _ _ (go (λ n k. eqb (2 ^ k % 2 ^ n) 0) tt),
  eqb→eq _ _ (go (λ n k. eqb ((255 - 2 ^ k) % 2 ^ n) (2 ^ n - 1)) tt),
)
  where
    go : (f : ℕ → ℕ → Bool) → T (every 8 (λ n. every 8 (λ k. cond (leb n k) (f n k) true))) → T (f n k)
    go f t = rw (le-leb n k l) at (passes₂ 8 8 (λ n k. cond (leb n k) (f n k) true) t n k (omega arith) h)

pub low_same : (n k : ℕ) (v : Bool) (b : ℕ) → n ≤ k → k < 8 → put_bit k v b % 2 ^ n ≡ b % 2 ^ n
unfolding put_bit
low_same n k true b l h = or_mod b (2 ^ k) n ∙ ap (bit_or (b % 2 ^ n)) (low-masks n k l h).0 ∙ or_zero_r (b % 2 ^ n)
low_same n k false b l h = and_mod b (255 - 2 ^ k) n ∙ ap (bit_and (b % 2 ^ n)) (low-masks n k l h).1 ∙ and_mask (b % 2 ^ n) n ∙ mod-mod b (2 ^ n)

-- ---- a bit above the low field, where the n low bits are replaced

shr_same : (n k b l : ℕ) → n ≤ k → l < 2 ^ n → (b / 2 ^ n * 2 ^ n + l) / 2 ^ k ≡ b / 2 ^ k
shr_same n k b l h g =
    let by : (x : ℕ) → x / 2 ^ k ≡ x / 2 ^ n / 2 ^ (k - n) = λ x. ap (λ (i : ℕ). x / 2 ^ i) (sym (add-sub_of_le h)) ∙ sym (shr-shr x n (k - n)) in
    by (b / 2 ^ n * 2 ^ n + l) ∙ ap (λ (x : ℕ). x / 2 ^ (k - n)) (digits_div (b / 2 ^ n) g) ∙ sym (by b)

pub high_same : (n k b l : ℕ) → n ≤ k → l < 2 ^ n → bit k (b / 2 ^ n * 2 ^ n + l) ≡ bit k b
unfolding bit digit
high_same n k b l h g = ap (λ (x : ℕ). eqb (x % 2) 1) (shr_same n k b l h g)
