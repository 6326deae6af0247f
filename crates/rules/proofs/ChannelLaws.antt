-- Where the records' registers stand, by the rules on the channel list: on pages 1 to 63, and no two at one byte. Assumes nothing.
use mathlib.Core.Path.{◌≡◌, refl, sym, ap, ◌∙◌}
use mathlib.Core.Logic.{◌≢◌, ◌⊎◌, inl, inr}
use mathlib.Core.List.{List, [], ◌∷◌}
use mathlib.Core.Bool.{Bool, true, false, false≢true, not, ◌&&◌}
use Prim.Native.Nat.{ℕ, zero, suc, ◌+◌, ◌*◌, ◌≤◌, ◌<◌}
use native.Mathlib.Omega.{arith}
use native.Mathlib.Nat.{not-suc-le-zero, le_of_suc-le-suc, zero-add}
use lib.Dec.{eqb, leb}
use lib.ListN.{length, get_or, get_or-append}
use borrow.Author.Tests.{leb-true, eq-eqb, not-true}
use Rattle.rules.specs.declared.Channel.{Channel}
use Rattle.rules.specs.Image.{page_byte}
use Rattle.rules.specs.Channels.{most_records, record_at, idcr_byte, ivr_byte, dcpr_byte, dapr_byte, data_byte, record_bytes, between, record_ok, records_ok, member, distinct, all_bytes, list_ok}
use Rattle.rules.proofs.Bools.{and_l, and_r, or_l, or_r, not_both}

-- ---- the numbers of a record are in range

-- the numbers of a record's registers, 0 IDCR to 4 data
abbrev pub register_number : Channel → ℕ → ℕ
register_number c q = get_or (c.idcr ∷ c.ivr ∷ c.dcpr ∷ c.dapr ∷ c.io ∷ []) q 0

-- a page of 1 to 63, five register numbers of 240 to 255, a direction of 0 or 1
pub record InRange (c : Channel) : Type 0 where
  pub page_low : 1 ≤ c.page
  pub page_high : c.page ≤ 63
  pub register-low : (q : ℕ) → q < 5 → 240 ≤ register_number c q
  pub register_high : (q : ℕ) → q < 5 → register_number c q ≤ 255
  pub one_way : c.direction ≤ 1

between_le : (lo hi x : ℕ) → between lo hi x ≡ true → (lo ≤ x) × (x ≤ hi)
between_le lo hi x e = (leb-true lo x (and_l (leb lo x) (leb x hi) e), leb-true x hi (and_r (leb lo x) (leb x hi) e))

seven : (a b c d e f g : Bool) → (a && b && c && d && e && f && g) ≡ true
    → (a ≡ true) × (b ≡ true) × (c ≡ true) × (d ≡ true) × (e ≡ true) × (f ≡ true) × (g ≡ true)
seven true true true true true true true h = (refl, refl, refl, refl, refl, refl, refl)
seven false b c d e f g h = absurd (false≢true h)
seven true false c d e f g h = absurd (false≢true h)
seven true true false d e f g h = absurd (false≢true h)
seven true true true false e f g h = absurd (false≢true h)
seven true true true true false f g h = absurd (false≢true h)
seven true true true true true false g h = absurd (false≢true h)
seven true true true true true true false h = absurd (false≢true h)

five : (P : ℕ → Type 0) {a b c d e : ℕ} → P a → P b → P c → P d → P e → (q : ℕ) → q < 5 → P (get_or (a ∷ b ∷ c ∷ d ∷ e ∷ []) q 0)
five P a b c d e zero h = a
five P a b c d e (suc zero) h = b
five P a b c d e (suc (suc zero)) h = c
five P a b c d e (suc (suc (suc zero))) h = d
five P a b c d e (suc (suc (suc (suc zero)))) h = e
five P a b c d e (suc (suc (suc (suc (suc q))))) h = absurd (omega arith)

-- a record within the rules has its numbers in range (ListLaws has the other way)
pub record_in_range : (c : Channel) → record_ok c ≡ true → InRange c
record_in_range c ok =
    let tests = seven (between 1 63 c.page) (between 240 255 c.idcr) (between 240 255 c.ivr) (between 240 255 c.dcpr)
    (between 240 255 c.dapr) (between 240 255 c.io) (leb c.direction 1) ok in
    let register : (q : ℕ) → q < 5 → between 240 255 (register_number c q) ≡ true
    = five (λ (x : ℕ). between 240 255 x ≡ true) tests.1 tests.2 tests.3 tests.4 tests.5 in
    record {
      page_low = (between_le 1 63 c.page tests.0).0;
      page_high = (between_le 1 63 c.page tests.0).1;
      register-low = λ q h. (between_le 240 255 (register_number c q) (register q h)).0;
      register_high = λ q h. (between_le 240 255 (register_number c q) (register q h)).1;
      one_way = leb-true c.direction 1 tests.6;
    }

-- byte r of a record's five, 0 IDCR to 4 data
abbrev pub register_byte : Channel → ℕ → ℕ
register_byte c r = get_or (record_bytes c) r 0

-- a byte of pages 1 to 63
abbrev pub OnPage : ℕ → Type 0
OnPage x = (256 ≤ x) × (x ≤ 1263)

-- each register stands on the record's page
pub register-byte : (c : Channel) (q : ℕ) → q < 5 → register_byte c q ≡ page_byte c.page (register_number c q)
unfolding idcr_byte ivr_byte dcpr_byte dapr_byte data_byte
register-byte c zero h = refl
register-byte c (suc zero) h = refl
register-byte c (suc (suc zero)) h = refl
register-byte c (suc (suc (suc zero))) h = refl
register-byte c (suc (suc (suc (suc zero)))) h = refl
register-byte c (suc (suc (suc (suc (suc q))))) h = absurd (omega arith)

-- they stand on pages 1 to 63
pub record_range : (c : Channel) → record_ok c ≡ true → (r : ℕ) → r < 5 → OnPage (register_byte c r)
unfolding page_byte
record_range c ok r h =
    let w = record_in_range c ok in
    rw (register-byte c r h) (omega (arith, w.page_low, w.page_high, w.register-low r h, w.register_high r h))

records_ok_lem : (cs : List Channel) → records_ok cs ≡ true → (k : ℕ) → k < length cs → record_ok (record_at cs k) ≡ true
unfolding records_ok
records_ok_lem [] e k h = absurd (not-suc-le-zero h)
records_ok_lem (c ∷ cs) e zero h = and_l (record_ok c) (records_ok cs) e
records_ok_lem (c ∷ cs) e (suc k) h = records_ok_lem cs (and_r (record_ok c) (records_ok cs) e) k (le_of_suc-le-suc h)

-- ---- no number twice, by places

member-at : (xs : List ℕ) (i : ℕ) → i < length xs → member (get_or xs i 0) xs ≡ true
unfolding member
member-at [] i h = absurd (not-suc-le-zero h)
member-at (x ∷ xs) zero h = or_l (eqb x x) (member x xs) (eq-eqb x x refl)
member-at (x ∷ xs) (suc i) h = or_r (eqb (get_or xs i 0) x) (member (get_or xs i 0) xs) (member-at xs i (le_of_suc-le-suc h))

-- the first is at no later place
first-apart : (x : ℕ) (xs : List ℕ) → distinct (x ∷ xs) ≡ true → (i : ℕ) → i < length xs → x ≢ get_or xs i 0
unfolding distinct
first-apart x xs e i h d = not_both (member x xs) (rw d (member-at xs i h)) (not-true (member x xs) (and_l (not (member x xs)) (distinct xs) e))

pub distinct_apart : (xs : List ℕ) → distinct xs ≡ true → (i j : ℕ) → i < length xs → j < length xs → i ≢ j → get_or xs i 0 ≢ get_or xs j 0
unfolding distinct
distinct_apart [] e i j hi hj n d = not-suc-le-zero hi
distinct_apart (x ∷ xs) e zero zero hi hj n d = n refl
distinct_apart (x ∷ xs) e zero (suc j) hi hj n d = first-apart x xs e j (le_of_suc-le-suc hj) d
distinct_apart (x ∷ xs) e (suc i) zero hi hj n d = first-apart x xs e i (le_of_suc-le-suc hi) (sym d)
distinct_apart (x ∷ xs) e (suc i) (suc j) hi hj n d =
    distinct_apart xs (and_r (not (member x xs)) (distinct xs) e) i j (le_of_suc-le-suc hi) (le_of_suc-le-suc hj) (λ q. n (ap suc q)) d

-- ---- the bytes of all records

-- five bytes a record
pub all-length : (cs : List Channel) → length (all_bytes cs) ≡ 5 * length cs
unfolding all_bytes
all-length [] = refl
all-length (c ∷ cs) = omega (arith, all-length cs)

later : (k r : ℕ) → 5 * suc k + r ≡ suc (suc (suc (suc (suc (5 * k + r)))))
later k r = omega arith

-- register r of record k is byte 5k + r
pub all-at : (cs : List Channel) (k r : ℕ) → k < length cs → r < 5 → get_or (all_bytes cs) (5 * k + r) 0 ≡ register_byte (record_at cs k) r
unfolding all_bytes
all-at [] k r h g = absurd (not-suc-le-zero h)
all-at (c ∷ cs) zero r h g = rw zero-add (get_or-append (record_bytes c) (all_bytes cs) 0 r g)
all-at (c ∷ cs) (suc k) r h g = rw (later k r) (all-at cs k r (le_of_suc-le-suc h) g)

module _ (cs : List Channel) (ok : list_ok cs ≡ true) where
  pub list_short : length cs ≤ most_records
  unfolding list_ok
  list_short = leb-true (length cs) most_records (and_l (leb (length cs) most_records) (records_ok cs) (and_l (leb (length cs) most_records && records_ok cs) (distinct (all_bytes cs)) ok))

  -- every record keeps the rules on its numbers
  pub record_ok_lem : (k : ℕ) → k < length cs → record_ok (record_at cs k) ≡ true
  unfolding list_ok
  record_ok_lem = records_ok_lem cs (and_r (leb (length cs) most_records) (records_ok cs) (and_l (leb (length cs) most_records && records_ok cs) (distinct (all_bytes cs)) ok))

  -- a record's registers stand on pages 1 to 63
  pub register_range : (k r : ℕ) → k < length cs → r < 5 → OnPage (register_byte (record_at cs k) r)
  register_range k r h g = record_range (record_at cs k) (record_ok_lem k h) r g

  -- and no two of them at one byte, within a record or across records
  pub registers_apart : (k r l q : ℕ) → k < length cs → l < length cs → r < 5 → q < 5 → (k ≢ l) ⊎ (r ≢ q)
      → register_byte (record_at cs k) r ≢ register_byte (record_at cs l) q
  unfolding list_ok
  registers_apart k r l q hk hl hr hq n d =
      distinct_apart (all_bytes cs) (and_r (leb (length cs) most_records && records_ok cs) (distinct (all_bytes cs)) ok) (5 * k + r) (5 * l + q)
      (omega (arith, all-length cs)) (omega (arith, all-length cs)) (λ e. other e n) (all-at cs k r hk hr ∙ d ∙ sym (all-at cs l q hl hq))
    where
      other : 5 * k + r ≡ 5 * l + q → (k ≢ l) ⊎ (r ≢ q) → ⊥
      other e (inl x) = x (omega arith)
      other e (inr x) = x (omega arith)
