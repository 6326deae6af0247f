-- The masks as the check of a list fills them: the rows of the pages, and the bits in them. Assumes nothing.
use mathlib.Core.Path.{◌≡◌, refl, sym, ap, ◌∙◌}
use mathlib.Core.Logic.{◌≢◌, ◌⊎◌, inl, inr}
use mathlib.Core.Bool.{Bool, true, false, not, ◌&&◌, and-false}
use mathlib.Core.List.{List, [], ◌∷◌, map}
use Prim.Native.Nat.{ℕ, zero, suc, ◌+◌, ◌-◌, ◌*◌, ◌%◌, ◌≤◌, ◌<◌}
use native.Mathlib.Omega.{arith}
use native.Mathlib.Decide.{ℕ_discrete}
use lib.Dec.{eqb}
use lib.ListN.{length, get_or, set, replicate, length-replicate, length-set}
use lib.Seq.{get_or-set_same, get_or-set_other, set-get_or}
use borrow.Author.Tests.{eq-eqb, ne_eqb, eqb-false}
use Rattle.rules.specs.Image.{page_byte}
use Rattle.rules.specs.Channels.{most_records, member, distinct}
use Rattle.rules.proofs.Bools.{cond_same}
use Rattle.rules.proofs.PlaceLaws.{pairs_apart}
use Rattle.channels.specs.Laid.{masks_length, no_masks, bits_in, bits_at}
use Rattle.channels.specs.Seen.{Spot, spot, row_of, put_bits, unseen, seeing}
use Rattle.channels.proofs.SpotLaws.{on_page, bits_of, bytes, Solid, onto, bits-member}

-- no row, or one of the first k
abbrev pub IsRow : ℕ → ℕ → Type 0
IsRow k row = (row ≡ 0) ⊎ ((64 ≤ row) × (row + 16 ≤ 64 + 16 * k) × (row % 16 ≡ 0))

-- k records may have opened rows, no two pages share one, what is not opened is blank, and the bits in them are those of the registers met so far
pub record Held (k : ℕ) (masks : List ℕ) (ys : List Spot) : Type 0 where
  pub few : k ≤ most_records
  pub size : length masks ≡ masks_length
  pub rows : (p : ℕ) → p ≤ 63 → IsRow k (get_or masks p 0)
  pub own : (p q : ℕ) → p ≤ 63 → q ≤ 63 → get_or masks p 0 ≡ get_or masks q 0 → (get_or masks p 0 ≡ 0) ⊎ (p ≡ q)
  pub none : get_or masks 0 0 ≡ 0
  pub blank : (i : ℕ) → 64 + 16 * k ≤ i → get_or masks i 0 ≡ 0
  pub shows : (p r : ℕ) → p ≤ 63 → 240 ≤ r → r ≤ 255 → bits_at masks p r ≡ bits_of ys (page_byte p r)

zeros : (n i : ℕ) → ◌≡◌ {A = ℕ} (get_or (replicate n 0) i 0) 0
zeros zero i = refl
zeros (suc n) zero = refl
zeros (suc n) (suc i) = zeros n i

-- at the start nothing is met
pub held_none : Held 0 no_masks []
unfolding bits_at bits_of
held_none =
    record {
      few = omega arith;
      size = length-replicate {A = ℕ} masks_length 0;
      rows = λ p h. inl (zeros masks_length p);
      own = λ p q hp hq e. inl (zeros masks_length p);
      none = zeros masks_length 0;
      blank = λ i h. zeros masks_length i;
      shows = λ p r hp lo hi. rw (zeros masks_length p);
    }

-- a page shows the same bits where its row is the same, and what stands there
same_bits : (m n : List ℕ) (p r : ℕ) → get_or n p 0 ≡ get_or m p 0 → (get_or m p 0 ≢ 0 → bits_in n (get_or m p 0) r ≡ bits_in m (get_or m p 0) r)
    → bits_at n p r ≡ bits_at m p r
unfolding bits_at
same_bits m n p r e same = rw e (cond_same (eqb (get_or m p 0) 0) (λ _. refl) (λ d. same (eqb-false (get_or m p 0) 0 d)))

-- a page with a row shows what stands in it
look : (m : List ℕ) (p row r : ℕ) → get_or m p 0 ≡ row → 64 ≤ row → bits_at m p r ≡ bits_in m row r
unfolding bits_at
look m p row r here some = rw (here, ne_eqb row 0 (omega arith))

-- a row lies within the masks
pub row_within : (k row : ℕ) → k ≤ most_records → IsRow k row → row ≤ 240
row_within k row few (inl z) = omega arith
row_within k row few (inr (lo, hi, round)) = omega arith

more_rows : (k row : ℕ) → IsRow k row → IsRow (k + 1) row
more_rows k row (inl e) = inl e
more_rows k row (inr (lo, hi, round)) = inr (lo, omega arith, round)

-- ---- the row of a page

module _ (k : ℕ) (m : List ℕ) (ys : List Spot) (held : Held k m ys) (p : ℕ) (some : 1 ≤ p) (hp : p ≤ 63) (room : k < most_records) where
  -- the page has one
  held_more : Held (k + 1) m ys
  held_more =
      record {
        few = omega arith;
        size = held.size;
        rows = λ q h. more_rows k (get_or m q 0) (held.rows q h);
        own = held.own;
        none = held.none;
        blank = λ i h. held.blank i (omega arith);
        shows = held.shows;
      }

  -- it has none: the k-th is blank
  held_new : get_or m p 0 ≡ 0 → Held (k + 1) (set m p (64 + 16 * k)) ys
  unfolding bits_at
  held_new e =
      record {
        few = omega arith;
        size = length-set m p (64 + 16 * k) ∙ held.size;
        rows = λ q h. row q h (ℕ_discrete q p);
        own = λ q t hq ht d. alone q t hq ht (ℕ_discrete q p) (ℕ_discrete t p) d;
        none = other 0 (omega arith) ∙ held.none;
        blank = λ i h. other i (omega arith) ∙ held.blank i (omega arith);
        shows = λ q r hq lo hi. shown q r hq lo hi (ℕ_discrete q p) ∙ held.shows q r hq lo hi;
      }
    where
      n : List ℕ
      n = set m p (64 + 16 * k)

      other : (i : ℕ) → i ≢ p → get_or n i 0 ≡ get_or m i 0
      other i d = get_or-set_other m p i (64 + 16 * k) 0 d

      here : get_or n p 0 ≡ 64 + 16 * k
      here = get_or-set_same m p (64 + 16 * k) 0 (omega (arith, held.size))

      row : (q : ℕ) → q ≤ 63 → Dec (q ≡ p) → IsRow (k + 1) (get_or n q 0)
      row q h (yes d) = rw (d, here) (inr (omega arith, omega arith, omega arith))
      row q h (no d) = rw (other q d) (more_rows k (get_or m q 0) (held.rows q h))

      later : (x : ℕ) → IsRow k x → x ≢ 64 + 16 * k
      later x (inl z) = omega arith
      later x (inr (lo, hi, round)) = omega arith

      alone : (q t : ℕ) → q ≤ 63 → t ≤ 63 → Dec (q ≡ p) → Dec (t ≡ p) → get_or n q 0 ≡ get_or n t 0 → (get_or n q 0 ≡ 0) ⊎ (q ≡ t)
      alone q t hq ht (yes a) (yes b) d = inr (a ∙ sym b)
      alone q t hq ht (yes a) (no b) d =
          absurd (later (get_or m t 0) (held.rows t ht) (sym (other t b) ∙ sym d ∙ ap (λ (x : ℕ). get_or n x 0) a ∙ here))
      alone q t hq ht (no a) (yes b) d =
          absurd (later (get_or m q 0) (held.rows q hq) (sym (other q a) ∙ d ∙ ap (λ (x : ℕ). get_or n x 0) b ∙ here))
      alone q t hq ht (no a) (no b) d = rw (other q a) (held.own q t hq ht (sym (other q a) ∙ d ∙ other t b))

      within : (x r : ℕ) → IsRow k x → x ≢ 0 → x + (r - 240) ≢ p
      within x r (inl z) d = absurd (d z)
      within x r (inr (lo, hi, round)) d = omega arith

      shown : (q r : ℕ) → q ≤ 63 → 240 ≤ r → r ≤ 255 → Dec (q ≡ p) → bits_at n q r ≡ bits_at m q r
      shown q r hq lo hi (yes d) =
          rw (d, here, e, ne_eqb (64 + 16 * k) 0 (omega arith))
          (other (64 + 16 * k + (r - 240)) (omega arith) ∙ held.blank (64 + 16 * k + (r - 240)) (omega arith))
      shown q r hq lo hi (no d) =
          same_bits m n q r (other q d) (λ x. other (get_or m q 0 + (r - 240)) (within (get_or m q 0) r (held.rows q hq) x))

  -- either way its row is now one of k + 1
  pub held-row : (row : ℕ) → row ≡ row_of m p k → Held (k + 1) (set m p row) ys × (get_or (set m p row) p 0 ≡ row) × (64 ≤ row) × (row ≤ 240)
  held-row row e = go (ℕ_discrete (get_or m p 0) 0)
    where
      start : IsRow k (get_or m p 0) → get_or m p 0 ≢ 0 → 64 ≤ get_or m p 0
      start (inl z) n = absurd (n z)
      start (inr (lo, hi, round)) n = lo

      go : Dec (get_or m p 0 ≡ 0) → Held (k + 1) (set m p row) ys × (get_or (set m p row) p 0 ≡ row) × (64 ≤ row) × (row ≤ 240)
      go (yes d) =
          let new : row ≡ 64 + 16 * k = e ∙ rw (eq-eqb (get_or m p 0) 0 d) in
          rw new (held_new d, get_or-set_same m p (64 + 16 * k) 0 (omega (arith, held.size)), omega arith, omega arith)
      go (no d) =
          let old : row ≡ get_or m p 0 = e ∙ rw (ne_eqb (get_or m p 0) 0 d) in
          rw (old, set-get_or m p 0) (held_more, refl, start (held.rows p hp) d, row_within k (get_or m p 0) held.few (held.rows p hp))

-- ---- a register of a row

module _ (k : ℕ) (m : List ℕ) (ys : List Spot) (held : Held k m ys) (p row : ℕ) (hp : p ≤ 63) (here : get_or m p 0 ≡ row) (some : 64 ≤ row)
    (x b : ℕ) (lo : 240 ≤ x) (hi : x ≤ 255) where
  -- where the row stands
  bound : (row + 16 ≤ 64 + 16 * k) × (row % 16 ≡ 0)
  bound = go (held.rows p hp)
    where
      go : IsRow k (get_or m p 0) → (row + 16 ≤ 64 + 16 * k) × (row % 16 ≡ 0)
      go (inl z) = absurd (omega arith)
      go (inr (l, h, round)) = (omega arith, omega arith)

  put_other : (i : ℕ) → i ≢ row + (x - 240) → get_or (put_bits m row x b) i 0 ≡ get_or m i 0
  put_other i d = get_or-set_other m (row + (x - 240)) i b 0 d

  -- its page keeps the row
  pub put-row : get_or (put_bits m row x b) p 0 ≡ row
  put-row = put_other p (omega arith) ∙ here

  -- with its bits there it is met
  pub held-put : Held k (put_bits m row x b) (spot (page_byte p x) b ∷ ys)
  unfolding bits_at bits_of
  held-put =
      record {
        few = held.few;
        size = length-set m (row + (x - 240)) b ∙ held.size;
        rows = λ q h. rw (kept q h) (held.rows q h);
        own = λ q t hq ht. rw (kept q hq, kept t ht) (held.own q t hq ht);
        none = kept 0 (omega arith) ∙ held.none;
        blank = λ i h. put_other i (omega (arith, bound)) ∙ held.blank i h;
        shows = λ q r hq l h. shown q r hq l h (ℕ_discrete q p) (ℕ_discrete r x);
      }
    where
      kept : (q : ℕ) → q ≤ 63 → get_or (put_bits m row x b) q 0 ≡ get_or m q 0
      kept q h = put_other q (omega arith)

      same : (q r : ℕ) → 240 ≤ r → r ≤ 255 → IsRow k (get_or m q 0) → get_or m q 0 ≢ 0 → get_or m q 0 + (r - 240) ≡ row + (x - 240)
          → (get_or m q 0 ≡ row) × (r ≡ x)
      same q r l h (inl z) n i = absurd (n z)
      same q r l h (inr (s, t, round)) n i = (omega (arith, bound), omega (arith, bound))

      alone : (q : ℕ) → (get_or m q 0 ≡ 0) ⊎ (q ≡ p) → get_or m q 0 ≢ 0 → q ≡ p
      alone q (inl z) n = absurd (n z)
      alone q (inr e) n = e

      apart : (q r : ℕ) → (q ≢ p) ⊎ (r ≢ x) → q ≡ p → r ≡ x → ⊥
      apart q r (inl d) e f = d e
      apart q r (inr d) e f = d f

      old : (q r : ℕ) → q ≤ 63 → 240 ≤ r → r ≤ 255 → (q ≢ p) ⊎ (r ≢ x)
          → bits_at (put_bits m row x b) q r ≡ bits_of (spot (page_byte p x) b ∷ ys) (page_byte q r)
      old q r hq l h d =
          same_bits m (put_bits m row x b) q r (kept q hq) (λ n. put_other (get_or m q 0 + (r - 240)) (λ i.
          let (e, f) = same q r l h (held.rows q hq) n i in
          apart q r d (alone q (held.own q p hq hp (e ∙ sym here)) n) f))
          ∙ held.shows q r hq l h
          ∙ sym (rw (ne_eqb (page_byte q r) (page_byte p x) (λ i. let (e, f) = pairs_apart q r p x (l, h) (lo, hi) i in apart q r d e f)))

      shown : (q r : ℕ) → q ≤ 63 → 240 ≤ r → r ≤ 255 → Dec (q ≡ p) → Dec (r ≡ x)
          → bits_at (put_bits m row x b) q r ≡ bits_of (spot (page_byte p x) b ∷ ys) (page_byte q r)
      shown q r hq l h (no d) e = old q r hq l h (inl d)
      shown q r hq l h (yes e) (no d) = old q r hq l h (inr d)
      shown q r hq l h (yes e) (yes d) =
          rw (e, d, put-row, ne_eqb row 0 (omega arith), eq-eqb (page_byte p x) (page_byte p x) refl)
          (get_or-set_same m (row + (x - 240)) b 0 (omega (arith, bound, held.size, held.few)))

-- ---- registers of a row, one after another

-- one of R240 to R255, with bits
abbrev pub InRow : Spot → Type 0
InRow x = (240 ≤ x.place) × (x.place ≤ 255) × (eqb x.bits 0 ≡ false)

abbrev pub AllInRow : List Spot → Type 0
AllInRow [] = Unit {0}
AllInRow (x ∷ xs) = InRow x × AllInRow xs

-- with their bits there they are met
pub held_all : (xs : List Spot) (k : ℕ) (m : List ℕ) (ys : List Spot) → Held k m ys → (p row : ℕ) → p ≤ 63 → get_or m p 0 ≡ row → 64 ≤ row → AllInRow xs
    → Held k (seeing m row xs) (onto (map (on_page p) xs) ys)
unfolding seeing onto
held_all [] k m ys held p row hp here some ranged = held
held_all (x ∷ xs) k m ys held p row hp here some ((lo, hi, solid), ranged) =
    held_all xs k (put_bits m row x.place x.bits) (on_page p x ∷ ys)
    (held-put k m ys held p row hp here some x.place x.bits lo hi) p row hp
    (put-row k m ys held p row hp here some x.place x.bits lo hi) some ranged

-- tests regrouped
regroup : (a u m d : Bool) → a ≡ not m → ((a && u) && d) ≡ (u && (not m && d))
regroup a true true d e = rw e
regroup a true false d e = rw e
regroup a false m d e = rw e (ap (λ (b : Bool). b && d) (and-false (not m)))

-- each is met for the first time exactly if no byte is then twice
pub unseen-all : (xs : List Spot) (k : ℕ) (m : List ℕ) (ys : List Spot) → Held k m ys → Solid ys → (p row : ℕ) → p ≤ 63 → get_or m p 0 ≡ row → 64 ≤ row
    → AllInRow xs → (unseen m row xs && distinct (bytes ys)) ≡ distinct (bytes (onto (map (on_page p) xs) ys))
unfolding unseen onto distinct
unseen-all [] k m ys held full p row hp here some ranged = refl
unseen-all (x ∷ xs) k m ys held full p row hp here some ((lo, hi, solid), ranged) =
    regroup (eqb (bits_in m row x.place) 0) (unseen (put_bits m row x.place x.bits) row xs) (member (page_byte p x.place) (bytes ys))
    (distinct (bytes ys))
    (ap (λ (e : ℕ). eqb e 0) met ∙ bits-member ys (page_byte p x.place) full)
    ∙ unseen-all xs k (put_bits m row x.place x.bits) (on_page p x ∷ ys)
    (held-put k m ys held p row hp here some x.place x.bits lo hi) (solid, full) p row hp
    (put-row k m ys held p row hp here some x.place x.bits lo hi) some ranged
  where
    met : bits_in m row x.place ≡ bits_of ys (page_byte p x.place)
    met = sym (look m p row x.place here some) ∙ held.shows p x.place hp lo hi
