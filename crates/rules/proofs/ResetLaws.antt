-- What reset leaves: by the table's row, by the bit, and by the register. Assumes nothing.
use Rattle.std.specs.Prelude.{Ok}
use mathlib.Core.Path.{◌≡◌, refl, sym, ap, subst, ◌∙◌}
use mathlib.Core.Logic.{◌≢◌, ◌⊎◌, inl, inr}
use mathlib.Core.Bool.{Bool, true, false, false≢true, cond, not, ◌&&◌, ◌||◌}
use Prim.Native.Nat.{ℕ, zero, suc, ◌-◌, ◌/◌, ◌%◌, ◌≤◌, ◌<◌}
use native.Mathlib.Omega.{arith}
use native.Mathlib.Decide.{ℕ_discrete}
use lib.Dec.{eqb, ltb, leb}
use lib.Bits.{bit_and, and_zero_r, or_zero_l, or_zero_r}
use lib.ListN.{length, set, length-set}
use lib.Seq.{get_or-set_same, get_or-set_other, set-get_or}
use borrow.Author.Tests.{ne_eqb, eqb-true, ltb-true, lt-leb}
use Rattle.bits.specs.Bits.{digit, bit}
use Rattle.bits.proofs.BitLaws.{bit-bit_and, bit-bit_or, bit_not, and_byte}
use Rattle.bits.proofs.Tests.{passes, passes₂, same-below, holds}
use Rattle.rules.specs.declared.Answer.TheVariants as answer
use Rattle.rules.specs.Image.{Image, image_length, at, CICR, MODER, EITR, EIPR, EIMR, EIPLR, EIVR, NICR, MARK}
use Rattle.rules.specs.Channels.{between}
use Rattle.rules.specs.Table.{Row, rows, row_at, row_count, row_place}
use Rattle.rules.specs.Outcomes.{outcome}
use Rattle.rules.specs.Registers.{reset_byte, reset_row, reset_rows, reset_of}
use Rattle.rules.proofs.Bools.{and_l, and_r, or_cases}
use Rattle.rules.proofs.ImageLaws.{at_any}

-- ---- the table

-- the row that stands at a byte
abbrev row_of : ℕ → ℕ
row_of i = cond (ltb i 240) (i - 224) (i - 226)

-- the rows are of R224 to R239 and of R242 to R247 of page 0
pub row_registers : (k : ℕ) → k < row_count → (between 224 239 (row_place k) || between 242 247 (row_place k)) ≡ true
unfolding row_place
row_registers k h = holds _ (passes row_count (λ k. between 224 239 (row_place k) || between 242 247 (row_place k)) tt k h)

-- one each: no two rows stand at one byte
pub rows_apart : (j k : ℕ) → j < row_count → k < row_count → j ≢ k → row_place j ≢ row_place k
unfolding row_place
rows_apart j k hj hk d e =
    let back : (k : ℕ) → k < row_count → row_of (row_place k) ≡ k = same-below row_count (λ k. row_of (row_place k)) (λ k. k) tt in
    d (sym (back j hj) ∙ ap row_of e ∙ back k hk)

-- each before R248 of page 0
pub row_below : (k : ℕ) → k < row_count → row_place k < 248
unfolding row_place
row_below k h = ltb-true (row_place k) 248 (holds (ltb (row_place k) 248) (passes row_count (λ k. ltb (row_place k) 248) tt k h))

-- ---- row by row

rows-length : (n : ℕ) (m : Image) → length (reset_rows n m) ≡ length m
unfolding reset_rows reset_row
rows-length zero m = refl
rows-length (suc n) m = length-set (reset_rows n m) (row_place n) (reset_byte (row_at n) (at (reset_rows n m) (row_place n))) ∙ rows-length n m

-- a byte stays where no row stands, or only one that leaves it
rows-fixed : (n : ℕ) (m : Image) (i : ℕ) → ((k : ℕ) → k < n → i ≡ row_place k → reset_byte (row_at k) (at m i) ≡ at m i) → at (reset_rows n m) i ≡ at m i
unfolding reset_rows reset_row
rows-fixed zero m i f = refl
rows-fixed (suc n) m i f = go (rows-fixed n m i (λ k h. f k (omega arith))) (ℕ_discrete i (row_place n))
  where
    new : ℕ
    new = reset_byte (row_at n) (at (reset_rows n m) (row_place n))

    go : at (reset_rows n m) i ≡ at m i → Dec (i ≡ row_place n) → at (reset_row n (reset_rows n m)) i ≡ at m i
    go before (no d) = get_or-set_other (reset_rows n m) (row_place n) i new 0 d ∙ before
    go before (yes e) =
        at_any (reset_rows n m) (row_place n) new (λ (x : ℕ). x)
        (subst (λ (x : ℕ). reset_byte (row_at n) x ≡ x) (sym before ∙ ap (at (reset_rows n m)) e) (f n (omega arith) e)) i
        ∙ before

rows-done : (n : ℕ) (m : Image) (k : ℕ) → n ≤ row_count → length m ≡ image_length → k < n
    → at (reset_rows n m) (row_place k) ≡ reset_byte (row_at k) (at m (row_place k))
unfolding reset_rows reset_row
rows-done zero m k hn long h = absurd (omega arith)
rows-done (suc n) m k hn long h = go (ℕ_discrete k n) (rows-done n m k (omega arith) long)
  where
    new : ℕ
    new = reset_byte (row_at n) (at (reset_rows n m) (row_place n))

    go : Dec (k ≡ n) → (k < n → at (reset_rows n m) (row_place k) ≡ reset_byte (row_at k) (at m (row_place k)))
        → at (reset_row n (reset_rows n m)) (row_place k) ≡ reset_byte (row_at k) (at m (row_place k))
    go (no d) before =
        get_or-set_other (reset_rows n m) (row_place n) (row_place k) new 0 (rows_apart k n (omega arith) (omega arith) d) ∙ before (omega arith)
    go (yes e) before =
        rw e (get_or-set_same (reset_rows n m) (row_place n) new 0 (omega (arith, row_below n (omega arith), rows-length n m))
        ∙ ap (reset_byte (row_at n)) (rows-fixed n m (row_place n) (λ j g q. absurd (rows_apart n j (omega arith) (omega arith) (omega arith) q))))

-- ---- what reset makes of a byte

merge : (r v o : Bool) → (r || not v) ≡ true → ((o && not r) || v) ≡ cond r v o
merge true v true e = refl
merge true v false e = refl
merge false true o e = absurd (false≢true e)
merge false false true e = refl
merge false false false e = refl

-- the masks are of a byte, and a value has no bit outside its mask
masks : (k j : ℕ) → k < row_count → j < 8 → ((row_at k).reset < 256) × ((bit j (row_at k).reset || not (bit j (row_at k).value)) ≡ true)
unfolding rows digit bit
masks k j hk hj = (
  ltb-true _ 256 (holds (ltb (row_at k).reset 256) (passes row_count (λ k. ltb (row_at k).reset 256) tt k hk)),
  holds _ (passes₂ row_count 8 (λ k j. bit j (row_at k).reset || not (bit j (row_at k).value)) tt k j hk hj),
)

mask_bit : (w : Row) (j old : ℕ) → j < 8 → (w.reset < 256) × ((bit j w.reset || not (bit j w.value)) ≡ true)
    → bit j (reset_byte w old) ≡ cond (bit j w.reset) (bit j w.value) (bit j old)
unfolding reset_byte
mask_bit w j old hj h =
    bit-bit_or j (bit_and old (255 - w.reset)) w.value
    ∙ ap (λ (t : Bool). t || bit j w.value) (bit-bit_and j old (255 - w.reset) ∙ ap (λ (t : Bool). bit j old && t) (bit_not j w.reset hj h.0))
    ∙ merge (bit j w.reset) (bit j w.value) (bit j old) h.1

-- a row that reset sets whole, and one that it leaves
byte-set : (w : Row) (old : ℕ) → w.reset ≡ 255 → reset_byte w old ≡ w.value
unfolding reset_byte
byte-set w old e = rw (e, and_zero_r, or_zero_l)

byte-kept : (w : Row) (old : ℕ) → old < 256 → w.reset ≡ 0 → w.value ≡ 0 → reset_byte w old ≡ old
unfolding reset_byte
byte-kept w old h p q = rw (p, q) (or_zero_r (bit_and old 255) ∙ and_byte old h)

settled : (w : Row) (old : ℕ) → old < 256 → (eqb w.reset 255 || eqb w.reset 0 && eqb w.value 0) ≡ true
    → reset_byte w (reset_byte w old) ≡ reset_byte w old
settled w old h t = go (or_cases (eqb w.reset 255) (eqb w.reset 0 && eqb w.value 0) t)
  where
    go : (eqb w.reset 255 ≡ true) ⊎ ((eqb w.reset 0 && eqb w.value 0) ≡ true) → reset_byte w (reset_byte w old) ≡ reset_byte w old
    go (inl e) = byte-set w (reset_byte w old) (eqb-true _ 255 e) ∙ sym (byte-set w old (eqb-true _ 255 e))
    go (inr e) = ap (reset_byte w) (byte-kept w old h (eqb-true _ 0 (and_l (eqb w.reset 0) _ e)) (eqb-true _ 0 (and_r (eqb w.reset 0) _ e)))

-- a row is set whole, left, or EIVR's: a second reset changes nothing
byte_twice : (k old : ℕ) → k < row_count → old < 256 → reset_byte (row_at k) (reset_byte (row_at k) old) ≡ reset_byte (row_at k) old
unfolding rows reset_byte
byte_twice k old hk h =
    go (or_cases (plainly k) (eqb k 20) (holds (plainly k || eqb k 20) (passes row_count (λ k. plainly k || eqb k 20) tt k hk)))
  where
    plainly : ℕ → Bool
    plainly k = eqb (row_at k).reset 255 || eqb (row_at k).reset 0 && eqb (row_at k).value 0

    go : (plainly k ≡ true) ⊎ (eqb k 20 ≡ true) → reset_byte (row_at k) (reset_byte (row_at k) old) ≡ reset_byte (row_at k) old
    go (inl t) = settled (row_at k) old h t
    go (inr e) =
        subst (λ (x : ℕ). reset_byte (row_at x) (reset_byte (row_at x) old) ≡ reset_byte (row_at x) old) (sym (eqb-true k 20 e))
        (same-below 256 (λ b. reset_byte (row_at 20) (reset_byte (row_at 20) b)) (reset_byte (row_at 20)) tt old h)

rows_twice : (n : ℕ) → n ≤ row_count → (m : Image) → ((k : ℕ) → k < row_count → reset_byte (row_at k) (at m (row_place k)) ≡ at m (row_place k))
    → reset_rows n m ≡ m
unfolding reset_rows reset_row
rows_twice zero h m fixed = refl
rows_twice (suc n) h m fixed =
    ap (reset_row n) (rows_twice n (omega arith) m fixed) ∙ ap (set m (row_place n)) (fixed n (omega arith)) ∙ set-get_or m (row_place n) 0

-- ---- the bytes that reset leaves

-- not CICR, not MODER, none of R242 to R247 of page 0 and not the mark: PPR and every record's registers among them
abbrev pub Beyond : ℕ → Type 0
Beyond i = (i ≢ CICR) × (i ≢ MODER) × ((i < EITR) ⊎ (NICR < i)) × (i ≢ MARK)

kept_test : (p r v : ℕ) → p < 248 → Beyond p → (eqb p CICR || eqb p MODER || leb EITR p || eqb r 0 && eqb v 0) ≡ true → (r ≡ 0) × (v ≡ 0)
kept_test p r v h (c, d, out, n) t =
    let e : (eqb r 0 && eqb v 0) ≡ true = rw (ne_eqb p CICR c, ne_eqb p MODER d, lt-leb EITR p (under out)) at t in
    (eqb-true r 0 (and_l (eqb r 0) (eqb v 0) e), eqb-true v 0 (and_r (eqb r 0) (eqb v 0) e))
  where
    under : (p < EITR) ⊎ (NICR < p) → p < EITR
    under (inl l) = l
    under (inr l) = absurd (omega arith)

-- every row there is one that reset leaves
kept_row : (k : ℕ) → k < row_count → Beyond (row_place k) → ((row_at k).reset ≡ 0) × ((row_at k).value ≡ 0)
unfolding rows row_place
kept_row k h b =
    kept_test (row_place k) (row_at k).reset (row_at k).value (row_below k h) b
    (holds _ (passes row_count (λ k. eqb (row_place k) CICR || eqb (row_place k) MODER || leb EITR (row_place k)
    || eqb (row_at k).reset 0 && eqb (row_at k).value 0) tt k h))

-- ---- the image after reset

-- the registers that reset changes, as document 01's table has them: EIVR keeps bits 7:4 and has low half 6
pub record AfterReset (m new : Image) : Type 0 where
  pub cicr : at new CICR ≡ 0x87
  pub moder : at new MODER ≡ 0xe0
  pub eitr : at new EITR ≡ 0x00
  pub eipr : at new EIPR ≡ 0x00
  pub eimr : at new EIMR ≡ 0x00
  pub eiplr : at new EIPLR ≡ 0xff
  pub nicr : at new NICR ≡ 0x00
  pub vector : at new EIVR / 16 ≡ at m EIVR / 16
  pub low : at new EIVR % 16 ≡ 6
  pub mark : at new MARK ≡ 0

-- reset answers that it is done
pub reset-answer : (m : Image) → (reset_of m).answer ≡ (Ok answer.Reset)
unfolding reset_of
reset-answer m = refl

-- and leaves an image as long
pub reset-length : (m : Image) → length (reset_of m).left ≡ length m
unfolding reset_of
reset-length m = length-set (reset_rows row_count m) MARK 0 ∙ rows-length row_count m

-- a byte that is no row's and not the mark stays
pub reset-elsewhere : (m : Image) (i : ℕ) → ((k : ℕ) → k < row_count → i ≢ row_place k) → i ≢ MARK → at (reset_of m).left i ≡ at m i
unfolding reset_of
reset-elsewhere m i d n = get_or-set_other (reset_rows row_count m) MARK i 0 0 n ∙ rows-fixed row_count m i (λ k h e. absurd (d k h e))

module _ (m : Image) (long : length m ≡ image_length) where
  -- each row's byte
  pub reset-row : (k : ℕ) → k < row_count → at (reset_of m).left (row_place k) ≡ reset_byte (row_at k) (at m (row_place k))
  unfolding reset_of
  reset-row k h =
      get_or-set_other (reset_rows row_count m) MARK (row_place k) 0 0 (omega (arith, row_below k h)) ∙ rows-done row_count m k (omega arith) long h

  -- reset changes exactly the bits of the row's mask, and gives them the row's value
  pub reset-bit : (k j : ℕ) → k < row_count → j < 8
      → bit j (at (reset_of m).left (row_place k)) ≡ cond (bit j (row_at k).reset) (bit j (row_at k).value) (bit j (at m (row_place k)))
  reset-bit k j hk hj = ap (bit j) (reset-row k hk) ∙ mask_bit (row_at k) j (at m (row_place k)) hj (masks k j hk hj)

  -- reset clears the mark
  pub reset-mark : at (reset_of m).left MARK ≡ 0
  unfolding reset_of
  reset-mark = get_or-set_same (reset_rows row_count m) MARK 0 0 (omega (arith, rows-length row_count m))

  -- the table's last column
  pub after-reset : at m EIVR < 256 → AfterReset m (reset_of m).left
  unfolding rows row_place reset_byte
  after-reset b = record {
    cicr = whole 6 (omega arith) refl;
    moder = whole 11 (omega arith) refl;
    eitr = whole 16 (omega arith) refl;
    eipr = whole 17 (omega arith) refl;
    eimr = whole 18 (omega arith) refl;
    eiplr = whole 19 (omega arith) refl;
    nicr = whole 21 (omega arith) refl;
    vector = ap (λ (x : ℕ). x / 16) (reset-row 20 (omega arith)) ∙ same-below 256 (λ x. reset_byte (row_at 20) x / 16) (λ x. x / 16) tt (at m EIVR) b;
    low = ap (λ (x : ℕ). x % 16) (reset-row 20 (omega arith)) ∙ same-below 256 (λ x. reset_byte (row_at 20) x % 16) (λ x. 6) tt (at m EIVR) b;
    mark = reset-mark;
  }
    where
      whole : (k : ℕ) → k < row_count → (row_at k).reset ≡ 255 → at (reset_of m).left (row_place k) ≡ (row_at k).value
      whole k h e = reset-row k h ∙ byte-set (row_at k) (at m (row_place k)) e

  -- everything else stays as stored: R0 to R223, PPR and the thirteen other system registers, the rest of page 0, pages 1 to 63
  pub reset-kept : (i : ℕ) → at m i < 256 → Beyond i → at (reset_of m).left i ≡ at m i
  unfolding reset_of
  reset-kept i h b =
      get_or-set_other (reset_rows row_count m) MARK i 0 0 b.3
      ∙ rows-fixed row_count m i (λ k g e. let w = kept_row k g (rw e at b) in byte-kept (row_at k) (at m i) h w.0 w.1)

  -- reset twice is reset once
  pub reset_twice : ((i : ℕ) → at m i < 256) → reset_of (reset_of m).left ≡ reset_of m
  unfolding reset_of
  reset_twice bytes =
      ap (λ (l : Image). outcome (Ok answer.Reset) (set l MARK 0)) (rows_twice row_count (omega arith) (reset_of m).left fixed)
      ∙ ap (outcome (Ok answer.Reset)) (ap (set (reset_of m).left MARK) (sym reset-mark) ∙ set-get_or (reset_of m).left MARK 0)
    where
      fixed : (k : ℕ) → k < row_count → reset_byte (row_at k) (at (reset_of m).left (row_place k)) ≡ at (reset_of m).left (row_place k)
      fixed k h = ap (reset_byte (row_at k)) (reset-row k h) ∙ byte_twice k (at m (row_place k)) h (bytes (row_place k)) ∙ sym (reset-row k h)
