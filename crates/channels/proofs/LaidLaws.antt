-- What a list that is laid out gives to those who read the two arrays. Assumes nothing.
use mathlib.Core.Path.{◌≡◌, refl, sym, ap, ◌∙◌}
use mathlib.Core.Logic.{◌≢◌, ◌⊎◌, inl, inr}
use mathlib.Core.Bool.{true, false}
use mathlib.Core.List.{List, []}
use Prim.Native.Nat.{ℕ, ◌+◌, ◌-◌, ◌≤◌, ◌<◌}
use native.Mathlib.Omega.{arith}
use native.Mathlib.Nat.{not-suc-le-zero}
use lib.Dec.{ltb}
use lib.ListN.{length, get_or}
use borrow.Author.Tests.{ne_eqb, ltb-true, ltb-false}
use Rattle.rules.specs.declared.Channel.{Channel}
use Rattle.std.specs.Prelude.{None}
use Rattle.rules.specs.Image.{image_length, page_byte, MARK}
use Rattle.rules.specs.Channels.{most_records, record_at, records_ok, distinct, all_bytes, list_ok}
use Rattle.rules.specs.Registers.{records_place}
use Rattle.rules.proofs.Bools.{true_or}
use Rattle.rules.proofs.ChannelLaws.{register_byte, register_range}
use Rattle.channels.specs.declared.RecordBytes.{RecordBytes}
use Rattle.channels.specs.Laid.{no_masks, no_places, bits_in, bits_at, place_by, bytes_at, LaidList, LaidMasks, LaidPlaces, BeforeMark}
use Rattle.channels.proofs.SpotLaws.{bits_of}
use Rattle.channels.proofs.RowLaws.{row_within, held_none}
use Rattle.channels.proofs.FilledLaws.{blank-idcr}

-- an empty list is laid out by the blank arrays
pub laid_none : LaidList [] no_masks no_places 0
unfolding bits_of records_place
laid_none = (
  record {
    rows = λ p h. row_within 0 (get_or no_masks p 0) held_none.few (held_none.rows p h);
    none = held_none.none;
    place = λ p r hp lo hi. ap (place_by (page_byte p r)) (sym (held_none.shows p r hp lo hi));
  },
  record { there = λ k h. absurd (not-suc-le-zero h); others = λ k lo hi. blank-idcr k hi; count = refl },
)

-- and within the rules
pub none_ok : list_ok [] ≡ true
unfolding list_ok records_ok distinct all_bytes
none_ok = refl

-- ---- the places of a list within the rules

module _ {cs : List Channel} {places : List RecordBytes} {n : ℕ} (ok : list_ok cs ≡ true) (laid : LaidPlaces cs places n) where
  -- record k's registers lie before the mark
  pub before_mark : (k : ℕ) → k < length cs → BeforeMark (bytes_at places k)
  before_mark k h =
      let before : (q : ℕ) → q < 5 → register_byte (record_at cs k) q < MARK = λ q l. omega (arith, (register_range cs ok k q h l).1) in
      rw (laid.there k h)
      record {
        idcr = before 0 (omega arith);
        ivr = before 1 (omega arith);
        dcpr = before 2 (omega arith);
        dapr = before 3 (omega arith);
        «data» = before 4 (omega arith);
      }

  -- the byte of every IDCR is one of the image, the mark's for one that is not there
  pub idcr_in : (k : ℕ) → k < most_records → (bytes_at places k).idcr < image_length
  idcr_in k h = go (true_or (ltb k (length cs)))
    where
      go : (ltb k (length cs) ≡ true) ⊎ (ltb k (length cs) ≡ false) → (bytes_at places k).idcr < image_length
      go (inl t) = omega (arith, (before_mark k (ltb-true k (length cs) t)).idcr)
      go (inr t) = omega (arith, laid.others k (ltb-false k (length cs) t) h)

-- ---- where a register of a page goes, by the masks

-- a register's place in a row, with 240 taken away last
pub in_row : (row r : ℕ) → 240 ≤ r → row + r - 240 ≡ row + (r - 240)
in_row row r h = omega arith

module _ {cs : List Channel} {masks : List ℕ} (laid : LaidMasks cs masks) (p : ℕ) (hp : p ≤ 63) where
  -- a page without a row has none
  pub laid_without_row : get_or masks p 0 ≡ 0 → (r : ℕ) → 240 ≤ r → r ≤ 255 → records_place cs p r ≡ None
  unfolding bits_at
  laid_without_row e r lo hi = laid.place p r hp lo hi ∙ rw e

  -- one with a row is not page 0, and its registers go where bits exist in the row
  pub laid_not_zero : get_or masks p 0 ≢ 0 → p ≢ 0
  laid_not_zero n e = n (ap (λ (x : ℕ). get_or masks x 0) e ∙ laid.none)

  pub laid_in_row : get_or masks p 0 ≢ 0 → (r : ℕ) → 240 ≤ r → r ≤ 255 → records_place cs p r ≡ place_by (page_byte p r) (bits_in masks (get_or masks p 0) r)
  unfolding bits_at
  laid_in_row n r lo hi = laid.place p r hp lo hi ∙ rw (ne_eqb (get_or masks p 0) 0 n)
