-- The loop of the check of a list, by the registers of the records that it has met. Assumes nothing.
use mathlib.Core.Path.{◌≡◌, refl, sym, ap, ◌∙◌}
use mathlib.Core.Bool.{Bool, true, false, ◌&&◌, and-true, and-false}
use mathlib.Core.List.{List, [], ◌∷◌}
use Prim.Native.Nat.{ℕ, zero, suc, ◌+◌, ◌≤◌, ◌<◌}
use native.Mathlib.Omega.{arith}
use native.Mathlib.Numerals.{add-one}
use lib.Dec.{eqb}
use lib.ListN.{length, get_or, set}
use Rattle.rules.specs.declared.Channel.{Channel}
use Rattle.rules.specs.declared.Channels.{Channels}
use Rattle.rules.specs.Channels.{most_records, record_ok, records_ok, distinct, list_ok, list_of}
use Rattle.rules.specs.Image.{page_byte}
use Rattle.rules.proofs.ListLaws.{list_of-length}
use Rattle.rules.proofs.ChannelLaws.{register_number, record_in_range}
use Rattle.channels.specs.Laid.{no_masks, place_by, LaidMasks}
use Rattle.channels.specs.Seen.{Spot, spot, registers_of, row_of, SeesAll, unseen}
use Rattle.channels.proofs.RestLaws.{rest, rest_cons, rest-none}
use Rattle.channels.proofs.ItemLaws.{item_at}
use Rattle.channels.proofs.SpotLaws.{record_spots, all_spots, bits_of, bytes, Solid, onto, solid_onto, left_ok, left-all, left_cons, left-refused, met-place}
use Rattle.channels.proofs.RowLaws.{InRow, AllInRow, Held, row_within, held_none, held-row, held_all, unseen-all}

-- the registers of the first k items
unfoldable pub met : Channels → ℕ → List Spot
met all zero = []
met all (suc k) = onto (record_spots (item_at all k)) (met all k)

solid_met : (all : Channels) (k : ℕ) → Solid (met all k)
unfolding met
solid_met all zero = tt
solid_met all (suc k) = solid_onto (record_spots (item_at all k)) (met all k) (refl, (refl, (refl, (refl, (refl, tt))))) (solid_met all k)

-- so far no byte is twice, and the masks hold the registers met
pub record Checked (all : Channels) (k : ℕ) (masks : List ℕ) : Type 0 where
  pub once : distinct (bytes (met all k)) ≡ true
  pub left : list_ok (list_of all) ≡ left_ok (met all k) (rest all k)
  pub held : Held k masks (met all k)

-- the registers of a record in range
registers_in_row : (c : Channel) → record_ok c ≡ true → AllInRow (registers_of c)
registers_in_row c ok =
    let w = record_in_range c ok in
    let one : (q : ℕ) → q < 5 → (b : ℕ) → eqb b 0 ≡ false → InRow (spot (register_number c q) b)
    = λ q h b e. (w.register-low q h, w.register_high q h, e) in
    (one 0 (omega arith) 0x3f refl, (one 1 (omega arith) 0xff refl, (one 2 (omega arith) 0xff refl, (one 3 (omega arith) 0xff refl, (one 4 (omega arith) 0xff refl, tt)))))

module _ (all : Channels) (full : length all.items ≡ most_records) (short : all.count ≤ most_records) where
  -- at the start
  pub checked_none : Checked all 0 no_masks
  unfolding met distinct
  checked_none =
      record {
        once = refl;
        left = left-all (list_of all) (omega (arith, list_of-length all full short));
        held = held_none;
      }

  met-more : (k : ℕ) → met all (k + 1) ≡ onto (record_spots (item_at all k)) (met all k)
  unfolding met
  met-more k = rw add-one

  -- what is left before record k, and after it
  left_turn : (k : ℕ) → k < all.count → left_ok (met all k) (rest all k) ≡ (record_ok (item_at all k) && left_ok (met all (k + 1)) (rest all (k + 1)))
  left_turn k h =
      ap (left_ok (met all k)) (rest_cons all full short k h) ∙ left_cons (met all k) (item_at all k) (rest all (k + 1))
      ∙ ap (λ (ys : List Spot). record_ok (item_at all k) && left_ok ys (rest all (k + 1))) (sym (met-more k))

  module _ (k : ℕ) (masks : List ℕ) (checked : Checked all k masks) (h : k < all.count) where
    -- a record out of range
    pub checked_out : record_ok (item_at all k) ≡ false → list_ok (list_of all) ≡ false
    checked_out e = checked.left ∙ left_turn k h ∙ rw e

    -- one in range: it has a row, and its registers are met for the first time exactly if no byte is then twice
    module _ (ok : record_ok (item_at all k) ≡ true) (row : ℕ) (opened : row ≡ row_of masks (item_at all k).page k) (t : List ℕ)
        (same : t ≡ set masks (item_at all k).page row) where
      ready : Held (k + 1) t (met all k) × (get_or t (item_at all k).page 0 ≡ row) × (64 ≤ row) × (row ≤ 240)
      ready =
          let w = record_in_range (item_at all k) ok in
          rw same (held-row k masks (met all k) checked.held (item_at all k).page w.page_low w.page_high (omega arith) row opened)

      first : unseen t row (registers_of (item_at all k)) ≡ distinct (bytes (met all (k + 1)))
      first =
          let s = ready in
          sym (and-true _) ∙ ap (λ (b : Bool). unseen t row (registers_of (item_at all k)) && b) (sym checked.once)
          ∙ unseen-all (registers_of (item_at all k)) (k + 1) t (met all k) s.0 (solid_met all k) (item_at all k).page row
          (record_in_range (item_at all k) ok).page_high s.1 s.2 (registers_in_row (item_at all k) ok)
          ∙ ap (λ (ys : List Spot). distinct (bytes ys)) (sym (met-more k))

      module _ (b : Bool) (u : List ℕ) (seen : SeesAll t row (registers_of (item_at all k)) b u) where
        pub checked_twice : b ≡ false → list_ok (list_of all) ≡ false
        checked_twice e =
            checked.left ∙ left_turn k h
            ∙ ap (λ (a : Bool). record_ok (item_at all k) && a) (left-refused (met all (k + 1)) (rest all (k + 1)) (sym first ∙ sym seen.0 ∙ e))
            ∙ and-false (record_ok (item_at all k))

        pub checked_turn : b ≡ true → Checked all (k + 1) u
        checked_turn e =
            let s = ready in
            record {
              once = sym first ∙ sym seen.0 ∙ e;
              left = checked.left ∙ left_turn k h ∙ rw ok;
              held = rw (seen.1, met-more k) (held_all (registers_of (item_at all k)) (k + 1) t (met all k) s.0 (item_at all k).page row
                  (record_in_range (item_at all k) ok).page_high s.1 s.2 (registers_in_row (item_at all k) ok));
            }

  -- those met and those left are all
  met-left : (k : ℕ) → k ≤ all.count → onto (all_spots (rest all k)) (met all k) ≡ onto (all_spots (list_of all)) []
  unfolding met all_spots onto
  met-left zero h = refl
  met-left (suc k) h = sym (step (rest_cons all full short k (omega arith))) ∙ met-left k (omega arith)
    where
      step : rest all k ≡ item_at all k ∷ rest all (k + 1)
          → onto (all_spots (rest all k)) (met all k) ≡ onto (all_spots (rest all (suc k))) (onto (record_spots (item_at all k)) (met all k))
      step e = rw (e, add-one)

  met_all : met all all.count ≡ onto (all_spots (list_of all)) []
  unfolding all_spots onto
  met_all = sym (nothing (rest-none all full short)) ∙ met-left all.count (omega arith)
    where
      nothing : rest all all.count ≡ [] → onto (all_spots (rest all all.count)) (met all all.count) ≡ met all all.count
      nothing e = rw e

  -- at the end the list is within the rules, and its masks are laid out
  pub checked_ok : (masks : List ℕ) → Checked all all.count masks → list_ok (list_of all) ≡ true
  unfolding records_ok all_spots onto
  checked_ok masks checked = checked.left ∙ ap (left_ok (met all all.count)) (rest-none all full short) ∙ checked.once

  pub checked_masks : (masks : List ℕ) → Checked all all.count masks → LaidMasks (list_of all) masks
  checked_masks masks checked =
      record {
        rows = λ p h. row_within all.count (get_or masks p 0) short (checked.held.rows p h);
        none = checked.held.none;
        place = λ p r hp lo hi. met-place (list_of all) whole p r lo hi
            ∙ ap (place_by (page_byte p r)) (ap (λ (ys : List Spot). bits_of ys (page_byte p r)) (sym met_all) ∙ sym (checked.held.shows p r hp lo hi));
      }
    where
      whole : left_ok [] (list_of all) ≡ true
      whole = sym (left-all (list_of all) (omega (arith, list_of-length all full short))) ∙ checked_ok masks checked
