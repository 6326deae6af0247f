-- The places as the check of a list fills them, a record a turn. Assumes nothing.
use mathlib.Core.Path.{◌≡◌, sym, ap, ◌∙◌}
use mathlib.Core.List.{List}
use Prim.Native.Nat.{ℕ, ◌+◌, ◌≤◌, ◌<◌}
use native.Mathlib.Omega.{arith}
use native.Mathlib.Nat.{not-suc-le-zero}
use native.Mathlib.Decide.{ℕ_discrete}
use lib.ListN.{length, set, length-replicate, length-set, get_or-replicate}
use lib.Seq.{get_or-set_same, get_or-set_other}
use Rattle.rules.specs.declared.Channels.{Channels}
use Rattle.rules.specs.Image.{MARK}
use Rattle.rules.specs.Channels.{most_records, list_of}
use Rattle.rules.proofs.ListLaws.{list_of-length, list_of-at}
use Rattle.channels.specs.declared.RecordBytes.{RecordBytes}
use Rattle.channels.specs.Laid.{bytes_of, no_bytes, bytes_at, blank, no_places, LaidPlaces}
use Rattle.channels.proofs.ItemLaws.{item_at}

-- the first k records stand there, and no later one
pub record Filled (all : Channels) (places : List RecordBytes) (k : ℕ) : Type 0 where
  pub long : length places ≡ most_records
  pub before : (l : ℕ) → l < k → bytes_at places l ≡ bytes_of (item_at all l)
  pub after : (l : ℕ) → k ≤ l → l < most_records → (bytes_at places l).idcr ≡ MARK

-- none yet
pub blank-idcr : (k : ℕ) → k < most_records → (bytes_at no_places k).idcr ≡ MARK
blank-idcr k h = ap (λ (b : RecordBytes). b.idcr) (get_or-replicate most_records k blank no_bytes h)

pub filled_none : (all : Channels) → Filled all no_places 0
filled_none all =
    record { long = length-replicate most_records blank; before = λ l h. absurd (not-suc-le-zero h); after = λ l lo hi. blank-idcr l hi }

-- record k after them
pub filled_turn : (all : Channels) (places t : List RecordBytes) (k : ℕ) → k < most_records → Filled all places k
    → t ≡ set places k (bytes_of (item_at all k)) → Filled all t (k + 1)
filled_turn all places t k h filled e =
    rw e record {
      long = length-set places k new ∙ filled.long;
      before = λ l b. at l b (ℕ_discrete l k);
      after = λ l lo hi.
          ap (λ (b : RecordBytes). b.idcr) (get_or-set_other places k l new no_bytes (omega arith)) ∙ filled.after l (omega arith) hi;
    }
  where
    new : RecordBytes
    new = bytes_of (item_at all k)

    at : (l : ℕ) → l < k + 1 → Dec (l ≡ k) → bytes_at (set places k new) l ≡ bytes_of (item_at all l)
    at l b (yes d) = rw d (get_or-set_same places k new no_bytes (omega (arith, filled.long)))
    at l b (no d) = get_or-set_other places k l new no_bytes (omega arith) ∙ filled.before l (omega arith)

-- all of them: the list's places are laid out
module _ (all : Channels) (full : length all.items ≡ most_records) (short : all.count ≤ most_records) where
  pub filled_all : (places : List RecordBytes) → Filled all places all.count → LaidPlaces (list_of all) places all.count
  filled_all places filled =
      let long : length (list_of all) ≡ all.count = list_of-length all full short in
      record {
        there = λ k h. let b : k < all.count = omega arith in filled.before k b ∙ ap bytes_of (sym (list_of-at all full short k b));
        others = λ k lo hi. filled.after k (omega arith) hi;
        count = sym long;
      }
