-- The fold is over the IDCRs of the twelve places, each a byte of the image, and a bit that is 0 in the end was 0 in each.
use mathlib.Core.Path.{◌≡◌, refl, sym, ap, ◌∙◌}
use mathlib.Core.Bool.{false}
use mathlib.Core.List.{List, [], ◌∷◌}
use Prim.Native.Nat.{ℕ, zero, suc, ◌<◌}
use native.Mathlib.Nat.{not-suc-le-zero, le_of_suc-le-suc}
use native.Mathlib.Omega.{arith}
use lib.Bits.{bit_or}
use lib.ListN.{length, get_or}
use Rattle.std.specs.List.{fold}
use Rattle.std.proofs.Common.{rules, Some}
use Rattle.std.proofs.lemmas.List.{get_or_default}
use Rattle.std.proofs.lemmas.Fn.{serves_by}
use Rattle.std.proofs.lemmas.Iterator.{YieldsList-from_slice}
use Rattle.std.proofs.lemmas.Iterator.Consumers.{YieldsList-turn, fold_from_yields_List}
use Rattle.bits.specs.Bits.{bit}
use Rattle.bits.proofs.BitLaws.{bit-bit_or}
use Rattle.rules.specs.Image.{image_length}
use Rattle.rules.proofs.Bools.{or_off, or_off_r}
use Rattle.rules.proofs.ChannelLaws.{list_short}
use Rattle.channels.specs.declared.RecordBytes.{RecordBytes}
use Rattle.channels.specs.Laid.{no_bytes, bytes_at}
use Rattle.channels.proofs.LaidLaws.{idcr_in}
use Rattle.requests.proofs.gathered_bits.Goals as goal

-- a bit that is 0 in the fold
off : (f : RecordBytes → ℕ) (xs : List RecordBytes) (a j : ℕ) → bit j (fold (λ b x. bit_or b (f x)) a xs) ≡ false
    → (bit j a ≡ false) × ((k : ℕ) → k < length xs → bit j (f (get_or xs k no_bytes)) ≡ false)
off f [] a j e = (e, λ k h. absurd (not-suc-le-zero h))
off f (x ∷ xs) a j e =
    let rest = off f xs (bit_or a (f x)) j e in
    let both : (bit j a ≡ false) × (bit j (f x) ≡ false)
    = (or_off (bit j a) (bit j (f x)) (sym (bit-bit_or j a (f x)) ∙ rest.0), or_off_r (bit j a) (bit j (f x)) (sym (bit-bit_or j a (f x)) ∙ rest.0)) in
    (both.0, λ k h. at k both.1 rest.1 h)
  where
    at : (k : ℕ) → bit j (f x) ≡ false → ((k : ℕ) → k < length xs → bit j (f (get_or xs k no_bytes)) ≡ false) → k < suc (length xs) → bit j (f (get_or (x ∷ xs) k no_bytes)) ≡ false
    at zero here more h = here
    at (suc k) here more h = more k (le_of_suc-le-suc h)

pub fold-requires-clause-callable : goal.fold-requires-clause-callable
fold-requires-clause-callable c =
    let places = c.args.places.now in
    serves_by _ (λ xs q. q.0 ≡ record { 0 = c.args.image }) (λ xs q x v j r. search rules) _ _ _ _ refl
    (λ xs t q x u y s j.
    let turn = YieldsList-turn (YieldsList-from_slice places.records c.iter.ensures.rest) xs t y (Some x) u x refl s in
    let e : x.now ≡ bytes_at places.records (length xs) = turn.1 ∙ get_or_default places.records (length xs) x.now no_bytes turn.0 in
    let b : x.now.idcr < image_length = rw e (idcr_in places.ok places.laid (length xs) (omega (arith, turn.0))) in
    λ _ _ _ _ _ _ _ _. b)

pub returns : goal.returns
returns c =
    let m = c.args.image.now in
    let places = c.args.places.now in
    let idcr = λ (x : RecordBytes). get_or m x.idcr 0 in
    let gathers = λ (b : ℕ) (x : RecordBytes). bit_or b (idcr x) in
    let e : c.fold.result ≡ fold gathers 0 places.records = fold_from_yields_List _ gathers 0 _ c.fold.ensures.ran (YieldsList-from_slice places.records c.iter.ensures.rest) (λ a x b q k. search rules) in
    λ k h j z.
    let o = (off idcr places.records 0 j (ap (bit j) (sym e) ∙ z)).1 k (omega (arith, list_short _ places.ok)) in
    rw (places.laid.there k h) at o
