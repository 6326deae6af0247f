-- A channel list that is lent as bytes. Assumes nothing.
use mathlib.Core.Path.{◌≡◌, refl, ap, ◌∙◌}
use mathlib.Core.Logic.{◌≢◌}
use mathlib.Core.List.{List, [], ◌∷◌}
use mathlib.Core.Bool.{false}
use Prim.Native.Nat.{ℕ, zero, suc, ◌+◌, ◌*◌, ◌/◌, ◌%◌, ◌<◌}
use native.Mathlib.Omega.{arith}
use lib.ListN.{length, get_or, drop}
use lib.Seq.{drop-drop}
use borrow.Author.Tests.{eq-eqb, ne_eqb}
use Rattle.rules.specs.declared.Channel.{Channel}
use Rattle.rules.specs.Channels.{no_channel, list_ok}
use Rattle.rules.specs.Encodings.{record_length, bytes_of, record_in, records_in, list_in}
use Rattle.rules.proofs.ListLaws.{list_long}

-- ---- a whole number of records

records-length : (n : ℕ) (bs : List ℕ) → length (records_in n bs) ≡ n
unfolding records_in
records-length zero bs = refl
records-length (suc n) bs = ap suc (records-length n (drop record_length bs))

module _ (bs : List ℕ) (whole : length bs % record_length ≡ 0) where
  -- there are as many records as the bytes have sevens
  pub list_in-length : length (list_in bs) ≡ length bs / record_length
  unfolding list_in
  list_in-length = rw (eq-eqb _ _ whole) (records-length (length bs / record_length) bs)

records-at : (n : ℕ) (bs : List ℕ) (k : ℕ) → k < n → get_or (records_in n bs) k no_channel ≡ record_in (drop (record_length * k) bs)
unfolding records_in
records-at zero bs k h = absurd (omega arith)
records-at (suc n) bs zero h = refl
records-at (suc n) bs (suc k) h =
    let e : record_length + record_length * k ≡ record_length * suc k = omega arith in
    records-at n (drop record_length bs) k (omega arith) ∙ ap record_in (drop-drop (record_length * k) record_length bs ∙ ap (λ (i : ℕ). drop i bs) e)

-- record k begins at byte 7k
pub list_in-at : (bs : List ℕ) → length bs % record_length ≡ 0 → (k : ℕ) → k < length bs / record_length → get_or (list_in bs) k no_channel ≡ record_in (drop (record_length * k) bs)
unfolding list_in
list_in-at bs whole k h = rw (eq-eqb _ _ whole) (records-at (length bs / record_length) bs k h)

-- ---- the bytes of a list

bytes-length : (cs : List Channel) → length (bytes_of cs) ≡ record_length * length cs
unfolding bytes_of
bytes-length [] = refl
bytes-length (c ∷ cs) = let l = bytes-length cs in omega (arith, l)

records_back : (cs : List Channel) → records_in (length cs) (bytes_of cs) ≡ cs
unfolding records_in bytes_of
records_back [] = refl
records_back (c ∷ cs) = ap (λ (ds : List Channel). c ∷ ds) (records_back cs)

-- the bytes of a list stand for that list
pub list_in-bytes : (cs : List Channel) → list_in (bytes_of cs) ≡ cs
unfolding list_in
list_in-bytes cs =
    let l : length (bytes_of cs) ≡ record_length * length cs = bytes-length cs in
    let whole : length (bytes_of cs) % record_length ≡ 0 = omega (arith, l) in
    let n : length (bytes_of cs) / record_length ≡ length cs = omega (arith, l) in
    rw (eq-eqb _ _ whole, n) (records_back cs)

-- ---- bytes that are no whole number of records

-- they stand for a list that is refused with 2
pub list_in-rest : (bs : List ℕ) → length bs % record_length ≢ 0 → list_ok (list_in bs) ≡ false
unfolding list_in
list_in-rest bs rest = rw (ne_eqb _ _ rest) (list_long _ (omega arith))
