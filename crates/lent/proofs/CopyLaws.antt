-- What a copy of a lent channel list stands for, and how it is filled. Assumes nothing.
use Rattle.std.proofs.Common.{◌≡◌, ◌≢◌, refl, sym, ap, ◌∙◌, Bool, true, false, List, [], ◌++◌, ℕ, zero, suc, ◌+◌, ◌-◌, ◌%◌, ◌/◌, ◌≤◌, ◌<◌, min, leb, length, get_or, set, take, drop, replicate, map, append_assoc, arith}
use Rattle.std.proofs.lemmas.List.{take_more, take_at, take_all, length-take, length-take-le, length-append, drop-replicate, set_at, get_or-take, get_or-map, length-map}
use borrow.Author.Tests.{leb-true, leb-false, le-ltb, eq-eqb, ne_eqb}
use Rattle.rules.specs.declared.Channel.{Channel}
use Rattle.rules.specs.Channels.{most_records, no_channel, list_of}
use Rattle.rules.specs.Encodings.{record_length, record_in, records_in, list_in}
use Rattle.std.specs.Simd.{first_chunks}
use Rattle.lent.specs.Copies.{capped, blank_of, items_up_to, copy_of}

-- ---- the items

-- all records put at once
pub put-all : (cs : List Channel) (n : ℕ) → n ≡ min (length cs) most_records
    → record { items = take n cs ++ drop n (replicate most_records no_channel); count = capped (length cs) } ≡ copy_of cs
unfolding copy_of
put-all cs n e = rw (drop-replicate n most_records no_channel, e) refl

-- record i put after those before it
put-next : (cs : List Channel) (i : ℕ) → i < length cs → i < most_records → set (items_up_to cs i) i (get_or cs i no_channel) ≡ items_up_to cs (i + 1)
put-next cs i h k =
    let m : most_records - i ≡ suc (most_records - (i + 1)) = omega arith in
    rw m (set_at (take i cs) no_channel _ (get_or cs i no_channel) i (length-take-le i cs (omega arith)) ∙ rw (take_more cs i no_channel h, append_assoc) refl)

-- ---- the list that a copy stands for

-- the copy of a list of at most twelve records stands for that list
pub list_of_copy : (cs : List Channel) → length cs ≤ most_records → list_of (copy_of cs) ≡ cs
unfolding list_of copy_of
list_of_copy cs h =
    let kept : min (length cs) most_records ≡ length cs = omega arith in
    let count : min (length cs) (suc most_records) ≡ length cs = omega arith in
    rw (count, kept, le-ltb most_records (length cs) h) (take_at _ _ _ (length-take-le (length cs) cs (omega arith)) ∙ take_all (length cs) cs (omega arith))

-- the copy of a longer list stands for one that is too long too
pub list_of_long : (cs : List Channel) → most_records < length cs → most_records < length (list_of (copy_of cs))
unfolding list_of copy_of
list_of_long cs h =
    let count : min (length cs) (suc most_records) ≡ suc most_records = omega arith in
    let kept : min (length cs) most_records ≡ most_records = omega arith in
    rw (count, kept) (simp (length-append, length-take) (omega arith))

-- a rule that answers all lists over twelve alike answers the copy as it answers the lent list
pub through : {X : Type 0} (f : List Channel → X)
    → ((xs ys : List Channel) → most_records < length xs → most_records < length ys → f xs ≡ f ys)
    → (cs : List Channel) → f (list_of (copy_of cs)) ≡ f cs
through f alike cs = go (leb (length cs) most_records) refl
  where
    go : (t : Bool) → leb (length cs) most_records ≡ t → f (list_of (copy_of cs)) ≡ f cs
    go true e = ap f (list_of_copy cs (leb-true (length cs) most_records e))
    go false e = let l : most_records < length cs = leb-false (length cs) most_records e in alike (list_of (copy_of cs)) cs (list_of_long cs l) l

-- ---- a list lent as bytes

-- bytes that are no whole number of records are kept as a count of thirteen with nothing put
pub blank-rest : (bs : List ℕ) → length bs % record_length ≢ 0 → blank_of (suc most_records) ≡ copy_of (list_in bs)
unfolding list_in copy_of
blank-rest bs rest = rw (ne_eqb _ _ rest) refl

record-first : (bs : List ℕ) → record_in (take record_length bs) ≡ record_in bs
record-first bs = grind (arith, get_or-take {A = ℕ})

records-chunks : (n : ℕ) (bs : List ℕ) → records_in n bs ≡ map record_in (first_chunks record_length n bs)
unfolding records_in
records-chunks zero bs = refl
records-chunks (suc n) bs = rw (record-first bs, records-chunks n (drop record_length bs)) refl

-- a whole number of records, in chunks of seven bytes
module _ (bs : List ℕ) (chunks : List (List ℕ)) (whole : length bs % record_length ≡ 0) (e : chunks ≡ first_chunks record_length (length bs / record_length) bs) where
  list : list_in bs ≡ map record_in chunks
  unfolding list_in
  list = rw (eq-eqb _ _ whole, e) (records-chunks (length bs / record_length) bs)

  list-length : length (list_in bs) ≡ length chunks
  list-length = ap length list ∙ length-map chunks record_in

  -- no record
  pub blank-none : length chunks ≡ 0 → blank_of 0 ≡ copy_of (list_in bs)
  unfolding copy_of
  blank-none none = rw (list-length ∙ none) refl

  module _ (n : ℕ) (kept : n ≡ min (length chunks) most_records) where
    -- record i of the first n put after those before it
    pub put-chunk : (i : ℕ) → i < length (take n chunks) → set (items_up_to (list_in bs) i) i (record_in (get_or (take n chunks) i [])) ≡ items_up_to (list_in bs) (i + 1)
    put-chunk i h =
        let l : i < min n (length chunks) = simp length-take at h in
        let at : record_in (get_or (take n chunks) i []) ≡ get_or (list_in bs) i no_channel =
        rw (get_or-take n chunks i [] (omega arith), list) (sym (get_or-map record_in chunks i [] no_channel (omega arith))) in
        rw at (put-next (list_in bs) i (omega (arith, list-length)) (omega arith))

    -- all of them put
    pub put-chunks : (i : ℕ) → i ≤ length (take n chunks) → length (take n chunks) ≤ i
        → record { items = items_up_to (list_in bs) i; count = capped (length chunks) } ≡ copy_of (list_in bs)
    unfolding copy_of
    put-chunks i h k =
        let all : i ≡ min (length (list_in bs)) most_records = omega (arith, length-take n chunks, list-length) in
        rw (← all, list-length) refl
