-- The rules on the channel list said in another way, both ways, and the list that a list by value stands for. Assumes nothing.
use mathlib.Core.Path.{◌≡◌, refl, sym, ap, ◌∙◌}
use mathlib.Core.Logic.{◌≢◌, ◌⊎◌, inl, inr}
use mathlib.Core.List.{List, [], ◌∷◌, ◌++◌}
use mathlib.Core.Bool.{true, false}
use Prim.Native.Nat.{ℕ, suc, ◌+◌, ◌*◌, ◌/◌, ◌%◌, ◌≤◌, ◌<◌}
use native.Mathlib.Omega.{arith}
use native.Mathlib.Decide.{ℕ_discrete}
use lib.Dec.{leb}
use lib.ListN.{length, get_or, take, length-append}
use lib.Seq.{length-take-le, get_or-take, ext_get_or}
use borrow.Author.Tests.{le-leb, lt-leb, leb-true, leb-false, lt-ltb, le-ltb, ne_eqb}
use Rattle.rules.specs.declared.Channel.{Channel}
use Rattle.rules.specs.declared.Channels.{Channels}
use Rattle.rules.specs.Channels.{no_channel, record_at, between, record_ok, records_ok, member, distinct, all_bytes, list_ok, list_of}
use Rattle.rules.proofs.Bools.{both, true_or, not_both}
use Rattle.rules.proofs.ChannelLaws.{register_byte, register_number, InRange, all-length, all-at}

-- ---- a record

le_between : (lo hi x : ℕ) → lo ≤ x → x ≤ hi → between lo hi x ≡ true
le_between lo hi x l h = rw (le-leb lo x l, le-leb x hi h)

-- a record whose numbers are in range is within the rules (ChannelLaws has the other way)
pub in_range_record : (c : Channel) → InRange c → record_ok c ≡ true
in_range_record c r =
    rw (
      le_between 1 63 c.page r.page_low r.page_high,
      register 0 (omega arith),
      register 1 (omega arith),
      register 2 (omega arith),
      register 3 (omega arith),
      register 4 (omega arith),
    ) (le-leb c.direction 1 r.one_way)
  where
    register : (q : ℕ) → q < 5 → between 240 255 (register_number c q) ≡ true
    register q h = le_between 240 255 (register_number c q) (r.register-low q h) (r.register_high q h)

-- ---- the list

records_ok_lem : (cs : List Channel) → ((k : ℕ) → k < length cs → record_ok (record_at cs k) ≡ true) → records_ok cs ≡ true
unfolding records_ok
records_ok_lem [] ok = refl
records_ok_lem (c ∷ cs) ok = both (record_ok c) (records_ok cs) (ok 0 (omega arith)) (records_ok_lem cs (λ k h. ok (suc k) (omega arith)))

absent : (x : ℕ) (xs : List ℕ) → ((i : ℕ) → i < length xs → x ≢ get_or xs i 0) → member x xs ≡ false
unfolding member
absent x [] n = refl
absent x (y ∷ ys) n = rw (ne_eqb x y (n 0 (omega arith))) (absent x ys (λ i h. n (suc i) (omega arith)))

apart_distinct : (xs : List ℕ) → ((i j : ℕ) → i < length xs → j < length xs → i ≢ j → get_or xs i 0 ≢ get_or xs j 0) → distinct xs ≡ true
unfolding distinct
apart_distinct [] n = refl
apart_distinct (x ∷ xs) n =
    rw (absent x xs (λ i h. n 0 (suc i) (omega arith) (omega arith) (omega arith)))
    (apart_distinct xs (λ i j hi hj d. n (suc i) (suc j) (omega arith) (omega arith) (omega arith)))

-- a list is within the rules if it has at most twelve records, each within the rules, and no two registers stand at one byte
pub list_ok_lem : (cs : List Channel) → length cs ≤ 12 → ((k : ℕ) → k < length cs → record_ok (record_at cs k) ≡ true)
    → ((k r l q : ℕ) → k < length cs → l < length cs → r < 5 → q < 5 → (k ≢ l) ⊎ (r ≢ q)
    → register_byte (record_at cs k) r ≢ register_byte (record_at cs l) q)
    → list_ok cs ≡ true
unfolding list_ok
list_ok_lem cs short ok apart = rw (le-leb (length cs) 12 short, records_ok_lem cs ok) (apart_distinct (all_bytes cs) clash)
  where
    split : (i : ℕ) → i ≡ 5 * (i / 5) + i % 5
    split i = omega arith

    place : (i : ℕ) → i < length (all_bytes cs) → get_or (all_bytes cs) i 0 ≡ register_byte (record_at cs (i / 5)) (i % 5)
    place i h = ap (λ (x : ℕ). get_or (all_bytes cs) x 0) (split i) ∙ all-at cs (i / 5) (i % 5) (omega (arith, all-length cs)) (omega arith)

    clash : (i j : ℕ) → i < length (all_bytes cs) → j < length (all_bytes cs) → i ≢ j → get_or (all_bytes cs) i 0 ≢ get_or (all_bytes cs) j 0
    clash i j hi hj d e =
        apart (i / 5) (i % 5) (j / 5) (j % 5) (omega (arith, all-length cs)) (omega (arith, all-length cs)) (omega arith) (omega arith)
        (other (ℕ_discrete (i / 5) (j / 5))) (sym (place i hi) ∙ e ∙ place j hj)
      where
        other : Dec (i / 5 ≡ j / 5) → (i / 5 ≢ j / 5) ⊎ (i % 5 ≢ j % 5)
        other (yes same) = inr (omega arith)
        other (no n) = inl n

-- more than twelve are refused
pub list_long : (cs : List Channel) → 12 < length cs → list_ok cs ≡ false
unfolding list_ok
list_long cs h = rw (lt-leb (length cs) 12 h)

-- ---- a list by value

-- a count of twelve at most stands for the first of its items
list_of-take : (all : Channels) → all.count ≤ 12 → list_of all ≡ take all.count all.items
unfolding list_of
list_of-take all h = rw (le-ltb 12 all.count h)

module _ (all : Channels) (twelve : length all.items ≡ 12) where
  -- it stands for as many records as its count says
  pub list_of-length : all.count ≤ 12 → length (list_of all) ≡ all.count
  list_of-length h = rw (list_of-take all h) (length-take-le all.count all.items (omega arith))

  -- the first of its items
  pub list_of-at : all.count ≤ 12 → (i : ℕ) → i < all.count → record_at (list_of all) i ≡ get_or all.items i no_channel
  list_of-at h i g = rw (list_of-take all h) (get_or-take all.count all.items i no_channel g)

  -- a count over twelve is a list outside the rules
  pub list_of-long : 12 < all.count → list_ok (list_of all) ≡ false
  unfolding list_of
  list_of-long h = rw (lt-ltb 12 all.count h) (list_long (all.items ++ (no_channel ∷ [])) (simp length-append (omega arith)))

  -- so a list within the rules has a count of twelve at most
  pub list_of-count : list_ok (list_of all) ≡ true → all.count ≤ 12
  list_of-count ok = go (true_or (leb all.count 12))
    where
      go : (leb all.count 12 ≡ true) ⊎ (leb all.count 12 ≡ false) → all.count ≤ 12
      go (inl t) = leb-true all.count 12 t
      go (inr t) = absurd (not_both (list_ok (list_of all)) ok (list_of-long (leb-false all.count 12 t)))

-- items past the count are not looked at
pub list_of-same : (all other : Channels) → length all.items ≡ 12 → length other.items ≡ 12 → all.count ≤ 12 → other.count ≡ all.count
    → ((i : ℕ) → i < all.count → get_or all.items i no_channel ≡ get_or other.items i no_channel) → list_of all ≡ list_of other
list_of-same all other twelve also h n same =
    ext_get_or no_channel (list_of all) (list_of other)
    (list_of-length all twelve h ∙ sym n ∙ sym (list_of-length other also (omega arith)))
    (λ i g. let b : i < all.count = omega (arith, list_of-length all twelve h) in
    list_of-at all twelve h i b ∙ same i b ∙ sym (list_of-at other also (omega arith) i (omega arith)))
