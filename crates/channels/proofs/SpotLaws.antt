-- The registers of the records by their bytes, in the order in which the check of a list meets them, the latest first. Assumes nothing.
use mathlib.Core.Path.{◌≡◌, refl, sym, ap, ◌∙◌}
use mathlib.Core.Logic.{◌⊎◌, inl, inr}
use mathlib.Core.Bool.{Bool, true, false, cond, not, ◌&&◌, ◌||◌, and-false, and_assoc, or-true}
use mathlib.Core.List.{List, [], ◌∷◌, ◌++◌, map, append-nil}
use Prim.Native.Nat.{ℕ, ◌≤◌, ◌<◌}
use native.Mathlib.Omega.{arith}
use native.Mathlib.Decide.{ℕ_discrete}
use lib.Dec.{eqb}
use lib.ListN.{length}
use borrow.Author.Tests.{eq-eqb, ne_eqb, eqb-true, le-leb}
use Rattle.rules.specs.declared.Channel.{Channel}
use Rattle.std.specs.Prelude.{None}
use Rattle.rules.specs.Image.{page_byte}
use Rattle.rules.specs.Channels.{most_records, idcr_byte, ivr_byte, dcpr_byte, dapr_byte, data_byte, record_bytes, record_ok, records_ok, member, distinct, all_bytes, list_ok}
use Rattle.rules.specs.Registers.{At, record_place, or_place, records_place}
use Rattle.rules.proofs.Bools.{and_l, and_r, true_or, not_both, cond_elim}
use Rattle.rules.proofs.ChannelLaws.{register_number, record_in_range}
use Rattle.rules.proofs.PlaceLaws.{pairs_apart}
use Rattle.channels.specs.Laid.{place_by}
use Rattle.channels.specs.Seen.{Spot, spot, registers_of}

-- ---- the registers of a list

-- a register of page p, by its byte
abbrev pub on_page : ℕ → Spot → Spot
on_page p x = spot (page_byte p x.place) x.bits

abbrev pub record_spots : Channel → List Spot
record_spots c = map (on_page c.page) (registers_of c)

-- those of all records, in order
unfoldable pub all_spots : List Channel → List Spot
all_spots [] = []
all_spots (c ∷ cs) = record_spots c ++ all_spots cs

-- the bits of the first that stands at byte i, 0 where none does
unfoldable pub bits_of : List Spot → ℕ → ℕ
bits_of [] i = 0
bits_of (x ∷ xs) i = cond (eqb i x.place) x.bits (bits_of xs i)

-- their bytes
abbrev pub bytes : List Spot → List ℕ
bytes [] = []
bytes (x ∷ xs) = x.place ∷ bytes xs

-- each has bits
abbrev pub Solid : List Spot → Type 0
Solid [] = Unit {0}
Solid (x ∷ xs) = (eqb x.bits 0 ≡ false) × Solid xs

-- xs met one after another, after those of ys
unfoldable pub onto : List Spot → List Spot → List Spot
onto [] ys = ys
onto (x ∷ xs) ys = onto xs (x ∷ ys)

bytes-all : (cs : List Channel) → bytes (all_spots cs) ≡ all_bytes cs
unfolding all_spots all_bytes idcr_byte ivr_byte dcpr_byte dapr_byte data_byte
bytes-all [] = refl
bytes-all (c ∷ cs) = ap (λ (xs : List ℕ). record_bytes c ++ xs) (bytes-all cs)

solid_all : (cs : List Channel) → Solid (all_spots cs)
unfolding all_spots
solid_all [] = tt
solid_all (c ∷ cs) = (refl, (refl, (refl, (refl, (refl, solid_all cs)))))

pub solid_onto : (xs ys : List Spot) → Solid xs → Solid ys → Solid (onto xs ys)
unfolding onto
solid_onto [] ys s t = t
solid_onto (x ∷ xs) ys (h, s) t = solid_onto xs (x ∷ ys) s (h, t)

-- bits exist at a byte exactly if a register stands there
pub bits-member : (xs : List Spot) (i : ℕ) → Solid xs → eqb (bits_of xs i) 0 ≡ not (member i (bytes xs))
unfolding bits_of member
bits-member [] i s = refl
bits-member (x ∷ xs) i (h, s) = go (bits-member xs i s) (eqb i x.place)
  where
    go : eqb (bits_of xs i) 0 ≡ not (member i (bytes xs)) → (b : Bool) → eqb (cond b x.bits (bits_of xs i)) 0 ≡ not (b || member i (bytes xs))
    go e true = h
    go e false = e

-- ---- no byte twice, in either order

-- tests regrouped
or_swap : (a b c : Bool) → (a || (b || c)) ≡ (b || (a || c))
or_swap true b c = sym (or-true b)
or_swap false b c = refl

not_swap : (e m n d : Bool) → (not (e || m) && (not n && d)) ≡ (not (e || n) && (not m && d))
not_swap true m n d = refl
not_swap false true n d = sym (and-false (not n))
not_swap false false n d = refl

eqb_swap : (a b : ℕ) → eqb a b ≡ eqb b a
eqb_swap a b = go (ℕ_discrete a b)
  where
    go : Dec (a ≡ b) → eqb a b ≡ eqb b a
    go (yes e) = rw e
    go (no d) = rw (ne_eqb a b d, ne_eqb b a (λ e. d (sym e)))

-- a number in the middle is as good as in front
member_middle : (a : ℕ) (xs : List ℕ) (x : ℕ) (ys : List ℕ) → member a (xs ++ x ∷ ys) ≡ (eqb a x || member a (xs ++ ys))
unfolding member
member_middle a [] x ys = refl
member_middle a (b ∷ xs) x ys = rw (member_middle a xs x ys) (or_swap (eqb a b) (eqb a x) (member a (xs ++ ys)))

distinct_middle : (xs : List ℕ) (x : ℕ) (ys : List ℕ) → distinct (xs ++ x ∷ ys) ≡ distinct (x ∷ (xs ++ ys))
unfolding distinct member
distinct_middle [] x ys = refl
distinct_middle (a ∷ xs) x ys =
    rw (member_middle a xs x ys, distinct_middle xs x ys, eqb_swap a x)
    (not_swap (eqb x a) (member a (xs ++ ys)) (member x (xs ++ ys)) (distinct (xs ++ ys)))

distinct-onto : (xs ys : List Spot) → distinct (bytes (onto xs ys)) ≡ distinct (bytes xs ++ bytes ys)
unfolding onto
distinct-onto [] ys = refl
distinct-onto (x ∷ xs) ys = distinct-onto xs (x ∷ ys) ∙ distinct_middle (bytes xs) x.place (bytes ys)

-- then no byte of those met before is twice
onto_tail : (xs ys : List Spot) → distinct (bytes (onto xs ys)) ≡ true → distinct (bytes ys) ≡ true
unfolding onto distinct
onto_tail [] ys d = d
onto_tail (x ∷ xs) ys d = and_r (not (member x.place (bytes ys))) (distinct (bytes ys)) (onto_tail xs (x ∷ ys) d)

-- and the order does not matter for the bits
bits-onto : (xs ys : List Spot) (i : ℕ) → Solid xs → Solid ys → distinct (bytes (onto xs ys)) ≡ true
    → bits_of (onto xs ys) i ≡ cond (eqb (bits_of ys i) 0) (bits_of xs i) (bits_of ys i)
unfolding onto bits_of distinct
bits-onto [] ys i s t d = cond_elim (λ (x : ℕ). bits_of ys i ≡ x) (eqb (bits_of ys i) 0) (λ e. eqb-true (bits_of ys i) 0 e) (λ _. refl)
bits-onto (x ∷ xs) ys i (h, s) t d = bits-onto xs (x ∷ ys) i s (h, t) d ∙ go (ℕ_discrete i x.place)
  where
    clear : eqb (bits_of ys x.place) 0 ≡ true
    clear = bits-member ys x.place t ∙ and_l (not (member x.place (bytes ys))) (distinct (bytes ys)) (onto_tail xs (x ∷ ys) d)

    go : Dec (i ≡ x.place)
        → cond (eqb (cond (eqb i x.place) x.bits (bits_of ys i)) 0) (bits_of xs i) (cond (eqb i x.place) x.bits (bits_of ys i))
        ≡ cond (eqb (bits_of ys i) 0) (cond (eqb i x.place) x.bits (bits_of xs i)) (bits_of ys i)
    go (yes e) = rw (e, eq-eqb x.place x.place refl, h, clear)
    go (no n) = rw (ne_eqb i x.place n)

-- ---- where the records' registers go, by the bits

-- two registers of pages stand at one byte exactly if they are the same
pair_test : (p r q t : ℕ) → (240 ≤ r) × (r ≤ 255) → (240 ≤ t) × (t ≤ 255) → eqb (page_byte p r) (page_byte q t) ≡ (eqb p q && eqb r t)
pair_test p r q t hr ht = go (ℕ_discrete p q) (ℕ_discrete r t)
  where
    go : Dec (p ≡ q) → Dec (r ≡ t) → eqb (page_byte p r) (page_byte q t) ≡ (eqb p q && eqb r t)
    go (yes a) (yes b) = rw (a, b, eq-eqb (page_byte q t) (page_byte q t) refl, eq-eqb q q refl, eq-eqb t t refl)
    go (no d) b = rw (ne_eqb p q d, ne_eqb (page_byte p r) (page_byte q t) (λ e. d (pairs_apart p r q t hr ht e).0))
    go (yes a) (no d) =
        rw (ne_eqb r t d, and-false, ne_eqb (page_byte p r) (page_byte q t) (λ e. d (pairs_apart p r q t hr ht e).1))

-- one record and the rest, by the tests
tests : (page a b c d e : Bool) (i y : ℕ)
    → or_place (cond page (cond a (At i 0x3f) (cond (b || c || d || e) (At i 0xff) None)) None) (place_by i y)
    ≡ place_by i (cond (page && a) 0x3f (cond (page && b) 0xff (cond (page && c) 0xff (cond (page && d) 0xff (cond (page && e) 0xff y)))))
tests false a b c d e i y = refl
tests true true b c d e i y = refl
tests true false true c d e i y = refl
tests true false false true d e i y = refl
tests true false false false true e i y = refl
tests true false false false false true i y = refl
tests true false false false false false i y = refl

spots_place : (cs : List Channel) → records_ok cs ≡ true → (p r : ℕ) → 240 ≤ r → r ≤ 255
    → records_place cs p r ≡ place_by (page_byte p r) (bits_of (all_spots cs) (page_byte p r))
unfolding records_place record_place records_ok all_spots bits_of
spots_place [] ok p r lo hi = refl
spots_place (c ∷ cs) ok p r lo hi =
    let w = record_in_range c (and_l (record_ok c) (records_ok cs) ok) in
    let test : (q : ℕ) → q < 5 → eqb (page_byte p r) (page_byte c.page (register_number c q)) ≡ (eqb p c.page && eqb r (register_number c q))
    = λ q h. pair_test p r c.page (register_number c q) (lo, hi) (w.register-low q h, w.register_high q h) in
    ap (or_place (record_place c p r)) (spots_place cs (and_r (record_ok c) (records_ok cs) ok) p r lo hi)
    ∙ tests (eqb p c.page) (eqb r c.idcr) (eqb r c.ivr) (eqb r c.dcpr) (eqb r c.dapr) (eqb r c.io) (page_byte p r)
    (bits_of (all_spots cs) (page_byte p r))
    ∙ sym (rw (test 0 (omega arith), test 1 (omega arith), test 2 (omega arith), test 3 (omega arith), test 4 (omega arith)))

-- ---- what is left to check of a list, after the registers met so far: its records are in range, and no byte is twice

abbrev pub left_ok : List Spot → List Channel → Bool
left_ok ys cs = records_ok cs && distinct (bytes (onto (all_spots cs) ys))

-- at the start all of it is left
pub left-all : (cs : List Channel) → length cs ≤ most_records → list_ok cs ≡ left_ok [] cs
unfolding list_ok
left-all cs short =
    rw (
      le-leb (length cs) most_records short,
      distinct-onto (all_spots cs) [],
      append-nil (bytes (all_spots cs)),
      bytes-all cs,
    )

-- with a record in front: the record, and then the rest
pub left_cons : (ys : List Spot) (c : Channel) (cs : List Channel) → left_ok ys (c ∷ cs) ≡ (record_ok c && left_ok (onto (record_spots c) ys) cs)
unfolding records_ok all_spots onto
left_cons ys c cs = and_assoc (record_ok c) (records_ok cs) (distinct (bytes (onto (all_spots (c ∷ cs)) ys)))

-- a byte that was met twice stays so
pub left-refused : (ys : List Spot) (cs : List Channel) → distinct (bytes ys) ≡ false → left_ok ys cs ≡ false
left-refused ys cs d = go (true_or (distinct (bytes (onto (all_spots cs) ys))))
  where
    go : (distinct (bytes (onto (all_spots cs) ys)) ≡ true) ⊎ (distinct (bytes (onto (all_spots cs) ys)) ≡ false) → left_ok ys cs ≡ false
    go (inl t) = absurd (not_both (distinct (bytes ys)) (onto_tail (all_spots cs) ys t) d)
    go (inr t) = rw (t, and-false)

-- at the end the bits of those met are the records' places
pub met-place : (cs : List Channel) → left_ok [] cs ≡ true → (p r : ℕ) → 240 ≤ r → r ≤ 255
    → records_place cs p r ≡ place_by (page_byte p r) (bits_of (onto (all_spots cs) []) (page_byte p r))
unfolding bits_of
met-place cs ok p r lo hi =
    spots_place cs (and_l (records_ok cs) (distinct (bytes (onto (all_spots cs) []))) ok) p r lo hi
    ∙ ap (place_by (page_byte p r)) (sym (bits-onto (all_spots cs) [] (page_byte p r) (solid_all cs) tt
    (and_r (records_ok cs) (distinct (bytes (onto (all_spots cs) []))) ok)))
