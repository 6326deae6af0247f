-- Where a register number goes: what is modelled, with which bits, and that nothing else is. Assumes nothing.
use Rattle.std.specs.Prelude.{Option, None, Some}
use mathlib.Core.Path.{◌≡◌, refl, sym, ap, ap₂, subst, ◌∙◌}
use mathlib.Core.Logic.{◌≢◌, ◌⊎◌, inl, inr}
use mathlib.Core.List.{List, [], ◌∷◌}
use mathlib.Core.Bool.{Bool, true, false, cond, ◌||◌, or-true}
use Prim.Native.Nat.{ℕ, zero, suc, ◌+◌, ◌*◌, ◌%◌, ◌≤◌, ◌<◌}
use native.Mathlib.Omega.{arith}
use native.Mathlib.Nat.{not-suc-le-zero, le_of_suc-le-suc}
use lib.Pow.{shr-shr}
use lib.Dec.{eqb, ltb, leb}
use lib.ListN.{length, get_or}
use borrow.Author.Tests.{eq-eqb, ne_eqb, eqb-true, ltb-true, ltb-false, lt-ltb, le-ltb, leb-true, leb-false, le-leb, lt-leb}
use Rattle.bits.specs.Bits.{digit, bit}
use Rattle.bits.proofs.Tests.{same-below}
use Rattle.rules.specs.declared.Channel.{Channel}
use Rattle.rules.specs.declared.Place.{Place}
use Rattle.rules.specs.Image.{Image, at, page_byte, CICR, PPR, MODER, EITR, EIPR, EIMR, EIPLR, EIVR, NICR, MARK}
use Rattle.rules.specs.Channels.{record_at, idcr_byte, ivr_byte, dcpr_byte, dapr_byte, data_byte, between, list_ok}
use Rattle.rules.specs.Table.{rows, existing_bits}
use Rattle.rules.specs.Registers.{At, page_of, page_zero, record_place, or_place, records_place, place_of}
use Rattle.rules.proofs.Bools.{cond_elim, true_or}
use Rattle.rules.proofs.ChannelLaws.{register_byte, register_number, register-byte, record_in_range, record_ok_lem, registers_apart}

-- ---- the named registers

-- their numbers, by the paper's table, and the byte of the mark
pub named_places :
    (CICR ∷ PPR ∷ MODER ∷ EITR ∷ EIPR ∷ EIMR ∷ EIPLR ∷ EIVR ∷ NICR ∷ MARK ∷ []) ≡ (230 ∷ 234 ∷ 235 ∷ 242 ∷ 243 ∷ 244 ∷ 245 ∷ 246 ∷ 247 ∷ 1264 ∷ [])
named_places = refl

-- ---- the byte of a paged register

-- the selected page is PPR's bits 7:2
pub page_bit : (m : Image) (j : ℕ) → bit j (page_of m) ≡ bit (2 + j) (at m PPR)
unfolding bit digit
page_bit m j = ap (λ (x : ℕ). eqb (x % 2) 1) (shr-shr (at m PPR) 2 j)

-- each page stands sixteen bytes after the one before it, page 0 at the registers' own numbers
pub page_byte_lem : (p r : ℕ) → 240 ≤ r → page_byte p r ≡ 16 * p + r
unfolding page_byte
page_byte_lem p r h = omega arith

-- two (page, register) pairs stand at one byte only if they are the same pair
pub pairs_apart : (p r q t : ℕ) → (240 ≤ r) × (r ≤ 255) → (240 ≤ t) × (t ≤ 255) → page_byte p r ≡ page_byte q t → (p ≡ q) × (r ≡ t)
unfolding page_byte
pairs_apart p r q t hr ht e = (omega arith, omega arith)

-- ---- R0 to R239

-- all bits of the table's registers exist, but PPR's two low ones
existing-bits : (r : ℕ) → r < 248 → existing_bits r ≡ cond (eqb r PPR) 0xfc 0xff
unfolding existing_bits rows
existing-bits = same-below 248 existing_bits (λ r. cond (eqb r PPR) 0xfc 0xff) tt

-- R0 to R239 stand at their own number whatever PPR holds, with all eight bits, PPR with bits 7:2
pub place-low : (m : Image) (cs : List Channel) (r : ℕ) → r < 240 → place_of m cs r ≡ At r (cond (eqb r PPR) 0xfc 0xff)
unfolding place_of
place-low m cs r h = rw (lt-ltb r 240 h) (ap (At r) (existing-bits r (omega arith)))

-- nothing over R255
pub place-over : (m : Image) (cs : List Channel) (r : ℕ) → 255 < r → place_of m cs r ≡ None
unfolding place_of
place-over m cs r h = rw (le-ltb r 240 (omega arith), lt-leb r 255 h)

-- of the image, PPR alone decides
pub place_same : (m n : Image) (cs : List Channel) (r : ℕ) → at n PPR ≡ at m PPR → place_of n cs r ≡ place_of m cs r
unfolding place_of
place_same m n cs r e = rw e

-- ---- page 0

module _ (m : Image) (cs : List Channel) (zeroth : page_of m ≡ 0) where
  -- modelled of page 0: R242 to R247, at their own number, with all eight bits
  pub place_zero : (r : ℕ) → 242 ≤ r → r ≤ 247 → place_of m cs r ≡ At r 0xff
  unfolding place_of page_zero page_byte
  place_zero r lo hi =
      rw (le-ltb r 240 (omega arith), le-leb r 255 (omega arith), eq-eqb (page_of m) 0 zeroth, le-leb 242 r lo, le-leb r 247 hi)
      (ap₂ At (omega arith) (existing-bits r (omega arith) ∙ ap (λ (b : Bool). cond b 0xfc 0xff) (ne_eqb r PPR (omega arith))))

  -- and no other of R240 to R255
  pub place_not_zero : (r : ℕ) → 240 ≤ r → (r < 242) ⊎ (247 < r) → place_of m cs r ≡ None
  unfolding place_of page_zero
  place_not_zero r lo out =
      rw (le-ltb r 240 lo, eq-eqb (page_of m) 0 zeroth) (cond_elim (λ (x : Option Place). x ≡ None) (leb r 255) (λ _. outside out) (λ _. refl))
    where
      outside : (r < 242) ⊎ (247 < r) → page_zero r ≡ None
      outside (inl h) = rw (lt-leb 242 r h)
      outside (inr h) = rw (le-leb 242 r (omega arith), lt-leb r 247 h)

-- ---- the records' pages

-- register r of page p is none of the record's
unnamed-place : (c : Channel) (p r : ℕ) → ((q : ℕ) → q < 5 → page_byte p r ≢ register_byte c q) → record_place c p r ≡ None
unfolding record_place idcr_byte ivr_byte dcpr_byte dapr_byte data_byte
unnamed-place c p r n =
    cond_elim (λ (x : Option Place). x ≡ None) (eqb p c.page)
    (λ e. rw (
      off e 0 (omega arith) c.idcr refl,
      off e 1 (omega arith) c.ivr refl,
      off e 2 (omega arith) c.dcpr refl,
      off e 3 (omega arith) c.dapr refl,
      off e 4 (omega arith) c.io refl,
    ))
    (λ _. refl)
  where
    off : eqb p c.page ≡ true → (q : ℕ) → q < 5 → (x : ℕ) → page_byte c.page x ≡ register_byte c q → eqb r x ≡ false
    off e q h x here = ne_eqb r x (λ i. n q h (ap₂ page_byte (eqb-true p c.page e) i ∙ here))

-- none of any record's
unnamed : (cs : List Channel) (p r : ℕ) → ((k q : ℕ) → k < length cs → q < 5 → page_byte p r ≢ register_byte (record_at cs k) q)
    → records_place cs p r ≡ None
unfolding records_place
unnamed [] p r n = refl
unnamed (c ∷ cs) p r n = rw (unnamed-place c p r (λ q. n 0 q (omega arith))) (unnamed cs p r (λ k q h. n (suc k) q (omega arith)))

-- the records before record k don't hide its registers
reach : (cs : List Channel) (k p r i e : ℕ) → k < length cs → ((l : ℕ) → l < k → record_place (record_at cs l) p r ≡ None)
    → record_place (record_at cs k) p r ≡ At i e → records_place cs p r ≡ At i e
unfolding records_place
reach [] k p r i e h before here = absurd (not-suc-le-zero h)
reach (c ∷ cs) zero p r i e h before here = rw here
reach (c ∷ cs) (suc k) p r i e h before here =
    rw (before 0 (omega arith)) (reach cs k p r i e (le_of_suc-le-suc h) (λ l g. before (suc l) (omega arith)) here)

-- IDCR has bits 5:0, the other four have all eight
abbrev pub record_bits : ℕ → ℕ
record_bits zero = 0x3f
record_bits (suc q) = 0xff

-- one of four numbers
one_of : (a b c d q : ℕ) → q < 4 → (x : ℕ) → x ≡ get_or (a ∷ b ∷ c ∷ d ∷ []) q 0 → (eqb x a || eqb x b || eqb x c || eqb x d) ≡ true
one_of a b c d zero h x e = rw (eq-eqb x a e)
one_of a b c d (suc zero) h x e = simp (eq-eqb x b e, or-true)
one_of a b c d (suc (suc zero)) h x e = simp (eq-eqb x c e, or-true)
one_of a b c d (suc (suc (suc zero))) h x e = simp (eq-eqb x d e, or-true)
one_of a b c d (suc (suc (suc (suc q)))) h x e = absurd (omega arith)

named_place : (c : Channel) (q : ℕ) → q < 5 → ((t : ℕ) → t < 5 → t ≢ q → register_byte c t ≢ register_byte c q)
    → record_place c c.page (register_number c q) ≡ At (page_byte c.page (register_number c q)) (record_bits q)
unfolding record_place
named_place c zero h apart = rw (eq-eqb c.page c.page refl, eq-eqb c.idcr c.idcr refl)
named_place c (suc q) h apart =
    rw (
      eq-eqb c.page c.page refl,
      ne_eqb (register_number c (suc q)) c.idcr idcr-apart,
      one_of c.ivr c.dcpr c.dapr c.io q (omega arith) (register_number c (suc q)) refl,
    )
  where
    idcr-apart : register_number c (suc q) ≢ c.idcr
    idcr-apart e =
        apart 0 (omega arith) (omega arith) (register-byte c 0 (omega arith) ∙ ap (page_byte c.page) (sym e) ∙ sym (register-byte c (suc q) h))

-- with a page other than 0 selected, a register that is none of any record's is not modelled
pub place-unnamed : (m : Image) (cs : List Channel) (r : ℕ) → page_of m ≢ 0 → 240 ≤ r
    → ((k q : ℕ) → k < length cs → q < 5 → page_byte (page_of m) r ≢ register_byte (record_at cs k) q) → place_of m cs r ≡ None
unfolding place_of
place-unnamed m cs r other lo n =
    rw (le-ltb r 240 lo, ne_eqb (page_of m) 0 other)
    (cond_elim (λ (x : Option Place). x ≡ None) (leb r 255) (λ _. unnamed cs (page_of m) r n) (λ _. refl))

-- ---- where a place is

-- byte i is register r's where page p is selected: R0 to R239 at their own number, R240 to R255 on the page
abbrev pub ByteOf : ℕ → ℕ → ℕ → Type 0
ByteOf p r i = ((r < 240) × (i ≡ r)) ⊎ ((240 ≤ r) × (r ≤ 255) × (i ≡ page_byte p r))

abbrev Stands : ℕ → ℕ → Option Place → Type 0
Stands p r (Some its) = ByteOf p r its.byte
Stands p r None = Unit {0}

or_elim : (P : Option Place → Type 0) (a b : Option Place) → P a → P b → P (or_place a b)
or_elim P (Some its) b x y = x
or_elim P None b x y = y

zero_stands : (r : ℕ) → 240 ≤ r → r ≤ 255 → Stands 0 r (page_zero r)
unfolding page_zero
zero_stands r lo hi = cond_elim (Stands 0 r) (between 242 247 r) (λ _. inr (lo, hi, refl)) (λ _. tt)

records_stand : (cs : List Channel) (p r : ℕ) → 240 ≤ r → r ≤ 255 → Stands p r (records_place cs p r)
unfolding records_place record_place
records_stand [] p r lo hi = tt
records_stand (c ∷ cs) p r lo hi = or_elim (Stands p r) (record_place c p r) _ here (records_stand cs p r lo hi)
  where
    here : Stands p r (record_place c p r)
    here =
        cond_elim (Stands p r) (eqb p c.page)
        (λ _. cond_elim (Stands p r) (eqb r c.idcr) (λ _. inr (lo, hi, refl))
        (λ _. cond_elim (Stands p r) (eqb r c.ivr || eqb r c.dcpr || eqb r c.dapr || eqb r c.io) (λ _. inr (lo, hi, refl)) (λ _. tt)))
        (λ _. tt)

-- a place is the register's own number, or its byte of the selected page
pub place-stands : (m : Image) (cs : List Channel) (r i e : ℕ) → place_of m cs r ≡ At i e → ByteOf (page_of m) r i
unfolding place_of
place-stands m cs r i e placed =
    subst (Stands (page_of m) r) placed
    (cond_elim (Stands (page_of m) r) (ltb r 240) (λ t. inl (ltb-true r 240 t, refl))
    (λ t. cond_elim (Stands (page_of m) r) (leb r 255) (λ u. paged (ltb-false r 240 t) (leb-true r 255 u)) (λ _. tt)))
  where
    paged : 240 ≤ r → r ≤ 255 → Stands (page_of m) r (cond (eqb (page_of m) 0) (page_zero r) (records_place cs (page_of m) r))
    paged lo hi =
        cond_elim (Stands (page_of m) r) (eqb (page_of m) 0) (λ z. rw (eqb-true (page_of m) 0 z) (zero_stands r lo hi))
        (λ _. records_stand cs (page_of m) r lo hi)

-- so it is never the mark: no read or write reaches it
pub place_range : (m : Image) (cs : List Channel) (r i e : ℕ) → at m PPR < 256 → place_of m cs r ≡ At i e → i < MARK
unfolding page_byte
place_range m cs r i e h placed = go (place-stands m cs r i e placed)
  where
    go : ByteOf (page_of m) r i → i < MARK
    go (inl x) = omega arith
    go (inr x) = omega arith

-- with a page other than 0 selected, R240 to R255 reach no byte of page 0
pub place-paged : (m : Image) (cs : List Channel) (r i e : ℕ) → page_of m ≢ 0 → 240 ≤ r → place_of m cs r ≡ At i e → 256 ≤ i
unfolding page_byte
place-paged m cs r i e other lo placed = go (place-stands m cs r i e placed)
  where
    go : ByteOf (page_of m) r i → 256 ≤ i
    go (inl x) = absurd (omega arith)
    go (inr x) = omega arith

-- ---- the records' registers, in a list within the rules

module _ (m : Image) (cs : List Channel) (ok : list_ok cs ≡ true) where
  -- with a record's page selected, its registers stand at their bytes, IDCR with bits 5:0 and the other four with all eight
  pub place_record : (k q : ℕ) → k < length cs → q < 5 → page_of m ≡ (record_at cs k).page
      → place_of m cs (register_number (record_at cs k) q) ≡ At (register_byte (record_at cs k) q) (record_bits q)
  unfolding place_of
  place_record k q hk hq page =
      let range = record_in_range (record_at cs k) (record_ok_lem cs ok k hk) in
      let c = record_at cs k in
      let r = register_number (record_at cs k) q in
      rw (le-ltb r 240 (range.register-low q hq), le-leb r 255 (range.register_high q hq), page, ne_eqb c.page 0 (omega (arith, range.page_low)))
      (reach cs k c.page r (register_byte c q) (record_bits q) hk
      (λ l g. unnamed-place (record_at cs l) c.page r
      (λ t ht e. registers_apart cs ok k q l t hk (omega arith) hq ht (inl (omega arith)) (register-byte c q hq ∙ e)))
      (named_place c q hq (λ t ht d. registers_apart cs ok k t k q hk hk ht hq (inr d)) ∙ ap (λ (x : ℕ). At x (record_bits q)) (sym (register-byte c q hq))))

  -- with a page that no record is on, none of R240 to R255 is modelled
  pub place_no_record : page_of m ≢ 0 → ((k : ℕ) → k < length cs → (record_at cs k).page ≢ page_of m) → (r : ℕ) → 240 ≤ r → place_of m cs r ≡ None
  place_no_record other n r lo = go (true_or (leb r 255))
    where
      go : (leb r 255 ≡ true) ⊎ (leb r 255 ≡ false) → place_of m cs r ≡ None
      go (inr t) = place-over m cs r (leb-false r 255 t)
      go (inl t) = place-unnamed m cs r other lo (λ k q hk hq e.
          let range = record_in_range (record_at cs k) (record_ok_lem cs ok k hk) in
          n k hk (sym (pairs_apart (page_of m) r (record_at cs k).page (register_number (record_at cs k) q) (lo, leb-true r 255 t)
          (range.register-low q hq, range.register_high q hq) (e ∙ register-byte (record_at cs k) q hq)).0))
