-- Document 01's acknowledgement, read a second time: what it changes and what it leaves, mode by mode. Assumes nothing.
use mathlib.Core.Path.{◌≡◌, refl, sym, ap, ◌∙◌}
use mathlib.Core.Logic.{◌≢◌, ◌⊎◌, inl, inr}
use mathlib.Core.List.{List}
use mathlib.Core.Bool.{Bool, true, false, cond, ◌||◌, or-false}
use Prim.Native.Nat.{ℕ, ◌%◌, ◌≤◌, ◌<◌}
use native.Mathlib.Omega.{arith}
use native.Mathlib.Nat.{mod-lt, zero-lt-suc}
use lib.Dec.{lit<, lit≤, eqb, leb}
use lib.ListN.{length, length-set}
use lib.Seq.{get_or-set_other}
use borrow.Author.Tests.{ltb-false, leb-true, leb-false, ne_eqb}
use Rattle.bits.specs.Bits.{bit}
use Rattle.rules.specs.declared.Channel.{Channel}
use Rattle.rules.specs.Image.{Image, image_length, at, has, put, Bit, bit_of, CPL, HL, IAM, IEN, TLNM, CICR, NICR, EIPR, EIMR, EIPLR, MARK}
use Rattle.rules.specs.Channels.{idcr_byte, list_ok, PRL}
use Rattle.rules.specs.Sources.{sources, external, record_of, pending_bit, pending, unmasked, dma_enabled, external_level, level}
use Rattle.rules.specs.Arbitration.{cleared, pushed, nested, acknowledged}
use Rattle.rules.proofs.Bools.{cond_elim, cond_same, cond_or}
use Rattle.rules.proofs.ImageLaws.{Apart, put-length, at-put_other, has-put_same, has-put_bit, has-put_other, low-put, put_CPL-length, at-put_CPL_other, CPL-put_CPL, has-put_CPL}
use Rattle.rules.proofs.ChannelLaws.{OnPage}
use Rattle.rules.proofs.PendingLaws.{idcr-on_page, pending_elim, pending-number, pending-elsewhere, pending_not_idcr, pending-put_same, pending-put_other, pending-same}

-- ---- the push

CPL_lt : (m : Image) → CPL m < 8
CPL_lt m = mod-lt (at m CICR) (zero-lt-suc 7)

-- HLx is set for x = CPL exactly where CPL is at most 6
pub pushed_elim : (m : Image) (P : Image → Type 0) → (CPL m ≤ 6 → P (put m (HL (CPL m)) true)) → (6 < CPL m → P m) → P (pushed m)
unfolding pushed
pushed_elim m P p q = cond_elim P (leb (CPL m) 6) (λ t. p (leb-true (CPL m) 6 t)) (λ f. q (leb-false (CPL m) 6 f))

module _ (m : Image) (l : ℕ) where
  pushed-length : length (pushed m) ≡ length m
  pushed-length = pushed_elim m (λ x. length x ≡ length m) (λ t. put-length m (HL (CPL m)) true) (λ f. refl)

  nested-length : length (nested m l) ≡ length m
  unfolding nested
  nested-length = put_CPL-length (pushed m) l ∙ pushed-length

  nested-byte : (j : ℕ) → j ≢ CICR → j ≢ NICR → at (nested m l) j ≡ at m j
  unfolding nested
  nested-byte j c n = at-put_CPL_other (pushed m) l j c ∙ pushed_elim m (λ x. at x j ≡ at m j) (λ t. at-put_other m (HL (CPL m)) true j n) (λ f. refl)

  -- HLx is set afterwards exactly if it was, or x is the old CPL
  nested-HL : NICR < length m → (x : ℕ) → x ≤ 6 → l < 8 → has (nested m l) (HL x) ≡ (has m (HL x) || eqb x (CPL m))
  unfolding nested
  nested-HL long x h low =
      has-put_CPL (pushed m) l (HL x) low (inl (λ e. omega arith))
      ∙ pushed_elim m (λ i. has i (HL x) ≡ (has m (HL x) || eqb x (CPL m)))
      (λ t. has-put_bit m (HL (CPL m)) true x long (CPL_lt m) (omega arith) ∙ cond_or (eqb x (CPL m)) (has m (HL x)))
      (λ f. rw (ne_eqb x (CPL m) (λ e. omega arith)) (sym (or-false (has m (HL x)))))

  -- any bit but CPL's three and HL's seven
  nested-bit : (c : Bit) → c.number < 8 → l < 8 → (c.byte ≢ CICR) ⊎ (3 ≤ c.number) → (c.byte ≢ NICR) ⊎ (7 ≤ c.number) → has (nested m l) c ≡ has m c
  unfolding nested
  nested-bit c h low p q =
      has-put_CPL (pushed m) l c low p
      ∙ pushed_elim m (λ x. has x c ≡ has m c) (λ t. has-put_other m (HL (CPL m)) true c (CPL_lt m) h (apart q t)) (λ f. refl)
    where
      apart : (c.byte ≢ NICR) ⊎ (7 ≤ c.number) → CPL m ≤ 6 → Apart c (HL (CPL m))
      apart (inl d) t = inl d
      apart (inr g) t = inr (λ e. omega arith)

-- ---- the pending bit of source s is cleared

module _ (m : Image) (cs : List Channel) (s : ℕ) where
  pub cleared-length : length (cleared m cs s) ≡ length m
  unfolding cleared put
  cleared-length = length-set m (pending_bit cs s).byte _

  -- every byte stays but that bit's
  pub cleared-byte : (j : ℕ) → j ≢ (pending_bit cs s).byte → at (cleared m cs s) j ≡ at m j
  unfolding cleared put
  cleared-byte j d = get_or-set_other m (pending_bit cs s).byte j _ 0 d

  -- and every other bit of it
  pub cleared-bit : (pending_bit cs s).number < 8 → (c : Bit) → c.number < 8 → Apart c (pending_bit cs s) → has (cleared m cs s) c ≡ has m c
  unfolding cleared
  cleared-bit small c h p = has-put_other m (pending_bit cs s) false c small h p

-- ---- the acknowledgement of source s at level l

module _ (m : Image) (cs : List Channel) (s l : ℕ) (long : length m ≡ image_length) (ok : list_ok cs ≡ true) (there : s < sources cs) (low : l < 8) where
  -- before the pending bit and IEN are cleared
  abbrev after_mode : Image
  after_mode = cond (has m IAM) (nested m l) m

  after_mode-length : length after_mode ≡ image_length
  after_mode-length = cond_elim (λ x. length x ≡ image_length) (has m IAM) (λ t. nested-length m l ∙ long) (λ f. long)

  -- the image keeps its length
  pub acknowledged-length : length (acknowledged m cs s l) ≡ image_length
  unfolding acknowledged
  acknowledged-length = put-length (cleared after_mode cs s) IEN false ∙ cleared-length after_mode cs s ∙ after_mode-length

  -- clearing IEN leaves the pending bits
  pending-kept : (k : ℕ) → k < sources cs → pending (acknowledged m cs s l) cs k ≡ pending (cleared after_mode cs s) cs k
  unfolding acknowledged
  pending-kept k h =
      pending-same cs ok (cleared after_mode cs s) (put (cleared after_mode cs s) IEN false) k h (λ j c n t. at-put_other (cleared after_mode cs s) IEN false j c)

  -- it clears the winner's pending bit,
  pub acknowledged_clears : pending (acknowledged m cs s l) cs s ≡ false
  unfolding cleared
  acknowledged_clears = pending-kept s there ∙ pending-put_same cs ok after_mode s false after_mode-length there

  -- and no other source's
  pub acknowledged-others : (k : ℕ) → k < sources cs → k ≢ s → pending (acknowledged m cs s l) cs k ≡ pending m cs k
  unfolding cleared
  acknowledged-others k h d =
      pending-kept k h ∙ pending-put_other cs ok after_mode k s false h there d
      ∙ cond_elim (λ x. pending x cs k ≡ pending m cs k) (has m IAM) (λ t. pending-same cs ok m (nested m l) k h (λ j c n t. nested-byte m l j c n)) (λ f. refl)

  -- IEN is cleared
  pub acknowledged-IEN : has (acknowledged m cs s l) IEN ≡ false
  unfolding acknowledged
  acknowledged-IEN = has-put_same (cleared after_mode cs s) IEN false (rw (cleared-length after_mode cs s, after_mode-length) (lit< tt)) (lit< tt)

  -- a bit that is not the pending bit is changed by the mode alone, or is IEN
  acknowledged-after_mode : (c : Bit) → c.number < 8 → Apart c IEN → Apart c (pending_bit cs s) → has (acknowledged m cs s l) c ≡ has after_mode c
  unfolding acknowledged
  acknowledged-after_mode c h a p =
      has-put_other (cleared after_mode cs s) IEN false c (lit< tt) h a ∙ cleared-bit after_mode cs s (pending-number cs ok s there) c h p

  -- and so is a byte, but CICR and the pending bit's
  after_mode-byte : (j : ℕ) → j ≢ CICR → j ≢ (pending_bit cs s).byte → at (acknowledged m cs s l) j ≡ at after_mode j
  unfolding acknowledged
  after_mode-byte j c p = at-put_other (cleared after_mode cs s) IEN false j c ∙ cleared-byte after_mode cs s j p

  -- every bit stays but IEN, the pending bit, CPL's three and HL's seven
  pub acknowledged-bit : (c : Bit) → c.number < 8 → Apart c IEN → Apart c (pending_bit cs s)
      → (c.byte ≢ CICR) ⊎ (3 ≤ c.number) → (c.byte ≢ NICR) ⊎ (7 ≤ c.number) → has (acknowledged m cs s l) c ≡ has m c
  acknowledged-bit c h a p x y =
      acknowledged-after_mode c h a p ∙ cond_elim (λ i. has i c ≡ has m c) (has m IAM) (λ t. nested-bit m l c h low x y) (λ f. refl)

  -- every byte stays but CICR, NICR and the pending bit's
  pub acknowledged-byte : (j : ℕ) → j ≢ CICR → j ≢ NICR → j ≢ (pending_bit cs s).byte → at (acknowledged m cs s l) j ≡ at m j
  acknowledged-byte j c n p = after_mode-byte j c p ∙ cond_elim (λ i. at i j ≡ at m j) (has m IAM) (λ t. nested-byte m l j c n) (λ f. refl)

  not_pending : (j : ℕ) → j ≢ EIPR → (OnPage j → ⊥) → j ≢ (pending_bit cs s).byte
  not_pending = pending-elsewhere cs ok s there

  -- the mark stays,
  pub acknowledged-mark : at (acknowledged m cs s l) MARK ≡ at m MARK
  acknowledged-mark = acknowledged-byte MARK (λ e. omega arith) (λ e. omega arith) (not_pending MARK (λ e. omega arith) (λ o. omega arith))

  -- TLNM stays, in either mode and at any CPL,
  pub acknowledged-TLNM : has (acknowledged m cs s l) TLNM ≡ has m TLNM
  acknowledged-TLNM =
      acknowledged-bit TLNM (lit< tt) (inl (λ e. omega arith)) (inl (not_pending NICR (λ e. omega arith) (λ o. omega arith))) (inr (lit≤ tt)) (inr (lit≤ tt))

  -- and so do CICR's GCEN, TLIP, TLI and IAM
  pub acknowledged-CICR : (k : ℕ) → k < 8 → 3 ≤ k → k ≢ 4 → has (acknowledged m cs s l) (bit_of CICR k) ≡ has m (bit_of CICR k)
  acknowledged-CICR k h g d =
      acknowledged-bit (bit_of CICR k) h (inr d) (inl (not_pending CICR (λ e. omega arith) (λ o. omega arith))) (inr g) (inl (λ e. omega arith))

  -- CPL is what the mode makes it
  after_mode-CPL : CPL (acknowledged m cs s l) ≡ CPL after_mode
  unfolding acknowledged
  after_mode-CPL =
      low-put (cleared after_mode cs s) IEN false CICR (lit< tt) (inr (lit≤ tt))
      ∙ ap (λ (x : ℕ). x % 8) (cleared-byte after_mode cs s CICR (not_pending CICR (λ e. omega arith) (λ o. omega arith)))

  -- concurrent mode: every byte stays but CICR and the pending bit's,
  pub acknowledged-concurrent_byte : has m IAM ≡ false → (j : ℕ) → j ≢ CICR → j ≢ (pending_bit cs s).byte → at (acknowledged m cs s l) j ≡ at m j
  acknowledged-concurrent_byte f j c p = after_mode-byte j c p ∙ ap (λ (t : Bool). at (cond t (nested m l) m) j) f

  -- NICR among them,
  pub acknowledged-concurrent_NICR : has m IAM ≡ false → at (acknowledged m cs s l) NICR ≡ at m NICR
  acknowledged-concurrent_NICR f = acknowledged-concurrent_byte f NICR (λ e. omega arith) (not_pending NICR (λ e. omega arith) (λ o. omega arith))

  -- and CPL stays
  pub acknowledged-concurrent_CPL : has m IAM ≡ false → CPL (acknowledged m cs s l) ≡ CPL m
  acknowledged-concurrent_CPL f = after_mode-CPL ∙ ap (λ (t : Bool). CPL (cond t (nested m l) m)) f

  -- nested mode: CPL becomes the winner's level,
  pub acknowledged-nested_CPL : has m IAM ≡ true → CPL (acknowledged m cs s l) ≡ l
  unfolding nested
  acknowledged-nested_CPL t =
      after_mode-CPL ∙ ap (λ (t : Bool). CPL (cond t (nested m l) m)) t
      ∙ CPL-put_CPL (pushed m) l (rw (pushed-length m l, long) (lit< tt)) low

  -- HLx is set afterwards exactly if it was, or x is the old CPL,
  pub acknowledged-nested_HL : has m IAM ≡ true → (x : ℕ) → x ≤ 6 → has (acknowledged m cs s l) (HL x) ≡ (has m (HL x) || eqb x (CPL m))
  acknowledged-nested_HL t x h =
      acknowledged-after_mode (HL x) (omega arith) (inl (λ e. omega arith)) (inl (not_pending NICR (λ e. omega arith) (λ o. omega arith)))
      ∙ ap (λ (t : Bool). has (cond t (nested m l) m) (HL x)) t ∙ nested-HL m l (rw long (lit< tt)) x h low

  -- and at CPL 7 NICR stays whole
  pub acknowledged-lowest_NICR : CPL m ≡ 7 → at (acknowledged m cs s l) NICR ≡ at m NICR
  unfolding nested
  acknowledged-lowest_NICR e =
      after_mode-byte NICR (λ e. omega arith) (not_pending NICR (λ e. omega arith) (λ o. omega arith))
      ∙ cond_elim (λ i. at i NICR ≡ at m NICR) (has m IAM)
      (λ t. at-put_CPL_other (pushed m) l NICR (λ e. omega arith) ∙ pushed_elim m (λ i. at i NICR ≡ at m NICR) (λ h. absurd (omega arith)) (λ h. refl)) (λ f. refl)

  -- each bit of an IDCR stays but IP
  idcr-bit : (k n : ℕ) → 8 ≤ k → k < sources cs → n < 8 → n ≢ 5
      → has (acknowledged m cs s l) (bit_of (idcr_byte (record_of cs k)) n) ≡ has m (bit_of (idcr_byte (record_of cs k)) n)
  idcr-bit k n g h hn d =
      let on = idcr-on_page cs ok k g h in
      acknowledged-bit (bit_of (idcr_byte (record_of cs k)) n) hn (inl (λ e. omega arith)) (pending_not_idcr cs ok s there k n g h d)
      (inl (λ e. omega arith)) (inl (λ e. omega arith))

  -- the masks of all sources stay,
  pub acknowledged-unmasked : (k : ℕ) → k < sources cs → unmasked (acknowledged m cs s l) cs k ≡ unmasked m cs k
  unfolding unmasked
  acknowledged-unmasked k h =
      cond_same (external k)
      (λ t. ap (bit k) (acknowledged-byte EIMR (λ e. omega arith) (λ e. omega arith) (not_pending EIMR (λ e. omega arith) (λ o. omega arith))))
      (λ f. idcr-bit k 3 (ltb-false k 8 f) h (lit< tt) (λ e. omega arith))

  -- their DMA enables,
  pub acknowledged-dma_enabled : (k : ℕ) → k < sources cs → dma_enabled (acknowledged m cs s l) cs k ≡ dma_enabled m cs k
  unfolding dma_enabled
  acknowledged-dma_enabled k h = cond_same (external k) (λ t. refl) (λ f. idcr-bit k 4 (ltb-false k 8 f) h (lit< tt) (λ e. omega arith))

  PRL-kept : (k : ℕ) → OnPage (idcr_byte (record_of cs k)) → PRL (acknowledged m cs s l) (record_of cs k) ≡ PRL m (record_of cs k)
  unfolding cleared acknowledged
  PRL-kept k on =
      let at-k = idcr_byte (record_of cs k) in
      low-put (cleared after_mode cs s) IEN false at-k (lit< tt) (inl (λ e. omega arith))
      ∙ low-put after_mode (pending_bit cs s) false at-k (pending-number cs ok s there)
      (pending_elim cs ok s there (λ b. (at-k ≢ b.byte) ⊎ (3 ≤ b.number)) (λ g. inl (λ e. omega arith)) (λ g o. inr (lit≤ tt)))
      ∙ ap (λ (x : ℕ). x % 8) (cond_elim (λ i. at i at-k ≡ at m at-k) (has m IAM) (λ t. nested-byte m l at-k (λ e. omega arith) (λ e. omega arith)) (λ f. refl))

  -- and their levels
  pub acknowledged-level : (k : ℕ) → k < sources cs → level (acknowledged m cs s l) cs k ≡ level m cs k
  unfolding level
  acknowledged-level k h =
      cond_same (external k)
      (λ t. ap (λ (e : ℕ). external_level e k) (acknowledged-byte EIPLR (λ e. omega arith) (λ e. omega arith)
      (not_pending EIPLR (λ e. omega arith) (λ o. omega arith))))
      (λ f. PRL-kept k (idcr-on_page cs ok k (ltb-false k 8 f) h))
