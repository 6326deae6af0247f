-- Document 01's return, read a second time: what it changes and leaves in each mode, and that it undoes an acknowledgement.
-- The return from the top level is in TopLevelLaws, the restored level in RestoredLaws. Assumes nothing.
use Rattle.std.specs.Prelude.{Ok}
use mathlib.Core.Path.{◌≡◌, refl, sym, ap, ◌∙◌}
use mathlib.Core.Logic.{◌≢◌, ◌⊎◌, inl, inr}
use mathlib.Core.List.{List}
use mathlib.Core.Bool.{Bool, true, false, cond, not, ◌&&◌, ◌||◌, and-true, and-not_self}
use Prim.Native.Nat.{ℕ, ◌≤◌, ◌<◌}
use native.Mathlib.Omega.{arith}
use lib.Dec.{lit<, lit≤, eqb, ltb}
use lib.ListN.{length}
use borrow.Author.Tests.{ltb-true, ltb-false, eq-eqb, ne_eqb}
use Rattle.rules.specs.declared.Channel.{Channel}
use Rattle.rules.specs.declared.Answer.TheVariants as answer
use Rattle.rules.specs.Image.{Image, image_length, at, has, put, in_service, Bit, bit_of, CPL, HL, IAM, IEN, TLNM, CICR, NICR}
use Rattle.rules.specs.Channels.{list_ok}
use Rattle.rules.specs.Sources.{sources}
use Rattle.rules.specs.Arbitration.{acknowledged}
use Rattle.rules.specs.Return.{restored_level, popped, unnested, returned, return_of}
use Rattle.rules.proofs.Bools.{cond_elim, cond_and, or_r, true_or}
use Rattle.rules.proofs.ImageLaws.{Apart, put-length, at-put_other, has-put_same, has-put_bit, has-put_other, low-put, put_CPL-length, at-put_CPL_other, CPL-put_CPL, has-put_CPL}
use Rattle.rules.proofs.AcknowledgementLaws.{acknowledged-length, acknowledged-mark, acknowledged-CICR, acknowledged-nested_HL}
use Rattle.rules.proofs.RestoredLaws.{restored_le, restored_is, restored_none}

-- ---- what the step answers and leaves

-- a return answers nothing more,
pub return_answer : (m : Image) → (return_of m).answer ≡ (Ok answer.Returned)
unfolding return_of
return_answer m = refl

-- and leaves what is returned to
pub return_image : (m : Image) → (return_of m).left ≡ returned m
unfolding return_of
return_image m = refl

-- ---- the return, where the top level is not in service

-- HLx is cleared for the restored level x exactly where that is below 7
pub popped_elim : (m : Image) (P : Image → Type 0) → (restored_level m < 7 → P (put m (HL (restored_level m)) false)) → (7 ≤ restored_level m → P m) → P (popped m)
unfolding popped
popped_elim m P p q = cond_elim P (ltb (restored_level m) 7) (λ t. p (ltb-true (restored_level m) 7 t)) (λ f. q (ltb-false (restored_level m) 7 f))

module _ (m : Image) (idle : in_service m ≡ false) where
  popped-length : length (popped m) ≡ length m
  popped-length = popped_elim m (λ (i : Image). length i ≡ length m) (λ t. put-length m (HL (restored_level m)) false) (λ f. refl)

  -- the mode's part, before IEN is set
  abbrev after_mode : Image
  after_mode = cond (has m IAM) (unnested m) m

  after_mode-length : length after_mode ≡ length m
  unfolding unnested
  after_mode-length = cond_elim (λ (i : Image). length i ≡ length m) (has m IAM) (λ t. put_CPL-length (popped m) (restored_level m) ∙ popped-length) (λ f. refl)

  -- IEN is set,
  pub returned-IEN : CICR < length m → has (returned m) IEN ≡ true
  unfolding returned
  returned-IEN h = rw idle (has-put_same after_mode IEN true (rw after_mode-length h) (lit< tt))

  after_mode-bit : (c : Bit) → c.number < 8 → Apart c IEN → has (returned m) c ≡ has after_mode c
  unfolding returned
  after_mode-bit c h a = rw idle (has-put_other after_mode IEN true c (lit< tt) h a)

  after_mode-byte : (j : ℕ) → j ≢ CICR → at (returned m) j ≡ at after_mode j
  unfolding returned
  after_mode-byte j d = rw idle (at-put_other after_mode IEN true j d)

  after_mode-CPL : CPL (returned m) ≡ CPL after_mode
  unfolding returned
  after_mode-CPL = rw idle (low-put after_mode IEN true CICR (lit< tt) (inr (lit≤ tt)))

  -- every bit stays but IEN, CPL's three and HL's seven,
  pub returned-bit : (c : Bit) → c.number < 8 → Apart c IEN → (c.byte ≢ CICR) ⊎ (3 ≤ c.number) → (c.byte ≢ NICR) ⊎ (7 ≤ c.number)
      → has (returned m) c ≡ has m c
  unfolding unnested
  returned-bit c h a x y =
      after_mode-bit c h a
      ∙ cond_elim (λ i. has i c ≡ has m c) (has m IAM) (λ t. has-put_CPL (popped m) (restored_level m) c (omega (arith, restored_le m)) x
      ∙ popped_elim m (λ i. has i c ≡ has m c)
      (λ t. has-put_other m (HL (restored_level m)) false c (omega (arith, restored_le m)) h (apart y t)) (λ f. refl)) (λ f. refl)
    where
      apart : (c.byte ≢ NICR) ⊎ (7 ≤ c.number) → restored_level m < 7 → Apart c (HL (restored_level m))
      apart (inl d) t = inl d
      apart (inr g) t = inr (λ e. omega arith)

  -- and every byte but CICR and NICR
  pub returned-byte : (j : ℕ) → j ≢ CICR → j ≢ NICR → at (returned m) j ≡ at m j
  unfolding unnested
  returned-byte j c n =
      after_mode-byte j c
      ∙ cond_elim (λ i. at i j ≡ at m j) (has m IAM) (λ t. at-put_CPL_other (popped m) (restored_level m) j c
      ∙ popped_elim m (λ i. at i j ≡ at m j) (λ t. at-put_other m (HL (restored_level m)) false j n) (λ f. refl)) (λ f. refl)

  -- TLNM stays,
  pub returned-TLNM : has (returned m) TLNM ≡ has m TLNM
  returned-TLNM = returned-bit TLNM (lit< tt) (inl (λ e. omega arith)) (inl (λ e. omega arith)) (inr (lit≤ tt))

  -- and so do CICR's GCEN, TLIP, TLI and IAM
  pub returned-CICR : (k : ℕ) → k < 8 → 3 ≤ k → k ≢ 4 → has (returned m) (bit_of CICR k) ≡ has m (bit_of CICR k)
  returned-CICR k h g d = returned-bit (bit_of CICR k) h (inr d) (inr g) (inl (λ e. omega arith))

  -- concurrent mode: every bit of CICR stays but IEN,
  pub returned-concurrent_CICR : has m IAM ≡ false → (k : ℕ) → k < 8 → k ≢ 4 → has (returned m) (bit_of CICR k) ≡ has m (bit_of CICR k)
  returned-concurrent_CICR f k h d = after_mode-bit (bit_of CICR k) h (inr d) ∙ ap (λ (t : Bool). has (cond t (unnested m) m) (bit_of CICR k)) f

  -- and every other byte, NICR among them
  pub returned-concurrent_byte : has m IAM ≡ false → (j : ℕ) → j ≢ CICR → at (returned m) j ≡ at m j
  returned-concurrent_byte f j d = after_mode-byte j d ∙ ap (λ (t : Bool). at (cond t (unnested m) m) j) f

  -- nested mode: CPL becomes the restored level,
  pub returned-nested_CPL : has m IAM ≡ true → CICR < length m → CPL (returned m) ≡ restored_level m
  unfolding unnested
  returned-nested_CPL t h =
      after_mode-CPL ∙ ap (λ (b : Bool). CPL (cond b (unnested m) m)) t
      ∙ CPL-put_CPL (popped m) (restored_level m) (rw popped-length h) (omega (arith, restored_le m))

  -- and HLx is set afterwards exactly if it was, and x is not the restored level
  pub returned-nested_HL : has m IAM ≡ true → NICR < length m → (x : ℕ) → x ≤ 6 → has (returned m) (HL x) ≡ (has m (HL x) && not (eqb x (restored_level m)))
  unfolding unnested
  returned-nested_HL t long x h =
      after_mode-bit (HL x) (omega arith) (inl (λ e. omega arith)) ∙ ap (λ (b : Bool). has (cond b (unnested m) m) (HL x)) t
      ∙ has-put_CPL (popped m) (restored_level m) (HL x) (omega (arith, restored_le m)) (inl (λ e. omega arith))
      ∙ popped_elim m (λ i. has i (HL x) ≡ (has m (HL x) && not (eqb x (restored_level m))))
      (λ t. has-put_bit m (HL (restored_level m)) false x long (omega (arith, restored_le m)) (omega arith) ∙ cond_and (eqb x (restored_level m)) (has m (HL x)))
      (λ f. rw (ne_eqb x (restored_level m) (λ e. omega arith)) (sym (and-true (has m (HL x)))))

-- ---- push and pop

-- in nested mode, with no HL bit below CPL set, a return after an acknowledgement
module _ (m : Image) (cs : List Channel) (s l : ℕ) (long : length m ≡ image_length) (ok : list_ok cs ≡ true) (there : s < sources cs) (low : l < 8)
    (idle : in_service m ≡ false) (nest : has m IAM ≡ true) (below : (y : ℕ) → y < CPL m → has m (HL y) ≡ false) where
  HL-pushed : (x : ℕ) → x ≤ 6 → has (acknowledged m cs s l) (HL x) ≡ (has m (HL x) || eqb x (CPL m))
  HL-pushed = acknowledged-nested_HL m cs s l long ok there low nest

  still-idle : in_service (acknowledged m cs s l) ≡ false
  still-idle = rw (acknowledged-mark m cs s l long ok there low) idle

  still-nested : has (acknowledged m cs s l) IAM ≡ true
  still-nested = acknowledged-CICR m cs s l long ok there low 3 (lit< tt) (lit≤ tt) (λ e. omega arith) ∙ nest

  still-clear : (y : ℕ) → y < CPL m → has (acknowledged m cs s l) (HL y) ≡ false
  still-clear y h = HL-pushed y (omega arith) ∙ rw (below y h) (ne_eqb y (CPL m) (λ e. omega arith))

  restored_pushed : restored_level (acknowledged m cs s l) ≡ CPL m
  restored_pushed = go (true_or (ltb (CPL m) 7))
    where
      go : (ltb (CPL m) 7 ≡ true) ⊎ (ltb (CPL m) 7 ≡ false) → restored_level (acknowledged m cs s l) ≡ CPL m
      go (inl t) =
          let h = ltb-true (CPL m) 7 t in
          restored_is (acknowledged m cs s l) (CPL m) h
          (HL-pushed (CPL m) (omega arith) ∙ or_r (has m (HL (CPL m))) (eqb (CPL m) (CPL m)) (eq-eqb (CPL m) (CPL m) refl)) still-clear
      go (inr f) =
          let h = ltb-false (CPL m) 7 f in
          restored_none (acknowledged m cs s l) (λ y g. still-clear y (omega arith)) ∙ omega arith

  -- restores CPL,
  pub push-pop_CPL : CPL (returned (acknowledged m cs s l)) ≡ CPL m
  push-pop_CPL =
      returned-nested_CPL (acknowledged m cs s l) still-idle still-nested (rw (acknowledged-length m cs s l long ok there low) (lit< tt)) ∙ restored_pushed

  -- and leaves the HL bits as they were, that of CPL cleared
  pub push-pop_HL : (x : ℕ) → x ≤ 6 → has (returned (acknowledged m cs s l)) (HL x) ≡ (has m (HL x) && not (eqb x (CPL m)))
  push-pop_HL x h =
      returned-nested_HL (acknowledged m cs s l) still-idle still-nested (rw (acknowledged-length m cs s l long ok there low) (lit< tt)) x h
      ∙ rw (restored_pushed, HL-pushed x h) (or_and_not (has m (HL x)) (eqb x (CPL m)))
    where
      or_and_not : (a e : Bool) → ((a || e) && not e) ≡ (a && not e)
      or_and_not true e = refl
      or_and_not false e = and-not_self e
