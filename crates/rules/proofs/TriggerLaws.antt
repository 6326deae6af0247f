-- Document 01's triggers, read a second time: what a trigger answers for the bits that it selects, what it changes and what it leaves.
-- Assumes nothing.
use Rattle.std.specs.Prelude.{Ok, Err}
use mathlib.Core.Path.{◌≡◌, refl, sym, ap, ◌∙◌}
use mathlib.Core.Logic.{◌≢◌, inl}
use mathlib.Core.List.{List}
use mathlib.Core.Option.{Option, none, some}
use mathlib.Core.Bool.{Bool, true, false, ◌||◌, or-true, or-false}
use Prim.Native.Nat.{ℕ, ◌-◌, ◌<◌}
use native.Mathlib.Omega.{arith}
use native.Mathlib.Decide.{ℕ_discrete}
use lib.Dec.{lit<, eqb}
use lib.ListN.{length}
use borrow.Author.Tests.{eq-eqb, ne_eqb}
use Rattle.rules.specs.declared.Channel.{Channel}
use Rattle.rules.specs.declared.Trigger.{Trigger}
use Rattle.rules.specs.declared.Effect.{Effect}
use Rattle.rules.specs.declared.Effect.TheVariants as effect
use Rattle.rules.specs.declared.Answer.TheVariants as answer
use Rattle.rules.specs.declared.Refusal.{Refusal}
use Rattle.rules.specs.Image.{Image, image_length, at, has, put, Bit, CICR, EIPR, TLIP}
use Rattle.rules.specs.Channels.{record_at, idcr_byte, list_ok}
use Rattle.rules.specs.Outcomes.{refuse, accepted}
use Rattle.rules.specs.Sources.{sources, pending_bit, pending}
use Rattle.rules.specs.Triggers.{trigger_verdict, selects, selects_top, effect_on, source_effect, raise_source, top_effect, raise_top, fired, trigger_of}
use Rattle.rules.specs.Demand3.{within}
use Rattle.rules.proofs.Bools.{cond_elim}
use Rattle.rules.proofs.ImageLaws.{Apart, put-length, at-put_other, has-put_same, has-put_other}
use Rattle.rules.proofs.SelectionLaws.{selected-there}
use Rattle.rules.proofs.PendingLaws.{pending_elim, pending-number, pending-elsewhere, pending-put_same, pending-put_other, pending-same}

-- ---- what an accepted trigger changes

-- for the source that it selects, if any
module _ (m : Image) (cs : List Channel) (long : length m ≡ image_length) (ok : list_ok cs ≡ true) where
  raise-pending : (o : Option ℕ) → ((s : ℕ) → o ≡ some s → s < sources cs) → (k : ℕ) → k < sources cs
      → pending (raise_source m cs o) cs k ≡ (pending m cs k || within (λ j. eqb j k) o)
  unfolding raise_source
  raise-pending none there k h = sym (or-false (pending m cs k))
  raise-pending (some s) there k h = go (ℕ_discrete s k)
    where
      go : Dec (s ≡ k) → pending (put m (pending_bit cs s) true) cs k ≡ (pending m cs k || eqb s k)
      go (yes e) =
          rw (eq-eqb s k e, or-true (pending m cs k), e) (pending-put_same cs ok m k true long h)
      go (no d) =
          rw (ne_eqb s k d, or-false (pending m cs k)) (pending-put_other cs ok m k s true h (there s refl) (λ e. d (sym e)))

  raise-byte : (o : Option ℕ) (j : ℕ) → ((s : ℕ) → o ≡ some s → j ≢ (pending_bit cs s).byte) → at (raise_source m cs o) j ≡ at m j
  unfolding raise_source
  raise-byte none j d = refl
  raise-byte (some s) j d = at-put_other m (pending_bit cs s) true j (d s refl)

  raise-bit : (o : Option ℕ) → ((s : ℕ) → o ≡ some s → s < sources cs) → (c : Bit) → c.number < 8
      → ((s : ℕ) → o ≡ some s → Apart c (pending_bit cs s)) → has (raise_source m cs o) c ≡ has m c
  unfolding raise_source
  raise-bit none there c h d = refl
  raise-bit (some s) there c h d = has-put_other m (pending_bit cs s) true c (pending-number cs ok s (there s refl)) h (d s refl)

  raise-length : (o : Option ℕ) → length (raise_source m cs o) ≡ image_length
  unfolding raise_source
  raise-length none = long
  raise-length (some s) = put-length m (pending_bit cs s) true ∙ long

-- and for TLIP
module _ (m : Image) (b : Bool) where
  top_bit : CICR < length m → has (raise_top m b) TLIP ≡ (has m TLIP || b)
  unfolding raise_top
  top_bit h =
      cond_elim (λ i. has i TLIP ≡ (has m TLIP || b)) b (λ t. rw (t, or-true (has m TLIP)) (has-put_same m TLIP true h (lit< tt)))
      (λ f. rw f (sym (or-false (has m TLIP))))

  top_byte : (j : ℕ) → j ≢ CICR → at (raise_top m b) j ≡ at m j
  unfolding raise_top
  top_byte j d = cond_elim (λ i. at i j ≡ at m j) b (λ t. at-put_other m TLIP true j d) (λ f. refl)

  top-other : (c : Bit) → c.number < 8 → Apart c TLIP → has (raise_top m b) c ≡ has m c
  unfolding raise_top
  top-other c h a = cond_elim (λ i. has i c ≡ has m c) b (λ t. has-put_other m TLIP true c (lit< tt) h a) (λ f. refl)

-- what an effect says of a bit: whether it was selected, and whether it was set before
abbrev pub Says : Effect → Bool → Bool → Type 0
Says effect.NotSelected selected was = selected ≡ false
Says effect.Raised selected was = (selected ≡ true) × (was ≡ false)
Says effect.Merged selected was = (selected ≡ true) × (was ≡ true)

effect_says : (was : Bool) → Says (effect_on was) true was
effect_says true = (refl, refl)
effect_says false = (refl, refl)

source-says : (m : Image) (cs : List Channel) (o : Option ℕ) → Says (source_effect m cs o) (within (λ j. true) o) (within (pending m cs) o)
unfolding source_effect
source-says m cs none = refl
source-says m cs (some s) = effect_says (pending m cs s)

top-says : (m : Image) (b : Bool) → Says (top_effect m b) b (has m TLIP)
unfolding top_effect
top-says m true = effect_says (has m TLIP)
top-says m false = refl

-- ---- the laws

-- a refused trigger answers its refusal, and changes nothing
pub trigger-refused : (m : Image) (cs : List Channel) (t : Trigger) (r : Refusal) → trigger_verdict cs t ≡ (Err r) → trigger_of m cs t ≡ refuse r m
unfolding trigger_of fired
trigger-refused m cs t r v = rw v

module _ (m : Image) (cs : List Channel) (t : Trigger) (long : length m ≡ image_length) (ok : list_ok cs ≡ true)
    (accepted : trigger_verdict cs t ≡ accepted) where
  abbrev raised : Image
  raised = raise_source m cs (selects m t)

  triggered : (trigger_of m cs t).left ≡ raise_top raised (selects_top m t)
  unfolding trigger_of fired
  triggered = rw accepted

  there : (s : ℕ) → selects m t ≡ some s → s < sources cs
  there = selected-there m cs t accepted

  -- the answer: NotSelected, Raised or Merged for the maskable bit, and for TLIP
  pub trigger-answer : (e : Effect) × (f : Effect) × ((trigger_of m cs t).answer ≡ (Ok (answer.Triggered e f)))
      × Says e (within (λ j. true) (selects m t)) (within (pending m cs) (selects m t)) × Says f (selects_top m t) (has m TLIP)
  unfolding trigger_of fired
  trigger-answer =
      (source_effect m cs (selects m t), top_effect m (selects_top m t), rw accepted, source-says m cs (selects m t), top-says m (selects_top m t))

  -- a source is pending afterwards exactly if it was, or is the one selected
  pub trigger-pending : (k : ℕ) → k < sources cs → pending (trigger_of m cs t).left cs k ≡ (pending m cs k || within (λ j. eqb j k) (selects m t))
  trigger-pending k h =
      pending-same cs ok raised (trigger_of m cs t).left k h (λ j c n x. rw triggered (top_byte raised (selects_top m t) j c))
      ∙ raise-pending m cs long ok (selects m t) there k h

  -- every bit stays but TLIP and the sources' pending bits,
  pub trigger-bit : (c : Bit) → c.number < 8 → Apart c TLIP → ((k : ℕ) → k < sources cs → Apart c (pending_bit cs k)) → has (trigger_of m cs t).left c ≡ has m c
  trigger-bit c h a p =
      rw triggered (top-other raised (selects_top m t) c h a ∙ raise-bit m cs long ok (selects m t) there c h (λ s e. p s (there s e)))

  -- every byte but CICR, EIPR and the records' IDCRs
  pub trigger-byte : (j : ℕ) → j ≢ CICR → j ≢ EIPR → ((k : ℕ) → k < length cs → j ≢ idcr_byte (record_at cs k)) → at (trigger_of m cs t).left j ≡ at m j
  unfolding sources
  trigger-byte j c x y =
      rw triggered (top_byte raised (selects_top m t) j c
      ∙ raise-byte m cs long ok (selects m t) j (λ s e. pending_elim cs ok s (there s e) (λ b. j ≢ b.byte) (λ g. x) (λ g o. y (s - 8) (omega (arith, there s e)))))

  -- TLIP is set afterwards exactly if it was, or is selected
  pub trigger-TLIP : has (trigger_of m cs t).left TLIP ≡ (has m TLIP || selects_top m t)
  trigger-TLIP =
      rw triggered (top_bit raised (selects_top m t) (rw (raise-length m cs long ok (selects m t)) (lit< tt))
      ∙ ap (λ (b : Bool). b || selects_top m t) (raise-bit m cs long ok (selects m t) there TLIP (lit< tt)
      (λ s e. inl (pending-elsewhere cs ok s (there s e) CICR (λ d. omega arith) (λ o. omega arith)))))
