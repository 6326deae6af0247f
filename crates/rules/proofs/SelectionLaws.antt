-- Document 01's triggers, read a second time: which bits each selects, and which are refused. Assumes nothing.
use Rattle.std.specs.Prelude.{Err}
use mathlib.Core.Path.{◌≡◌, refl, ap}
use mathlib.Core.Logic.{◌≢◌, ◌⊎◌, inl, inr}
use mathlib.Core.List.{List}
use mathlib.Core.Option.{none, some}
use mathlib.Core.Bool.{Bool, true, false, cond, not, ◌&&◌, ◌||◌, or-true, and-true, and-false, true≢false}
use Prim.Native.Nat.{ℕ, ◌+◌, ◌≤◌, ◌<◌}
use native.Mathlib.Omega.{arith}
use lib.Dec.{eqb, ltb}
use lib.ListN.{length}
use borrow.Author.Tests.{ltb-true, ltb-false, lt-ltb, le-ltb, eq-eqb, ne_eqb}
use Rattle.bits.specs.Bits.{digit}
use Rattle.bits.proofs.BitLaws.{digit-bit}
use Rattle.rules.specs.declared.Channel.{Channel}
use Rattle.rules.specs.declared.Trigger.{Trigger}
use Rattle.rules.specs.declared.Trigger.TheVariants as trigger
use Rattle.rules.specs.declared.Refusal.{Refusal}
use Rattle.rules.specs.declared.Refusal.TheVariants as refusal
use Rattle.rules.specs.Image.{Image, at, has, bit_of, EITR, EIVR, TLIS, IAOS}
use Rattle.rules.specs.Outcomes.{is_refused, accepted}
use Rattle.rules.specs.Sources.{sources}
use Rattle.rules.specs.Triggers.{trigger_verdict, edge, selects, selects_top}
use Rattle.rules.specs.Demand3.{within}
use Rattle.rules.proofs.Bools.{impossible, or_off}

-- ---- which bits are selected

module _ (m : Image) where
  edge-digit : (d i k : ℕ) → edge d (has m (bit_of i k)) ≡ eqb d (digit k (at m i))
  edge-digit d i k = rw digit-bit

  -- a pin selects its own bit where its direction is EITR's, pin 0 with IAOS only,
  pub pin_selects : (k d : ℕ) → d ≡ digit k (at m EITR) → (k ≢ 0) ⊎ (has m IAOS ≡ true) → selects m (trigger.Pin k d) ≡ some k
  unfolding selects
  pin_selects k d e (inl z) = rw (edge-digit d EITR k, eq-eqb d (digit k (at m EITR)) e, ne_eqb k 0 z)
  pin_selects k d e (inr i) = rw (edge-digit d EITR k, eq-eqb d (digit k (at m EITR)) e, i, or-true (not (eqb k 0)))

  -- in the other direction nothing,
  pub pin_other_edge : (k d : ℕ) → d ≢ digit k (at m EITR) → selects m (trigger.Pin k d) ≡ none
  unfolding selects
  pin_other_edge k d e = rw (edge-digit d EITR k, ne_eqb d (digit k (at m EITR)) e)

  -- and nothing by pin 0 without IAOS
  pub pin_zero_off : (d : ℕ) → has m IAOS ≡ false → selects m (trigger.Pin 0 d) ≡ none
  unfolding selects
  pin_zero_off d i = rw (i, and-false (edge d (has m (bit_of EITR 0))))

  -- of pin 0, in EITR's direction, and the watchdog exactly one selects source 0
  pub zero_by_one : within (λ j. eqb j 0) (selects m (trigger.Pin 0 (digit 0 (at m EITR)))) ≡ not (within (λ j. eqb j 0) (selects m trigger.Watchdog))
  unfolding selects
  zero_by_one = rw (edge-digit (digit 0 (at m EITR)) EITR 0, eq-eqb (digit 0 (at m EITR)) (digit 0 (at m EITR)) refl) (go (has m IAOS))
    where
      go : (b : Bool) → within (λ j. eqb j 0) (cond b (some 0) none) ≡ not (within (λ j. eqb j 0) (cond (not b) (some 0) none))
      go true = refl
      go false = refl

  -- of the NMI, in TLTEV's direction, and the watchdog exactly one selects TLIP: the NMI with TLIS, the watchdog without
  pub top-by_one : (selects_top m (trigger.Nmi (digit 3 (at m EIVR))) ≡ has m TLIS) × (selects_top m trigger.Watchdog ≡ not (has m TLIS))
  unfolding selects_top
  top-by_one = (
    rw (edge-digit (digit 3 (at m EIVR)) EIVR 3, eq-eqb (digit 3 (at m EIVR)) (digit 3 (at m EIVR)) refl) (and-true (has m TLIS)),
    refl,
  )

  -- an NMI in the other direction does not
  pub nmi_other_edge : (d : ℕ) → d ≢ digit 3 (at m EIVR) → selects_top m (trigger.Nmi d) ≡ false
  unfolding selects_top
  nmi_other_edge d e = rw (edge-digit d EIVR 3, ne_eqb d (digit 3 (at m EIVR)) e) (and-false (has m TLIS))

  -- with IAOS and TLIS 0 the watchdog selects both
  pub watchdog-both : has m IAOS ≡ false → has m TLIS ≡ false → (selects m trigger.Watchdog ≡ some 0) × (selects_top m trigger.Watchdog ≡ true)
  unfolding selects selects_top
  watchdog-both i t = (rw i, rw t)

  -- pins and requests never select TLIP, the NMI never a source, and request k selects source 8 + k whatever the registers hold
  pub selected-apart : (k d : ℕ)
      → (selects_top m (trigger.Pin k d) ≡ false) × (selects_top m (trigger.Request k) ≡ false)
      × (selects m (trigger.Nmi d) ≡ none) × (selects m (trigger.Request k) ≡ some (8 + k))
  unfolding selects selects_top
  selected-apart k d = (refl, refl, refl, refl)

-- ---- which triggers are refused

module _ (cs : List Channel) where
  -- pins 0 to 7 in directions 0 and 1 are accepted,
  pub pin_accepted : (k d : ℕ) → k < 8 → d < 2 → trigger_verdict cs (trigger.Pin k d) ≡ accepted
  unfolding trigger_verdict
  pin_accepted k d h g = rw (le-ltb 7 k (omega arith), le-ltb 1 d (omega arith))

  -- and no other
  pub pin_refused : (k d : ℕ) → (8 ≤ k) ⊎ (2 ≤ d) → trigger_verdict cs (trigger.Pin k d) ≡ (Err refusal.Number)
  unfolding trigger_verdict
  pin_refused k d (inl h) = rw (lt-ltb 7 k (omega arith))
  pin_refused k d (inr h) = rw (lt-ltb 1 d (omega arith), or-true (ltb 7 k))

  -- an NMI in directions 0 and 1
  pub nmi_verdict : (d : ℕ)
      → (d < 2 → trigger_verdict cs (trigger.Nmi d) ≡ accepted)
      × (2 ≤ d → trigger_verdict cs (trigger.Nmi d) ≡ (Err refusal.Number))
  unfolding trigger_verdict
  nmi_verdict d = (λ h. rw (le-ltb 1 d (omega arith)), λ h. rw (lt-ltb 1 d (omega arith)))

  -- a request of a record that is there
  pub request_verdict : (k : ℕ)
      → (k < length cs → trigger_verdict cs (trigger.Request k) ≡ accepted)
      × (length cs ≤ k → trigger_verdict cs (trigger.Request k) ≡ (Err refusal.Number))
  unfolding trigger_verdict
  request_verdict k = (λ h. rw (lt-ltb k (length cs) h), λ h. rw (le-ltb k (length cs) h))

  -- the watchdog always, an unknown kind never
  pub kind_verdict_lem : (trigger_verdict cs trigger.Watchdog ≡ accepted) × (trigger_verdict cs trigger.Unknown ≡ (Err refusal.Kind))
  unfolding trigger_verdict
  kind_verdict_lem = (refl, refl)

-- ---- what is selected is there

-- what a test selects is its source
pub selected-is : (b : Bool) (k s : ℕ) → cond b (some k) none ≡ some s → k ≡ s
selected-is true k s e = cc
selected-is false k s e = impossible (cc)

not_refused : (b : Bool) (r : Refusal) → cond b (Err r) accepted ≡ accepted → b ≡ false
not_refused true r e = absurd (true≢false (ap is_refused e))
not_refused false r e = refl

accepted_if : (b : Bool) (r : Refusal) → cond b accepted (Err r) ≡ accepted → b ≡ true
accepted_if true r e = refl
accepted_if false r e = absurd (true≢false (ap is_refused e))

-- an accepted trigger selects a source that there is
pub selected-there : (m : Image) (cs : List Channel) (t : Trigger) → trigger_verdict cs t ≡ accepted → (s : ℕ) → selects m t ≡ some s → s < sources cs
unfolding selects trigger_verdict sources
selected-there m cs (trigger.Pin k d) v s e =
    omega (
      arith,
      ltb-false 7 k (or_off (ltb 7 k) (ltb 1 d) (not_refused (ltb 7 k || ltb 1 d) refusal.Number v)),
      selected-is (edge d (has m (bit_of EITR k)) && (not (eqb k 0) || has m IAOS)) k s e,
    )
selected-there m cs trigger.Watchdog v s e = omega (arith, selected-is (not (has m IAOS)) 0 s e)
selected-there m cs (trigger.Nmi d) v s e = impossible (cc)
selected-there m cs (trigger.Request k) v s e =
    let f : 8 + k ≡ s = cc in omega (arith, ltb-true k (length cs) (accepted_if (ltb k (length cs)) refusal.Number v))
selected-there m cs trigger.Unknown v s e = impossible (cc)
