-- The bound, a second reading of the answers that give none: the premises before the one that is answered hold, and that one fails. Assumes nothing.
use Rattle.std.specs.Prelude.{Ok, Err}
use mathlib.Core.Path.{◌≡◌, refl}
use mathlib.Core.Logic.{◌⊎◌, inl, inr}
use mathlib.Core.List.{List, [], ◌∷◌}
use mathlib.Core.Bool.{Bool, true, false, cond, ◌||◌}
use mathlib.Core.Option.{Option, none, some, get_or, map}
use Prim.Native.Nat.{ℕ, suc, ◌+◌, ◌≤◌, ◌<◌}
use native.Mathlib.Omega.{arith}
use lib.Dec.{ltb}
use lib.ListN.{take}
use borrow.Author.Tests.{ltb-true, ltb-false}
use Rattle.rules.specs.declared.Channel.{Channel}
use Rattle.rules.specs.declared.Step.{Step}
use Rattle.rules.specs.declared.Basis.{Basis}
use Rattle.rules.specs.declared.NoBound.TheVariants as no_bound
use Rattle.rules.specs.Image.{Image, has, in_service, CPL, IAM, TLI, TLNM}
use Rattle.rules.specs.Outcomes.{alone, accepted}
use Rattle.rules.specs.Sources.{sources, pending, unmasked, dma_enabled, level}
use Rattle.rules.specs.Runs.{Event, history, any_event, wait_verdict}
use Rattle.rules.specs.Demand3.{H, E, Start}
use Rattle.rules.specs.Bounds.{any_dma, calm_premises, source_premises, start_premises, other_step, disabled_step, first_from, bounding, bound_in, bound_of, Bounded}
use Rattle.rules.proofs.Verdicts.{verdict_elim}
use Rattle.rules.proofs.Bools.{impossible, or_l}
use Rattle.rules.proofs.AnyBelow.{any_some, none_passes}
use Rattle.rules.proofs.Refusals.{lent_sound}
use Rattle.rules.proofs.WaitLaws.{accepted-lent, accepted-source}

-- ---- the index of the first event of a kind

-- none before index n is of the kind, and the one at n is
abbrev pub FirstAt : (Event → Bool) → List Event → ℕ → Type 0
FirstAt p es n = (any_event p (take n es) ≡ false) × (any_event p (take (suc n) es) ≡ true)

module _ (p : Event → Bool) where
  pub first-at : (j : ℕ) (es : List Event) (i : ℕ) → first_from j p es ≡ some i → (n : ℕ) × (i ≡ j + n) × FirstAt p es n
  unfolding first_from any_event
  first-at j [] i h = impossible (cc)
  first-at j (e ∷ es) i h = go (p e) refl (first-at (j + 1) es i) h
    where
      go : (b : Bool) → p e ≡ b → (first_from (j + 1) p es ≡ some i → (n : ℕ) × (i ≡ j + 1 + n) × FirstAt p es n)
          → cond b (some j) (first_from (j + 1) p es) ≡ some i → (n : ℕ) × (i ≡ j + n) × FirstAt p (e ∷ es) n
      go true d ih h = let f : j ≡ i = cc in (0, omega arith, (refl, or_l (p e) false d))
      go false d ih h = let r = ih h in (suc r.0, omega (arith, r.1), (rw d r.2.0, rw d r.2.1))

  -- there is none
  pub first-none : (j : ℕ) (es : List Event) → first_from j p es ≡ none → any_event p es ≡ false
  unfolding first_from any_event
  first-none j [] h = refl
  first-none j (e ∷ es) h = go (p e) refl (first-none (j + 1) es) h
    where
      go : (b : Bool) → p e ≡ b → (first_from (j + 1) p es ≡ none → any_event p es ≡ false)
          → cond b (some j) (first_from (j + 1) p es) ≡ none → (p e || any_event p es) ≡ false
      go true d ih h = impossible (cc)
      go false d ih h = rw d (ih h)

-- ---- the premises, in order

module _ (m : Image) (cs : List Channel) (s : ℕ) where
  -- within the rules, and the source is there
  abbrev Accepted : Type 0
  Accepted = wait_verdict (alone m) cs s ≡ accepted

  -- concurrent mode
  abbrev Concurrent : Type 0
  Concurrent = Accepted × (has m IAM ≡ false)

  -- no record with DMA enabled
  abbrev NoDma : Type 0
  NoDma = Concurrent × ((k : ℕ) → k < sources cs → dma_enabled m cs k ≡ false)

  -- top level disabled
  abbrev TopDisabled : Type 0
  TopDisabled = NoDma × (has m TLNM ≡ false) × (has m TLI ≡ false)

  -- and not in service
  abbrev Idle : Type 0
  Idle = TopDisabled × (in_service m ≡ false)

  -- the source is pending,
  abbrev Waits : Type 0
  Waits = Idle × (pending m cs s ≡ true)

  -- unmasked,
  abbrev Open : Type 0
  Open = Waits × (unmasked m cs s ≡ true)

  -- and its level above the current one
  abbrev pub Above : Type 0
  Above = Open × (level m cs s < CPL m)

  -- all of them are demand 3's start
  pub above-start : Above → Start m cs s
  above-start f =
      let source = f.0 in
      let idle = source.0.0 in
      let top = idle.0 in
      let mode = top.0.0 in
      let lent = lent_sound (alone m) cs (accepted-lent (alone m) cs s mode.0) in
      record {
        calm =
            record {
              long = lent.0;
              listed = lent.1;
              concurrent = mode.1;
              no_dma = top.0.1;
              no_TLI = top.2;
              no_TLNM = top.1;
              idle = idle.1;
            };
        there = accepted-source (alone m) cs s mode.0;
        waits = source.0.1;
        unmasked_there = source.1;
        above = f.1;
      }

  -- the premises before it hold, and it fails; what is said of the answers on the steps is given
  module _ (Other : ℕ → Type 0) (Changes : Basis → ℕ → Type 0) (Disabled : ℕ → Type 0) (All : Type 0) where
    abbrev pub FailingBy : Bounded → Type 0
    FailingBy (Err (no_bound.Refused r)) = wait_verdict (alone m) cs s ≡ (Err r)
    FailingBy (Err no_bound.Nested) = Accepted × (has m IAM ≡ true)
    FailingBy (Err no_bound.DmaEnabled) = Concurrent × (k : ℕ) × (k < sources cs) × (dma_enabled m cs k ≡ true)
    FailingBy (Err no_bound.TopLevelEnabled) = NoDma × ((has m TLNM ≡ true) ⊎ (has m TLI ≡ true))
    FailingBy (Err no_bound.TopLevelInService) = TopDisabled × (in_service m ≡ true)
    FailingBy (Err no_bound.NotPending) = Idle × (pending m cs s ≡ false)
    FailingBy (Err no_bound.Masked) = Waits × (unmasked m cs s ≡ false)
    FailingBy (Err no_bound.LevelNotAbove) = Open × (CPL m ≤ level m cs s)
    FailingBy (Err (no_bound.OtherStep i)) = Above × Other i
    FailingBy (Err (no_bound.Changed a i)) = Above × Changes a i
    FailingBy (Err (no_bound.InterruptsDisabled i)) = Above × Disabled i
    FailingBy (Ok its) = Above × All

    module _ (b : Bounded) (steps : Above → FailingBy b) where
      -- of the source
      source-failing : Idle → FailingBy (source_premises m cs s b)
      unfolding source_premises
      source-failing c = go (pending m cs s) (unmasked m cs s) (ltb (level m cs s) (CPL m)) refl refl refl
        where
          go : (waits mask above : Bool) → pending m cs s ≡ waits → unmasked m cs s ≡ mask → ltb (level m cs s) (CPL m) ≡ above
              → FailingBy (cond waits (cond mask (cond above b (Err no_bound.LevelNotAbove)) (Err no_bound.Masked)) (Err no_bound.NotPending))
          go false mask above p q r = (c, p)
          go true false above p q r = ((c, p), q)
          go true true false p q r = (((c, p), q), ltb-false (level m cs s) (CPL m) r)
          go true true true p q r = steps (((c, p), q), ltb-true (level m cs s) (CPL m) r)

      -- of the image and the list
      pub start-failing : Accepted → FailingBy (start_premises m cs s b)
      unfolding calm_premises
      start-failing a = go (has m IAM) (any_dma m cs) (has m TLNM) (has m TLI) (in_service m) refl refl refl refl refl
        where
          no_dma_lem : any_dma m cs ≡ false → (k : ℕ) → k < sources cs → dma_enabled m cs k ≡ false
          no_dma_lem q k h = none_passes (dma_enabled m cs) (sources cs) k q h

          go : (iam dma tlnm tli mark : Bool) → has m IAM ≡ iam → any_dma m cs ≡ dma → has m TLNM ≡ tlnm → has m TLI ≡ tli → in_service m ≡ mark
              → FailingBy (cond iam (Err no_bound.Nested) (cond dma (Err no_bound.DmaEnabled) (cond (tlnm || tli) (Err no_bound.TopLevelEnabled) (cond mark (Err no_bound.TopLevelInService) (source_premises m cs s b)))))
          go true dma tlnm tli mark p q r t u = (a, p)
          go false true tlnm tli mark p q r t u = let k = any_some (dma_enabled m cs) (sources cs) q in ((a, p), k.0, k.1, k.2)
          go false false true tli mark p q r t u = (((a, p), no_dma_lem q), inl r)
          go false false false true mark p q r t u = (((a, p), no_dma_lem q), inr t)
          go false false false false true p q r t u = ((((a, p), no_dma_lem q), r, t), u)
          go false false false false false p q r t u = source-failing ((((a, p), no_dma_lem q), r, t), u)

-- ---- demand 3's steps

module _ (m : Image) (cs : List Channel) (s : ℕ) (es : List Event) where
  abbrev pub Failing : Bounded → Type 0
  Failing =
      FailingBy m cs s (FirstAt other_step es) (λ a i. ⊥) (λ i. (any_event other_step es ≡ false) × FirstAt disabled_step es i)
      ((any_event other_step es ≡ false) × (any_event disabled_step es ≡ false))

  steps-failing : Above m cs s → (o d : Option ℕ) (h e : ℕ) → first_from 0 other_step es ≡ o → first_from 0 disabled_step es ≡ d
      → Failing (get_or (map (λ index. Err (no_bound.OtherStep index)) o) (get_or (map (λ index. Err (no_bound.InterruptsDisabled index)) d) (bounding h e)))
  steps-failing a (some i) d h e p q = let f = first-at other_step 0 es i p in let n : f.0 ≡ i = omega (arith, f.1) in (a, rw n at f.2)
  steps-failing a none (some i) h e p q =
      let f = first-at disabled_step 0 es i q in
      let n : f.0 ≡ i = omega (arith, f.1) in
      (a, (first-none other_step 0 es p, rw n at f.2))
  steps-failing a none none h e p q = (a, (first-none other_step 0 es p, first-none disabled_step 0 es q))

-- each answer is the first premise that fails
pub first-failing : (m : Image) (cs : List Channel) (s : ℕ) (xs : List Step) → Failing m cs s (history (alone m) cs xs) (bound_of m cs s xs)
unfolding bound_of bound_in
first-failing m cs s xs =
    let es = history (alone m) cs xs in
    verdict_elim (Failing m cs s es) (wait_verdict (alone m) cs s)
    (start-failing m cs s _ _ _ _ (bound_in m cs s es)
    (λ a. steps-failing m cs s es a (first_from 0 other_step es) (first_from 0 disabled_step es) (H m cs s) (E m cs s es) refl refl))
    (λ r e. e)
