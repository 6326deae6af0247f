-- The winner, said again: it is an eligible request, and nothing earlier in the order of level, kind and position is eligible; no winner means
-- that nothing is. Then what this comes to where no source has DMA enabled. Assumes nothing.
use Rattle.std.specs.Prelude.{Option, Some, None}
use mathlib.Core.Path.{◌≡◌, refl, sym, ap, ◌∙◌}
use mathlib.Core.Logic.{◌⊎◌, inl, inr}
use mathlib.Core.List.{List}
use mathlib.Core.Bool.{Bool, true, false, cond, ◌&&◌}
use Prim.Native.Nat.{ℕ, zero, suc, ◌<◌}
use native.Mathlib.Omega.{arith}
use native.Mathlib.Nat.{not-suc-le-zero, le_refl}
use native.Mathlib.Decide.{ℕ_discrete}
use lib.Dec.{eqb, ltb}
use borrow.Author.Tests.{ltb-true, eqb-true, lt-ltb, eq-eqb}
use Rattle.rules.specs.declared.Channel.{Channel}
use Rattle.rules.specs.declared.Winner.{Winner}
use Rattle.rules.specs.declared.Winner.TheVariants as winner
use Rattle.rules.specs.Image.{Image, has, IEN, CPL}
use Rattle.rules.specs.Sources.{sources, pending, unmasked, dma_enabled, level}
use Rattle.rules.specs.Requests.{request_of, eligible, is_at, won_by, candidate, or_winner, first, winner_of_kind, winner_at_level, winner_of}
use Rattle.rules.specs.Demand3.{outranks}
use Rattle.rules.proofs.RequestLaws.{eligible-dma, eligible-interrupt, is-dma, is-interrupt, is-kind, dma-request, interrupt-request}
use Rattle.rules.proofs.Bools.{impossible, and_l, and_r, or_cases, not_both}

-- ---- the first that is somebody

-- the winner is somebody
abbrev pub Somebody : Option Winner → Type 0
Somebody w = w ≡ None → ⊥

dma_somebody : (s : ℕ) → Somebody (Some (winner.Dma s))
dma_somebody s e = impossible (cc)

interrupt_somebody : (s l : ℕ) → Somebody (Some (winner.Interrupt s l))
interrupt_somebody s l e = impossible (cc)

or_none : (a b : Option Winner) → or_winner a b ≡ None → (a ≡ None) × (b ≡ None)
or_none None b e = (refl, e)
or_none (Some (winner.Dma s)) b e = absurd (dma_somebody s e)
or_none (Some (winner.Interrupt s l)) b e = absurd (interrupt_somebody s l e)

-- `first n f` is f i, and nobody is before
pub record Found (n : ℕ) (f : ℕ → Option Winner) (w : Option Winner) : Type 0 where
  pub place : ℕ
  pub below : place < n
  pub here : f place ≡ w
  pub before : (j : ℕ) → j < place → f j ≡ None

module _ (f : ℕ → Option Winner) where
  first-none : (n : ℕ) → first n f ≡ None → (i : ℕ) → i < n → f i ≡ None
  unfolding first
  first-none zero e i h = absurd (not-suc-le-zero h)
  first-none (suc n) e i h = let q = or_none (first n f) (f n) e in go q.1 (first-none n q.0 i) (ℕ_discrete i n)
    where
      go : f n ≡ None → (i < n → f i ≡ None) → Dec (i ≡ n) → f i ≡ None
      go q ih (yes d) = ap f d ∙ q
      go q ih (no d) = ih (omega arith)

  first_found : (n : ℕ) (w : Option Winner) → first n f ≡ w → Somebody w → Found n f w
  unfolding first
  first_found zero w e s = absurd (s (sym e))
  first_found (suc n) w e s = go (first n f) refl (first_found n w) e
    where
      more : Found n f w → Found (suc n) f w
      more q = record { place = q.place; below = omega (arith, q.below); here = q.here; before = q.before }

      go : (o : Option Winner) → first n f ≡ o → (first n f ≡ w → Somebody w → Found n f w) → or_winner o (f n) ≡ w → Found (suc n) f w
      go None d ih e = record { place = n; below = le_refl (suc n); here = e; before = first-none n d }
      go (Some (winner.Dma k)) d ih e = more (ih (d ∙ e) s)
      go (Some (winner.Interrupt k l)) d ih e = more (ih (d ∙ e) s)

-- ---- requests in the order of level, kind and position

-- the request at position p is eligible, of level l and kind k (0 DMA, 1 interrupt)
pub record Asks (m : Image) (cs : List Channel) (l k p : ℕ) : Type 0 where
  pub there : p < sources cs
  pub allowed : eligible m (request_of m cs p) ≡ true
  pub is : is_at l k (request_of m cs p) ≡ true

-- earlier in the order: levels first, then kinds, then positions
abbrev pub Precedes : ℕ → ℕ → ℕ → ℕ → ℕ → ℕ → Type 0
Precedes l k p l' k' p' = (l < l') ⊎ ((l ≡ l') × ((k < k') ⊎ ((k ≡ k') × (p < p'))))

-- for DMA if that is enabled, else, unmasked and with interrupts enabled, for an interrupt
abbrev pub Kinds : Image → List Channel → ℕ → ℕ → Type 0
Kinds m cs k p =
    ((k ≡ 0) × (dma_enabled m cs p ≡ true)) ⊎ ((k ≡ 1) × (dma_enabled m cs p ≡ false) × (unmasked m cs p ≡ true) × (has m IEN ≡ true))

-- an eligible request is of a pending source at its level, above the current one
pub record Requests (m : Image) (cs : List Channel) (l k p : ℕ) : Type 0 where
  pub waits : pending m cs p ≡ true
  pub levelled : level m cs p ≡ l
  pub above : l < CPL m
  pub kinds : Kinds m cs k p

pub asks_requests : (m : Image) (cs : List Channel) (l k p : ℕ) → Asks m cs l k p → Requests m cs l k p
asks_requests m cs l k p a = go k (is-kind l k (request_of m cs p) a.is) a.is
  where
    go : (k : ℕ) → k < 2 → is_at l k (request_of m cs p) ≡ true → Requests m cs l k p
    go zero h e =
        let r = is-dma l (request_of m cs p) e in
        let q = dma-request m cs p l r in
        record { waits = q.0; levelled = q.2; above = eligible-dma m l (rw r at a.allowed); kinds = inl (refl, q.1) }
    go (suc zero) h e =
        let r = is-interrupt l (request_of m cs p) e in
        let q = interrupt-request m cs p l r in
        let f = eligible-interrupt m l (rw r at a.allowed) in
        record { waits = q.0; levelled = q.3; above = f.1; kinds = inr (refl, q.1, q.2, f.0) }
    go (suc (suc k)) h e = absurd (omega arith)

-- and every such source asks
pub requests_asks : (m : Image) (cs : List Channel) (l k p : ℕ) → p < sources cs → Requests m cs l k p → Asks m cs l k p
unfolding request_of eligible is_at
requests_asks m cs l k p h r = go r.kinds
  where
    at_level : eqb (level m cs p) l ≡ true
    at_level = eq-eqb (level m cs p) l r.levelled

    below : ltb (level m cs p) (CPL m) ≡ true
    below = lt-ltb (level m cs p) (CPL m) (omega (arith, r.above, r.levelled))

    go : Kinds m cs k p → Asks m cs l k p
    go (inl q) = record { there = h; allowed = simp (r.waits, q.1, below); is = simp (r.waits, q.1, q.0, at_level) }
    go (inr q) = record { there = h; allowed = simp (r.waits, q.1, q.2, q.3, below); is = simp (r.waits, q.1, q.2, q.0, at_level) }

-- it is somebody
pub won_somebody : (l k p : ℕ) → Somebody (won_by l k p)
unfolding won_by
won_somebody l k p = go (eqb k 0)
  where
    go : (t : Bool) → Somebody (cond t (Some (winner.Dma p)) (Some (winner.Interrupt p l)))
    go true = dma_somebody p
    go false = interrupt_somebody p l

module _ (m : Image) (cs : List Channel) where
  candidate-none : (l k p : ℕ) → candidate m cs l k p ≡ None → Asks m cs l k p → ⊥
  unfolding candidate
  candidate-none l k p e a = won_somebody l k p (rw (a.allowed, a.is) at e)

  candidate_some : (l k p : ℕ) (w : Option Winner) → p < sources cs → candidate m cs l k p ≡ w → Somebody w → (w ≡ won_by l k p) × Asks m cs l k p
  unfolding candidate
  candidate_some l k p w h e s = go (eligible m (request_of m cs p)) (is_at l k (request_of m cs p)) refl refl e
    where
      go : (a b : Bool) → eligible m (request_of m cs p) ≡ a → is_at l k (request_of m cs p) ≡ b
          → cond (a && b) (won_by l k p) None ≡ w → (w ≡ won_by l k p) × Asks m cs l k p
      go true true ha hb e = (sym e, record { there = h; allowed = ha; is = hb })
      go true false ha hb e = absurd (s (sym e))
      go false b ha hb e = absurd (s (sym e))

  kind-none : (l k : ℕ) → winner_of_kind m cs l k ≡ None → (p : ℕ) → Asks m cs l k p → ⊥
  unfolding winner_of_kind
  kind-none l k e p a = candidate-none l k p (first-none (candidate m cs l k) (sources cs) e p a.there) a

  level-none : (l : ℕ) → winner_at_level m cs l ≡ None → (k p : ℕ) → Asks m cs l k p → ⊥
  unfolding winner_at_level
  level-none l e k p a = kind-none l k (first-none (winner_of_kind m cs l) 2 e k (is-kind l k (request_of m cs p) a.is)) p a

  -- no winner: nothing is eligible
  pub winner_none : winner_of m cs ≡ None → (l k p : ℕ) → Asks m cs l k p → ⊥
  unfolding winner_of
  winner_none e l k p a =
      level-none l (first-none (winner_at_level m cs) 8 e l (omega (arith, (asks_requests m cs l k p a).above))) k p a

  -- the winner is eligible, and nothing earlier is
  pub record Wins (w : Option Winner) : Type 0 where
    pub level : ℕ
    pub kind : ℕ
    pub position : ℕ
    pub is : w ≡ won_by level kind position
    pub asks : Asks m cs level kind position
    pub earliest : (l k p : ℕ) → Precedes l k p level kind position → Asks m cs l k p → ⊥

  pub winner_first : (w : Option Winner) → winner_of m cs ≡ w → Somebody w → Wins w
  unfolding winner_of winner_at_level winner_of_kind
  winner_first w e s =
      let a : Found 8 (winner_at_level m cs) w = first_found (winner_at_level m cs) 8 w e s in
      let b : Found 2 (winner_of_kind m cs a.place) w = first_found (winner_of_kind m cs a.place) 2 w a.here s in
      let d : Found (sources cs) (candidate m cs a.place b.place) w = first_found (candidate m cs a.place b.place) (sources cs) w b.here s in
      let q = candidate_some a.place b.place d.place w d.below d.here s in
      record {
        level = a.place;
        kind = b.place;
        position = d.place;
        is = q.0;
        asks = q.1;
        earliest = λ l k p h g. none_before a b d l k p h g;
      }
    where
      none_before : (a : Found 8 (winner_at_level m cs) w) (b : Found 2 (winner_of_kind m cs a.place) w)
          (d : Found (sources cs) (candidate m cs a.place b.place) w)
          → (l k p : ℕ) → Precedes l k p a.place b.place d.place → Asks m cs l k p → ⊥
      none_before a b d l k p (inl h) g = level-none l (a.before l h) k p g
      none_before a b d l k p (inr (e, inl h)) g = kind-none l k (rw e (b.before k h)) p g
      none_before a b d l k p (inr (e, inr (f, h))) g = candidate-none l k p (rw (e, f) (d.before p h)) g

-- ---- where no source has DMA enabled

-- s requests an interrupt, and it is eligible
pub record Eligible (m : Image) (cs : List Channel) (s : ℕ) : Type 0 where
  pub enabled : has m IEN ≡ true
  pub waits : pending m cs s ≡ true
  pub unmasked_there : unmasked m cs s ≡ true
  pub no_dma : dma_enabled m cs s ≡ false
  pub above : level m cs s < CPL m

abbrev pub Won : Image → List Channel → Option Winner → Type 0
Won m cs None = (k : ℕ) → k < sources cs → Eligible m cs k → ⊥
Won m cs (Some (winner.Dma s)) = ⊥
Won m cs (Some (winner.Interrupt s l)) =
    (s < sources cs) × (l ≡ level m cs s) × Eligible m cs s × ((k : ℕ) → k < sources cs → outranks m cs k s ≡ true → Eligible m cs k → ⊥)

module _ (m : Image) (cs : List Channel) where
  eligible-asks : (s : ℕ) → s < sources cs → Eligible m cs s → Asks m cs (level m cs s) 1 s
  eligible-asks s h a =
      requests_asks m cs (level m cs s) 1 s h
      (record { waits = a.waits; levelled = refl; above = a.above; kinds = inr (refl, a.no_dma, a.unmasked_there, a.enabled) })

  outranks_precedes : (k s : ℕ) → outranks m cs k s ≡ true → Precedes (level m cs k) 1 k (level m cs s) 1 s
  unfolding outranks
  outranks_precedes k s o = go (or_cases (ltb (level m cs k) (level m cs s)) (eqb (level m cs k) (level m cs s) && ltb k s) o)
    where
      go : (ltb (level m cs k) (level m cs s) ≡ true) ⊎ ((eqb (level m cs k) (level m cs s) && ltb k s) ≡ true)
          → Precedes (level m cs k) 1 k (level m cs s) 1 s
      go (inl t) = inl (ltb-true (level m cs k) (level m cs s) t)
      go (inr t) =
          inr (
            eqb-true (level m cs k) (level m cs s) (and_l (eqb (level m cs k) (level m cs s)) (ltb k s) t),
            inr (refl, ltb-true k s (and_r (eqb (level m cs k) (level m cs s)) (ltb k s) t)),
          )

  module _ (no_dma : (k : ℕ) → k < sources cs → dma_enabled m cs k ≡ false) where
    of_kind : (l k p : ℕ) → Asks m cs l k p → ((l' k' p' : ℕ) → Precedes l' k' p' l k p → Asks m cs l' k' p' → ⊥) → Won m cs (won_by l k p)
    unfolding won_by
    of_kind l k p a early = go (asks_requests m cs l k p a) (asks_requests m cs l k p a).kinds
      where
        go : Requests m cs l k p → Kinds m cs k p → Won m cs (won_by l k p)
        go r (inl q) = absurd (not_both (dma_enabled m cs p) q.1 (no_dma p a.there))
        go r (inr q) =
            rw q.0 (
              a.there,
              sym r.levelled,
              record { enabled = q.3; waits = r.waits; unmasked_there = q.2; no_dma = q.1; above = omega (arith, r.above, r.levelled) },
              λ j g o e. early (level m cs j) 1 j (rw (q.0, ← r.levelled) (outranks_precedes j p o)) (eligible-asks j g e),
            )

    wins-won : (w : Option Winner) → Wins m cs w → Won m cs w
    wins-won w q = rw q.is (of_kind q.level q.kind q.position q.asks q.earliest)

    -- the winner is an eligible interrupt that no eligible one outranks
    pub won : Won m cs (winner_of m cs)
    won = go (winner_of m cs) refl
      where
        go : (w : Option Winner) → winner_of m cs ≡ w → Won m cs w
        go None e = λ k h a. winner_none m cs e (level m cs k) 1 k (eligible-asks k h a)
        go (Some (winner.Dma s)) e = wins-won (Some (winner.Dma s)) (winner_first m cs (Some (winner.Dma s)) e (dma_somebody s))
        go (Some (winner.Interrupt s l)) e = wins-won (Some (winner.Interrupt s l)) (winner_first m cs (Some (winner.Interrupt s l)) e (interrupt_somebody s l))
