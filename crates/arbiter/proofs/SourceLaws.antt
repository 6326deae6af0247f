-- The source of a winner. Assumes nothing.
use Rattle.std.specs.Prelude.{Some}
use mathlib.Core.Path.{◌≡◌, refl}
use mathlib.Core.Logic.{◌⊎◌, inl, inr}
use mathlib.Core.Bool.{Bool, true, false, cond}
use mathlib.Core.List.{List}
use Prim.Native.Nat.{ℕ, ◌≤◌, ◌<◌}
use native.Mathlib.Omega.{arith}
use lib.Dec.{eqb, ltb}
use borrow.Author.Tests.{eqb-true, ltb-true, ltb-false}
use Rattle.rules.specs.declared.Channel.{Channel}
use Rattle.rules.specs.declared.Winner.TheVariants as winner
use Rattle.rules.specs.Image.{Image}
use Rattle.rules.specs.Sources.{sources, dma_enabled}
use Rattle.rules.specs.Requests.{won_by, winner_of}
use Rattle.rules.proofs.Bools.{impossible, not_both, true_or}
use Rattle.rules.proofs.FieldLaws.{external-source}
use Rattle.rules.proofs.WinnerLaws.{Wins, Kinds, winner_first, asks_requests}

-- who wins by DMA, and who by an interrupt
won-dma : (l k p s : ℕ) → (Some (winner.Dma s)) ≡ won_by l k p → (k ≡ 0) × (s ≡ p)
unfolding won_by
won-dma l k p s e = go (eqb k 0) refl e
  where
    go : (t : Bool) → eqb k 0 ≡ t → (Some (winner.Dma s)) ≡ cond t (Some (winner.Dma p)) (Some (winner.Interrupt p l)) → (k ≡ 0) × (s ≡ p)
    go true d e = (eqb-true k 0 d, cc)
    go false d e = impossible (cc)

won-interrupt : (l k p s x : ℕ) → (Some (winner.Interrupt s x)) ≡ won_by l k p → (s ≡ p) × (x ≡ l)
unfolding won_by
won-interrupt l k p s x e = go (eqb k 0) e
  where
    go : (t : Bool) → (Some (winner.Interrupt s x)) ≡ cond t (Some (winner.Dma p)) (Some (winner.Interrupt p l)) → (s ≡ p) × (x ≡ l)
    go true e = impossible (cc)
    go false e = (cc, cc)

-- no external channel has DMA
enabled_record : (m : Image) (cs : List Channel) (s : ℕ) → dma_enabled m cs s ≡ true → 8 ≤ s
enabled_record m cs s e = go (true_or (ltb s 8))
  where
    go : (ltb s 8 ≡ true) ⊎ (ltb s 8 ≡ false) → 8 ≤ s
    go (inl t) = absurd (not_both (dma_enabled m cs s) e (external-source m cs s (ltb-true s 8 t)).2)
    go (inr f) = ltb-false s 8 f

-- a DMA winner is the source of a record
pub dma_winner : (m : Image) (cs : List Channel) (s : ℕ) → winner_of m cs ≡ (Some (winner.Dma s)) → (s < sources cs) × (8 ≤ s)
dma_winner m cs s e =
    let w = winner_first m cs (Some (winner.Dma s)) e (λ d. impossible (cc)) in
    go w (won-dma w.level w.kind w.position s w.is) (asks_requests m cs w.level w.kind w.position w.asks).kinds
  where
    go : (w : Wins m cs (Some (winner.Dma s))) → (w.kind ≡ 0) × (s ≡ w.position) → Kinds m cs w.kind w.position → (s < sources cs) × (8 ≤ s)
    go w q (inl d) = (omega (arith, w.asks.there), omega (arith, enabled_record m cs w.position d.1))
    go w q (inr d) = absurd (omega arith)

-- an interrupt that won is of a source that there is, at one of eight levels
pub interrupt_winner : (m : Image) (cs : List Channel) (s l : ℕ) → winner_of m cs ≡ (Some (winner.Interrupt s l)) → (s < sources cs) × (l < 8)
interrupt_winner m cs s l e =
    let w = winner_first m cs (Some (winner.Interrupt s l)) e (λ d. impossible (cc)) in
    let q = won-interrupt w.level w.kind w.position s l w.is in
    let r = asks_requests m cs w.level w.kind w.position w.asks in
    (omega (arith, q.0, w.asks.there), omega (arith, q.1, r.above))
