-- Rules 3 and 4 of arbitration, said again: which sources request what, and what makes a request eligible. Assumes nothing.
use Rattle.std.specs.Prelude.{Option, Some, None}
use mathlib.Core.Path.{◌≡◌, refl, ap}
use mathlib.Core.List.{List}
use mathlib.Core.Bool.{Bool, true, false, false≢true, cond}
use Prim.Native.Nat.{ℕ, ◌<◌}
use native.Mathlib.Omega.{arith}
use lib.Dec.{eqb, ltb}
use borrow.Author.Tests.{ltb-true, eqb-true}
use Rattle.rules.specs.declared.Channel.{Channel}
use Rattle.rules.specs.declared.Request.{Request}
use Rattle.rules.specs.declared.Request.TheVariants as request
use Rattle.rules.specs.Image.{Image, has, IEN, CPL}
use Rattle.rules.specs.Sources.{pending, unmasked, dma_enabled, level}
use Rattle.rules.specs.Requests.{request_of, eligible, is_at}
use Rattle.rules.proofs.Bools.{impossible, and_l, and_r}

abbrev asked : ℕ → Bool → Bool → Bool → Option Request
asked l pending dma unmasked =
    cond pending (cond dma (Some (request.Dma l)) (cond unmasked (Some (request.Interrupt l)) None)) None

-- an eligible DMA request's level is strictly below CPL
pub eligible-dma : (m : Image) (l : ℕ) → eligible m (Some (request.Dma l)) ≡ true → l < CPL m
unfolding eligible
eligible-dma m l e = ltb-true l (CPL m) e

-- an eligible interrupt request needs IEN, and its level is strictly below CPL
pub eligible-interrupt : (m : Image) (l : ℕ) → eligible m (Some (request.Interrupt l)) ≡ true → (has m IEN ≡ true) × (l < CPL m)
unfolding eligible
eligible-interrupt m l e = (and_l (has m IEN) (ltb l (CPL m)) e, ltb-true l (CPL m) (and_r (has m IEN) (ltb l (CPL m)) e))

-- a request of kind 0 is for DMA, one of kind 1 for an interrupt, and its level is l
pub is-dma : (l : ℕ) (r : Option Request) → is_at l 0 r ≡ true → r ≡ (Some (request.Dma l))
unfolding is_at
is-dma l None e = absurd (false≢true e)
is-dma l (Some (request.Dma x)) e = ap (λ (l : ℕ). Some (request.Dma l)) (eqb-true x l e)
is-dma l (Some (request.Interrupt x)) e = absurd (false≢true e)

pub is-interrupt : (l : ℕ) (r : Option Request) → is_at l 1 r ≡ true → r ≡ (Some (request.Interrupt l))
unfolding is_at
is-interrupt l None e = absurd (false≢true e)
is-interrupt l (Some (request.Dma x)) e = absurd (false≢true e)
is-interrupt l (Some (request.Interrupt x)) e = ap (λ (l : ℕ). Some (request.Interrupt l)) (eqb-true x l e)

pub is-kind : (l k : ℕ) (r : Option Request) → is_at l k r ≡ true → k < 2
unfolding is_at
is-kind l k None e = absurd (false≢true e)
is-kind l k (Some (request.Dma x)) e = omega (arith, eqb-true k 0 (and_l (eqb k 0) (eqb x l) e))
is-kind l k (Some (request.Interrupt x)) e = omega (arith, eqb-true k 1 (and_l (eqb k 1) (eqb x l) e))

-- which sources request what
pub dma-request : (m : Image) (cs : List Channel) (s l : ℕ) → request_of m cs s ≡ (Some (request.Dma l))
    → (pending m cs s ≡ true) × (dma_enabled m cs s ≡ true) × (level m cs s ≡ l)
unfolding request_of
dma-request m cs s l e = go (pending m cs s) (dma_enabled m cs s) (unmasked m cs s) e
  where
    go : (p d u : Bool) → asked (level m cs s) p d u ≡ (Some (request.Dma l)) → (p ≡ true) × (d ≡ true) × (level m cs s ≡ l)
    go true true u e = (refl, refl, cc)
    go true false true e = impossible (cc)
    go true false false e = impossible (cc)
    go false d u e = impossible (cc)

pub interrupt-request : (m : Image) (cs : List Channel) (s l : ℕ) → request_of m cs s ≡ (Some (request.Interrupt l))
    → (pending m cs s ≡ true) × (dma_enabled m cs s ≡ false) × (unmasked m cs s ≡ true) × (level m cs s ≡ l)
unfolding request_of
interrupt-request m cs s l e = go (pending m cs s) (dma_enabled m cs s) (unmasked m cs s) e
  where
    go : (p d u : Bool) → asked (level m cs s) p d u ≡ (Some (request.Interrupt l)) → (p ≡ true) × (d ≡ false) × (u ≡ true) × (level m cs s ≡ l)
    go true true u e = impossible (cc)
    go true false true e = (refl, refl, refl, cc)
    go true false false e = impossible (cc)
    go false d u e = impossible (cc)
