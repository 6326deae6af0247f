-- What a promise says of the copy of a list that is lent as bytes it says of the list that they stand for. Assumes nothing.
use Rattle.rules.specs.Bounds.{Bounded}
use Rattle.rules.specs.Runs.{Ran, Waited}
use mathlib.Core.Path.{◌≡◌, subst}
use mathlib.Core.List.{List}
use Prim.Native.Nat.{ℕ}
use Rattle.rules.specs.declared.Channels.{Channels}
use Rattle.rules.specs.Image.{Image}
use Rattle.rules.specs.Outcomes.{Answered, State}
use Rattle.rules.specs.Channels.{list_of}
use Rattle.rules.specs.Encodings.{list_in, decode_of}
use Rattle.rules.specs.Promises.{DoesWord, Runs, RunClaims, Waits, WaitClaims, Bounds, BoundClaims, HandlerBounds, HandlerBoundClaims}
use Rattle.lent.specs.Copies.{copy_of}
use Rattle.st9.proofs.PromiseLaws.{lent-does, lent_runs, lent-waits, lent_bounds, lent_handler_bounds}

module _ (bs : List ℕ) (all : Channels) (e : all ≡ copy_of (list_in bs)) where
  module _ (s : State) where
    -- one step
    pub packed_does : (w : ℕ) (a : Answered) (t : State) → DoesWord s (list_of all) w a t → DoesWord s (list_in bs) w a t
    packed_does w a t p = lent-does s (list_in bs) (decode_of w) a t (subst (λ (l : Channels). DoesWord s (list_of l) w a t) e p)

    -- a run, with what is claimed of it
    pub packed_runs : (ws : List ℕ) (r : Ran) (t : State) → Runs s (list_of all) ws r t → RunClaims s (list_in bs) ws r t
    packed_runs ws r t p = lent_runs s (list_in bs) ws r t (subst (λ (l : Channels). Runs s (list_of l) ws r t) e p)

    -- a wait report, likewise
    pub packed_waits : (k : ℕ) (ws : List ℕ) (w : Waited) (t : State) → Waits s (list_of all) k ws w t → WaitClaims s (list_in bs) k ws w t
    packed_waits k ws w t p = lent-waits s (list_in bs) k ws w t (subst (λ (l : Channels). Waits s (list_of l) k ws w t) e p)

  module _ (m : Image) where
    -- a bound, with what it says
    pub packed_bounds : (k : ℕ) (ws : List ℕ) (b : Bounded) → Bounds m (list_of all) k ws b → BoundClaims m (list_in bs) k ws b
    packed_bounds k ws b p = lent_bounds m (list_in bs) k ws b (subst (λ (l : Channels). Bounds m (list_of l) k ws b) e p)

    pub packed_handler_bounds : (k : ℕ) (ws : List ℕ) (b : Bounded) → HandlerBounds m (list_of all) k ws b → HandlerBoundClaims m (list_in bs) k ws b
    packed_handler_bounds k ws b p = lent_handler_bounds m (list_in bs) k ws b (subst (λ (l : Channels). HandlerBounds m (list_of l) k ws b) e p)
