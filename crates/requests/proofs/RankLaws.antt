-- What a rank says of a request, and that the scan of the ranks finds the winner. Assumes nothing.
use Rattle.std.specs.Prelude.{Option, Some, None}
use mathlib.Core.Path.{◌≡◌, refl, sym, ap, ◌∙◌}
use mathlib.Core.Bool.{Bool, true, false, false≢true, cond, ◌&&◌, ◌||◌}
use mathlib.Core.Logic.{⊎_elim}
use mathlib.Core.List.{List}
use Prim.Native.Nat.{ℕ, ◌+◌, ◌-◌, ◌*◌, ◌≤◌, ◌<◌}
use native.Mathlib.Omega.{arith}
use lib.Dec.{eqb, ltb}
use lib.ListN.{length}
use borrow.Author.Tests.{eq-eqb, ne_eqb, eqb-true, eqb-false, lt-ltb, le-ltb, ltb-true, ltb-false}
use Rattle.bits.specs.Bits.{bit}
use Rattle.bits.proofs.BitLaws.{bit-bit_and}
use Rattle.rules.specs.declared.Channel.{Channel}
use Rattle.rules.specs.declared.Request.{Request}
use Rattle.rules.specs.declared.Request.TheVariants as request
use Rattle.rules.specs.Image.{Image, at, has, IEN, CPL, EIPR, EIMR, EIPLR}
use Rattle.rules.specs.Channels.{record_at, idcr_byte}
use Rattle.rules.specs.Sources.{sources, record_of, pending_bit, pending, unmasked, dma_enabled, external_level, level}
use Rattle.rules.specs.Requests.{request_of, eligible, is_at, candidate, winner_of_kind, winner_at_level, winner_of}
use Rattle.rules.proofs.Bools.{true_or}
use Rattle.rules.proofs.PendingLaws.{record_of_lem}
use Rattle.requests.specs.declared.Limits.{Limits}
use Rattle.requests.specs.Ranks.{record_request, limits_of, no_rank, interrupt_rank, rank_of, external_rank, requesting, idcr_of, rank_at, Gathered, may_request, found, found_of_kind, found_at_level, scanned}
use Rattle.requests.proofs.FirstLaws.{first-same}

-- ---- requests, by the bytes that the code reads

-- an external channel requests an interrupt where its bits of EIPR and EIMR are 1, whatever the list is
external_requests : (m : Image) (cs : List Channel) (k : ℕ) → k < 8
    → request_of m cs k ≡ cond (bit k (at m EIPR)) (cond (bit k (at m EIMR)) (Some (request.Interrupt (external_level (at m EIPLR) k))) None) None
unfolding request_of pending pending_bit unmasked dma_enabled level
external_requests m cs k h = rw (lt-ltb k 8 h)

-- record k, which is source 8 + k, requests what its IDCR says
record_requests : (m : Image) (cs : List Channel) (k : ℕ) → record_request (at m (idcr_byte (record_at cs k))) ≡ request_of m cs (8 + k)
unfolding record_request request_of pending pending_bit unmasked dma_enabled level
record_requests m cs k = rw (le-ltb (8 + k) 8 (omega arith), record_of_lem cs k)

-- ---- a rank says level and kind of an eligible request

-- a request of level x and kind j, whose place in the order is v and that is eligible by e, tested for a level and a kind
tested : (j x v l kind : ℕ) → v ≡ 2 * x + j → j < 2 → l < 8 → kind < 2 → (e t u : Bool) → eqb kind j ≡ t → eqb x l ≡ u
    → (e && (t && u)) ≡ eqb (cond e v no_rank) (2 * l + kind)
tested j x v l kind d hj hl hk true true true p q = sym (eq-eqb v (2 * l + kind) (omega (arith, eqb-true kind j p, eqb-true x l q)))
tested j x v l kind d hj hl hk true true false p q = sym (ne_eqb v (2 * l + kind) (λ c. eqb-false x l q (omega (arith, eqb-true kind j p))))
tested j x v l kind d hj hl hk true false u p q = sym (ne_eqb v (2 * l + kind) (λ c. eqb-false kind j p (omega arith)))
tested j x v l kind d hj hl hk false t u p q = sym (ne_eqb no_rank (2 * l + kind) (λ c. omega arith))

-- no level is below 0
interrupt_limit : (e : Bool) (l cpl : ℕ) → ltb l (cond e cpl 0) ≡ (e && ltb l cpl)
interrupt_limit true l cpl = refl
interrupt_limit false l cpl = le-ltb l 0 (omega arith)

-- a request is eligible, of a level and a kind, exactly if that is its rank
rank_eligible : (m : Image) (r : Option Request) (l kind : ℕ) → l < 8 → kind < 2 → (eligible m r && is_at l kind r) ≡ eqb (rank_of (limits_of m) r) (2 * l + kind)
unfolding eligible is_at rank_of interrupt_rank
rank_eligible m None l kind hl hk = sym (ne_eqb no_rank (2 * l + kind) (λ d. omega arith))
rank_eligible m (Some (request.Dma x)) l kind hl hk = tested 0 x (2 * x) l kind (omega arith) (omega arith) hl hk (ltb x (CPL m)) _ _ refl refl
rank_eligible m (Some (request.Interrupt x)) l kind hl hk =
    tested 1 x (2 * x + 1) l kind refl (omega arith) hl hk (has m IEN && ltb x (CPL m)) _ _ refl refl
    ∙ ap (λ (t : Bool). eqb (cond t (2 * x + 1) no_rank) (2 * l + kind)) (sym (interrupt_limit (has m IEN) x (CPL m)))

-- ---- the rank of a source

module _ (limits : Limits) (m : Image) (cs : List Channel) where
  -- of an external channel,
  pub rank_external : (s : ℕ) → s < 8 → external_rank limits.interrupt (at m EIPLR) (requesting m) s ≡ rank_at limits m cs s
  unfolding rank_at
  rank_external s h = rw (lt-ltb s 8 h)

  -- of a record,
  pub rank_record : (s : ℕ) → 8 ≤ s → rank_of limits (record_request (idcr_of m (record_of cs s))) ≡ rank_at limits m cs s
  unfolding rank_at
  rank_record s h = rw (le-ltb s 8 h)

  -- and of record k
  pub rank_of_record : (k : ℕ) → rank_of limits (record_request (idcr_of m (record_at cs k))) ≡ rank_at limits m cs (8 + k)
  rank_of_record k =
      let e : 8 + k - 8 ≡ k = omega arith in
      rw e at (rank_record (8 + k) (omega arith))

-- by the limits of the image it is that of the source's request
request_rank : (m : Image) (cs : List Channel) (s : ℕ) → rank_at (limits_of m) m cs s ≡ rank_of (limits_of m) (request_of m cs s)
unfolding external_rank rank_of
request_rank m cs s = ⊎_elim (λ t. early (ltb-true s 8 t)) (λ f. late (ltb-false s 8 f)) (true_or (ltb s 8))
  where
    asks : (a b : Bool) (l : ℕ) → cond (a && b) (interrupt_rank (limits_of m).interrupt l) no_rank ≡ rank_of (limits_of m) (cond a (cond b (Some (request.Interrupt l)) None) None)
    asks true true l = refl
    asks true false l = refl
    asks false b l = refl

    early : s < 8 → rank_at (limits_of m) m cs s ≡ rank_of (limits_of m) (request_of m cs s)
    early g =
        sym (rank_external (limits_of m) m cs s g)
        ∙ ap (λ (t : Bool). cond t (interrupt_rank (limits_of m).interrupt (external_level (at m EIPLR) s)) no_rank) (bit-bit_and s (at m EIPR) (at m EIMR))
        ∙ asks (bit s (at m EIPR)) (bit s (at m EIMR)) (external_level (at m EIPLR) s)
        ∙ ap (rank_of (limits_of m)) (sym (external_requests m cs s g))

    late : 8 ≤ s → rank_at (limits_of m) m cs s ≡ rank_of (limits_of m) (request_of m cs s)
    late g =
        let e : 8 + (s - 8) ≡ s = omega arith in
        sym (rank_record (limits_of m) m cs s g) ∙ ap (rank_of (limits_of m)) (record_requests m cs (s - 8) ∙ ap (request_of m cs) e)

-- the scan of all ranks finds the winner
pub scanned_winner : (m : Image) (cs : List Channel) → scanned (rank_at (limits_of m) m cs) (sources cs) ≡ winner_of m cs
unfolding scanned found_at_level found_of_kind found winner_of winner_at_level winner_of_kind candidate
scanned_winner m cs =
    first-same _ _ 8
    (λ l hl. first-same _ _ 2 (λ d hd. first-same _ _ (sources cs) (λ p h. rw (request_rank m cs p, rank_eligible m (request_of m cs p) l d hl hd))))

-- ---- what has no rank

-- an external channel that does not request
pub external-none : (limit eiplr requesting k : ℕ) → bit k requesting ≡ false → external_rank limit eiplr requesting k ≡ no_rank
unfolding external_rank
external-none limit eiplr requesting k e = rw e

-- one that requests has the rank of an interrupt
pub external_ranked : (limit eiplr requesting k : ℕ) → bit k requesting ≡ true → external_rank limit eiplr requesting k ≡ interrupt_rank limit (external_level eiplr k)
unfolding external_rank
external_ranked limit eiplr requesting k e = rw e

module _ (limits : Limits) (idcr : ℕ) where
  -- a record that is not pending
  idle-none : bit 5 idcr ≡ false → rank_of limits (record_request idcr) ≡ no_rank
  unfolding record_request rank_of
  idle-none e = rw e

  -- one without DMA that is masked
  masked_none : bit 4 idcr ≡ false → bit 3 idcr ≡ false → rank_of limits (record_request idcr) ≡ no_rank
  unfolding record_request rank_of
  masked_none e f = rw (e, f) (go (bit 5 idcr))
    where
      go : (b : Bool) → rank_of limits (cond b None None) ≡ no_rank
      go true = refl
      go false = refl

-- bits gathered over some bytes of the image rule each of them out as an IDCR, wherever they stand
pub bytes_ruled_out : (limits : Limits) (m : Image) (byte : ℕ → ℕ) (n gathered : ℕ)
    → ((k : ℕ) → k < n → (j : ℕ) → bit j gathered ≡ false → bit j (at m (byte k)) ≡ false) → may_request gathered ≡ false
    → (k : ℕ) → k < n → rank_of limits (record_request (at m (byte k))) ≡ no_rank
unfolding may_request
bytes_ruled_out limits m byte n gathered all e k h = go (bit 5 gathered) (bit 4 gathered) (bit 3 gathered) refl refl refl e
  where
    idcr : ℕ
    idcr = at m (byte k)

    off : (j : ℕ) → bit j gathered ≡ false → bit j idcr ≡ false
    off = all k h

    go : (a b d : Bool) → bit 5 gathered ≡ a → bit 4 gathered ≡ b → bit 3 gathered ≡ d → (a && (b || d)) ≡ false → rank_of limits (record_request idcr) ≡ no_rank
    go false b d q r t e = idle-none limits idcr (off 5 q)
    go true true d q r t e = absurd (false≢true (sym e))
    go true false true q r t e = absurd (false≢true (sym e))
    go true false false q r t e = masked_none limits idcr (off 4 r) (off 3 t)

-- so those of the records' IDCRs rule every record out
pub ruled_out : (limits : Limits) (m : Image) (cs : List Channel) (gathered : ℕ) → Gathered m cs gathered → may_request gathered ≡ false
    → (s : ℕ) → 8 ≤ s → s < sources cs → rank_at limits m cs s ≡ no_rank
unfolding sources
ruled_out limits m cs gathered all e s h l =
    sym (rank_record limits m cs s h) ∙ bytes_ruled_out limits m (λ k. idcr_byte (record_at cs k)) (length cs) gathered all e (s - 8) (omega arith)
