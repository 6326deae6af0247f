-- A least rank and its first position, gathered one position further; and what the scan passes over by them. Assumes nothing.
use Rattle.std.specs.Prelude.{None}
use mathlib.Core.Path.{◌≡◌, refl, sym, ap, ◌∙◌}
use mathlib.Core.Bool.{Bool, true, false, false≢true, cond}
use mathlib.Core.Logic.{◌≢◌, ◌⊎◌, inl, inr, ⊎_elim}
use mathlib.Core.List.{List}
use Prim.Native.Nat.{ℕ, ◌+◌, ◌-◌, ◌*◌, ◌/◌, ◌^◌, ◌≤◌, ◌<◌}
use native.Mathlib.Omega.{arith}
use native.Mathlib.Nat.{not-suc-le-zero}
use native.Mathlib.Decide.{ℕ_discrete}
use lib.Bits.{and_le_l}
use lib.Count.{count_trailing_zeros}
use lib.Dec.{T, eqb, ltb}
use borrow.Author.Count.{below_more}
use borrow.Author.Tests.{eq-eqb, ne_eqb, eqb-true, le-ltb, ltb-true, ltb-false}
use Rattle.bits.specs.Bits.{bit, put_bit}
use Rattle.bits.proofs.BitLaws.{bit_zero, bit-same, bit-other}
use Rattle.bits.proofs.Tests.{passes, holds}
use Rattle.rules.specs.Image.{Image, at, EIPLR}
use Rattle.rules.specs.declared.Channel.{Channel}
use Rattle.rules.specs.Sources.{sources, external_level}
use Rattle.rules.specs.Requests.{won_by, first}
use Rattle.rules.proofs.RestoredLaws.{trailing_clear, trailing_set}
use Rattle.rules.proofs.Bools.{true_or, not_both}
use Rattle.requests.specs.declared.Limits.{Limits}
use Rattle.requests.specs.Ranks.{no_rank, interrupt_rank, external_rank, requesting, rank_at, Gathered, may_request, Lowest, IsFront, found, found_of_kind, found_at_level, scanned}
use Rattle.requests.proofs.FirstLaws.{first_nobody}
use Rattle.requests.proofs.RankLaws.{rank_external, external-none, ruled_out}

module _ (rank : ℕ → ℕ) (n least position : ℕ) (a : IsFront rank n least position) where
  -- a position whose rank is not below
  pub front_keep : (o : ℕ) → o ≡ n + 1 → least ≤ rank n → IsFront rank o least position
  front_keep o e h = rw e record { top = a.top; within = omega (arith, a.within); under = below_more _ n a.under h; before = a.before }

  -- one whose rank is
  pub front_take : (o q r : ℕ) → o ≡ n + 1 → q ≡ n → r ≡ rank n → r < least → IsFront rank o r q
  front_take o q r e here is h =
      rw (e, here)
      record {
        top = omega (arith, a.top);
        within = omega arith;
        under = below_more _ n (λ p l. omega (arith, a.under p l)) (omega arith);
        before = λ p l. omega (arith, a.under p l);
      }

  -- ranks that agree
  pub front_same : (other : ℕ → ℕ) → ((p : ℕ) → p < n → rank p ≡ other p) → IsFront other n least position
  front_same other e =
      record {
        top = a.top;
        within = a.within;
        under = λ p l. omega (arith, a.under p l, e p l);
        before = λ p l. omega (arith, a.before p l, e p (omega (arith, a.within)));
      }

  -- further positions without a rank
  pub front_on : (o : ℕ) → n ≤ o → ((p : ℕ) → n ≤ p → p < o → rank p ≡ no_rank) → IsFront rank o least position
  front_on o h e =
      record {
        top = a.top;
        within = omega (arith, a.within);
        under = λ p l. ⊎_elim (λ t. a.under p (ltb-true p n t)) (λ f. omega (arith, e p (ltb-false p n f) l, a.top)) (true_or (ltb p n));
        before = a.before;
      }

-- none yet
pub front_none : (rank : ℕ → ℕ) → IsFront rank 0 no_rank 0
front_none rank = record { top = omega arith; within = omega arith; under = λ p l. absurd (not-suc-le-zero l); before = λ p l. absurd (not-suc-le-zero l) }

-- none of the external channels, where no interrupt is eligible
pub front_limit : (limit eiplr requesting : ℕ) → limit ≡ 0 → IsFront (external_rank limit eiplr requesting) 8 no_rank 0
unfolding external_rank interrupt_rank
front_limit limit eiplr requesting z =
    front_on _ _ _ _ (front_none (external_rank limit eiplr requesting)) 8 (omega arith) (λ p h l. go (bit p requesting) (external_level eiplr p))
  where
    go : (t : Bool) (l : ℕ) → cond t (cond (ltb l limit) (2 * l + 1) no_rank) no_rank ≡ no_rank
    go true l = rw (le-ltb l limit (omega arith))
    go false l = refl

-- none at all, where no external channel requests and no record may request
pub front_idle : (limits : Limits) (m : Image) (cs : List Channel) (gathered : ℕ) → requesting m ≡ 0 → may_request gathered ≡ false → Gathered m cs gathered
    → IsFront (rank_at limits m cs) (sources cs) no_rank 0
front_idle limits m cs gathered z e all =
    front_on _ _ _ _ (front_none (rank_at limits m cs)) (sources cs) (omega arith)
    (λ s _ l. ⊎_elim (λ t. early s (ltb-true s 8 t)) (λ f. ruled_out limits m cs gathered all e s (ltb-false s 8 f) l) (true_or (ltb s 8)))
  where
    early : (s : ℕ) → s < 8 → rank_at limits m cs s ≡ no_rank
    early s g = sym (rank_external limits m cs s g) ∙ external-none limits.interrupt (at m EIPLR) (requesting m) s (ap (bit s) z ∙ bit_zero s g)

-- ---- the lowest bit that is 1

pub trailing_lowest : (b : ℕ) → 0 < b → b < 256 → Lowest b (count_trailing_zeros 32 b)
unfolding count_trailing_zeros
trailing_lowest b z h =
    let low : count_trailing_zeros 32 b < 8 = ltb-true (count_trailing_zeros 32 b) 8 (holds (ltb (count_trailing_zeros 32 b) 8) test) in
    record { byte = low; one = trailing_set 32 b (omega (arith, low)); clear = trailing_clear 32 b }
  where
    test : T (ltb (count_trailing_zeros 32 b) 8)
    test = rw (ne_eqb b 0 (λ e. omega arith)) at (passes 256 (λ b. cond (eqb b 0) true (ltb (count_trailing_zeros 32 b) 8)) tt b h)

-- ---- the external channels, those that request one after another from the lowest

-- of the channels in `left` nothing is known but that they request; the others are accounted for
pub record Left (limit eiplr requesting least position left : ℕ) : Type 0 where
  pub top : least ≤ no_rank
  pub within : position ≤ 8
  pub coming : (p : ℕ) → p < 8 → bit p left ≡ true → (position ≤ p) × (bit p requesting ≡ true)
  pub done : (p : ℕ) → p < 8 → bit p left ≡ false → (least ≤ external_rank limit eiplr requesting p) × (p < position → least < external_rank limit eiplr requesting p)

module _ (limit eiplr requesting : ℕ) where
  pub left-all : Left limit eiplr requesting no_rank 0 requesting
  left-all =
      record {
        top = omega arith;
        within = omega arith;
        coming = λ p h e. (omega arith, e);
        done = λ p h e. (omega (arith, external-none limit eiplr requesting p e), λ l. absurd (not-suc-le-zero l));
      }

  pub left-none : (least position : ℕ) → Left limit eiplr requesting least position 0 → IsFront (external_rank limit eiplr requesting) 8 least position
  left-none least position a =
      record {
        top = a.top;
        within = a.within;
        under = λ p h. (a.done p h (bit_zero p h)).0;
        before = λ p h. let l : p < 8 = omega (arith, a.within) in omega (arith, (a.done p l (bit_zero p l)).1 h);
      }

  module _ (least position left k : ℕ) (a : Left limit eiplr requesting least position left) (low : Lowest left k) where
    h : k < 8
    h = low.byte

    -- a channel that is still left is another
    still : (p : ℕ) → p < 8 → bit p (put_bit k false left) ≡ true → (p ≢ k) × (bit p left ≡ true)
    still p l t = go (ℕ_discrete p k)
      where
        go : Dec (p ≡ k) → (p ≢ k) × (bit p left ≡ true)
        go (yes d) = absurd (false≢true (sym (bit-same k false left h) ∙ rw d at t))
        go (no d) = (d, sym (bit-other p k false left l h d) ∙ t)

    pub left_keep : least ≤ external_rank limit eiplr requesting k → Left limit eiplr requesting least position (put_bit k false left)
    left_keep r =
        record {
          top = a.top;
          within = a.within;
          coming = λ p l t. a.coming p l (still p l t).1;
          done = λ p l t. go p l t (ℕ_discrete p k);
        }
      where
        go : (p : ℕ) → p < 8 → bit p (put_bit k false left) ≡ false → Dec (p ≡ k)
            → (least ≤ external_rank limit eiplr requesting p) × (p < position → least < external_rank limit eiplr requesting p)
        go p l t (yes d) = (rw d r, λ b. absurd (omega (arith, (a.coming k h low.one).0)))
        go p l t (no d) = a.done p l (sym (bit-other p k false left l h d) ∙ t)

    pub left-take : (r : ℕ) → r ≡ external_rank limit eiplr requesting k → r < least
        → Left limit eiplr requesting r k (put_bit k false left)
    left-take r is b =
        record {
          top = omega (arith, a.top);
          within = omega arith;
          coming = λ p l t. (later p (still p l t).1 (true_or (ltb p k)), (a.coming p l (still p l t).1).1);
          done = λ p l t. go p l t (ℕ_discrete p k);
        }
      where
        later : (p : ℕ) → bit p left ≡ true → (ltb p k ≡ true) ⊎ (ltb p k ≡ false) → k ≤ p
        later p t (inl u) = absurd (not_both (bit p left) t (low.clear p (ltb-true p k u)))
        later p t (inr u) = ltb-false p k u

        go : (p : ℕ) → p < 8 → bit p (put_bit k false left) ≡ false → Dec (p ≡ k)
            → (r ≤ external_rank limit eiplr requesting p) × (p < k → r < external_rank limit eiplr requesting p)
        go p l t (yes d) = (rw d (omega (arith, is)), λ c. absurd (omega arith))
        go p l t (no d) =
            let old = (a.done p l (sym (bit-other p k false left l h d) ∙ t)).0 in
            (omega (arith, old), λ c. omega (arith, old))

-- one that was left is fewer
pub left_less : (left k : ℕ) → Lowest left k → put_bit k false left < left
unfolding put_bit
left_less left k low = go (ℕ_discrete (put_bit k false left) left)
  where
    go : Dec (put_bit k false left ≡ left) → put_bit k false left < left
    go (yes d) = absurd (false≢true (sym (bit-same k false left low.byte) ∙ ap (bit k) d ∙ low.one))
    go (no d) = omega (arith, and_le_l left (255 - 2 ^ k))

-- ---- one turn of the scan

module _ (rank : ℕ → ℕ) (l kind p : ℕ) where
  -- nobody where the rank is another,
  pub found_none : (rank p ≡ 2 * l + kind → ⊥) → found rank l kind p ≡ None
  unfolding found
  found_none n = rw (ne_eqb (rank p) (2 * l + kind) n)

  -- and the position where it is that
  pub found_here : rank p ≡ 2 * l + kind → found rank l kind p ≡ won_by l kind p
  unfolding found
  found_here e = rw (eq-eqb (rank p) (2 * l + kind) e)

module _ (rank : ℕ → ℕ) (n least position : ℕ) (a : IsFront rank n least position) where
  -- nobody of a rank below the least,
  pub found_below : (l kind : ℕ) → 2 * l + kind < least → found_of_kind rank n l kind ≡ None
  unfolding found_of_kind
  found_below l kind b = first_nobody (found rank l kind) n (λ p g. found_none rank l kind p (λ e. omega (arith, a.under p g)))

  -- so nobody of a level below its,
  pub level-below : first (least / 2) (found_at_level rank n) ≡ None
  unfolding found_at_level
  level-below = first_nobody (found_at_level rank n) (least / 2) (λ l h. first_nobody (found_of_kind rank n l) 2 (λ kind g. found_below l kind (omega arith)))

  -- nobody before where the scan of a rank starts,
  pub found-start : (l kind start : ℕ) → start ≡ cond (eqb (2 * l + kind) least) position 0 → (start ≤ n) × (first start (found rank l kind) ≡ None)
  unfolding first
  found-start l kind start e = rw e (go (eqb (2 * l + kind) least) refl)
    where
      go : (t : Bool) → eqb (2 * l + kind) least ≡ t → (cond t position 0 ≤ n) × (first (cond t position 0) (found rank l kind) ≡ None)
      go true d = (
        a.within,
        first_nobody (found rank l kind) position (λ p g. found_none rank l kind p (λ c. omega (arith, a.before p g, eqb-true (2 * l + kind) least d))),
      )
      go false d = (omega arith, refl)

  -- and where no position has a rank, nobody at all
  pub scanned_nobody : least ≡ no_rank → scanned rank n ≡ None
  unfolding scanned found_at_level
  scanned_nobody e = first_nobody (found_at_level rank n) 8 (λ l below. first_nobody (found_of_kind rank n l) 2 (λ kind two. found_below l kind (omega arith)))
