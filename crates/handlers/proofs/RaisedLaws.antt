-- A write changes one byte, so it raises external channels or records and not both: twelve at most. Assumes nothing.
use mathlib.Core.Path.{◌≡◌, refl, sym, ap, ◌∙◌}
use mathlib.Core.Logic.{◌≢◌, ◌⊎◌, inl, inr}
use mathlib.Core.Bool.{Bool, true, false, cond, not, ◌&&◌}
use mathlib.Core.List.{List}
use Prim.Native.Nat.{ℕ, zero, suc, ◌+◌, ◌-◌, ◌≤◌, ◌<◌}
use native.Mathlib.Omega.{arith}
use native.Mathlib.Decide.{ℕ_discrete}
use lib.Dec.{eqb, ltb}
use lib.ListN.{length, set}
use lib.Seq.{get_or-set_other}
use borrow.Author.Tests.{ltb-true, ltb-false}
use Rattle.rules.specs.declared.Channel.{Channel}
use Rattle.rules.specs.declared.Place.{Place}
use Rattle.std.specs.Prelude.{Option, Some, None}
use Rattle.rules.specs.Image.{Image, at, PPR, EIPR, Bit, has}
use Rattle.rules.specs.Channels.{most_records, list_ok}
use Rattle.rules.specs.Registers.{place_of, stored_byte, write_at, write_of}
use Rattle.rules.specs.Sources.{sources, pending_bit, pending}
use Rattle.rules.specs.Runs.{one_if}
use Rattle.rules.specs.Demand3.{count_below}
use Rattle.rules.specs.Handlers.{raises, raised}
use Rattle.rules.proofs.Bools.{true_or}
use Rattle.rules.proofs.Counting.{count_le, one_le}
use Rattle.rules.proofs.ChannelLaws.{list_short}
use Rattle.rules.proofs.PlaceLaws.{place-low}
use Rattle.rules.proofs.PendingLaws.{pending-external, pending_elim}

-- ---- counts of the numbers below n that pass a test, where all that pass are on one side of a

module _ (p : ℕ → Bool) (a : ℕ) where
  -- none from a on passes
  below_only : (n : ℕ) → ((k : ℕ) → a ≤ k → k < n → p k ≡ false) → count_below n p ≤ a
  unfolding count_below
  below_only zero h = omega arith
  below_only (suc n) h = go (below_only n (λ k g l. h k g (omega arith))) (true_or (ltb n a))
    where
      go : count_below n p ≤ a → (ltb n a ≡ true) ⊎ (ltb n a ≡ false) → one_if (p n) + count_below n p ≤ a
      go ih (inl t) = omega (arith, ltb-true n a t, one_le (p n), count_le p n)
      go ih (inr f) = rw (h n (ltb-false n a f) (omega arith)) (omega (arith, ih))

  -- none below a passes
  above_only : (n : ℕ) → ((k : ℕ) → k < a → p k ≡ false) → count_below n p ≤ n - a
  unfolding count_below
  above_only zero h = omega arith
  above_only (suc n) h = go (above_only n h) (true_or (ltb n a))
    where
      go : count_below n p ≤ n - a → (ltb n a ≡ true) ⊎ (ltb n a ≡ false) → one_if (p n) + count_below n p ≤ suc n - a
      go ih (inl t) = rw (h n (ltb-true n a t)) (omega (arith, ih))
      go ih (inr f) = omega (arith, ih, ltb-false n a f, one_le (p n))

-- ---- what a write raises

-- what stays is not raised
stays : (b r : Bool) → (not b && b && r) ≡ false
stays true r = refl
stays false r = refl

module _ (m : Image) (cs : List Channel) (ok : list_ok cs ≡ true) (among : ℕ → Bool) where
  -- a source whose pending bit is of another byte than the written one
  apart : (k i new : ℕ) → (pending_bit cs k).byte ≢ i → raises cs among m (set m i new) k ≡ false
  unfolding pending
  apart k i new d = rw (get_or-set_other m i (pending_bit cs k).byte new 0 d) (stays (has m (pending_bit cs k)) (among k))

  pub raised-few : (r v : ℕ) → raised cs among m (write_of m cs r v).left ≤ most_records
  unfolding write_of write_at raised sources
  raised-few r v = at_place (place_of m cs r)
    where
      count : Image → ℕ
      count m' = count_below (8 + length cs) (raises cs among m m')

      at_place : (q : Option Place) → count (write_at m q v).left ≤ most_records
      at_place None = omega (arith, below_only _ 0 (8 + length cs) (λ k g l. stays (pending m cs k) (among k)))
      at_place (Some p) = go (ℕ_discrete EIPR i)
        where
          i : ℕ
          i = p.byte

          new : ℕ
          new = stored_byte i p.existing (at m i) v

          go : Dec (EIPR ≡ i) → count (set m i new) ≤ most_records
          go (yes q) =
              omega (arith, below_only _ 8 (8 + length cs) (λ k g l. apart k i new (pending_elim cs ok k l (λ (b : Bit). b.byte ≢ i) (λ h e. omega arith) (λ h o e. omega arith))))
          go (no d) =
              omega (arith, list_short cs ok, above_only _ 8 (8 + length cs) (λ k h. apart k i new (λ e. d (ap (λ (b : Bit). b.byte) (sym (pending-external cs k h)) ∙ e))))

  -- none by a write of R0 to R239, which have no pending bit
  pub raised-none : (r v : ℕ) → r < 240 → raised cs among m (write_of m cs r v).left ≡ 0
  unfolding write_of write_at raised
  raised-none r v h =
      let e : ℕ = cond (eqb r PPR) 0xfc 0xff in
      rw (place-low m cs r h) (go (stored_byte r e (at m r) v))
    where
      go : (new : ℕ) → count_below (sources cs) (raises cs among m (set m r new)) ≡ 0
      go new =
          let none : count_below (sources cs) (raises cs among m (set m r new)) ≤ 0 =
          below_only _ 0 (sources cs) (λ k g l. apart k r new (pending_elim cs ok k l (λ (b : Bit). b.byte ≢ r) (λ t e. omega arith) (λ t o e. omega arith))) in
          omega arith
