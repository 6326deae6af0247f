-- Document 01's order of an arbitration and its top level, read a second time: the mark comes first; when the top level is entered, what that and
-- its return change and leave; what is left to the winner. Assumes nothing.
use Rattle.std.specs.Prelude.{Ok, Some, None}
use mathlib.Core.Path.{◌≡◌, sym, ap, ◌∙◌}
use mathlib.Core.Logic.{◌≢◌, inr}
use mathlib.Core.List.{List}
use mathlib.Core.Bool.{true, false, not, ◌&&◌, and_comm}
use Prim.Native.Nat.{ℕ, ◌+◌, ◌%◌, ◌<◌}
use native.Mathlib.Omega.{arith}
use native.Mathlib.Decide.{ℕ_discrete}
use lib.Dec.{lit<, lit≤, eqb}
use lib.ListN.{length, length-set}
use lib.Seq.{get_or-set_same, get_or-set_other}
use borrow.Author.Tests.{not-false, eqb-true, ne_eqb}
use Rattle.bits.specs.Bits.{bit}
use Rattle.rules.specs.declared.Channel.{Channel}
use Rattle.rules.specs.declared.Answer.TheVariants as answer
use Rattle.rules.specs.declared.Winner.TheVariants as winner
use Rattle.rules.specs.Image.{Image, image_length, at, has, put, in_service, bit_of, CPL, IEN, TLI, TLIP, TLNM, CICR, MARK}
use Rattle.rules.specs.Channels.{record_at}
use Rattle.rules.specs.Outcomes.{State, state, outcome}
use Rattle.rules.specs.Requests.{winner_of}
use Rattle.rules.specs.Transfer.{transfer_of}
use Rattle.rules.specs.Arbitration.{vector_of, acknowledged, granted, top_level, entered_top, arbitrate_of}
use Rattle.rules.specs.Return.{returned}
use Rattle.rules.proofs.PendingLaws.{record_of_lem}
use Rattle.rules.proofs.ImageLaws.{put-length, at-put_other, has-put_same, has-put_other, low-put}

-- ---- the mark, the top level, and what is left to the winner

-- rule 1: with the mark set an arbitration answers Nothing and changes nothing, whatever is pending
pub mark-first : (s : State) (cs : List Channel) → in_service s.image ≡ true → arbitrate_of s cs ≡ outcome (Ok answer.Nothing) s
unfolding arbitrate_of
mark-first s cs t = rw t

-- rule 2, by TLIP and TLNM: never without TLIP; with both, whatever TLI and IEN are; with TLIP alone, exactly with TLI and IEN
pub top-level_when : (m : Image)
    → (has m TLIP ≡ false → top_level m ≡ false)
    × (has m TLIP ≡ true → has m TLNM ≡ true → top_level m ≡ true)
    × (has m TLIP ≡ true → has m TLNM ≡ false → top_level m ≡ (has m IEN && has m TLI))
unfolding top_level
top-level_when m = (λ p. rw p, λ p n. rw (p, n), λ p n. rw (p, n) (and_comm (has m TLI) (has m IEN)))

-- rules 3 to 5, with neither: where nobody has won nothing changes; record k, as source 8 + k, gets its transfer;
-- an interrupt is answered with its source, level and vector, and acknowledged
pub winner_gets : (s : State) (cs : List Channel) → let m = s.image in in_service m ≡ false → top_level m ≡ false
    → (winner_of m cs ≡ None → arbitrate_of s cs ≡ outcome (Ok answer.Nothing) s)
    × ((k : ℕ) → winner_of m cs ≡ (Some (winner.Dma (8 + k))) → arbitrate_of s cs ≡ transfer_of s (record_at cs k) (8 + k))
    × ((w l : ℕ) → winner_of m cs ≡ (Some (winner.Interrupt w l))
    → arbitrate_of s cs ≡ outcome (Ok (answer.Interrupt w l (vector_of m cs w))) (state (acknowledged m cs w l) s.memory))
unfolding arbitrate_of granted
winner_gets s cs i t = (
  λ w. rw (i, t, w),
  λ k w. rw (i, t, w, record_of_lem cs k),
  λ k l w. rw (i, t, w),
)

-- ---- entering the top level

module _ (s : State) (cs : List Channel) (long : length s.image ≡ image_length) (idle : in_service s.image ≡ false) (top : top_level s.image ≡ true) where
  abbrev m : Image
  m = s.image

  entered : arbitrate_of s cs ≡ outcome (Ok answer.TopLevel) (state (entered_top m) s.memory)
  unfolding arbitrate_of
  entered = rw (idle, top)

  -- every bit of CICR stays but TLIP, IEN and TLI among them,
  pub entered-CICR : (k : ℕ) → k < 8 → k ≢ 6 → has (arbitrate_of s cs).left.image (bit_of CICR k) ≡ has m (bit_of CICR k)
  unfolding entered_top
  entered-CICR k h d =
      rw entered (ap (bit k) (get_or-set_other (put m TLIP false) MARK CICR 1 0 (λ e. omega arith))
      ∙ has-put_other m TLIP false (bit_of CICR k) (lit< tt) h (inr d))

  -- CPL so too,
  pub entered-CPL : CPL (arbitrate_of s cs).left.image ≡ CPL m
  unfolding entered_top
  entered-CPL =
      rw entered (ap (λ (x : ℕ). x % 8) (get_or-set_other (put m TLIP false) MARK CICR 1 0 (λ e. omega arith))
      ∙ low-put m TLIP false CICR (lit< tt) (inr (lit≤ tt)))

  -- and every byte but CICR and the mark
  pub entered-byte : (j : ℕ) → j ≢ CICR → j ≢ MARK → at (arbitrate_of s cs).left.image j ≡ at m j
  unfolding entered_top
  entered-byte j c k = rw entered (get_or-set_other (put m TLIP false) MARK j 1 0 k ∙ at-put_other m TLIP false j c)

  -- TLIP is 0,
  pub entered-TLIP : has (arbitrate_of s cs).left.image TLIP ≡ false
  unfolding entered_top
  entered-TLIP =
      rw entered (ap (bit 6) (get_or-set_other (put m TLIP false) MARK CICR 1 0 (λ e. omega arith))
      ∙ has-put_same m TLIP false (rw long (lit< tt)) (lit< tt))

  -- the mark is 1,
  pub entered-mark : at (arbitrate_of s cs).left.image MARK ≡ 1
  unfolding entered_top
  entered-mark = rw entered (get_or-set_same (put m TLIP false) MARK 1 0 (rw (put-length m TLIP false, long) (lit< tt)))

  -- and it is answered so
  pub entered-answer : (arbitrate_of s cs).answer ≡ (Ok answer.TopLevel)
  entered-answer = rw entered

  entered-length : length (arbitrate_of s cs).left.image ≡ image_length
  unfolding entered_top
  entered-length = rw entered (length-set (put m TLIP false) MARK 1 ∙ put-length m TLIP false ∙ long)

-- ---- its return

module _ (m : Image) (busy : in_service m ≡ true) where
  -- the mark is 0
  pub top_return_mark : MARK < length m → at (returned m) MARK ≡ 0
  unfolding returned
  top_return_mark h = rw busy (get_or-set_same m MARK 0 0 h)

  -- and no other byte changes: neither IEN nor CPL nor NICR
  pub top_return_byte : (j : ℕ) → j ≢ MARK → at (returned m) j ≡ at m j
  unfolding returned
  top_return_byte j d = rw busy (get_or-set_other m MARK j 0 0 d)

-- ---- entered, and returned from

module _ (s : State) (cs : List Channel) (long : length s.image ≡ image_length) (idle : in_service s.image ≡ false) (top : top_level s.image ≡ true) where
  abbrev pub after_both : Image
  after_both = returned (arbitrate_of s cs).left.image

  busy : in_service (arbitrate_of s cs).left.image ≡ true
  busy = rw (entered-mark s cs long idle top)

  -- every byte is as before but CICR,
  pub enter_return_byte : (j : ℕ) → j ≢ CICR → at after_both j ≡ at s.image j
  enter_return_byte j c = go (ℕ_discrete j MARK)
    where
      go : Dec (j ≡ MARK) → at after_both j ≡ at s.image j
      go (yes e) =
          rw e (top_return_mark (arbitrate_of s cs).left.image busy (rw (entered-length s cs long idle top) (lit< tt))
          ∙ sym (eqb-true (at s.image MARK) 0 (not-false (eqb (at s.image MARK) 0) idle)))
      go (no d) = top_return_byte (arbitrate_of s cs).left.image busy j d ∙ entered-byte s cs long idle top j c d

  -- and of CICR every bit but TLIP, which is 0
  pub enter_return_CICR : (k : ℕ) → k < 8 → has after_both (bit_of CICR k) ≡ (not (eqb k 6) && has s.image (bit_of CICR k))
  enter_return_CICR k h = ap (bit k) (top_return_byte (arbitrate_of s cs).left.image busy CICR (λ e. omega arith)) ∙ go (ℕ_discrete k 6)
    where
      go : Dec (k ≡ 6) → has (arbitrate_of s cs).left.image (bit_of CICR k) ≡ (not (eqb k 6) && has s.image (bit_of CICR k))
      go (yes e) = rw e (entered-TLIP s cs long idle top)
      go (no d) = rw (ne_eqb k 6 d) (entered-CICR s cs long idle top k h d)
