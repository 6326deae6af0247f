-- Document 02, §1, read a second time: when a transfer with the memory is refused, and what a served request moves, counts, answers and leaves.
-- Assumes nothing.
use Rattle.std.specs.Prelude.{Ok}
use mathlib.Core.Path.{◌≡◌, refl, sym, ap, ◌∙◌}
use mathlib.Core.Logic.{◌≢◌, ◌⊎◌, inl, inr, ⊎_elim}
use mathlib.Core.Bool.{true, false, not, ◌&&◌}
use Prim.Native.Nat.{ℕ, ◌+◌, ◌*◌, ◌/◌, ◌%◌, ◌≤◌, ◌<◌}
use native.Mathlib.Omega.{arith}
use lib.Dec.{eqb, ltb}
use lib.ListN.{length, set, length-set}
use lib.Seq.{get_or-set_same, get_or-set_other}
use borrow.Author.Tests.{lt-ltb, le-ltb, ltb-true, ltb-false, eqb-false, eq-eqb, ne_eqb}
use Rattle.rules.specs.declared.Channel.{Channel}
use Rattle.rules.specs.declared.Answer.TheVariants as answer
use Rattle.rules.specs.declared.Refusal.TheVariants as refusal
use Rattle.rules.specs.Image.{Image, image_length, at, has, bit_of}
use Rattle.rules.specs.Channels.{idcr_byte, dcpr_byte, dapr_byte, data_byte, IP, IM}
use Rattle.rules.specs.Outcomes.{State, Outcome, refuse, Answered}
use Rattle.rules.specs.Transfer.{pair_of, finished, address_pair_of, word_at, put_word, moved_memory, one_more_word, less_one_word, advanced_words, served_memory, memory_transfer}
use Rattle.rules.proofs.Bools.{cond_elim, or_r, true_or}
use Rattle.rules.proofs.ChannelLaws.{OnPage}
use Rattle.rules.proofs.TransferLaws.{Stands, ended-one, settled-byte, settled-bit, settled-IP}

-- the address and the counter, before the move
abbrev pub memory_address : Image → Channel → ℕ
memory_address m c = word_at m (address_pair_of m c)

abbrev pub memory_counter : Image → Channel → ℕ
memory_counter m c = word_at m (pair_of m c)

-- ---- when it is refused

module _ (lent : State) (c : Channel) (s : ℕ) where
  abbrev image : Image
  image = lent.image

  -- a pointer over 222 is, first,
  pub memory_pointer : (222 < pair_of image c) ⊎ (222 < address_pair_of image c) → memory_transfer lent c s ≡ refuse refusal.Pointer lent
  unfolding memory_transfer
  memory_pointer (inl h) = rw (lt-ltb 222 (pair_of image c) h)
  memory_pointer (inr h) = rw (or_r (ltb 222 (pair_of image c)) (ltb 222 (address_pair_of image c)) (lt-ltb 222 (address_pair_of image c) h))

  -- then an address past the memory,
  pub memory_address_lem : pair_of image c ≤ 222 → address_pair_of image c ≤ 222 → length lent.memory ≤ memory_address image c
      → memory_transfer lent c s ≡ refuse refusal.Address lent
  unfolding memory_transfer
  memory_address_lem n p a =
      rw (le-ltb 222 (pair_of image c) n, le-ltb 222 (address_pair_of image c) p, le-ltb (memory_address image c) (length lent.memory) a)

  -- and any other request is served
  pub memory-served : pair_of image c ≤ 222 → address_pair_of image c ≤ 222 → memory_address image c < length lent.memory
      → memory_transfer lent c s ≡ served_memory lent c s (address_pair_of image c) (pair_of image c) (memory_address image c) (memory_counter image c)
  unfolding memory_transfer
  memory-served n p a =
      rw (le-ltb 222 (pair_of image c) n, le-ltb 222 (address_pair_of image c) p, lt-ltb (memory_address image c) (length lent.memory) a)

-- ---- the numbers in figures

-- the address plus one; FFFFh becomes 0000h
pub one-more_word : (a : ℕ) → (a < 65535 → one_more_word a ≡ a + 1) × (one_more_word 65535 ≡ 0)
unfolding one_more_word
one-more_word a = (λ h. omega arith, refl)

-- the counter less one; 0000h becomes FFFFh, so that it stands for 65,536 transfers
pub less_one-word : (c : ℕ) → (0 < c → c < 65536 → less_one_word c + 1 ≡ c) × (less_one_word 0 ≡ 65535)
unfolding less_one_word
less_one-word c = (λ h k. omega arith, refl)

-- the high byte stands first
pub word_bytes : (m : Image) (n : ℕ) → at m (n + 1) < 256 → (word_at m n / 256 ≡ at m n) × (word_at m n % 256 ≡ at m (n + 1))
unfolding word_at
word_bytes m n h = (omega arith, omega arith)

-- the pair of the address is the even register of the two that DAPR names
pub address_pair_even : (m : Image) (c : Channel) → (address_pair_of m c % 2 ≡ 0) × (address_pair_of m c / 2 ≡ at m (dapr_byte c) / 2)
unfolding address_pair_of
address_pair_even m c = (omega arith, omega arith)

-- the pairs coincide or have no register in common: both are even
pub pairs_same_or_apart : (m : Image) (c : Channel)
    → (address_pair_of m c ≡ pair_of m c) ⊎ ((address_pair_of m c + 1 < pair_of m c) ⊎ (pair_of m c + 1 < address_pair_of m c))
unfolding address_pair_of pair_of
pairs_same_or_apart m c = evens (at m (dapr_byte c) / 2) (at m (dcpr_byte c) / 2)
  where
    evens : (x y : ℕ) → (x * 2 ≡ y * 2) ⊎ ((x * 2 + 1 < y * 2) ⊎ (y * 2 + 1 < x * 2))
    evens x y = go (true_or (ltb x y)) (true_or (ltb y x))
      where
        go : (ltb x y ≡ true) ⊎ (ltb x y ≡ false) → (ltb y x ≡ true) ⊎ (ltb y x ≡ false) → (x * 2 ≡ y * 2) ⊎ ((x * 2 + 1 < y * 2) ⊎ (y * 2 + 1 < x * 2))
        go (inl t) q = inr (inl (omega (arith, ltb-true x y t)))
        go (inr f) (inl t) = inr (inr (omega (arith, ltb-true y x t)))
        go (inr f) (inr g) = inl (omega (arith, ltb-false x y f, ltb-false y x g))

-- ---- a pair, and the two pairs

module _ (m : Image) (n w : ℕ) where
  put-word_length : length (put_word m n w) ≡ length m
  unfolding put_word
  put-word_length = length-set (set m n (w / 256)) (n + 1) (w % 256) ∙ length-set m n (w / 256)

  put-word_other : (j : ℕ) → j ≢ n → j ≢ n + 1 → at (put_word m n w) j ≡ at m j
  unfolding put_word
  put-word_other j d e = get_or-set_other (set m n (w / 256)) (n + 1) j (w % 256) 0 e ∙ get_or-set_other m n j (w / 256) 0 d

  -- its high byte first
  pub put-word_bytes : n + 1 < length m → (at (put_word m n w) n ≡ w / 256) × (at (put_word m n w) (n + 1) ≡ w % 256)
  unfolding put_word
  put-word_bytes h = (
    get_or-set_other (set m n (w / 256)) (n + 1) n (w % 256) 0 (λ e. omega arith) ∙ get_or-set_same m n (w / 256) 0 (omega arith),
    get_or-set_same (set m n (w / 256)) (n + 1) (w % 256) 0 (rw (length-set m n (w / 256)) h),
  )

  -- a pair holds the number that was stored in it
  pub word-put : n + 1 < length m → word_at (put_word m n w) n ≡ w
  unfolding word_at
  word-put h = let b = put-word_bytes h in omega (arith, b.0, b.1)

-- ---- a served request of source s, whose record is c: p is the pair of its address, n that of its counter

module _ (lent : State) (c : Channel) (s : ℕ) (r : Stands c) (long : length lent.image ≡ image_length)
    (n-ok : pair_of lent.image c ≤ 222) (p-ok : address_pair_of lent.image c ≤ 222)
    (inside : memory_address lent.image c < length lent.memory) where
  abbrev m : Image
  m = lent.image

  abbrev n : ℕ
  n = pair_of m c

  abbrev p : ℕ
  p = address_pair_of m c

  abbrev a : ℕ
  a = memory_address m c

  abbrev count : ℕ
  count = memory_counter m c

  -- after the byte has moved
  abbrev moved : State
  moved = moved_memory lent c a

  -- and the pairs have taken the new address and counter
  abbrev transferred : Image
  transferred = advanced_words moved.image p n a count

  -- what is answered and left at the end
  abbrev pub done : Outcome Answered State
  done = served_memory lent c s p n a count

  moved_length : length moved.image ≡ image_length
  unfolding moved_memory
  moved_length = cond_elim (λ (t : State). length t.image ≡ image_length) (eqb c.direction 0) (λ e. long) (λ e. length-set m (data_byte c) (at lent.memory a) ∙ long)

  moved_other : (j : ℕ) → (c.direction ≡ 1 → j ≢ data_byte c) → at moved.image j ≡ at m j
  unfolding moved_memory
  moved_other j d =
      cond_elim (λ (t : State). at t.image j ≡ at m j) (eqb c.direction 0) (λ e. refl)
      (λ f. get_or-set_other m (data_byte c) j (at lent.memory a) 0 (d (one f)))
    where
      one : eqb c.direction 0 ≡ false → c.direction ≡ 1
      one f = let z : c.direction ≢ 0 = eqb-false c.direction 0 f in omega (arith, r.one_direction)

  -- any byte but IDCR is as the pairs are left, and any byte but theirs as the move leaves it
  from_transferred : (j : ℕ) → j ≢ idcr_byte c → at done.left.image j ≡ at transferred j
  unfolding served_memory finished
  from_transferred j d = settled-byte transferred c (eqb (less_one_word count) 0) j d

  from_moved : (j : ℕ) → j ≢ p → j ≢ p + 1 → j ≢ n → j ≢ n + 1 → at transferred j ≡ at moved.image j
  unfolding advanced_words
  from_moved j d e f g =
      put-word_other (put_word moved.image p (one_more_word a)) n (less_one_word count) j f g ∙ put-word_other moved.image p (one_more_word a) j d e

  -- a pair's number at the end, where it is neither IDCR's byte nor over R223
  word_end : (q w : ℕ) → q ≤ 222 → word_at transferred q ≡ w → word_at done.left.image q ≡ w
  unfolding word_at
  word_end q w h e =
      rw (from_transferred q (λ d. omega (arith, r.idcr_page)), from_transferred (q + 1) (λ d. omega (arith, r.idcr_page))) e

  -- the counter pair holds the counter less one, also where the pairs coincide,
  pub memory_counter_lem : word_at done.left.image n ≡ less_one_word count
  unfolding advanced_words
  memory_counter_lem =
      word_end n (less_one_word count) n-ok
      (word-put (put_word moved.image p (one_more_word a)) n (less_one_word count)
      (rw (put-word_length moved.image p (one_more_word a), moved_length) (omega (arith, n-ok))))

  -- the address pair the address plus one, where they don't,
  pub memory_next : p ≢ n → word_at done.left.image p ≡ one_more_word a
  unfolding advanced_words word_at
  memory_next d =
      let apart : (p + 1 < n) ⊎ (n + 1 < p) = ⊎_elim (λ e. absurd (d e)) (λ h. h) (pairs_same_or_apart m c) in
      let q : (p ≢ n) × (p ≢ n + 1) × (p + 1 ≢ n) × (p + 1 ≢ n + 1) = ⊎_elim
      (λ h. (λ e. omega arith, λ e. omega arith, λ e. omega arith, λ e. omega arith))
      (λ h. (λ e. omega arith, λ e. omega arith, λ e. omega arith, λ e. omega arith)) apart in
      let first = put_word moved.image p (one_more_word a) in
      word_end p (one_more_word a) p-ok
      (rw (put-word_other first n (less_one_word count) p q.0 q.1, put-word_other first n (less_one_word count) (p + 1) q.2 q.3)
      (word-put moved.image p (one_more_word a) (rw moved_length (omega (arith, p-ok)))))

  -- direction 0: the memory takes the data register's byte at the address, and every other byte stays,
  pub memory_in : c.direction ≡ 0 → done.left.memory ≡ set lent.memory a (at m (data_byte c))
  unfolding served_memory finished moved_memory
  memory_in e = rw (eq-eqb c.direction 0 e)

  -- direction 1: the data register takes the memory's byte, and the memory stays
  pub memory_out : c.direction ≡ 1 → (at done.left.image (data_byte c) ≡ at lent.memory a) × (done.left.memory ≡ lent.memory)
  unfolding served_memory finished moved_memory
  memory_out e =
      let out : eqb c.direction 0 ≡ false = ne_eqb c.direction 0 (λ d. omega arith) in (
        from_transferred (data_byte c) (λ d. r.apart (sym d))
            ∙ from_moved (data_byte c) (λ d. omega (arith, r.data_page, p-ok)) (λ d. omega (arith, r.data_page, p-ok)) (λ d. omega (arith, r.data_page, n-ok)) (λ d. omega (arith, r.data_page, n-ok))
            ∙ rw out (get_or-set_same m (data_byte c) (at lent.memory a) 0 (rw long (omega (arith, r.data_page)))),
        rw out,
      )

  -- every other byte of the image stays but IDCR
  pub memory_frame : (j : ℕ) → j ≢ p → j ≢ p + 1 → j ≢ n → j ≢ n + 1 → j ≢ idcr_byte c → (c.direction ≡ 1 → j ≢ data_byte c) → at done.left.image j ≡ at m j
  memory_frame j d e f g i x = from_transferred j i ∙ from_moved j d e f g ∙ moved_other j x

  -- and so does each that is neither a register up to R223 nor on pages 1 to 63: CICR, NICR, EIPR and the mark among them
  pub memory_named : (j : ℕ) → 223 < j → (OnPage j → ⊥) → at done.left.image j ≡ at m j
  memory_named j h off =
      memory_frame j (λ e. omega (arith, p-ok)) (λ e. omega (arith, p-ok)) (λ e. omega (arith, n-ok)) (λ e. omega (arith, n-ok)) (λ e. off (rw e r.idcr_page))
      (λ d e. off (rw e r.data_page))

  -- ---- the end of a block, as on the other path

  word-ended : count < 65536 → eqb (less_one_word count) 0 ≡ eqb count 1
  unfolding less_one_word
  word-ended h = ended-one ((count + 65535) % 65536) count (λ e. omega arith) (λ e. omega arith)

  -- the answer: the block has ended exactly if the counter was 1
  pub memory-answer : count < 65536 → done.answer ≡ (Ok (answer.Transferred s (eqb count 1)))
  unfolding served_memory finished
  memory-answer h = ap ((λ x1. Ok (answer.Transferred s x1))) (word-ended h)

  -- IDCR before the end's part is as it was
  idcr-kept : at transferred (idcr_byte c) ≡ at m (idcr_byte c)
  idcr-kept =
      from_moved (idcr_byte c) (λ d. omega (arith, r.idcr_page, p-ok)) (λ d. omega (arith, r.idcr_page, p-ok)) (λ d. omega (arith, r.idcr_page, n-ok)) (λ d. omega (arith, r.idcr_page, n-ok))
      ∙ moved_other (idcr_byte c) (λ e. r.apart)

  idcr-inside : idcr_byte c < length transferred
  unfolding advanced_words
  idcr-inside =
      rw (put-word_length (put_word moved.image p (one_more_word a)) n (less_one_word count), put-word_length moved.image p (one_more_word a), moved_length)
      (omega (arith, r.idcr_page))

  -- IP is set afterwards exactly at the end of a block with IM set,
  pub memory-IP : count < 65536 → has done.left.image (IP c) ≡ (eqb count 1 && has m (IM c))
  unfolding served_memory finished
  memory-IP h = settled-IP transferred c (eqb (less_one_word count) 0) idcr-inside ∙ rw (word-ended h, idcr-kept)

  -- DM stays but at the end of a block, where it is cleared; every other bit of IDCR stays
  pub memory_IDCR : count < 65536 → (x : ℕ) → x < 8 → x ≢ 5
      → has done.left.image (bit_of (idcr_byte c) x) ≡ (has m (bit_of (idcr_byte c) x) && not (eqb count 1 && eqb x 4))
  unfolding served_memory finished
  memory_IDCR h x hx d = settled-bit transferred c (eqb (less_one_word count) 0) x hx d idcr-inside ∙ rw (word-ended h, idcr-kept)
