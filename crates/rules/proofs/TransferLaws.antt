-- Document 01's DMA transfer with the register file, read a second time: when it is refused, and what a served request moves, counts, answers and leaves.
-- Assumes nothing.
use Rattle.std.specs.Prelude.{Ok}
use mathlib.Core.Path.{◌≡◌, refl, sym, ap, ◌∙◌}
use mathlib.Core.Logic.{◌≢◌, ◌⊎◌, inl, inr}
use mathlib.Core.List.{List}
use mathlib.Core.Bool.{Bool, true, false, cond, not, ◌&&◌, and-true}
use Prim.Native.Nat.{ℕ, ◌+◌, ◌/◌, ◌%◌, ◌≤◌, ◌<◌}
use native.Mathlib.Omega.{arith}
use native.Mathlib.Decide.{ℕ_discrete}
use lib.Dec.{lit<, eqb, ltb}
use lib.ListN.{length, set, length-set}
use lib.Seq.{get_or-set_same, get_or-set_other}
use borrow.Author.Tests.{lt-ltb, le-ltb, eqb-true, eqb-false, eq-eqb, ne_eqb}
use Rattle.rules.specs.declared.Channel.{Channel}
use Rattle.rules.specs.declared.Answer.TheVariants as answer
use Rattle.rules.specs.declared.Refusal.TheVariants as refusal
use Rattle.rules.specs.Image.{Image, image_length, at, has, put, bit_of}
use Rattle.rules.specs.Channels.{record_at, idcr_byte, dcpr_byte, data_byte, list_ok, IP, DM, IM}
use Rattle.rules.specs.Outcomes.{State, Outcome, refuse, Answered}
use Rattle.rules.specs.Transfer.{pair_of, moved_byte, less_one, advanced, settled, finished, served, register_transfer, memory_transfer, transfer_of}
use Rattle.rules.proofs.Bools.{cond_elim, cond_and, or_r}
use Rattle.rules.proofs.ImageLaws.{put-length, at-put_other, has-put_same, has-put_bit, has-put_other}
use Rattle.rules.proofs.ChannelLaws.{OnPage, record_in_range, record_ok_lem, register_range, registers_apart}

-- the address a in Rn, and the counter in R(n+1), before the move
abbrev pub address_of : Image → Channel → ℕ
address_of m c = at m (pair_of m c)

abbrev pub counter_of : Image → Channel → ℕ
counter_of m c = at m (pair_of m c + 1)

-- ---- which path, and when it is refused

module _ (lent : State) (c : Channel) (s : ℕ) where
  abbrev image : Image
  image = lent.image

  -- DCPR bit 0 chooses
  pub with_registers : at image (dcpr_byte c) % 2 ≡ 1 → transfer_of lent c s ≡ register_transfer lent c s
  unfolding transfer_of
  with_registers e = rw e

  pub with-memory : at image (dcpr_byte c) % 2 ≡ 0 → transfer_of lent c s ≡ memory_transfer lent c s
  unfolding transfer_of
  with-memory e = rw e

  -- with the register file a pair or an address over R223 is refused,
  pub transfer_pointer : (223 < pair_of image c) ⊎ (223 < address_of image c) → register_transfer lent c s ≡ refuse refusal.Pointer lent
  unfolding register_transfer
  transfer_pointer (inl h) = rw (lt-ltb 223 (pair_of image c) h)
  transfer_pointer (inr h) = rw (or_r (ltb 223 (pair_of image c)) (ltb 223 (address_of image c)) (lt-ltb 223 (address_of image c) h))

  -- and any other request is served
  pub transfer-served : pair_of image c ≤ 223 → address_of image c ≤ 223
      → register_transfer lent c s ≡ served lent c s (pair_of image c) (address_of image c) (counter_of image c)
  unfolding register_transfer
  transfer-served n a = rw (le-ltb 223 (pair_of image c) n, le-ltb 223 (address_of image c) a)

-- the pair is the even register of the two that DCPR names
pub pair_even : (m : Image) (c : Channel) → (pair_of m c % 2 ≡ 0) × (pair_of m c / 2 ≡ at m (dcpr_byte c) / 2)
unfolding pair_of
pair_even m c = (omega arith, omega arith)

-- ---- the end of a block

-- it ends exactly if the counter was 1, on either path: the new counter is 0 then, and only then
pub ended-one : (left count : ℕ) → (left ≡ 0 → count ≡ 1) → (count ≡ 1 → left ≡ 0) → eqb left 0 ≡ eqb count 1
ended-one left count p q = go (ℕ_discrete count 1)
  where
    go : Dec (count ≡ 1) → eqb left 0 ≡ eqb count 1
    go (yes e) = rw (e, q e)
    go (no d) = ne_eqb left 0 (λ e. d (p e)) ∙ sym (ne_eqb count 1 d)

byte-ended : (count : ℕ) → count < 256 → eqb (less_one count) 0 ≡ eqb count 1
unfolding less_one
byte-ended count h = ended-one ((count + 255) % 256) count (λ e. omega arith) (λ e. omega arith)

-- IDCR at the end of a service: IP, DM, and the other bits; and the other bytes
module _ (m : Image) (c : Channel) (ended : Bool) where
  abbrev disabled : Image
  disabled = cond ended (put m (DM c) false) m

  pub settled-byte : (j : ℕ) → j ≢ idcr_byte c → at (settled m c ended) j ≡ at m j
  unfolding settled
  settled-byte j d =
      at-put_other disabled (IP c) (ended && has m (IM c)) j d ∙ cond_elim (λ i. at i j ≡ at m j) ended (λ t. at-put_other m (DM c) false j d) (λ f. refl)

  -- DM is cleared at the end of a block
  pub settled-bit : (x : ℕ) → x < 8 → x ≢ 5 → idcr_byte c < length m
      → has (settled m c ended) (bit_of (idcr_byte c) x) ≡ (has m (bit_of (idcr_byte c) x) && not (ended && eqb x 4))
  unfolding settled
  settled-bit x h d inside =
      has-put_other disabled (IP c) (ended && has m (IM c)) (bit_of (idcr_byte c) x) (lit< tt) h (inr d)
      ∙ cond_elim (λ i. has i (bit_of (idcr_byte c) x) ≡ (has m (bit_of (idcr_byte c) x) && not (ended && eqb x 4))) ended
      (λ t. rw t (has-put_bit m (DM c) false x inside (lit< tt) h ∙ cond_and (eqb x 4) (has m (bit_of (idcr_byte c) x))))
      (λ f. rw f (sym (and-true (has m (bit_of (idcr_byte c) x)))))

  pub settled-IP : idcr_byte c < length m → has (settled m c ended) (IP c) ≡ (ended && has m (IM c))
  unfolding settled
  settled-IP inside =
      has-put_same disabled (IP c) (ended && has m (IM c))
      (cond_elim (λ (i : Image). idcr_byte c < length i) ended (λ t. rw (put-length m (DM c) false) inside) (λ f. inside)) (lit< tt)

-- ---- the advance, and the move

module _ (m : Image) (n a count : ℕ) where
  advanced-length : length (advanced m n a count) ≡ length m
  unfolding advanced
  advanced-length = length-set (set m n (a + 1)) (n + 1) (less_one count) ∙ length-set m n (a + 1)

  advanced_address : n < length m → at (advanced m n a count) n ≡ a + 1
  unfolding advanced
  advanced_address h = get_or-set_other (set m n (a + 1)) (n + 1) n (less_one count) 0 (λ e. omega arith) ∙ get_or-set_same m n (a + 1) 0 h

  advanced_counter : n + 1 < length m → at (advanced m n a count) (n + 1) ≡ less_one count
  unfolding advanced
  advanced_counter h = get_or-set_same (set m n (a + 1)) (n + 1) (less_one count) 0 (rw (length-set m n (a + 1)) h)

  advanced-other : (j : ℕ) → j ≢ n → j ≢ n + 1 → at (advanced m n a count) j ≡ at m j
  unfolding advanced
  advanced-other j d e = get_or-set_other (set m n (a + 1)) (n + 1) j (less_one count) 0 e ∙ get_or-set_other m n j (a + 1) 0 d

module _ (m : Image) (c : Channel) (a : ℕ) where
  moved_length : length (moved_byte m c a) ≡ length m
  unfolding moved_byte
  moved_length =
      cond_elim (λ (i : Image). length i ≡ length m) (eqb c.direction 0) (λ t. length-set m a (at m (data_byte c))) (λ f. length-set m (data_byte c) (at m a))

  moved_in : c.direction ≡ 0 → a < length m → at (moved_byte m c a) a ≡ at m (data_byte c)
  unfolding moved_byte
  moved_in e h = rw (eq-eqb c.direction 0 e) (get_or-set_same m a (at m (data_byte c)) 0 h)

  moved_out : c.direction ≡ 1 → data_byte c < length m → at (moved_byte m c a) (data_byte c) ≡ at m a
  unfolding moved_byte
  moved_out e h = rw (ne_eqb c.direction 0 (λ d. omega arith)) (get_or-set_same m (data_byte c) (at m a) 0 h)

  moved_other : c.direction ≤ 1 → (j : ℕ) → (c.direction ≡ 0 → j ≢ a) → (c.direction ≡ 1 → j ≢ data_byte c) → at (moved_byte m c a) j ≡ at m j
  unfolding moved_byte
  moved_other h j d e =
      cond_elim (λ i. at i j ≡ at m j) (eqb c.direction 0) (λ t. get_or-set_other m a j (at m (data_byte c)) 0 (d (eqb-true c.direction 0 t)))
      (λ f. get_or-set_other m (data_byte c) j (at m a) 0 (e (one f)))
    where
      one : eqb c.direction 0 ≡ false → c.direction ≡ 1
      one f = let n : c.direction ≢ 0 = eqb-false c.direction 0 f in omega arith

-- ---- where a record's registers stand that a transfer names

pub record Stands (c : Channel) : Type 0 where
  pub idcr_page : OnPage (idcr_byte c)
  pub data_page : OnPage (data_byte c)
  pub apart : idcr_byte c ≢ data_byte c
  pub one_direction : c.direction ≤ 1

-- so it is of a record of a list within the rules
pub stands : (cs : List Channel) (k : ℕ) → list_ok cs ≡ true → k < length cs → Stands (record_at cs k)
stands cs k ok there =
    record {
      idcr_page = register_range cs ok k 0 there (lit< tt);
      data_page = register_range cs ok k 4 there (lit< tt);
      apart = registers_apart cs ok k 0 k 4 there there (lit< tt) (lit< tt) (inr (λ e. omega arith));
      one_direction = (record_in_range (record_at cs k) (record_ok_lem cs ok k there)).one_way;
    }

-- ---- a served request of source s, whose record is c: n is its pair

module _ (lent : State) (c : Channel) (s : ℕ) (r : Stands c) (long : length lent.image ≡ image_length)
    (pair : pair_of lent.image c ≤ 223) (address : address_of lent.image c ≤ 223) where
  abbrev m : Image
  m = lent.image

  next_register : pair_of m c + 1 ≤ 223
  next_register = omega (arith, pair_even m c)

  -- after the byte has moved
  abbrev moved : Image
  moved = moved_byte m c (address_of m c)

  -- and the pair taken its new address and counter
  abbrev transferred : Image
  transferred = advanced moved (pair_of m c) (address_of m c) (counter_of m c)

  -- what is answered and left at the end
  abbrev pub done : Outcome Answered State
  done = served lent c s (pair_of m c) (address_of m c) (counter_of m c)

  inside : (j : ℕ) → j < image_length → j < length moved
  inside j h = rw (moved_length m c (address_of m c), long) h

  -- any byte but IDCR is as the transfer leaves it, and any byte but Rn and R(n+1) as the move leaves it
  from_transferred : (j : ℕ) → j ≢ idcr_byte c → at done.left.image j ≡ at transferred j
  unfolding served finished
  from_transferred j d = settled-byte transferred c (eqb (less_one (counter_of m c)) 0) j d

  from_moved : (j : ℕ) → j ≢ pair_of m c → j ≢ pair_of m c + 1 → at transferred j ≡ at moved j
  from_moved = advanced-other moved (pair_of m c) _ _

  -- Rn becomes the address plus one, whatever the move hit,
  pub transfer_address : at done.left.image (pair_of m c) ≡ address_of m c + 1
  transfer_address =
      from_transferred (pair_of m c) (λ e. omega (arith, r.idcr_page))
      ∙ advanced_address moved (pair_of m c) (address_of m c) (counter_of m c) (inside (pair_of m c) (omega arith))

  -- R(n+1) the counter less one, and 255 from 0,
  pub transfer_counter : counter_of m c < 256
      → (counter_of m c ≡ 0 → at done.left.image (pair_of m c + 1) ≡ 255)
      × (0 < counter_of m c → at done.left.image (pair_of m c + 1) + 1 ≡ counter_of m c)
  unfolding less_one
  transfer_counter h =
      let e : at done.left.image (pair_of m c + 1) ≡ (counter_of m c + 255) % 256 =
      from_transferred (pair_of m c + 1) (λ e. omega (arith, r.idcr_page, next_register))
      ∙ advanced_counter moved (pair_of m c) _ (counter_of m c) (inside (pair_of m c + 1) (omega (arith, next_register))) in
      (λ z. omega arith, λ p. omega arith)

  -- direction 0: Ra takes the data register's byte, where it is neither Rn nor R(n+1),
  pub transfer_in : c.direction ≡ 0 → address_of m c ≢ pair_of m c → address_of m c ≢ pair_of m c + 1
      → at done.left.image (address_of m c) ≡ at m (data_byte c)
  transfer_in e d f =
      from_transferred (address_of m c) (λ e. omega (arith, r.idcr_page)) ∙ from_moved (address_of m c) d f
      ∙ moved_in m c (address_of m c) e (rw long (omega arith))

  -- direction 1: the data register takes Ra's byte as it was, also where that is Rn or R(n+1)
  pub transfer_out : c.direction ≡ 1 → at done.left.image (data_byte c) ≡ at m (address_of m c)
  transfer_out e =
      from_transferred (data_byte c) (λ d. r.apart (sym d))
      ∙ from_moved (data_byte c) (λ d. omega (arith, r.data_page)) (λ d. omega (arith, r.data_page, next_register))
      ∙ moved_out m c (address_of m c) e (rw long (omega (arith, r.data_page)))

  -- every other byte stays but IDCR
  pub transfer_frame : (j : ℕ) → j ≢ pair_of m c → j ≢ pair_of m c + 1 → j ≢ idcr_byte c → (c.direction ≡ 0 → j ≢ address_of m c) → (c.direction ≡ 1 → j ≢ data_byte c)
      → at done.left.image j ≡ at m j
  transfer_frame j d e f x y =
      from_transferred j f ∙ from_moved j d e ∙ moved_other m c (address_of m c) r.one_direction j x y

  -- and so does each that is neither a register up to R223 nor on pages 1 to 63: CICR, NICR, EIPR and the mark among them
  pub transfer_named : (j : ℕ) → 223 < j → (OnPage j → ⊥) → at done.left.image j ≡ at m j
  transfer_named j h off =
      transfer_frame j (λ e. omega arith) (λ e. omega (arith, next_register)) (λ e. off (rw e r.idcr_page)) (λ d e. omega arith) (λ d e. off (rw e r.data_page))

  -- the answer: the block has ended exactly if the counter was 1
  pub transfer-answer : counter_of m c < 256 → done.answer ≡ (Ok (answer.Transferred s (eqb (counter_of m c) 1)))
  unfolding served finished
  transfer-answer h = ap ((λ x1. Ok (answer.Transferred s x1))) (byte-ended (counter_of m c) h)

  -- IDCR before the end's part is as it was
  idcr-kept : at transferred (idcr_byte c) ≡ at m (idcr_byte c)
  idcr-kept =
      from_moved (idcr_byte c) (λ d. omega (arith, r.idcr_page)) (λ d. omega (arith, r.idcr_page, next_register))
      ∙ moved_other m c (address_of m c) r.one_direction (idcr_byte c) (λ e d. omega (arith, r.idcr_page)) (λ e. r.apart)

  idcr-inside : idcr_byte c < length transferred
  idcr-inside = rw advanced-length (inside (idcr_byte c) (omega (arith, r.idcr_page)))

  -- IP is set afterwards exactly at the end of a block with IM set,
  pub transfer-IP : counter_of m c < 256 → has done.left.image (IP c) ≡ (eqb (counter_of m c) 1 && has m (IM c))
  unfolding served finished
  transfer-IP h =
      settled-IP transferred c (eqb (less_one (counter_of m c)) 0) idcr-inside ∙ rw (byte-ended (counter_of m c) h, idcr-kept)

  -- DM stays but at the end of a block, where it is cleared; every other bit of IDCR stays
  pub transfer_IDCR : counter_of m c < 256 → (x : ℕ) → x < 8 → x ≢ 5
      → has done.left.image (bit_of (idcr_byte c) x) ≡ (has m (bit_of (idcr_byte c) x) && not (eqb (counter_of m c) 1 && eqb x 4))
  unfolding served finished
  transfer_IDCR h x hx d =
      settled-bit transferred c (eqb (less_one (counter_of m c)) 0) x hx d idcr-inside ∙ rw (byte-ended (counter_of m c) h, idcr-kept)

  -- the memory stays
  pub transfer-memory : done.left.memory ≡ lent.memory
  unfolding served finished
  transfer-memory = refl
