-- Document 01, "Arbitration": a DMA request has won; and document 02, §1: blocks into memory. n, a and c are document 01's: the pair, the address and the
-- counter; with the memory n is the counter's pair, and p the address's. Assumes nothing.
use Rattle.std.specs.Prelude.{Bool, false, cond, ◌&&◌, ◌||◌, ℕ, ◌+◌, ◌*◌, ◌/◌, ◌%◌, eqb, ltb, length, set, Ok}
use Rattle.rules.specs.declared.Channel.{Channel}
use Rattle.rules.specs.declared.Answer.TheVariants as answer
use Rattle.rules.specs.declared.Refusal.TheVariants as refusal
use Rattle.rules.specs.Image.{Image, at, has, put}
use Rattle.rules.specs.Channels.{dcpr_byte, dapr_byte, data_byte, IP, DM, IM}
use Rattle.rules.specs.Outcomes.{State, state, Outcome, outcome, refuse, Answered}

-- n is DCPR with bit 0 cleared
unfoldable pub pair_of : Image → Channel → ℕ
pair_of m channel = at m (dcpr_byte channel) / 2 * 2

-- ---- the end of a transfer, on either path

-- at the end of a block DM is cleared and IP is set exactly if IM = 1; otherwise IP is cleared
unfoldable pub settled : Image → Channel → Bool → Image
settled m channel ended = put (cond ended (put m (DM channel) false) m) (IP channel) (ended && has m (IM channel))

-- after the move, with the new address and counter stored: if the new counter is 0 the block has ended
unfoldable pub finished : State → Channel → ℕ → ℕ → Outcome Answered State
finished s channel source count =
    let ended = eqb count 0 in
    outcome (Ok (answer.Transferred source ended)) (state (settled s.image channel ended) s.memory)

-- ---- with the register file

-- the last register that a pointer may name
abbrev pub last_register : ℕ
last_register = 223

-- one byte moves between the data register and Ra: into Ra with direction 0, out of it with direction 1
unfoldable pub moved_byte : Image → Channel → ℕ → Image
moved_byte m channel a = cond (eqb channel.direction 0) (set m a (at m (data_byte channel))) (set m (data_byte channel) (at m a))

-- c - 1; a counter of 0 becomes 255
unfoldable pub less_one : ℕ → ℕ
less_one c = (c + 255) % 256

-- then Rn and R(n+1) take a + 1 and c - 1
unfoldable pub advanced : Image → ℕ → ℕ → ℕ → Image
advanced m n a c = set (set m n (a + 1)) (n + 1) (less_one c)

-- the source's channel is served over pair n, with the address a and the counter c that were read first. The new ones are stored after the move, so that they
-- stand whatever it hits
unfoldable pub served : State → Channel → ℕ → ℕ → ℕ → ℕ → Outcome Answered State
served s channel source n a c = finished (state (advanced (moved_byte s.image channel a) n a c) s.memory) channel source (less_one c)

-- address a is Rn and counter c is R(n+1). Refused with 6 where n or a is over 223
unfoldable pub register_transfer : State → Channel → ℕ → Outcome Answered State
register_transfer s channel source =
    let m = s.image in
    let n = pair_of m channel in
    let a = at m n in
    cond (ltb last_register n || ltb last_register a) (refuse refusal.Pointer s) (served s channel source n a (at m (n + 1)))

-- ---- with the memory

-- the pair of the address is DAPR with bit 0 cleared: that bit chooses a segment on the part; here both mean the lent memory
unfoldable pub address_pair_of : Image → Channel → ℕ
address_pair_of m channel = at m (dapr_byte channel) / 2 * 2

-- the last pair that a pointer may name
abbrev pub last_pair : ℕ
last_pair = 222

-- the 16-bit number that a pair holds, high byte first
unfoldable pub word_at : Image → ℕ → ℕ
word_at m n = at m n * 256 + at m (n + 1)

-- the image with a 16-bit number in a pair
unfoldable pub put_word : Image → ℕ → ℕ → Image
put_word m n w = set (set m n (w / 256)) (n + 1) (w % 256)

-- one byte moves between the data register and the memory at a: into the memory with direction 0, out of it with direction 1
unfoldable pub moved_memory : State → Channel → ℕ → State
moved_memory s channel a =
    cond (eqb channel.direction 0) (state s.image (set s.memory a (at s.image (data_byte channel))))
    (state (set s.image (data_byte channel) (at s.memory a)) s.memory)

-- a + 1, and c - 1; each wraps at 16 bits
unfoldable pub one_more_word : ℕ → ℕ
one_more_word a = (a + 1) % 65536

unfoldable pub less_one_word : ℕ → ℕ
less_one_word c = (c + 65535) % 65536

-- then the address pair p is written, then the counter pair n: where they coincide the counter stands
unfoldable pub advanced_words : Image → ℕ → ℕ → ℕ → ℕ → Image
advanced_words m p n a c = put_word (put_word m p (one_more_word a)) n (less_one_word c)

-- the source's channel is served over the pairs p and n, with the address a and the counter c that were read first
unfoldable pub served_memory : State → Channel → ℕ → ℕ → ℕ → ℕ → ℕ → Outcome Answered State
served_memory s channel source p n a c =
    let moved = moved_memory s channel a in
    finished (state (advanced_words moved.image p n a c) moved.memory) channel source (less_one_word c)

-- both pairs are read first. Refused with 6 where either pointer is over 222, then with 5 where the address is not below the memory's length
unfoldable pub memory_transfer : State → Channel → ℕ → Outcome Answered State
memory_transfer s channel source =
    let m = s.image in
    let p = address_pair_of m channel in
    let n = pair_of m channel in
    let a = word_at m p in
    cond (ltb last_pair n || ltb last_pair p) (refuse refusal.Pointer s)
    (cond (ltb a (length s.memory)) (served_memory s channel source p n a (word_at m n)) (refuse refusal.Address s))

-- ---- a transfer

-- with DCPR bit 0 = 0 it is with the memory, else with the register file
unfoldable pub transfer_of : State → Channel → ℕ → Outcome Answered State
transfer_of s channel source =
    cond (eqb (at s.image (dcpr_byte channel) % 2) 0) (memory_transfer s channel source) (register_transfer s channel source)
