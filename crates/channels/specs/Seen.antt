-- Names for the private functions of the check of a list: the row of a page, and the registers that it has seen.
-- Assumes nothing.
use Rattle.std.specs.Prelude.{◌≡◌, Bool, true, cond, ◌&&◌, List, [], ◌∷◌, ℕ, ◌+◌, ◌-◌, ◌*◌, eqb, get_or, set}
use Rattle.rules.specs.declared.Channel.{Channel}
use Rattle.channels.specs.Laid.{bits_in}

-- the row of page p: its own or, where it has none, the k-th
abbrev pub row_of : List ℕ → ℕ → ℕ → ℕ
row_of masks p k = cond (eqb (get_or masks p 0) 0) (64 + 16 * k) (get_or masks p 0)

-- a register: its number or its byte, and the bits that exist there
pub record Spot : Type 0 where
  pub place : ℕ
  pub bits : ℕ

abbrev pub spot : ℕ → ℕ → Spot
spot i existing = record { place = i; bits = existing }

-- a record's registers by number: IDCR has bits 5:0, the other four have all eight
abbrev pub registers_of : Channel → List Spot
registers_of c = spot c.idcr 0x3f ∷ spot c.ivr 0xff ∷ spot c.dcpr 0xff ∷ spot c.dapr 0xff ∷ spot c.io 0xff ∷ []

-- the masks with the bits of register r in a row made these
abbrev pub put_bits : List ℕ → ℕ → ℕ → ℕ → List ℕ
put_bits masks row r existing = set masks (row + (r - 240)) existing

-- whether register r is met for the first time: no bits exist there; then these do
abbrev pub Sees : List ℕ → ℕ → ℕ → ℕ → Bool → List ℕ → Type 0
Sees before row r existing first after = (first ≡ eqb (bits_in before row r) 0) × (after ≡ put_bits before row r existing)

-- each of the registers is met for the first time: no bits exist there, and it is not among those before it
unfoldable pub unseen : List ℕ → ℕ → List Spot → Bool
unseen masks row [] = true
unseen masks row (x ∷ xs) = eqb (bits_in masks row x.place) 0 && unseen (put_bits masks row x.place x.bits) row xs

-- the masks with their bits
unfoldable pub seeing : List ℕ → ℕ → List Spot → List ℕ
seeing masks row [] = masks
seeing masks row (x ∷ xs) = seeing (put_bits masks row x.place x.bits) row xs

-- whether each of the registers is met for the first time; then their bits exist
abbrev pub SeesAll : List ℕ → ℕ → List Spot → Bool → List ℕ → Type 0
SeesAll before row xs first after = (first ≡ unseen before row xs) × (after ≡ seeing before row xs)
