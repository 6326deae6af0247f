-- A channel list laid out in two arrays, as the steps read it: no step looks a record up.
-- Assumes nothing.
use Rattle.std.specs.Prelude.{◌≡◌, cond, List, [], ℕ, ◌+◌, ◌-◌, ◌≤◌, ◌<◌, eqb, length, get_or, replicate, Option, None}
use Rattle.rules.specs.declared.Channel.{Channel}
use Rattle.rules.specs.declared.Place.{Place}
use Rattle.rules.specs.Image.{page_byte, MARK}
use Rattle.rules.specs.Channels.{most_records, record_at, idcr_byte, ivr_byte, dcpr_byte, dapr_byte, data_byte}
use Rattle.rules.specs.Registers.{At, records_place}
use Rattle.channels.specs.declared.RecordBytes.{RecordBytes}

-- ---- the masks: a number for each page, where its row stands, 0 for none; then twelve rows of sixteen, the bits that exist at R240 to R255 of a page

abbrev pub masks_length : ℕ
masks_length = 256

-- no page has a row
abbrev pub no_masks : List ℕ
no_masks = replicate masks_length 0

-- the bits that exist at register r in a row, 0 for none
abbrev pub bits_in : List ℕ → ℕ → ℕ → ℕ
bits_in masks row r = get_or masks (row + (r - 240)) 0

-- the bits that exist at register r of page p, 0 where the page has no row too
unfoldable pub bits_at : List ℕ → ℕ → ℕ → ℕ
bits_at masks p r = cond (eqb (get_or masks p 0) 0) 0 (bits_in masks (get_or masks p 0) r)

-- a place by the bits that exist at a byte
abbrev pub place_by : ℕ → ℕ → Option Place
place_by i existing = cond (eqb existing 0) None (At i existing)

-- they are the list's: each register of a page goes where the records put it. A row lies within the masks, and page 0 has none.
pub record LaidMasks (cs : List Channel) (masks : List ℕ) : Type 0 where
  pub rows : (p : ℕ) → p ≤ 63 → get_or masks p 0 ≤ 240
  pub none : get_or masks 0 0 ≡ 0
  pub place : (p r : ℕ) → p ≤ 63 → 240 ≤ r → r ≤ 255 → records_place cs p r ≡ place_by (page_byte p r) (bits_at masks p r)

-- ---- the places: the bytes of each record's registers, and how many records there are

-- of a record
abbrev pub bytes_of : Channel → RecordBytes
bytes_of c = record {
  idcr = idcr_byte c;
  ivr = ivr_byte c;
  dcpr = dcpr_byte c;
  dapr = dapr_byte c;
  «data» = data_byte c;
  direction = c.direction;
}

-- what stands past the last entry, where nothing looks
abbrev pub no_bytes : RecordBytes
no_bytes = record { idcr = 0; ivr = 0; dcpr = 0; dapr = 0; «data» = 0; direction = 0 }

-- entry k
abbrev pub bytes_at : List RecordBytes → ℕ → RecordBytes
bytes_at places k = get_or places k no_bytes

-- no record has a place: the mark's byte stands for the IDCR of each, and in the other entries
abbrev pub blank : RecordBytes
blank = record { idcr = MARK; ivr = MARK; dcpr = MARK; dapr = MARK; «data» = MARK; direction = MARK }

abbrev pub no_places : List RecordBytes
no_places = replicate most_records blank

-- they are the list's, n records; for the IDCR of one that is not there the mark's byte
pub record LaidPlaces (cs : List Channel) (places : List RecordBytes) (n : ℕ) : Type 0 where
  pub there : (k : ℕ) → k < length cs → bytes_at places k ≡ bytes_of (record_at cs k)
  pub others : (k : ℕ) → length cs ≤ k → k < most_records → (bytes_at places k).idcr ≡ MARK
  pub count : n ≡ length cs

-- what every record of a list within the rules keeps: its registers lie before the mark
pub record BeforeMark (bytes : RecordBytes) : Type 0 where
  pub idcr : bytes.idcr < MARK
  pub ivr : bytes.ivr < MARK
  pub dcpr : bytes.dcpr < MARK
  pub dapr : bytes.dapr < MARK
  pub «data» : bytes.data < MARK

-- ---- both: what the check of a list leaves

abbrev pub LaidList : List Channel → List ℕ → List RecordBytes → ℕ → Type 0
LaidList cs masks places n = LaidMasks cs masks × LaidPlaces cs places n

-- those of the list of no records, from which a list is laid out
abbrev pub Empty : List Channel → List ℕ → List RecordBytes → ℕ → Type 0
Empty cs masks places n = (cs ≡ []) × (masks ≡ no_masks) × (places ≡ no_places) × (n ≡ 0)
