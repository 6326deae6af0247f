-- Document 01, "Registers": where a register number goes, read, write, reset, and the view of a page.
-- Assumes nothing.
use Rattle.std.specs.Prelude.{cond, ◌||◌, List, [], ◌∷◌, ℕ, zero, suc, ◌-◌, ◌/◌, eqb, ltb, leb, length, set, take, drop, Option, Some, None, Ok, Err}
use Rattle.std.specs.Int.Bits.{bit_and, bit_or}
use Rattle.rules.specs.declared.Channel.{Channel}
use Rattle.rules.specs.declared.Place.{Place}
use Rattle.rules.specs.declared.Losses.{Losses}
use Rattle.rules.specs.declared.Answer.TheVariants as answer
use Rattle.rules.specs.declared.Refusal.TheVariants as refusal
use Rattle.rules.specs.Image.{Image, image_length, at, page_byte, PPR, EIPR, NICR, MARK}
use Rattle.rules.specs.Table.{Row, row_at, row_count, row_place, existing_bits}
use Rattle.rules.specs.Channels.{between}
use Rattle.rules.specs.Outcomes.{Outcome, outcome, Answered, refuse, refused_unless, refused_or, Verdict, accepted}

-- ---- where a register number goes

-- R240 to R255 go to the page in PPR bits 7:2
abbrev pub page_of : Image → ℕ
page_of m = at m PPR / 4

-- at a byte, with the bits that exist there
abbrev pub At : ℕ → ℕ → Option Place
At i existing = Some (record { byte = i; existing = existing })

-- modelled of page 0: R242 to R247
unfoldable pub page_zero : ℕ → Option Place
page_zero r = cond (between 242 247 r) (At (page_byte 0 r) (existing_bits r)) None

-- register r of page p, where it is one of a record's: IDCR has bits 5:0, the other four have all eight
unfoldable pub record_place : Channel → ℕ → ℕ → Option Place
record_place channel p r =
    cond (eqb p channel.page)
    (cond (eqb r channel.idcr) (At (page_byte p r) 0x3f)
    (cond (eqb r channel.ivr || eqb r channel.dcpr || eqb r channel.dapr || eqb r channel.io) (At (page_byte p r) 0xff) None))
    None

-- the first of two places, the second where there is none
abbrev pub or_place : Option Place → Option Place → Option Place
or_place (Some its) other = Some its
or_place None other = other

-- register r of page p, where it is one of any record's
unfoldable pub records_place : List Channel → ℕ → ℕ → Option Place
records_place [] p r = None
records_place (channel ∷ cs) p r = or_place (record_place channel p r) (records_place cs p r)

-- R0 to R239 stand at their own number; page 0 is the part's, the other pages the records'
unfoldable pub place_of : Image → List Channel → ℕ → Option Place
place_of m cs r =
    cond (ltb r 240) (At r (existing_bits r))
    (cond (leb r 255) (cond (eqb (page_of m) 0) (page_zero r) (records_place cs (page_of m) r)) None)

-- ---- read

-- a read gives the stored byte with absent bits as 0
abbrev pub read_at : Image → Option Place → Answered
read_at m (Some its) = Ok (answer.Byte (bit_and (at m its.byte) its.existing))
read_at m None = Err refusal.Register

-- read register r; 3 where it is not modelled
unfoldable pub read_of : Image → List Channel → ℕ → Answered
read_of m cs r = read_at m (place_of m cs r)

-- ---- write

-- the byte that a write of v over `old` stores: the existing bits and 0 in the absent ones; but TLNM is the old bit or the written one
unfoldable pub stored_byte : ℕ → ℕ → ℕ → ℕ → ℕ
stored_byte i existing old v = cond (eqb i NICR) (bit_or (bit_and v existing) (bit_and old 0x80)) (bit_and v existing)

-- the EIPR bits that it takes from 1 to 0, 00h for every other register
unfoldable pub lost_bits : ℕ → ℕ → ℕ → ℕ
lost_bits i old new = cond (eqb i EIPR) (bit_and old (255 - new)) 0x00

abbrev pub losses : ℕ → Losses
losses erased = record { eipr = erased }

-- a write changes the addressed byte only
unfoldable pub write_at : Image → Option Place → ℕ → Outcome Answered Image
write_at m (Some its) v =
    let old = at m its.byte in
    let new = stored_byte its.byte its.existing old v in
    outcome (Ok (answer.Written (losses (lost_bits its.byte old new)))) (set m its.byte new)
write_at m None v = refuse refusal.Register m

-- write v to register r; 3 where it is not modelled
unfoldable pub write_of : Image → List Channel → ℕ → ℕ → Outcome Answered Image
write_of m cs r v = write_at m (place_of m cs r) v

-- ---- reset

-- a byte with the bits that reset changes replaced
unfoldable pub reset_byte : Row → ℕ → ℕ
reset_byte entry old = bit_or (bit_and old (255 - entry.reset)) entry.value

-- the image with the register of row k reset
unfoldable pub reset_row : ℕ → Image → Image
reset_row k m = set m (row_place k) (reset_byte (row_at k) (at m (row_place k)))

-- the image with those of the first n rows reset
unfoldable pub reset_rows : ℕ → Image → Image
reset_rows zero m = m
reset_rows (suc n) m = reset_row n (reset_rows n m)

-- reset clears the mark and changes nothing else beyond the table
unfoldable pub reset_of : Image → Outcome Answered Image
reset_of m = outcome (Ok answer.Reset) (set (reset_rows row_count m) MARK 0)

-- ---- view

-- refused with 1 where the image's length is not 1,265, then with 3 where the page is over 63
unfoldable pub view_verdict : Image → ℕ → Verdict
view_verdict m p = refused_unless (eqb (length m) image_length) refusal.Length (refused_unless (leb p 63) refusal.Register accepted)

-- the sixteen bytes of page p as stored, whatever PPR holds; a refused view is an empty part
unfoldable pub view_of : Image → ℕ → List ℕ
view_of m p = refused_or (view_verdict m p) (λ reason. []) (take 16 (drop (page_byte p 240) m))
