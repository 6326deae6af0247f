-- Document 01's map of the image, read a second time: the bits that the rules name by their register's number and their weight in it, and
-- the sources' bits and levels so too. Assumes nothing.
use mathlib.Core.Path.{◌≡◌, refl, ap}
use mathlib.Core.List.{List}
use mathlib.Core.Bool.{Bool, true, false, not}
use Prim.Native.Nat.{ℕ, ◌+◌, ◌*◌, ◌/◌, ◌%◌, ◌^◌, ◌<◌}
use native.Mathlib.Omega.{arith}
use lib.Dec.{eqb}
use borrow.Author.Tests.{lt-ltb, le-ltb, ne_eqb}
use Rattle.bits.specs.Bits.{digit, bit}
use Rattle.rules.specs.declared.Channel.{Channel}
use Rattle.rules.specs.Image.{Image, at, has, bit_of, in_service, EITR, CPL, TLIP, TLI, IEN, IAM, TLTEV, TLIS, IAOS, TLNM, HL}
use Rattle.rules.specs.Channels.{record_at, idcr_byte}
use Rattle.rules.specs.Sources.{pending_bit, pending, unmasked, dma_enabled, level}
use Rattle.rules.proofs.PendingLaws.{record_of_lem}
use Rattle.rules.proofs.LevelLaws.{external-level}

-- the bit of weight w is 1
abbrev pub weighs : ℕ → ℕ → Bool
weighs w b = eqb (b / w % 2) 1

module _ (m : Image) where
  -- R230: TLIP, TLI, IEN, IAM and CPL
  pub CICR-bits : (has m TLIP ≡ weighs 64 (at m 230)) × (has m TLI ≡ weighs 32 (at m 230)) × (has m IEN ≡ weighs 16 (at m 230)) × (has m IAM ≡ weighs 8 (at m 230))
      × (CPL m ≡ at m 230 % 8)
  unfolding bit digit
  CICR-bits = (refl, refl, refl, refl, refl)

  -- R246 of page 0: TLTEV, TLIS, IAOS
  pub EIVR-bits : (has m TLTEV ≡ weighs 8 (at m 246)) × (has m TLIS ≡ weighs 4 (at m 246)) × (has m IAOS ≡ weighs 2 (at m 246))
  unfolding bit digit
  EIVR-bits = (refl, refl, refl)

  -- R247 of page 0: TLNM, and HL0 to HL6 from the lowest bit up
  pub NICR-bits : (has m TLNM ≡ weighs 128 (at m 247)) × ((x : ℕ) → has m (HL x) ≡ weighs (2 ^ x) (at m 247))
  unfolding bit digit
  NICR-bits = (refl, λ x. refl)

  -- R242 of page 0: the edge of pin k
  pub EITR-bits : (k : ℕ) → has m (bit_of EITR k) ≡ weighs (2 ^ k) (at m 242)
  unfolding bit digit
  EITR-bits k = refl

  -- the last byte is the mark: any number but 0 means in service
  pub mark-byte : (at m 1264 ≡ 0 → in_service m ≡ false) × (0 < at m 1264 → in_service m ≡ true)
  mark-byte = (λ e. rw e, λ h. ap not (ne_eqb (at m 1264) 0 (λ e. omega arith)))

  -- external channel k: its bits of R243 and R244 of page 0, and its group's field of R245; no DMA
  pub external-source : (cs : List Channel) (k : ℕ) → k < 8
      → (pending m cs k ≡ weighs (2 ^ k) (at m 243)) × (unmasked m cs k ≡ weighs (2 ^ k) (at m 244)) × (dma_enabled m cs k ≡ false)
      × (level m cs k ≡ 2 * (at m 245 / 4 ^ (k / 2) % 4) + k % 2)
  unfolding bit digit pending_bit pending unmasked dma_enabled level
  external-source cs k h = rw (lt-ltb k 8 h) (refl, refl, refl, external-level (at m 245) k h)

  -- record k, as source 8 + k: bits 5, 4, 3 and 2:0 of its IDCR
  pub record_source : (cs : List Channel) (k : ℕ)
      → (pending m cs (8 + k) ≡ weighs 32 (at m (idcr_byte (record_at cs k)))) × (dma_enabled m cs (8 + k) ≡ weighs 16 (at m (idcr_byte (record_at cs k))))
      × (unmasked m cs (8 + k) ≡ weighs 8 (at m (idcr_byte (record_at cs k)))) × (level m cs (8 + k) ≡ at m (idcr_byte (record_at cs k)) % 8)
  unfolding bit digit pending_bit pending unmasked dma_enabled level
  record_source cs k = rw (le-ltb (8 + k) 8 (omega arith), record_of_lem cs k) (refl, refl, refl, refl)
