-- What an external channel has, and how many sources a list has. Assumes nothing.
use mathlib.Core.Path.{◌≡◌}
use mathlib.Core.Bool.{Bool, true, false}
use mathlib.Core.List.{List}
use Prim.Native.Nat.{ℕ, ◌≤◌, ◌<◌}
use native.Mathlib.Omega.{arith}
use borrow.Author.Tests.{lt-ltb}
use Rattle.rules.specs.declared.Channel.{Channel}
use Rattle.rules.specs.Image.{Image}
use Rattle.rules.specs.Channels.{list_ok}
use Rattle.rules.specs.Sources.{sources, dma_enabled}
use Rattle.rules.specs.Demand3.{pending_of}
use Rattle.rules.proofs.Counting.{pending_of_le}
use Rattle.rules.proofs.ChannelLaws.{list_short}

-- no more are pending than there are
pub few-pending : (cs : List Channel) → list_ok cs ≡ true → (m : Image) (among : ℕ → Bool) → pending_of m cs among ≤ 20
unfolding sources
few-pending cs ok m among = omega (arith, pending_of_le m cs among, list_short cs ok)

-- an external channel has no DMA enabled
pub external_without : (m : Image) (cs : List Channel) (s : ℕ) → s < 8 → dma_enabled m cs s ≡ false
unfolding dma_enabled
external_without m cs s h = rw (lt-ltb s 8 h)
