-- A list by value has twelve places: what the type `Channels` owes of every value of it. Assumes nothing.
use mathlib.Core.Path.{◌≡◌}
use mathlib.Core.List.{List}
use lib.ListN.{length}
use mir.Val.{Val}
use denote.Laws.{Is}
use denote.Struct.Laws as LL
use Rattle.rules.specs.declared.Channels.{Channels}
use Rattle.rules.specs.Channels.{most_records}
use Rattle.rules.specs.contracts.Channels as S
use Rattle.rules.proofs.Channels.TheLaws as S'

pub twelve : (c : Channels) (vs : List Val) → Is S.the_row c vs → length c.items ≡ most_records
twelve c vs g = (LL.owed S.the_type S'.the_laws c vs g).0.1.0.1
