-- A lent channel list as a list by value. That it stands for the lent list is proved (proofs/CopyLaws). Assumes nothing.
use Rattle.std.specs.Prelude.{List, ℕ, suc, ◌-◌, ◌++◌, min, length, take, replicate}
use Rattle.rules.specs.declared.Channel.{Channel}
use Rattle.rules.specs.declared.Channels.{Channels}
use Rattle.rules.specs.Channels.{most_records, no_channel}

-- a length as it is kept: thirteen for any over twelve
abbrev pub capped : ℕ → ℕ
capped n = min n (suc most_records)

-- nothing put yet
abbrev pub blank_of : ℕ → Channels
blank_of n = record { items = replicate most_records no_channel; count = capped n }

-- the items with the first i records put
abbrev pub items_up_to : List Channel → ℕ → List Channel
items_up_to cs i = take i cs ++ replicate (most_records - i) no_channel

-- with all records put, but for those over twelve
unfoldable pub copy_of : List Channel → Channels
copy_of cs = record { items = items_up_to cs (min (length cs) most_records); count = capped (length cs) }
