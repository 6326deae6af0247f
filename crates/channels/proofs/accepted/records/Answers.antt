-- A list of at most twelve records is as many of its items as it counts.
use mathlib.Core.Path.{refl}
use borrow.Author.Tests.{le-ltb}
use Rattle.rules.specs.Channels.{list_of}
use Rattle.channels.proofs.accepted.records.Goals as goal

pub returns : goal.returns
unfolding list_of
returns c = rw (le-ltb 12 c.args.all.now.count c.requires) refl
