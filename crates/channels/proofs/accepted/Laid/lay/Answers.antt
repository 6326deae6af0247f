-- A list of no records is laid out already; where the list is refused, no record is left.
use mathlib.Core.Path.{◌≡◌, sym, ◌∙◌}
use mathlib.Core.Bool.{true}
use mathlib.Core.List.{[]}
use Rattle.rules.specs.declared.Channels.{Channels}
use native.Mathlib.Omega.{arith}
use Rattle.rules.specs.Channels.{list_of}
use Rattle.rules.proofs.ChannelLaws.{list_short}
use Rattle.channels.proofs.accepted.Laid.lay.Goals as goal

none_of : (all : Channels) → all.count ≡ 0 → list_of all ≡ []
unfolding list_of
none_of all e = rw e

pub returns-then-all-eq0 : goal.returns-then-all-eq0
returns-then-all-eq0 c =
    let e = c.requires.0 ∙ sym (none_of c.args.all.now c.if-all-eq0.true) in
    (c.args.self.now.same ∙ e, e)

pub records-masks-requires : goal.records-masks-requires
records-masks-requires c =
    let ok : c.lay_list.result ≡ true = grind arith in
    omega (arith, (c.lay_list.ensures.1 ok).1.count, list_short (list_of c.args.all.now) (sym c.lay_list.ensures.0 ∙ ok))
