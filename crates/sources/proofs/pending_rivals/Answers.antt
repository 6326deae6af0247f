-- The numbers of the range that pass the test are the sources that the definition counts.
use mathlib.Core.Path.{◌≡◌, refl, ap, ◌∙◌}
use Prim.Native.Nat.{ℕ}
use lib.ListN.{length}
use native.Mathlib.Omega.{arith}
use Rattle.std.specs.List.{filter, range_with_len}
use Rattle.std.proofs.Common.{rules, tests}
use Rattle.std.proofs.lemmas.Iterator.{YieldsList-from_range}
use Rattle.std.proofs.lemmas.Iterator.Consumers.{YieldsList-at, YieldsList-from_filter, count_from_yields_List}
use Rattle.rules.specs.Demand3.{count_below, pending_of}
use Rattle.sources.specs.Flags.{pending_rival}
use Rattle.sources.proofs.SourceRanges.{count_range}
use Rattle.sources.proofs.pending_rivals.Goals as goal

pub returns : goal.returns
unfolding pending_of
returns c =
    let test = pending_rival c.args.image.now c.args.places.now.all.now c.args.ours in
    let end = c.source_count.result in
    let e : c.count.result ≡ length (filter test (range_with_len 0 end))
    = count_from_yields_List _ _ c.count.ensures.ran
    (YieldsList-from_filter _ test (YieldsList-at c.filter.ensures.source (YieldsList-from_range 0 end end refl (omega arith))) c.filter.ensures.closure (λ x b q k. search (rules, tests))) in
    e ∙ count_range test end ∙ ap (λ (n : ℕ). count_below n test) c.source_count.ensures
