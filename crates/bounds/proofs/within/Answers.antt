-- H is no more than there are sources, so the sum is a number of the machine's.
use native.Mathlib.Omega.{arith}
use Rattle.rules.specs.Demand3.{rival}
use Rattle.sources.proofs.SourceReads.{few-pending}
use Rattle.bounds.proofs.within.Goals as goal

pub overflow_add-result : goal.overflow_add-result
overflow_add-result c = omega (arith, c.pending_rivals-outranking.ensures, few-pending _ c.args.places.now.ok c.args.image.now (rival c.args.image.now c.args.places.now.all.now c.args.ours))

pub overflow_add-result-2 : goal.overflow_add-result-2
overflow_add-result-2 c = omega (arith, c.pending_rivals-outranking.ensures, few-pending _ c.args.places.now.ok c.args.image.now (rival c.args.image.now c.args.places.now.all.now c.args.ours))
