use native.Mathlib.Omega.{arith}
use Rattle.requests.proofs.FrontLaws.{trailing_lowest}
use Rattle.requests.proofs.lowest.Goals as goal

pub returns : goal.returns
returns c = rw c.from.ensures (trailing_lowest c.args.left c.requires (omega arith))
