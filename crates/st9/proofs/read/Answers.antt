-- What `machine::read` promises of the copy it promises of the lent list.
use Rattle.st9.proofs.PromiseLaws.{lent_reads}
use Rattle.st9.proofs.read.Goals as goal

pub returns : goal.returns
returns c =
    lent_reads c.args.image.now c.args.cs.now c.args.register c.read.result
    (rw c.copied-all.ensures at c.read.ensures)
