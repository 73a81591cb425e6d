use Rattle.std.proofs.Common.{arith, ◌∙◌, ap, sym}
use Rattle.std.proofs.lemmas.List.{take_all}
use lib.Dec.{leb}
use Rattle.bits.proofs.Legal.{largest_of}
use Rattle.bits.proofs.largest.Goals as goal

pub returns : goal.returns
returns c top =
    let xs = c.args.list.now in
    largest_of top xs ∙ ap (λ m. leb m top) (sym (rw (take_all c.loop-x.x-index xs (omega arith)) at c.loop-x.invariant))
