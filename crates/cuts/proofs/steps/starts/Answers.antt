use Rattle.std.proofs.Common.{refl}
use Rattle.std.proofs.lemmas.Slice.Zip.{either_empty_from_Zip}
use Rattle.std.specs.Iterator.Adapters.{enumerate_source}
use borrow.Author.Tests.{leb-true}
use Rattle.cuts.proofs.Sixteen.{worked_done, worked_fits, padded-is}
use Rattle.cuts.proofs.steps.starts.Goals as goal

pub returns : goal.returns
returns c =
    let i = c.loop-j.invariant in
    padded-is (worked_fits c.args.cuts.now c.args.ended.now (leb-true _ _ c.requires.0))
    (worked_done c.loop-j.state c.loop-j.from _ _ (either_empty_from_Zip _ (enumerate_source c.loop-j.j-iterator) _ refl c.in-None.ensures.steps.0)) i.left
