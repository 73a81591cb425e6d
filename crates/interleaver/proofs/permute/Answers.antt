-- The code is equation A-1 as it stands, and the vectors' ranges keep each of its numbers below I.
use Prim.Native.Nat.{◌*◌, ◌/◌, ◌%◌, ◌<◌}
use lib.ListN.{length}
use Rattle.acm.specs.Formats.{M}
use Rattle.interleaver.specs.Interleaver.{permuted}
use Rattle.interleaver.proofs.Laws.{row_low, bank_low, permuted-below}
use Rattle.interleaver.proofs.permute.Goals.{Start}
use Rattle.interleaver.proofs.permute.Goals as goal

module _ (c : Start) where
  row : c.args.position.0 % length c.args.vectors.alpha.now < length c.args.vectors.alpha.now
  row = row_low _ _ c.requires.position_bound

  turn : c.args.position.0 / length c.args.vectors.alpha.now < M
  turn = bank_low _ _ c.requires.position_bound

  address : permuted c.args.vectors.alpha.now c.args.vectors.beta.now c.args.position.0 < M * length c.args.vectors.alpha.now
  address = permuted-below _ _ c.requires.ranges _ c.requires.position_bound

pub returns : goal.returns
unfolding permuted
returns c = rw (c.from-shift.ensures, c.from-address.ensures)
