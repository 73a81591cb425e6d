-- The table has W × bank, so that the row's α added to it is A-1.
use Rattle.interleaver.proofs.Walks.{interleaved-in}
use Rattle.interleaver.proofs.steps.Permutation.position_of.Goals as goal

pub returns : goal.returns
returns c row of =
    let p = c.args.self.now in
    rw (c.looked_up.ensures, of.address-is, of.shift-is) (interleaved-in _ _ p.ranges c.args.place.column row c.args.place.column_low of.row_low p.starts p.starts_are)
