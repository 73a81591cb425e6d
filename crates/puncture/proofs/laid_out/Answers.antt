use mathlib.Core.Path.{refl}
use Prim.Native.Nat.{◌*◌}
use lib.ListN.{replicate}
use Rattle.puncture.specs.Puncture.{period}
use Rattle.puncture.proofs.Laid.{third-fits, laid_out_is}
use Rattle.puncture.proofs.laid_out.Goals as goal

pub slice_bounds-out-end-3 : goal.slice_bounds-out-end-3
slice_bounds-out-end-3 c =
    third-fits c.args.survivors (replicate (3 * period) 0) c.pattern-period.result _ _ refl c.pattern-period.ensures c.copy_from_slice.ensures.after
    c.copy_from_slice-2.ensures.after

pub returns : goal.returns
returns c =
    laid_out_is c.args.survivors (replicate (3 * period) 0) c.pattern-period.result _ _ refl c.pattern-period.ensures c.copy_from_slice.ensures.after
    c.copy_from_slice-2.ensures.after _ c.copy_from_slice-3.ensures.after
