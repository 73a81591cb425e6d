use mathlib.Core.Path.{sym, ◌∙◌}
use Prim.Native.Nat.{◌+◌, ◌*◌, ◌<◌}
use native.Mathlib.Omega.{arith}
use lib.ListN.{length}
use lib.Seq.{ext_get_or}
use Rattle.acm.specs.Formats.{M}
use Rattle.interleaver.specs.Expanded.{expanded_from}
use Rattle.interleaver.specs.Interleaver.{permuted}
use Rattle.interleaver.proofs.Expanded.{expanded-length, expanded-at}
use Rattle.interleaver.proofs.Laws.{inside, permuted-below}
use Rattle.expansion.proofs.steps.write_column.Goals as goal

pub overflow_cast-entry : goal.overflow_cast-entry
overflow_cast-entry c =
    let v = c.args.permutation.now.ranges in
    let W = length c.args.permutation.now.alpha.now in
    let position : W * c.args.column + c.loop-row.row < M * W = inside W c.args.column c.loop-row.row (omega arith) c.requires.0 in
    omega (arith, c.number.ensures, c.position_in.ensures, permuted-below _ _ v _ position, v.narrow)

pub returns : goal.returns
returns c =
    let p = c.args.permutation.now in
    let W = length p.alpha.now in
    let ρ = permuted p.alpha.now p.beta.now in
    let from = W * c.args.column in
    let long = expanded-length ρ from W in
    ext_get_or 0 c.loop-row.entries (expanded_from ρ from W) (omega (arith, long)) (λ k h. c.loop-row.invariant k (omega arith) ∙ sym (expanded-at ρ from W k 0 (omega arith)))
