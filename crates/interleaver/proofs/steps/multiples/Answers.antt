use mathlib.Core.Path.{ap, ◌∙◌}
use Prim.Native.Nat.{ℕ, ◌+◌, ◌%◌}
use native.Mathlib.Omega.{arith}
use Rattle.std.proofs.Common.{rules}
use Rattle.interleaver.proofs.Tables.{multiple-next, filled_next, filled_twice}
use Rattle.interleaver.proofs.steps.multiples.Goals as goal

pub loop-entry-preserved : goal.loop-entry-preserved
loop-entry-preserved c =
    let w = c.args.w in
    let p = c.args.period in
    let l = c.loop-entry in
    let (is, filled) = l.invariant in (
      c.reduced-multiple.ensures ∙ ap (λ (m : ℕ). (m + w % p) % p) is ∙ multiple-next w p l.entry-index,
      filled_next w p l.entry-items l.entry-index l.multiple (omega arith) is filled,
    )

pub returns : goal.returns
returns c =
    let l = c.loop-entry in
    let (copied, same, _) = c.copy_within.ensures.by_index in
    filled_twice c.args.w c.args.period l.entry-items _ c.copy_within.new.self l.auto.entry-items (search rules) same copied (λ k h. l.invariant.1 k (omega arith))
