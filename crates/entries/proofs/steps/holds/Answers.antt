-- The interleaver is the format's, so what the entries are held against is its expanded interleaver.
use mathlib.Core.Path.{sym, ap, ◌∙◌}
use Prim.Native.Nat.{◌≤◌}
use native.Mathlib.Omega.{arith}
use lib.ListN.{length}
use lib.Seq.{length-take-le}
use Rattle.acm.specs.declared.table.Format.{Format}
use Rattle.interleaver.proofs.Formats.{format-length, format-π}
use Rattle.interleaver.specs.Expanded.{expanded, expands}
use Rattle.entries.proofs.steps.holds.Goals.{After-record-total}
use Rattle.entries.proofs.steps.holds.Goals as goal

-- the memory has the I entries
entries : (c : After-record-total) → c.record-total.result.i ≤ length c.args.memory.now
entries c = omega (arith, ap (λ (r : Format). r.i) c.record-total.ensures, c.requires)

pub compare-requires : goal.compare-requires
compare-requires c =
    let v = c.of_format.ensures in
    length-take-le _ _ (entries (goal.at.compare-requires c).After-record-total)
    ∙ ap (λ (r : Format). r.i) c.record-total.ensures ∙ sym (format-length _ c.args.format.listed v.alpha_value v.beta_value)

pub returns : goal.returns
unfolding expands expanded
returns c =
    let v = c.of_format.ensures in
    c.compare.ensures
    ∙ rw (format-π _ c.args.format.listed v.alpha_value v.beta_value, c.record-total.ensures, length-take-le _ c.args.memory.now c.requires)
