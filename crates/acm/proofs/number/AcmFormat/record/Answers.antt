-- The table has the row of format f at f - 1.
use mathlib.Core.Path.{◌∙◌}
use Prim.Native.Nat.{◌-◌}
use Rattle.acm.specs.Formats.{formats}
use Rattle.acm.proofs.Laws.{format-low, record_at, row_at}
use Rattle.acm.proofs.number.AcmFormat.record.Goals as goal

pub returns : goal.returns
unfolding formats
returns c =
    let f = c.args.self in
    c.from.ensures ∙ row_at (f.number - 1) ∙ record_at f.number (format-low f.number f.listed)
