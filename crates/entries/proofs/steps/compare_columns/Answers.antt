use mathlib.Core.Path.{◌∙◌}
use mathlib.Core.Bool.{true, ◌&&◌}
use lib.Dec.{eqb}
use Rattle.std.proofs.Common.{rules}
use Rattle.std.proofs.lemmas.Iterator.{YieldsList-from_slice, YieldsList-from_zip}
use Rattle.std.proofs.lemmas.Iterator.Consumers.{fold_from_yields_List}
use Rattle.entries.specs.Columns.{column_on}
use Rattle.entries.proofs.Turns.{same_behind}
use Rattle.entries.proofs.steps.compare_columns.Goals as goal

pub returns : goal.returns
returns c =
    let x = c.args in
    fold_from_yields_List _ (λ r p. r && eqb p.0 (column_on x.w x.last p.1)) true _ c.fold.ensures.ran
    (YieldsList-from_zip (YieldsList-from_slice x.entries.now (cc)) (YieldsList-from_slice x.before.now cc)) (λ a y b q k. search rules)
    ∙ same_behind (column_on x.w x.last) x.entries.now x.before.now true c.requires.1
