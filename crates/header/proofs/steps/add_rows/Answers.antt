use mathlib.Core.Path.{sym, ◌∙◌}
use Rattle.header.proofs.Descriptor.{row_added, row-left-out, rows_all, rows_none}
use Rattle.header.proofs.steps.add_rows.Goals.{then-bit-eq1, else-bit-eq1}
use Rattle.header.proofs.steps.add_rows.Goals as goal

pub loop-i-preserved : goal.loop-i-preserved
loop-i-preserved c =
    let a = c.args in
    elim c.if-bit-eq1.branch [
      | then-bit-eq1 w ↦ rw w.word-is (sym (row_added a.bits a.rows.now _ _ _ c.loop-i-test.true c.bit.ensures w.if-bit-eq1.true) ∙ c.loop-i.invariant)
      | else-bit-eq1 w ↦ rw w.word-is (sym (row-left-out a.bits a.rows.now _ _ _ c.loop-i-test.true c.bit.ensures w.if-bit-eq1.false) ∙ c.loop-i.invariant)
    ]

pub returns : goal.returns
returns c =
    let a = c.args in
    sym (rows_none a.bits a.rows.now _ _ c.loop-i-test.false) ∙ c.loop-i.invariant ∙ rows_all a.bits a.rows.now
