-- The block has K bits and the memory is long enough, so the block is encoded and its codeword stands in the first N bytes.
use mathlib.Core.Path.{ap, ◌∙◌}
use Rattle.acm.specs.declared.table.Format.{Format}
use Rattle.row.proofs.Rows.{some-room, block-put, answer-ok, ones-of_output}
use Rattle.row.proofs.steps.encoded_ones.Goals as goal

pub put_block-requires : goal.put_block-requires
put_block-requires c = some-room _ _ c.requires.0 c.record-f.ensures c.args.format.listed

pub unwrap-requires : goal.unwrap-requires
unwrap-requires c =
    let a = c.args in
    let put = block-put _ _ c.requires.0 c.record-f.ensures a.pattern c.put_block.ensures in
    answer-ok _ a.format.listed a.pattern _ _ _ c.requires.1 c.requires.2 put _ c.encode.ensures.number

pub returns : goal.returns
returns c =
    let a = c.args in
    let put = block-put _ _ c.requires.0 c.record-f.ensures a.pattern c.put_block.ensures in
    c.count_ones.ensures
    ∙ ones-of_output _ a.format.listed a.pattern _ _ _ c.requires.1 c.requires.2 put c.encode.ensures.output (ap (λ (r : Format). r.n) c.record-f.ensures)
