-- The header goes to the front of the buffer and the row's numbers behind it, and there is room for both.
use native.Mathlib.Omega.{arith}
use Rattle.ascii.specs.Text.{line}
use Rattle.ascii.proofs.Stores.{front-room, front_put}
use Rattle.job.specs.Output.{header, numbers, row_text}
use Rattle.job.proofs.put_row.Goals as goal

pub put_line-requires : goal.put_line-requires
unfolding row_text
put_line-requires c =
    let a = c.args in
    front-room a.out.now header (line (numbers a.row)) c.put-at.ensures.out_after c.put-at.ensures.value (omega arith)

pub returns : goal.returns
unfolding row_text
returns c =
    let a = c.args in
    let p = front_put a.out.now header (line (numbers a.row)) c.put-at.ensures.out_after c.put-at.ensures.value (omega arith) c.put_line.ensures.out_after c.put_line.ensures.value in
    record { value = p.0; out_after = p.1 }
