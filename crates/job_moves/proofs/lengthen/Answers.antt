-- The line's checks decide first, then the room for the line that is written, which is the front of the other and its own end.
use mathlib.Core.Path.{◌≡◌, refl, sym, ◌∙◌}
use borrow.Author.Rules.{rules}
use Rattle.std.specs.Prelude.{Err}
use Rattle.job_moves.specs.Moves.{lengthened, old_checks, old_number, lengthen_number}
use Rattle.job_moves.proofs.Bytes.{lengthened_bytes, old-some}
use Rattle.job_moves.proofs.Checked.{refused_answer, refused_output, made_answer, made_output, old_passed}
use Rattle.job_moves.proofs.lengthen.Goals as goal

pub returns-in_err-check_old : goal.returns-in_err-check_old
unfolding lengthen_number old_number
returns-in_err-check_old c =
    let a = c.args in
    let r = c.in_err-check_old.field-0.0 in
    let is : c.from_residual.result ≡ Err r = search rules in
    record {
      answer = rw is (refused_answer (old_checks a.text.now) (lengthened a.text.now) a.out.now r c.in_err-check_old.ensures);
      out_after = refused_output (old_checks a.text.now) (lengthened a.text.now) a.out.now r c.in_err-check_old.ensures;
    }

pub slice_bounds-put-count : goal.slice_bounds-put-count
slice_bounds-put-count c = old-some _ (old_passed _ (sym c.in_ok-check_old.ensures))

pub returns : goal.returns
unfolding lengthen_number old_number
returns c =
    let a = c.args in
    let old = old_passed _ (sym c.in_ok-check_old.ensures) in
    record {
      answer = c.put.ensures.answer ∙ made_answer (old_checks a.text.now) (lengthened a.text.now) a.out.now refl c.in_ok-check_old.ensures (lengthened_bytes a.text.now old);
      out_after = c.put.ensures.out_after ∙ made_output (old_checks a.text.now) (lengthened a.text.now) a.out.now refl c.in_ok-check_old.ensures (lengthened_bytes a.text.now old);
    }
