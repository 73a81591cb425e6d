-- The answer for the text decides which text is put.
use mathlib.Core.Path.{◌≡◌, refl, subst, ap₂, ◌∙◌}
use mathlib.Core.List.{List}
use Prim.Native.Nat.{ℕ}
use lib.ListN.{length}
use Rattle.ascii.specs.Text.{at_front}
use Rattle.job_line.proofs.Checked.{job_passed, run-read, refused-read}
use Rattle.row.specs.Row.{row_of}
use Rattle.job.proofs.Outputs.{output_row, output_refusal, row-length}
use Rattle.bits.proofs.Refusals.{not_passed}
use borrow.Author.Rules.{rules}
use Rattle.job.proofs.output.Goals as goal

pub put_row-requires : goal.put_row-requires
put_row-requires c =
    let (pass, f, p) = run-read _ _ refl c.in-Ok.ensures in
    (rw (c.make.ensures ∙ ap₂ row_of f p) (row-length _ _ (job_passed c.args.text.now pass).format), search rules)

pub returns-in-Ok : goal.returns-in-Ok
returns-in-Ok c =
    let a = c.args in
    let (pass, f, p) = run-read _ _ refl c.in-Ok.ensures in
    let e = output_row a.text.now pass (c.make.ensures ∙ ap₂ row_of f p) in
    record {
      length = subst (λ (text : List ℕ). c.put_row.result ≡ length text) e c.put_row.ensures.value;
      printed = subst (λ (text : List ℕ). c.put_row.new.out ≡ at_front text a.out.now) e c.put_row.ensures.out_after;
    }

pub returns-in-Err : goal.returns-in-Err
returns-in-Err c =
    let a = c.args in
    let e = output_refusal a.text.now (refused-read _ _ c.in-Err.ensures).0 (not_passed _) in
    record {
      length = subst (λ (text : List ℕ). c.put_refusal.result ≡ length text) e c.put_refusal.ensures.value;
      printed = subst (λ (text : List ℕ). c.put_refusal.new.out ≡ at_front text a.out.now) e c.put_refusal.ensures.out_after;
    }
