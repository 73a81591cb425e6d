-- What the programs print, by the answer of a move and the buffer after it; and a text that is too long for a line need not be read to its end.
use mathlib.Core.Path.{◌≡◌, sym, ap, ap₂, ◌∙◌}
use mathlib.Core.List.{List}
use Prim.Native.Nat.{ℕ, ◌<◌}
use native.Mathlib.Omega.{arith}
use borrow.Author.Tests.{eq-eqb}
use lib.ListN.{length, take}
use Rattle.std.specs.Prelude.{Ok, Err}
use Rattle.bits.specs.Checks.{check_number, passed, bad_line}
use Rattle.bits.specs.declared.checks.Refusal.{Refusal}
use Rattle.bits.proofs.Cases.{by_cases}
use Rattle.bits.proofs.Passed.{when_passed, when_refused}
use Rattle.bits.proofs.Refusals.{not_passed}
use Rattle.ascii.specs.Text.{at_front, refusal_text}
use Rattle.job_line.specs.Line.{longest_line, is_old, is_longer}
use Rattle.job_line.proofs.Lines.{old-short, longer-short, read_front}
use Rattle.job_moves.specs.Moves.{Moved, answer_of, moved, written_over, lengthen_number, shorten_number}
use Rattle.job_moves.specs.Printed.{printed, lengthen_printed, shorten_printed}

module _ (number : ℕ → ℕ) (written out : List ℕ) {out' : List ℕ} (there : length out ≡ longest_line)
    (after : out' ≡ written_over (number (length out)) written out) where
  abbrev n : ℕ
  n = number (length out)

  abbrev text : List ℕ
  text = printed (number longest_line) written

  at : printed n written ≡ text
  at = ap (λ (room : ℕ). printed (number room) written) there

  module _ (long : ℕ) (answer : answer_of (Ok long) ≡ moved n written) where
    pass : n ≡ passed
    pass = sym (ap (λ (m : Moved). m.number) answer)

    line-is : written ≡ text
    line-is = when_passed n written (refusal_text n) pass ∙ at

    pub line_length : long ≡ length text
    line_length = ap (λ (m : Moved). m.length) answer ∙ rw (eq-eqb n passed pass) (ap length line-is)

    pub line_printed : out' ≡ at_front text out
    line_printed = after ∙ rw (eq-eqb n passed pass) (ap (λ (xs : List ℕ). at_front xs out) line-is)

  module _ (r : Refusal) (answer : answer_of (Err r) ≡ moved n written) where
    is : n ≡ check_number r
    is = sym (ap (λ (m : Moved). m.number) answer)

    refused : n ≡ passed → ⊥
    refused e = not_passed r (sym is ∙ e)

    refusal-is : refusal_text (check_number r) ≡ text
    refusal-is = ap refusal_text (sym is) ∙ when_refused n written (refusal_text n) refused ∙ at

    pub refusal_length : {long : ℕ} → long ≡ length (refusal_text (check_number r)) → long ≡ length text
    refusal_length e = e ∙ ap length refusal-is

    pub refusal_printed : {new : List ℕ} → new ≡ at_front (refusal_text (check_number r)) out' → new ≡ at_front text out
    refusal_printed e =
        let same : out' ≡ out = after ∙ sym (when_refused n (at_front written out) out refused) in
        e ∙ ap₂ at_front refusal-is same

-- a text that is too long for a line is refused whatever stands behind its first bytes
lengthen_malformed : (text : List ℕ) → longest_line < length text → lengthen_printed text ≡ refusal_text bad_line
unfolding lengthen_printed lengthen_number
lengthen_malformed text long =
    by_cases (is_old text) (λ t. absurd (omega (arith, old-short text t))) (λ f. rw f)

shorten_malformed : (text : List ℕ) → longest_line < length text → shorten_printed text ≡ refusal_text bad_line
unfolding shorten_printed shorten_number
shorten_malformed text long =
    by_cases (is_longer text) (λ t. absurd (omega (arith, longer-short text t))) (λ f. rw f)

pub lengthen-front : (n : ℕ) (text : List ℕ) → longest_line < n → lengthen_printed (take n text) ≡ lengthen_printed text
lengthen-front n text h = read_front lengthen_printed (refusal_text bad_line) lengthen_malformed n text h

pub shorten-front : (n : ℕ) (text : List ℕ) → longest_line < n → shorten_printed (take n text) ≡ shorten_printed text
shorten-front n text h = read_front shorten_printed (refusal_text bad_line) shorten_malformed n text h
