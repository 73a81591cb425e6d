-- The output of a text: no output is longer than the buffer, and a text that is too long for a line need not be read to its end.
use mathlib.Core.Path.{◌≡◌, ap}
use mathlib.Core.Bool.{true}
use mathlib.Core.List.{List, [], ◌∷◌}
use Prim.Native.Nat.{ℕ, ◌≤◌, ◌<◌}
use native.Mathlib.Omega.{arith}
use borrow.Author.Tests.{eq-eqb, ne_eqb}
use lib.ListN.{length, take}
use Rattle.bits.specs.Checks.{passed, bad_line}
use Rattle.bits.proofs.Cases.{by_cases}
use Rattle.acm.specs.Formats.{is_format, format_of}
use Rattle.acm.proofs.Laws.{format_high, within}
use Rattle.encoder.specs.Codeword.{codeword}
use Rattle.encoder.proofs.Codewords.{codeword-length}
use Rattle.ascii.specs.Text.{refusal_text}
use Rattle.ascii.proofs.Lengths.{number-length}
use Rattle.row.specs.declared.steps.Row.{Row}
use Rattle.row.specs.Row.{block, row_of}
use Rattle.row.proofs.Rows.{block-length, ones-most}
use Rattle.job_line.specs.Line.{longest_line, is_line, said}
use Rattle.job_line.specs.Job.{job_number}
use Rattle.job_line.proofs.Lines.{line-short, read_front}
use Rattle.job.specs.Output.{longest_output, row_text, output}

-- the header has 18 bytes, a format at most 2 digits, and the other numbers at most 5
pub row-length : (f p : ℕ) → is_format f ≡ true → length (row_text (row_of f p)) ≤ longest_output
unfolding row_text
row-length f p h =
    let r = row_of f p in
    let w = within f h in
    let most = ones-most (codeword f (block p (format_of f).k)) in
    let long = codeword-length f h (block p (format_of f).k) (block-length p (format_of f).k) in
    let rest₁ = number-length 4 r.k (r.i ∷ r.n ∷ r.ones ∷ []) (omega (arith, w.most_k_lem)) in
    let rest₂ = number-length 4 r.i (r.n ∷ r.ones ∷ []) (omega (arith, w.most_i_lem)) in
    let rest₃ = number-length 4 r.n (r.ones ∷ []) (omega (arith, w.most_n_lem)) in
    let rest₄ = number-length 4 r.ones [] (omega (arith, w.most_n_lem)) in
    omega (arith, number-length 1 f (r.k ∷ r.i ∷ r.n ∷ r.ones ∷ []) (omega (arith, format_high f h)))

-- the two outputs
pub output_row : (text : List ℕ) {r : Row} → job_number text ≡ passed → r ≡ row_of (said text).format (said text).pattern → row_text r ≡ output text
unfolding output
output_row text e is = rw (eq-eqb _ _ e) (ap row_text is)

pub output_refusal : (text : List ℕ) {n : ℕ} → job_number text ≡ n → (n ≡ passed → ⊥) → refusal_text n ≡ output text
unfolding output
output_refusal text {n} e no-pass = rw (e, ne_eqb n passed no-pass)

-- a text that is too long for a line is refused whatever stands behind its first bytes
malformed : (text : List ℕ) → longest_line < length text → output text ≡ refusal_text bad_line
unfolding output job_number
malformed text long =
    by_cases (is_line text) (λ t. absurd (omega (arith, line-short text t))) (λ f. rw f)

pub output-front : (n : ℕ) (text : List ℕ) → longest_line < n → output (take n text) ≡ output text
output-front n text h = read_front output (refusal_text bad_line) malformed n text h
