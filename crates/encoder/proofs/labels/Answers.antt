-- A call that fails a check returns before it writes; one that passes writes all of the labels.
use Rattle.std.proofs.Common.{◌≡◌, ◌∙◌, ◌++◌, ap, sym, ℕ, List, drop, arith}
use Rattle.bits.proofs.Passed.{when_passed}
use Rattle.bits.proofs.Refusals.{when_err}
use Rattle.acm.specs.Formats.{symbols, format_of}
use Rattle.acm.proofs.Laws.{format-sound}
use Rattle.mapping.specs.Labels.{columns, labels}
use Rattle.encoder.specs.Calls.{labels_output}
use Rattle.encoder.proofs.Checked.{LabelsPassed, labels-passed}
use Rattle.encoder.proofs.labels.Goals as goal

-- a codeword of N bits has m columns
columns_are : (f : ℕ) (codeword : List ℕ) (room : ℕ) → LabelsPassed f codeword room → columns codeword ≡ (format_of f).m
columns_are f codeword room p = omega (arith, p.long, (format-sound f p.known).labels)

pub returns-in_err-check_labels-clause-output : goal.returns-in_err-check_labels-clause-output
unfolding labels_output
returns-in_err-check_labels-clause-output c = when_err _ _ _ _ c.in_err-check_labels.ensures

pub write-requires : goal.write-requires
write-requires c =
    let p = labels-passed _ _ _ (sym c.in_ok-check_labels.ensures) in
    (omega (arith, columns_are _ _ _ p, (format-sound c.args.format p.known).most-m), p.bits, p.fits)

pub returns-clause-output : goal.returns-clause-output
unfolding labels_output
returns-clause-output c =
    let passed = sym c.in_ok-check_labels.ensures in
    c.write.ensures
    ∙ ap (λ m. labels m c.args.codeword.now ++ drop symbols c.args.out.now) (columns_are _ _ _ (labels-passed _ _ _ passed))
    ∙ when_passed _ _ _ passed
