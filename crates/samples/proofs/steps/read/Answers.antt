use mathlib.Core.Path.{◌≡◌, sym, ap, ◌∙◌}
use lib.ListN.{drop}
use Rattle.std.specs.Prelude.{Option, option_map}
use Rattle.samples.specs.declared.Sample.{Sample}
use Rattle.samples.specs.Reader.{line_read, pair_bytes, pair_of}
use Rattle.samples.proofs.Lines.{lost_read, pair_read, short_read}
use Rattle.samples.proofs.steps.read.Goals.{In_ok-line}
use Rattle.samples.proofs.steps.read.Goals as goal

pub returns-in-Some : goal.returns-in-Some
returns-in-Some c =
    let (found, rest, long) = c.in-Some.ensures.cases in
    rw rest (lost_read c.args.text.now found)

pub returns-in_err-line : goal.returns-in_err-line
returns-in_err-line c = rw c.from_residual.ensures (short_read c.args.text.now c.in_default.ensures.cases c.in_err-line.ensures.cases)

-- what the reading of the pair makes of the text
with_rest : (c : In_ok-line) {sample : Option Sample} → sample ≡ pair_of c.in_ok-line.line.now
    → option_map (λ s. (s, drop pair_bytes c.args.text.now)) sample ≡ line_read c.args.text.now
with_rest c is =
    let cut = c.in_ok-line.ensures.cases in
    let text = c.args.text.now in
    ap (option_map (λ s. (s, drop pair_bytes text))) (is ∙ ap pair_of cut.1) ∙ pair_read text c.in_default.ensures.cases cut.0

pub returns-in_err-pair : goal.returns-in_err-pair
returns-in_err-pair c =
    rw c.from_residual-in_err-pair.ensures (with_rest (goal.at.returns-in_err-pair c).In_ok-line (sym c.in_err-pair.was ∙ c.pair.ensures))

pub returns : goal.returns
returns c =
    rw c.in_ok-line.ensures.cases.2 (with_rest (goal.at.returns c).In_ok-line (sym c.in_ok-pair.was ∙ c.pair.ensures))
