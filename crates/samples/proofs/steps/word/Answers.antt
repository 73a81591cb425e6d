use mathlib.Core.Path.{◌≡◌, refl, sym, ap, ◌∙◌}
use mathlib.Core.Bool.{true}
use Prim.Native.Nat.{◌<◌}
use native.Mathlib.Omega.{arith}
use lib.ListN.{get_or, drop_of_length-le}
use Rattle.std.specs.Prelude.{Some}
use Rattle.samples.specs.Reader.{is_digit}
use Rattle.samples.specs.Text.{digit_value}
use Rattle.samples.proofs.Words.{all_digits, digit_none, digit_some, next_digits, next_fits, next_low, next_value, no_word, value_low, word_there}
use Rattle.samples.proofs.steps.word.Goals.{In_ok-digit}
use Rattle.samples.proofs.steps.word.Goals as goal

pub returns-in_err-digit : goal.returns-in_err-digit
returns-in_err-digit c =
    let text = c.args.text.now in
    let none = digit_none (get_or text c.loop-b.b-index 0) (sym c.in_err-digit.ensures) in
    rw c.from_residual.ensures
    (no_word text c.requires (c.loop-b.invariant.2 ∙ next_digits text c.loop-b.b-index c.loop-b-test.true ∙ rw none refl))

digit-of : (c : In_ok-digit) → (let b = get_or c.args.text.now c.loop-b.b-index 0 in (is_digit b ≡ true) × (digit_value b ≡ c.in_ok-digit.field-0))
digit-of c = digit_some (get_or c.args.text.now c.loop-b.b-index 0) _ (sym c.in_ok-digit.ensures)

low : (c : In_ok-digit) → c.in_ok-digit.field-0 < 16
low c = let (is, value) = digit-of c in omega (arith, value, value_low (get_or c.args.text.now c.loop-b.b-index 0) is)

pub overflow_mul-word : goal.overflow_mul-word
overflow_mul-word c =
    omega (arith, next_fits c.loop-b.b-index c.loop-b.word 0 c.loop-b.invariant.0 (omega arith) (omega (arith, c.requires, c.loop-b-test.true)))

pub overflow_add-word : goal.overflow_add-word
overflow_add-word c =
    let ok = (goal.at.overflow_add-word c).In_ok-digit in
    rw c.from.ensures
    (omega (arith, next_fits c.loop-b.b-index c.loop-b.word _ c.loop-b.invariant.0 (low ok) (omega (arith, c.requires, c.loop-b-test.true))))

pub loop-b-preserved : goal.loop-b-preserved
loop-b-preserved c =
    let ok = (goal.at.loop-b-preserved c).In_ok-digit in
    let text = c.args.text.now in
    let k = c.loop-b.b-index in
    let (is, value) = digit-of ok in
    rw c.from.ensures (
      next_low k c.loop-b.word _ c.loop-b.invariant.0 (low ok),
      rw value at (sym (next_value text k c.loop-b-test.true c.loop-b.word)) ∙ c.loop-b.invariant.1,
      c.loop-b.invariant.2 ∙ next_digits text k c.loop-b-test.true ∙ rw is refl,
    )

pub returns : goal.returns
unfolding all_digits
returns c =
    let text = c.args.text.now in
    let none = drop_of_length-le text (omega arith) in
    ap Some (rw none at c.loop-b.invariant.1) ∙ word_there text c.requires (c.loop-b.invariant.2 ∙ ap all_digits none)
