-- A text is a field exactly if the tests hold that lead to the last return; each other return breaks one of them.
use mathlib.Core.Path.{◌≡◌, sym, ap, ◌∙◌}
use mathlib.Core.Bool.{false≢true}
use native.Mathlib.Omega.{arith}
use lib.ListN.{length}
use borrow.Author.Rules.{rules}
use Rattle.std.specs.Prelude.{Some}
use Rattle.fields.proofs.Numbers.{Spelled, a_field, no_field}
use Rattle.fields.proofs.steps.number.Goals.{Else-not-all_digits, then-is_empty-via-then-is_empty, then-is_empty-via-else-is_empty+then-most-text, else-text-eq-ZERO-via-then-text-eq-ZERO+else-text-ne1, else-text-eq-ZERO-via-else-text-eq-ZERO}
use Rattle.fields.proofs.steps.number.Goals as goal

-- what the tests have shown
spelled : (c : Else-not-all_digits) → Spelled c.args.most c.args.text.now
spelled c =
    record {
      some = search rules;
      short = omega (arith, c.if-most-text.false);
      leads = (λ z. elim c.else-text-eq-ZERO.branch [
        | else-text-eq-ZERO-via-then-text-eq-ZERO+else-text-ne1 w ↦ w.if-text-ne1.false
        | else-text-eq-ZERO-via-else-text-eq-ZERO w ↦ absurd (w.if-text-eq-ZERO.false z)
      ]);
      digits = sym c.all_digits.ensures ∙ c.if-not-all_digits.false;
    }

pub returns-then-is_empty : goal.returns-then-is_empty
returns-then-is_empty c =
    elim c.then-is_empty.branch [
      | then-is_empty-via-then-is_empty w ↦ no_field _ _ c.requires.0 (λ s. let e : length c.args.text.now ≡ 0 = search rules in omega (arith, s.some))
      | then-is_empty-via-else-is_empty+then-most-text w ↦ no_field _ _ c.requires.0 (λ s. omega (arith, s.short))
    ]

pub returns-then-text-ne1 : goal.returns-then-text-ne1
returns-then-text-ne1 c = no_field _ _ c.requires.0 (λ s. c.if-text-ne1.true (s.leads c.if-text-eq-ZERO.true))

pub returns-then-not-all_digits : goal.returns-then-not-all_digits
returns-then-not-all_digits c = no_field _ _ c.requires.0 (λ s. false≢true (sym (c.if-not-all_digits.true) ∙ c.all_digits.ensures ∙ s.digits))

pub returns : goal.returns
returns c = ap Some c.value.ensures ∙ a_field _ _ (spelled (goal.at.returns c).Else-not-all_digits)
