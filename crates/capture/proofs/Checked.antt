-- What the checks say of a call: those of the labels first, then whether the text is a capture, then whether its coordinates are in range.
use mathlib.Core.Path.{◌≡◌, refl, sym, ap, ap₂, ◌∙◌}
use mathlib.Core.Bool.{Bool, true, false, not}
use mathlib.Core.List.{List}
use Prim.Native.Nat.{ℕ}
use native.Mathlib.Omega.{arith}
use borrow.Author.Tests.{eqb-true}
use lib.Dec.{lit<}
use lib.ListN.{length}
use Rattle.std.specs.Prelude.{if◌then◌else◌}
use Rattle.bits.specs.Checks.{◌or_else◌, bad_capture, bad_coordinate, check_number, first_failed, passed}
use Rattle.bits.specs.declared.checks.Refusal.{Refusal}
use Rattle.bits.proofs.Cases.{by_cases}
use Rattle.bits.proofs.Passed.{fails_first, fails_later, passes, when_passed, when_refused}
use Rattle.bits.proofs.Refusals.{not_passed}
use Rattle.acm.specs.Formats.{symbols}
use Rattle.capture.specs.declared.Judgement.{Judgement}
use Rattle.capture.specs.declared.Tally.{Tally}
use Rattle.capture.specs.Judgement.{Answer, all_in_range, capture_checks, is_capture, judge_number, judged, labels_checks, labels_number, nothing, samples_of}
use Rattle.capture.specs.Tally.{tally_of}

abbrev answer : ℕ → Judgement → Answer
answer n j = record { number = n; judgement = j }

-- whether a text was found to be a capture
abbrev pub found : List ℕ → ℕ
found capture = if is_capture capture then passed else bad_capture

found-is : (capture : List ℕ) → passed ≡ found capture → is_capture capture ≡ true
found-is capture e = by_cases (is_capture capture) (λ t. t) (λ f. absurd (omega (arith, rw f at e)))

not-true : (b : Bool) → not b ≡ true → b ≡ false
not-true false e = refl
not-true true e = sym e

not_false : (b : Bool) → not b ≡ false → b ≡ true
not_false true e = refl
not_false false e = sym e

module _ (f : ℕ) (labels capture : List ℕ) where
  refused : (n : ℕ) → n ≡ judge_number f labels capture → (n ≡ passed → ⊥) → answer n nothing ≡ judged f labels capture
  refused n e some = ap₂ answer e (when_refused (judge_number f labels capture) _ nothing (λ p. some (e ∙ p)))

  pub labels_refused : (r : Refusal) → check_number r ≡ labels_number f labels → answer (check_number r) nothing ≡ judged f labels capture
  unfolding labels_number judge_number
  labels_refused r e =
      refused (check_number r) (e ∙ sym (fails_first (labels_checks f labels) (capture_checks capture) (λ p. not_passed r (e ∙ p)))) (not_passed r)

  module _ (asked : passed ≡ labels_number f labels) where
    pub labels-long : length labels ≡ symbols
    unfolding labels_number
    labels-long = eqb-true _ _ (passes (labels_checks f labels) (true or_else passed) refl (sym asked) 1 (lit< tt))

    later : judge_number f labels capture ≡ first_failed (capture_checks capture)
    unfolding labels_number judge_number
    later = fails_later (labels_checks f labels) (capture_checks capture) refl (sym asked)

    pub text_refused : (r : Refusal) → check_number r ≡ found capture → answer (check_number r) nothing ≡ judged f labels capture
    text_refused r e =
        by_cases
        (is_capture capture)
        (λ t. absurd (not_passed r (rw t at e)))
        (λ n.
        let bad : check_number r ≡ bad_capture = rw n at e in
        let first : first_failed (capture_checks capture) ≡ bad_capture = rw n refl in
        refused (check_number r) (bad ∙ sym (later ∙ first)) (not_passed r))

    module _ (whole : passed ≡ found capture) (t : Tally) (is : t ≡ tally_of labels (samples_of capture)) where
      pub coordinate_refused : t.outside ≡ true → answer bad_coordinate nothing ≡ judged f labels capture
      coordinate_refused out =
          let inside = not-true (all_in_range (samples_of capture)) (sym (ap (λ t. t.outside) is) ∙ out) in
          let first : first_failed (capture_checks capture) ≡ bad_coordinate = rw (found-is capture whole, inside) refl in
          refused bad_coordinate (sym (later ∙ first)) (λ p. omega (arith, p))

      pub judged_so : t.outside ≡ false → answer passed t.judgement ≡ judged f labels capture
      judged_so none =
          let inside = not_false (all_in_range (samples_of capture)) (sym (ap (λ t. t.outside) is) ∙ none) in
          let first : first_failed (capture_checks capture) ≡ passed = rw (found-is capture whole, inside) refl in
          ap₂ answer (sym (later ∙ first)) (ap (λ t. t.judgement) is ∙ when_passed (judge_number f labels capture) _ nothing (later ∙ first))
