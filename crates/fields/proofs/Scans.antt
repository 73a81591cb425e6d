-- What std's scans of a text find, in the terms of a line.
use mathlib.Core.Path.{◌≡◌, refl, sym}
use mathlib.Core.Bool.{Bool, true, false, cond, false≢true}
use mathlib.Core.List.{List, [], ◌∷◌}
use mathlib.Core.Logic.{◌↔◌}
use Prim.Native.Nat.{ℕ, zero, suc, ◌<◌}
use native.Mathlib.Omega.{arith}
use borrow.Author.Tests.{ltb-true, ltb-false}
use lib.Dec.{eqb, ltb}
use lib.ListN.{length}
use Rattle.std.specs.Prelude.{Some, None, IsTrue, ◌==◌, position}
use Rattle.std.specs.List.{All, position_or_len}
use Rattle.std.proofs.lemmas.List.Recursion.{is_position_or_len}
use Rattle.bits.specs.Place.{place}
use Rattle.bits.proofs.Cases.{by_cases}
use Rattle.bits.proofs.Places.{place-most}
use Rattle.bits.proofs.Table.{left-true, right_true}
use Rattle.fields.specs.Fields.{is_digit, all_digits}

-- a text has digits alone exactly if each byte is one
digits_each : (text : List ℕ) → All (λ b. is_digit b ≡ true) text → all_digits text ≡ true
unfolding all_digits
digits_each [] h = refl
digits_each (b ∷ text) h = rw (h 0 0 (omega arith)) (digits_each text (λ k d l. h (suc k) d (omega arith)))

each_digit : (text : List ℕ) → all_digits text ≡ true → All (λ b. is_digit b ≡ true) text
unfolding all_digits
each_digit [] t k d l = absurd (omega arith)
each_digit (b ∷ text) t zero d l = left-true (is_digit b) (all_digits text) t
each_digit (b ∷ text) t (suc k) d l = each_digit text (right_true (is_digit b) (all_digits text) t) k d (omega arith)

pub digits_checked : (checked : Bool) (text : List ℕ) → IsTrue checked ↔ All (λ b. is_digit b ≡ true) text → checked ≡ all_digits text
digits_checked true text h = sym (digits_each text (h.0 refl))
digits_checked false text h =
    by_cases (all_digits text) (λ t. absurd (false≢true (h.1 (each_digit text t)))) (λ f. sym f)

-- the place of a byte is its position, and the text's length if it has none
module _ (x : ℕ) (text : List ℕ) where
  place-position : place x text ≡ position_or_len (λ b. b == x) text
  unfolding place
  place-position = is_position_or_len (place x) (λ b. b == x) refl (λ y ys. by_cases (eqb y x) (λ t. rw t refl) (λ f. rw f (omega arith))) text

  position-is : position (λ b. b == x) text ≡ cond (ltb (place x text) (length text)) (Some (place x text)) None
  position-is = rw (← place-position) refl

  pub place_found : (k : ℕ) → Some k ≡ position (λ b. b == x) text → (k ≡ place x text) × (k < length text)
  place_found k e =
      by_cases
      (ltb (place x text) (length text))
      (λ t.
      let e' : Some k ≡ Some (place x text) = rw (position-is, t) at e in
      let is : k ≡ place x text = cc in
      (is, omega (arith, ltb-true _ _ t)))
      (λ f. let e' : Some k ≡ None = rw (position-is, f) at e in cc)

  pub place-missing : None ≡ position (λ b. b == x) text → place x text ≡ length text
  place-missing e =
      by_cases
      (ltb (place x text) (length text))
      (λ t. let e' : None ≡ Some (place x text) = rw (position-is, t) at e in cc)
      (λ f. omega (arith, ltb-false _ _ f, place-most x text))
