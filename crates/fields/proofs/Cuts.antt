-- A text cut at a byte: the two parts with the byte between are the text, and of a text that is two parts with the byte between, the first without
-- it, they are these.
use mathlib.Core.Path.{◌≡◌, refl, sym, ap, ap₂, ◌∙◌}
use mathlib.Core.Bool.{true, false, false≢true}
use mathlib.Core.List.{List, [], ◌∷◌, ◌++◌}
use Prim.Native.Nat.{ℕ, ◌+◌, ◌-◌, ◌<◌}
use native.Mathlib.Numerals.{add-one}
use native.Mathlib.Omega.{arith}
use borrow.Author.Tests.{eq-eqb, ne_eqb, lt-ltb, le-ltb, ltb-true}
use lib.Dec.{eqb, ltb}
use lib.ListN.{length, take, drop, length-append, length-drop}
use lib.Seq.{split_at, take_at, take_all, drop-append-add}
use Rattle.std.specs.Prelude.{Option, Some, None, position, ◌==◌}
use Rattle.std.proofs.NetLemmas.Options.{same_parts}
use Rattle.bits.specs.Place.{place}
use Rattle.bits.proofs.Cases.{by_cases}
use Rattle.bits.proofs.Places.{place_is}
use Rattle.bits.proofs.Table.{left-true, right_true}
use Rattle.fields.specs.Fields.{is_digit, all_digits, before, behind, cut_at}
use Rattle.fields.proofs.Scans.{place_found, place-missing}

-- the scan's two answers
module _ (text : List ℕ) (b : ℕ) where
  pub cut-missing : None ≡ position (λ y. y == b) text → None ≡ cut_at b text
  cut-missing e = let none : ltb (place b text) (length text) ≡ false = rw (place-missing b text e) (le-ltb _ _ (omega arith)) in rw none

  pub cut_found : (k : ℕ) → Some k ≡ position (λ y. y == b) text
      → Some (take k text, take (length text - (k + 1)) (drop (k + 1) text)) ≡ cut_at b text
  cut_found k e =
      let (is, inside) = place_found b text k e in
      let all : take (length text - (k + 1)) (drop (k + 1) text) ≡ drop (k + 1) text =
      take_all (length text - (k + 1)) (drop (k + 1) text) (simp length-drop (omega arith)) in
      rw (all, is, lt-ltb (place b text) (length text) (rw is at inside))

-- the two parts with the byte between
split_there : (b : ℕ) (text : List ℕ) → place b text < length text → text ≡ before b text ++ b ∷ behind b text
split_there b text h = split_at text (place b text) 0 h ∙ rw (place_is b text h, add-one)

pub cut_read : (b : ℕ) (text : List ℕ) {xs ys : List ℕ} → cut_at b text ≡ Some (xs, ys) → text ≡ xs ++ b ∷ ys
cut_read b text {xs} {ys} e =
    by_cases
    (ltb (place b text) (length text))
    (λ t.
    let e' : Some (before b text, behind b text) ≡ Some (xs, ys) = rw t at e in
    let (first, second) = same_parts (before b text) xs (behind b text) ys e' in
    split_there b text (ltb-true _ _ t) ∙ ap₂ (λ (l r : List ℕ). l ++ b ∷ r) first second)
    (λ f. let e' : ◌≡◌ {A = Option (List ℕ × List ℕ)} None (Some (xs, ys)) = rw f at e in cc)

-- where a byte stands behind a text without it, which one of digits is if the byte is none
module _ (b : ℕ) where
  pub digits_without : is_digit b ≡ false → (xs : List ℕ) → all_digits xs ≡ true → place b xs ≡ length xs
  unfolding place all_digits
  digits_without other [] t = refl
  digits_without other (x ∷ xs) t =
      let d = left-true (is_digit x) (all_digits xs) t in
      rw (ne_eqb x b (λ e. false≢true (sym other ∙ ap is_digit (sym e) ∙ d)), digits_without other xs (right_true (is_digit x) (all_digits xs) t))

  pub place_behind : (xs ys : List ℕ) → place b xs ≡ length xs → place b (xs ++ ys) ≡ length xs + place b ys
  unfolding place
  place_behind [] ys e = omega arith
  place_behind (x ∷ xs) ys e =
      by_cases
      (eqb x b)
      (λ t. absurd (omega (arith, rw t at e)))
      (λ f. rw f (omega (arith, place_behind xs ys (omega (arith, rw f at e)))))

  module _ (xs ys : List ℕ) (without : place b xs ≡ length xs) where
    place_at : place b (xs ++ b ∷ ys) ≡ length xs
    unfolding place
    place_at = place_behind xs (b ∷ ys) without ∙ rw (eq-eqb b b refl) (omega arith)

    pub before_at : before b (xs ++ b ∷ ys) ≡ xs
    before_at = take_at xs (b ∷ ys) _ (sym place_at)

    pub behind-at : behind b (xs ++ b ∷ ys) ≡ ys
    behind-at = rw place_at (drop-append-add xs (b ∷ ys) 1)

    pub cut_written : cut_at b (xs ++ b ∷ ys) ≡ Some (xs, ys)
    cut_written =
        let inside : place b (xs ++ b ∷ ys) < length (xs ++ b ∷ ys) = omega (arith, place_at, length-append xs (b ∷ ys)) in
        rw (lt-ltb _ _ inside, before_at, behind-at)

  pub cut-none : (text : List ℕ) → place b text ≡ length text → cut_at b text ≡ None
  cut-none text without = rw (le-ltb (place b text) (length text) (omega arith))
