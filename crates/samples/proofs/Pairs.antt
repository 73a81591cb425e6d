-- The line of a pair: two words, a comma between them and a line feed behind, and nothing else.
use mathlib.Core.Path.{◌≡◌, refl, sym, ap, ap₂, ◌∙◌}
use mathlib.Core.Bool.{true}
use mathlib.Core.List.{List, [], ◌∷◌, ◌++◌}
use Prim.Native.Nat.{ℕ, ◌+◌, ◌-◌, ◌≤◌}
use native.Mathlib.Omega.{arith}
use lib.Ieee.{binary64}
use lib.ListN.{length, get_or, take, drop, length-drop, drop_of_length-le}
use lib.Seq.{split_at, take_at, get_or_at, drop-append-add, get_or-drop}
use Rattle.std.specs.Prelude.{Some, None, from_bits}
use Rattle.bits.specs.Same.{same}
use Rattle.bits.proofs.Cases.{by_cases}
use Rattle.bits.proofs.Same.{same_self, same-equal}
use Rattle.ascii.specs.Text.{comma, line_feed}
use Rattle.samples.specs.declared.Sample.TheVariants.{Pair}
use Rattle.samples.specs.Reader.{pair_bytes, pair_of, word_of}
use Rattle.samples.specs.Text.{digits, hexadecimal, line_text, pair_in, word_in}
use Rattle.samples.proofs.Words.{length-hexadecimal, word_some}

module _ (line : List ℕ) where
  abbrev pub first : List ℕ
  first = take digits line

  abbrev pub second : List ℕ
  second = take digits (drop (digits + 1) line)

  abbrev pub parts_of : ℕ → ℕ → List ℕ
  parts_of i q = hexadecimal digits i ++ comma ∷ (hexadecimal digits q ++ line_feed ∷ [])

  pair_text : line_text (pair_in line) ≡ parts_of (word_in first) (word_in second)
  unfolding pair_in line_text
  pair_text = refl

  pub record Written : Type 0 where
    pub first_is : first ≡ hexadecimal digits (word_in first)
    pub between : get_or line digits 0 ≡ comma
    pub second-is : second ≡ hexadecimal digits (word_in second)
    pub last : get_or line (pair_bytes - 1) 0 ≡ line_feed

  pub written : same line (line_text (pair_in line)) ≡ true → Written
  written t =
      let is = same-equal line _ t ∙ pair_text in
      let i = hexadecimal digits (word_in first) in
      let q = hexadecimal digits (word_in second) in
      let ends = q ++ line_feed ∷ [] in
      let long_i = length-hexadecimal digits (word_in first) in
      let long_q = length-hexadecimal digits (word_in second) in
      let one_more : digits + 1 ≡ length i + 1 = omega (arith, long_i) in
      let behind : drop (digits + 1) line ≡ ends =
      ap (drop (digits + 1)) is ∙ ap (λ n. drop n (i ++ comma ∷ ends)) one_more ∙ drop-append-add i (comma ∷ ends) 1 in
      record {
        first_is = ap (take digits) is ∙ take_at i _ digits long_i;
        between = ap (λ l. get_or l digits 0) is ∙ get_or_at i comma ends 0 digits long_i;
        second-is = ap (take digits) behind ∙ take_at q _ digits long_q;
        last = sym (get_or-drop (digits + 1) line digits 0) ∙ ap (λ l. get_or l digits 0) behind ∙ get_or_at q line_feed [] 0 digits long_q;
      }

  pub no_pair : (Written → ⊥) → None ≡ pair_of line
  unfolding pair_of
  no_pair n = by_cases (same line (line_text (pair_in line))) (λ t. absurd (n (written t))) (λ f. rw f refl)

  module _ (long : length line ≡ pair_bytes) where
    parts : line ≡ first ++ get_or line digits 0 ∷ (second ++ get_or line (pair_bytes - 1) 0 ∷ [])
    parts =
        let rest = drop (digits + 1) line in
        let long_rest : length rest ≡ digits + 1 = length-drop (digits + 1) line ∙ omega (arith, long) in
        let short : length rest ≤ digits + 1 = omega (arith, long_rest) in
        let none : drop (digits + 1) rest ≡ [] = drop_of_length-le rest short in
        split_at line digits 0 (omega (arith, long))
        ∙ ap (λ l. first ++ get_or line digits 0 ∷ l)
        (split_at rest digits 0 (omega (arith, long_rest)) ∙ ap₂ (λ x l. second ++ x ∷ l) (get_or-drop (digits + 1) line digits 0) none)

    pub pair_there : {i q : ℕ} → get_or line digits 0 ≡ comma → get_or line (pair_bytes - 1) 0 ≡ line_feed
        → word_of first ≡ Some i → word_of second ≡ Some q → Some (Pair (from_bits binary64 i) (from_bits binary64 q)) ≡ pair_of line
    unfolding pair_of pair_in
    pair_there {i} {q} between last first-word second-word =
        let (first_is, i-is) = word_some first i first-word in
        let (second-is, q-is) = word_some second q second-word in
        let is : line ≡ parts_of (word_in first) (word_in second) =
        parts ∙ ap₂ (λ l x. l ++ x ∷ (second ++ get_or line (pair_bytes - 1) 0 ∷ [])) first_is between
        ∙ ap₂ (λ l x. hexadecimal digits (word_in first) ++ comma ∷ (l ++ x ∷ [])) second-is last in
        let there : same line (line_text (pair_in line)) ≡ true = ap (same line) (pair_text ∙ sym is) ∙ same_self line in
        rw (there, i-is, q-is) refl
