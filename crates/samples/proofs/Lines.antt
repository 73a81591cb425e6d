-- What a text begins with: a lost sample's line, or a pair's, or neither.
use mathlib.Core.Path.{◌≡◌, refl, sym, ap, ap₂, ◌∙◌}
use mathlib.Core.Bool.{Bool, true, false}
use mathlib.Core.List.{List, [], ◌∷◌, ◌++◌}
use Prim.Native.Nat.{ℕ, ◌+◌, ◌≤◌, ◌<◌}
use native.Mathlib.Omega.{arith}
use lib.Pointwise.{pointwise}
use lib.ListN.{length, take, drop, length-append, length-take}
use lib.Seq.{take-take, take-add, drop_at, length-take-le}
use Rattle.std.specs.Prelude.{Some, None, if◌then◌else◌, option_map}
use Rattle.ascii.specs.Text.{ascii, comma, line_feed}
use Rattle.std.proofs.Common.{nat_eq}
use Rattle.bits.specs.Same.{same}
use Rattle.bits.proofs.Cases.{by_cases}
use Rattle.bits.proofs.Same.{same-equal, same_found}
use Rattle.samples.specs.declared.Sample.TheVariants.{Lost}
use Rattle.samples.specs.Reader.{line_read, pair_bytes, pair_of}
use Rattle.samples.specs.Text.{Line, begins, digits, hexadecimal, line_in, line_text, pair_in, sample_of, word_in}
use Rattle.samples.proofs.Words.{length-hexadecimal}

-- bytes of a lost sample's line
abbrev pub lost_bytes : ℕ
lost_bytes = 5

length-lost : length (line_text None) ≡ lost_bytes
unfolding line_text
length-lost = refl

pub length-pair : (text : List ℕ) → length (line_text (pair_in text)) ≡ pair_bytes
unfolding pair_in line_text
length-pair text =
    let i = word_in (take digits text) in
    let q = word_in (take digits (drop (digits + 1) text)) in
    let ends = hexadecimal digits q ++ line_feed ∷ [] in
    omega
    (arith, length-append (hexadecimal digits i) (comma ∷ ends), length-append (hexadecimal digits q) (line_feed ∷ []), length-hexadecimal digits i, length-hexadecimal digits q)

-- std's test of a prefix
abbrev pub LostFound : List ℕ → Bool → Type 0
LostFound text found = pointwise nat_eq (take lost_bytes text) (ascii "LOST\n") ≡ found

module _ (text : List ℕ) where
  begins-lost : {found : Bool} → LostFound text found → begins (line_text None) text ≡ found
  unfolding line_text
  begins-lost e = sym (same_found (take lost_bytes text) (ascii "LOST\n")) ∙ e

  read_as : (line : Line) → line_in text ≡ line
      → line_read text ≡ (if begins (line_text line) text then Some (sample_of line, drop (length (line_text line)) text) else None)
  unfolding line_read
  read_as line is = rw is refl

  pub lost_read : LostFound text true → Some (Lost, drop lost_bytes text) ≡ line_read text
  unfolding line_in
  lost_read found =
      let t = begins-lost found in
      let is : line_in text ≡ None = rw t refl in
      sym (read_as None is ∙ rw t refl ∙ ap (λ n. Some (Lost, drop n text)) length-lost)

  -- the words of a pair stand in the front of the text
  pub pair-front : pair_bytes ≤ length text → pair_in (take pair_bytes text) ≡ pair_in text
  unfolding pair_in
  pair-front long =
      let half = digits + 1 in
      let second : drop half (take pair_bytes text) ≡ take half (drop half text) =
      ap (drop half) (take-add half half text) ∙ drop_at (take half text) (take half (drop half text)) half (length-take-le half text (omega arith)) in
      ap₂ (λ i q. Some (word_in i, word_in q))
      (take-take digits pair_bytes text (omega arith))
      (ap (take digits) second ∙ take-take digits half (drop half text) (omega arith))

  module _ (not_lost : LostFound text false) where
    pair_is : line_in text ≡ pair_in text
    unfolding line_in
    pair_is = rw (begins-lost not_lost) refl

    pub short_read : length text < pair_bytes → None ≡ line_read text
    short_read short =
        let line = line_text (pair_in text) in
        rw (read_as (pair_in text) pair_is)
        (by_cases
        (begins line text)
        (λ t.
        let e : length (take (length line) text) ≡ length line = ap length (same-equal _ line t) in
        absurd (omega (arith, e, length-pair text, length-take (length line) text)))
        (λ f. rw f refl))

    pub pair_read : pair_bytes ≤ length text → option_map (λ sample. (sample, drop pair_bytes text)) (pair_of (take pair_bytes text)) ≡ line_read text
    unfolding pair_of
    pair_read long =
        rw (read_as (pair_in text) pair_is, pair-front long, length-pair text)
        (by_cases (same (take pair_bytes text) (line_text (pair_in text))) (λ t. rw t refl) (λ f. rw f refl))
