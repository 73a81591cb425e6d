-- Two label lists held against each other: the tally of the bits in which they differ.
use Rattle.std.specs.Prelude.{Bool, true, false, not, List, [], ◌∷◌, ℕ, suc, ◌+◌, eqb, length, if◌then◌else◌, Result, Ok, Err}
use Rattle.bits.specs.Checks.{Check, ◌or_else◌, check_number, first_failed, passed, bad_format, bad_length, bad_element}
use Rattle.bits.specs.declared.checks.Refusal.{Refusal}
use Rattle.bits.specs.Legal.{all_at_most}
use Rattle.bits.specs.Words.{bits_of}
use Rattle.acm.specs.Formats.{symbols, is_format, format_of, top_label}
use Rattle.compare.specs.declared.Comparison.{Comparison}
use Rattle.compare.specs.declared.Comparison.TheVariants.{Same, Differ}

-- the number of places at which two lists of one length differ
unfoldable pub differing : List ℕ → List ℕ → ℕ
differing [] ys = 0
differing (x ∷ xs) [] = 0
differing (x ∷ xs) (y ∷ ys) = (if eqb x y then 0 else 1) + differing xs ys

-- the number of bits in which two labels of m bits differ
abbrev pub apart : ℕ → ℕ → ℕ → ℕ
apart m x y = differing (bits_of m x) (bits_of m y)

-- added over the places of two lists of one length
unfoldable pub differing_bits : ℕ → List ℕ → List ℕ → ℕ
differing_bits m [] ys = 0
differing_bits m (x ∷ xs) [] = 0
differing_bits m (x ∷ xs) (y ∷ ys) = apart m x y + differing_bits m xs ys

-- the first place that differs, counted from 0; lists that do not differ give their length
unfoldable pub first_place : List ℕ → List ℕ → ℕ
first_place [] ys = 0
first_place (x ∷ xs) [] = 0
first_place (x ∷ xs) (y ∷ ys) = if eqb x y then suc (first_place xs ys) else 0

abbrev pub compare_checks : ℕ → List ℕ → List ℕ → List Check
compare_checks f a b =
    is_format f or_else bad_format
    ∷ eqb (length a) symbols or_else bad_length
    ∷ eqb (length b) symbols or_else bad_length
    ∷ all_at_most (top_label f) a or_else bad_element
    ∷ all_at_most (top_label f) b or_else bad_element
    ∷ []

unfoldable pub compare_number : ℕ → List ℕ → List ℕ → ℕ
compare_number f a b = first_failed (compare_checks f a b)

-- an answer in numbers
pub record Answer : Type 0 where
  pub number : ℕ
  pub same : Bool
  pub count : ℕ
  pub first : ℕ

abbrev pub equal : Answer
equal = record { number = passed; same = true; count = 0; first = 0 }

abbrev pub unequal : ℕ → ℕ → Answer
unequal count first = record { number = passed; same = false; count = count; first = first }

abbrev pub refused : ℕ → Answer
refused number = record { number = number; same = false; count = 0; first = 0 }

abbrev pub answer_of : Result Comparison Refusal → Answer
answer_of (Ok Same) = equal
answer_of (Ok (Differ count first)) = unequal count first
answer_of (Err refusal) = refused (check_number refusal)

abbrev pub compared : ℕ → List ℕ → List ℕ → Answer
compared f a b =
    if not (eqb (compare_number f a b) passed) then refused (compare_number f a b)
    else (if eqb (differing a b) 0 then equal
    else unequal (differing_bits (format_of f).m a b) (first_place a b))
