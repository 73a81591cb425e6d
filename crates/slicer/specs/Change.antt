-- A change of format between blocks, and the look ahead. Both read the slicer alone.
use Rattle.std.specs.Prelude.{◌&&◌, List, [], ◌∷◌, ℕ, ◌/◌, ◌%◌, eqb, leb, if◌then◌else◌, Result, Ok, Err}
use Rattle.bits.specs.Checks.{Check, ◌or_else◌, first_failed, check_number, passed, bad_format, bad_length}
use Rattle.bits.specs.declared.checks.Refusal.{Refusal}
use Rattle.acm.specs.Formats.{is_format, format_of}
use Rattle.waiting.specs.Waiting.{memory_length}
use Rattle.slicer.specs.declared.Slicer.{Slicer}
use Rattle.slicer.specs.declared.Ahead.{Ahead}
use Rattle.slicer.specs.Calls.{Answer}

-- of both calls: format f is commanded, or asked about
abbrev pub change_checks : Slicer → ℕ → List Check
change_checks s f =
    (is_format s.format && is_format f) or_else bad_format
    ∷ leb s.waiting memory_length or_else bad_length
    ∷ []

unfoldable pub change_number : Slicer → ℕ → ℕ
change_number s f = first_failed (change_checks s f)

-- a slicer that goes on in format f: its frame length and the bits that wait stay
abbrev pub with_format : Slicer → ℕ → Slicer
with_format s f = record { format = f; octets = s.octets; waiting = s.waiting }

unfoldable pub changed : Slicer → ℕ → Answer
changed s f =
    let number = change_number s f in
    record { number = number; slicer = if eqb number passed then with_format s f else s }

-- what a look answers, in numbers: blocks that the waiting bits yield, and bits that stay
pub record LookAnswer : Type 0 where
  pub number : ℕ
  pub blocks : ℕ
  pub bits : ℕ

abbrev pub yields : ℕ → ℕ → LookAnswer
yields blocks bits = record { number = passed; blocks = blocks; bits = bits }

abbrev pub refused : ℕ → LookAnswer
refused number = record { number = number; blocks = 0; bits = 0 }

abbrev pub look_answer_of : Result Ahead Refusal → LookAnswer
look_answer_of (Ok ahead) = yields ahead.blocks ahead.bits
look_answer_of (Err refusal) = refused (check_number refusal)

-- as often as K bits of format f go into those that wait, and what is left of them
unfoldable pub looked : Slicer → ℕ → LookAnswer
looked s f =
    let K = (format_of f).k in
    if eqb (change_number s f) passed
    then yields (s.waiting / K) (s.waiting % K)
    else refused (change_number s f)
