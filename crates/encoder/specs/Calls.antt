-- The calls: the number that each answers, and what it leaves in each buffer.
use Rattle.std.specs.Prelude.{List, [], ◌∷◌, ◌++◌, ℕ, eqb, leb, length, drop, if◌then◌else◌}
use Rattle.bits.specs.Checks.{Check, ◌or_else◌, first_failed, passed, bad_format, bad_length, bad_element, short_workspace, short_output}
use Rattle.bits.specs.Legal.{all_bits}
use Rattle.acm.specs.Formats.{symbols, is_format, format_of}
use Rattle.trellis.specs.Trellis.{outer}
use Rattle.mapping.specs.Labels.{labels}
use Rattle.encoder.specs.Codeword.{trellis_part, codeword}

-- encode: the block is lent, a workspace of so many bytes and an output of so many
abbrev pub encode_checks : ℕ → List ℕ → ℕ → ℕ → List Check
encode_checks f block work_room out_room =
    is_format f or_else bad_format
    ∷ eqb (length block) (format_of f).k or_else bad_length
    ∷ all_bits block or_else bad_element
    ∷ leb (format_of f).i work_room or_else short_workspace
    ∷ leb (format_of f).n out_room or_else short_output
    ∷ []

unfoldable pub encode_number : ℕ → List ℕ → ℕ → ℕ → ℕ
encode_number f block work_room out_room = first_failed (encode_checks f block work_room out_room)

unfoldable pub encode_workspace : ℕ → List ℕ → List ℕ → List ℕ → List ℕ
encode_workspace f block work out =
    if eqb (encode_number f block (length work) (length out)) passed
    then outer (trellis_part f block) ++ drop (format_of f).i work
    else work

unfoldable pub encode_output : ℕ → List ℕ → List ℕ → List ℕ → List ℕ
encode_output f block work out =
    if eqb (encode_number f block (length work) (length out)) passed
    then codeword f block ++ drop (format_of f).n out
    else out

-- labels: the codeword is lent, and an output of so many bytes
abbrev pub labels_checks : ℕ → List ℕ → ℕ → List Check
labels_checks f codeword room =
    is_format f or_else bad_format
    ∷ eqb (length codeword) (format_of f).n or_else bad_length
    ∷ all_bits codeword or_else bad_element
    ∷ leb symbols room or_else short_output
    ∷ []

unfoldable pub labels_number : ℕ → List ℕ → ℕ → ℕ
labels_number f codeword room = first_failed (labels_checks f codeword room)

unfoldable pub labels_output : ℕ → List ℕ → List ℕ → List ℕ
labels_output f codeword out =
    if eqb (labels_number f codeword (length out)) passed
    then labels (format_of f).m codeword ++ drop symbols out
    else out
