-- The points of symbols (document 02, L12): those of table 5-2 of 004, turned by the physical-layer randomizer where there is a code number.
use Rattle.std.specs.Prelude.{Bool, ◌&&◌, List, [], ◌∷◌, ◌++◌, ℕ, ◌+◌, ◌*◌, eqb, leb, ltb, length, drop, if◌then◌else◌, Option, Some, None, Result, Ok, Err}
use Rattle.std.specs.Float.{Float, float_zero}
use Rattle.bits.specs.Checks.{Check, ◌or_else◌, first_failed, check_number, passed, bad_format, bad_element, short_output, bad_place, bad_code}
use Rattle.bits.specs.Legal.{all_at_most}
use Rattle.bits.specs.declared.checks.Refusal.{Refusal}
use Rattle.constellation.specs.declared.Point.{Point}
use Rattle.constellation.specs.Points.{point, point_of, turned}
use Rattle.gold.specs.Gold.{R}
use Rattle.scrambling.specs.Code.{code_legal}

-- the formats whose labels are points of the table
abbrev pub has_points : ℕ → Bool
has_points f = leb 33 f && leb f 37

abbrev pub last_label : ℕ
last_label = 255

-- Places behind the header. Annex E counts to 133,440, and document 02 goes on to 133,759.
abbrev pub places : ℕ
places = 133760

-- a point as the symbol at the place i is sent
abbrev pub scrambled : Option ℕ → ℕ → Point → Point
scrambled None i p = p
scrambled (Some n) i p = turned (R n i) p

abbrev pub symbol_point : Option ℕ → ℕ → ℕ → Point
symbol_point code i slot = scrambled code i (point_of slot)

-- point: one symbol's
abbrev pub point_checks : ℕ → ℕ → Option ℕ → ℕ → List Check
point_checks f slot code i =
    has_points f or_else bad_format
    ∷ leb slot last_label or_else bad_element
    ∷ code_legal code or_else bad_code
    ∷ ltb i places or_else bad_place
    ∷ []

unfoldable pub point_number : ℕ → ℕ → Option ℕ → ℕ → ℕ
point_number f slot code i = first_failed (point_checks f slot code i)

-- an answer in numbers: a refusal has +0.0 in both coordinates
pub record Answer : Type 0 where
  pub number : ℕ
  pub point : Point

abbrev pub origin : Point
origin = point float_zero float_zero

abbrev pub answer_of : Result Point Refusal → Answer
answer_of (Ok p) = record { number = passed; point = p }
answer_of (Err refusal) = record { number = check_number refusal; point = origin }

abbrev pub pointed : ℕ → ℕ → Option ℕ → ℕ → Answer
pointed f slot code i =
    let number = point_number f slot code i in
    record { number = number; point = if eqb number passed then symbol_point code i slot else origin }

-- points: those of symbols in a row, the first at the place i; of each its coordinates, in-phase and quadrature
unfoldable pub coordinates : Option ℕ → ℕ → List ℕ → List Float
coordinates code i [] = []
coordinates code i (slot ∷ slots) =
    let p = symbol_point code i slot in
    p.i ∷ p.q ∷ coordinates code (i + 1) slots

abbrev pub points_checks : ℕ → List ℕ → Option ℕ → ℕ → ℕ → List Check
points_checks f slots code i room =
    has_points f or_else bad_format
    ∷ all_at_most last_label slots or_else bad_element
    ∷ code_legal code or_else bad_code
    ∷ leb (i + length slots) places or_else bad_place
    ∷ leb (2 * length slots) room or_else short_output
    ∷ []

unfoldable pub points_number : ℕ → List ℕ → Option ℕ → ℕ → ℕ → ℕ
points_number f slots code i room = first_failed (points_checks f slots code i room)

unfoldable pub points_output : ℕ → List ℕ → Option ℕ → ℕ → List Float → List Float
points_output f slots code i out =
    if eqb (points_number f slots code i (length out)) passed
    then coordinates code i slots ++ drop (2 * length slots) out
    else out
