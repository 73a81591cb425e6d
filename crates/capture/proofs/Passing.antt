-- What the call passes, and that coordinates in range are finite.
use mathlib.Core.Path.{◌≡◌, refl}
use mathlib.Core.Bool.{true, false}
use mathlib.Core.List.{List, [], ◌∷◌, map}
use Prim.Native.Nat.{ℕ}
use borrow.Author.Tests.{eq-eqb, eqb-true}
use lib.Dec.{lit<}
use lib.Ieee.{Float, nan, inf, fin, le}
use lib.ListN.{length}
use Rattle.std.specs.List.{All}
use Rattle.std.proofs.lemmas.List.Elements.{All-head, All-tail, All-nil, All-cons}
use Rattle.bits.specs.Checks.{◌or_else◌, bad_capture, passed}
use Rattle.bits.specs.Legal.{all_at_most}
use Rattle.bits.proofs.Passed.{passes}
use Rattle.bits.proofs.Table.{left-true, right_true}
use Rattle.acm.specs.Formats.{symbols}
use Rattle.waveform.specs.Waveform.{has_points, last_label}
use Rattle.nearest.proofs.Distances.{Finite}
use Rattle.samples.specs.Samples.{number_in_range, sample_in_range}
use Rattle.samples.specs.Text.{Line, sample_of}
use Rattle.capture.specs.Judgement.{all_in_range, is_capture, judge_checks, judge_number, samples_of}

pub finite_in_range : (x : Float) → number_in_range x ≡ true → Finite x
unfolding le
finite_in_range nan t = cc
finite_in_range (inf true) t = cc
finite_in_range (inf false) t = cc
finite_in_range (fin s m e) t = Finite.number s m e

abbrev pub InRange : Line → Type 0
InRange line = sample_in_range (sample_of line) ≡ true

pub each_in_range : (lines : List Line) → all_in_range (map sample_of lines) ≡ true → All InRange lines
unfolding all_in_range
each_in_range [] t = All-nil InRange
each_in_range (line ∷ lines) t =
    All-cons InRange line lines (left-true _ _ t) (each_in_range lines (right_true (sample_in_range (sample_of line)) _ t))

pub all_of_each : (lines : List Line) → All InRange lines → all_in_range (map sample_of lines) ≡ true
unfolding all_in_range
all_of_each [] each = refl
all_of_each (line ∷ lines) each =
    rw (All-head InRange line lines each) (all_of_each lines (All-tail InRange line lines each))

module _ (f : ℕ) (labels capture : List ℕ) where
  pub record Parts : Type 0 where
    pub known : has_points f ≡ true
    pub long : length labels ≡ symbols
    pub legal : all_at_most last_label labels ≡ true
    pub whole : is_capture capture ≡ true
    pub inside : all_in_range (samples_of capture) ≡ true

  pub judge_passed : judge_number f labels capture ≡ passed → Parts
  unfolding judge_number
  judge_passed e =
      let part = passes (judge_checks f labels capture) (true or_else passed) refl e in
      record {
        known = part 0 (lit< tt);
        long = eqb-true _ _ (part 1 (lit< tt));
        legal = part 2 (lit< tt);
        whole = part 3 (lit< tt);
        inside = part 4 (lit< tt);
      }

  pub judge_passes : Parts → judge_number f labels capture ≡ passed
  unfolding judge_number
  judge_passes p = rw (p.known, eq-eqb _ _ p.long, p.legal, p.whole, p.inside) refl

  pub text_first : has_points f ≡ true → length labels ≡ symbols → all_at_most last_label labels ≡ true → is_capture capture ≡ false
      → judge_number f labels capture ≡ bad_capture
  unfolding judge_number
  text_first known long legal broken = rw (known, eq-eqb _ _ long, legal, broken) refl
