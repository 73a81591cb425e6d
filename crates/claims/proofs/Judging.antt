-- A captured unit judged, from the laws of the nearest label, of the capture's text and of the counts.
use mathlib.Core.Path.{◌≡◌, refl, sym, ap, subst, ◌∙◌}
use mathlib.Core.Bool.{Bool, true}
use mathlib.Core.List.{List}
use Prim.Native.Nat.{ℕ, ◌≤◌}
use native.Mathlib.Omega.{arith}
use borrow.Author.Tests.{leb-true, le-leb, eq-eqb, ne_eqb}
use lib.Ieee.{Float, binary64, add, le, mul, of_bits, round, sub}
use lib.ListN.{length}
use Rattle.std.specs.Prelude.{None, from_bits}
use Rattle.std.proofs.lemmas.Float.{T_from_true}
use Rattle.bits.specs.Checks.{passed}
use Rattle.bits.proofs.Cases.{by_cases}
use Rattle.bits.proofs.Passed.{when_passed, when_refused}
use Rattle.bits.proofs.Table.{below_at, left-true, right_true}
use Rattle.acm.specs.Formats.{symbols}
use Rattle.waveform.specs.Waveform.{has_points, last_label}
use Rattle.constellation.specs.Points.{point_of, ten_thousandths}
use Rattle.constellation.specs.Table.{entries}
use Rattle.nearest.specs.Nearest.{distance, distance_to, nearest_label, points}
use Rattle.nearest.proofs.Laws.{Least, least_once, nearest_least}
use Rattle.samples.specs.declared.Sample.TheVariants.{Lost, Pair}
use Rattle.samples.proofs.Written.{samples_are, text_agrees}
use Rattle.capture.specs.declared.Judgement.{Judgement}
use Rattle.capture.specs.Judgement.{Answer, all_in_range, differs, is_capture, judge_number, judgement, nothing, samples_of}
use Rattle.capture.proofs.Laws.{counts_total, first-none, first-place}
use Rattle.capture.proofs.Passing.{Parts, all_of_each, each_in_range, finite_in_range, judge_passed, judge_passes, text_first}
use Rattle.capture.proofs.Repeated.{all_agree, all_differ, all_lost, judged_repeated}
use Rattle.capture.proofs.Texts.{length-samples}
use Rattle.claims.specs.Judging.{Are, point_0, Ends, Judging, Labels, Nearest, Passes, Reads, Refused, TextFirst, Told, Tells}

-- the record of the law, and back
nearest_of : (i q : Float) (label : ℕ) → Least (distance_to i q) points label → Nearest i q label
nearest_of i q label l =
    record {
      is_label = omega (arith, l.inside);
      no_nearer = λ other h. l.at_most other (omega arith);
      none_lower = l.below;
    }

least_of : (i q : Float) (label : ℕ) → Nearest i q label → Least (distance_to i q) points label
least_of i q label n =
    record {
      inside = omega (arith, n.is_label);
      at_most = λ other h. n.no_nearer other (omega arith);
      below = n.none_lower;
    }

reads : Reads
reads i q ri rq =
    let l = nearest_least i q (finite_in_range i ri) (finite_in_range q rq) in
    record {
      nearest = nearest_of i q _ l;
      only = λ label n. least_once _ points label _ (least_of i q label n) l;
    }

ends : Ends
unfolding of_bits le
ends =
    record {
      two = refl;
      minus_two = refl;
      minus_zero = refl;
      subnormal = refl;
      beyond_two = refl;
      beyond_minus_two = refl;
      infinity = refl;
      nan = refl;
    }

labels_asked : (f : ℕ) (labels capture : List ℕ) → Parts f labels capture → Labels f labels
labels_asked f labels capture p =
    record {
      least = leb-true _ _ (left-true _ _ p.known);
      most = leb-true _ _ (right_true _ _ p.known);
      long = p.long;
      legal = p.legal;
    }

points_known : (f : ℕ) → 33 ≤ f → f ≤ 37 → has_points f ≡ true
points_known f least most = rw (le-leb 33 f least, le-leb f 37 most) refl

passes_asked : Passes
passes_asked f labels capture = (
  λ e.
      let p = judge_passed f labels capture e in
      let text = (text_agrees symbols capture).0 p.whole in
      record {
        labels_pass = labels_asked f labels capture p;
        text = text;
        in-range = each_in_range text.lines (sym (ap all_in_range (samples_are symbols capture text)) ∙ p.inside);
      },
  λ a.
      let l = a.labels_pass in
      judge_passes f labels capture
      record {
        known = points_known f l.least l.most;
        long = l.long;
        legal = l.legal;
        whole = (text_agrees symbols capture).1 a.text;
        inside = ap all_in_range (samples_are symbols capture a.text) ∙ all_of_each a.text.lines a.in-range;
      },
)

text_asked_first : TextFirst
text_asked_first f labels capture l none =
    let broken = by_cases (is_capture capture) (λ t. absurd (none ((text_agrees symbols capture).0 t))) (λ e. e) in
    text_first f labels capture (points_known f l.least l.most) l.long l.legal broken

told_of : (labels capture : List ℕ) → length labels ≡ symbols → Told labels capture (judgement labels (samples_of capture))
told_of labels capture long =
    let samples = samples_of capture in
    record {
      samples = samples_are symbols capture;
      total = counts_total labels samples (long ∙ sym (length-samples symbols capture)) ∙ long;
      none = first-none differs labels samples;
      first = (λ k e.
          let p = first-place differs labels samples k e in
          record { inside = omega (arith, p.inside, long); differs_here = p.here; none-before = p.before });
    }

tells : Tells
tells f labels capture e =
    subst (Told labels capture) (when_passed (judge_number f labels capture) _ nothing e) (told_of labels capture (judge_passed f labels capture e).long)

refused_so : Refused
refused_so f labels capture n = sym (when_refused (judge_number f labels capture) _ nothing n)

-- the point of label 0, as its bits have it: no label is nearer than 0, and none is lower
abbrev x : Float
x = from_bits binary64 0xBFEE_1E4F_765F_D8AE

own : ℕ → Bool
unfolding distance point_of ten_thousandths entries of_bits round add sub mul le
own label = le (distance_to x x 0) (distance_to x x label)

is_0 : nearest_label x x ≡ 0
unfolding own of_bits le
is_0 =
    let zero : Least (distance_to x x) points 0 =
    record {
      inside = omega arith;
      at_most = λ k h. T_from_true _ (below_at own points refl k h);
      below = λ k h. absurd (omega arith);
    } in
    least_once (distance_to x x) points _ 0 (nearest_least x x (finite_in_range x refl) (finite_in_range x refl)) zero

answer : Judgement → Answer
answer j = record { number = passed; judgement = j }

are : Are
unfolding of_bits le answer
are =
    let low : 0 ≤ last_label = omega arith in
    let agree = eq-eqb (nearest_label x x) 0 is_0 in
    let differ = ne_eqb (nearest_label x x) 1 (λ e. omega (arith, e, is_0)) in
    record {
      lost = judged_repeated symbols refl 0 low None refl refl ∙ ap answer (all_lost 0 Lost symbols refl refl refl);
      agreeing = judged_repeated symbols refl 0 low point_0 refl refl ∙ ap answer (all_agree 0 (Pair x x) symbols agree (rw agree refl) refl);
      differing = judged_repeated symbols refl 1 (omega arith) point_0 refl refl ∙ ap answer (all_differ 1 (Pair x x) symbols (omega arith) differ (rw differ refl) refl);
    }

pub judging : Judging
judging =
    record {
      reads = reads;
      ends = ends;
      passes = passes_asked;
      text_first = text_asked_first;
      tells = tells;
      refused = refused_so;
      are = are;
    }
