-- A tally that goes from sample to sample comes to the counts, and to the first place that differs.
use mathlib.Core.Path.{◌≡◌, refl, sym, ap, ◌∙◌}
use mathlib.Core.Bool.{Bool, true, false, not, ◌&&◌, ◌||◌}
use mathlib.Core.List.{List, [], ◌∷◌}
use Prim.Native.Nat.{ℕ, suc, ◌+◌}
use native.Mathlib.Omega.{arith}
use lib.Dec.{eqb}
use lib.ListN.{length}
use Rattle.std.specs.Option.{option_or}
use Rattle.std.specs.Prelude.{Option, Some, None, option_map}
use Rattle.bits.proofs.Cases.{by_cases}
use Rattle.bits.proofs.Legal.{or_false}
use Rattle.nearest.specs.Nearest.{nearest_label}
use Rattle.samples.specs.declared.Sample.{Sample}
use Rattle.samples.specs.declared.Sample.TheVariants.{Lost, Pair}
use Rattle.samples.specs.Samples.{sample_in_range}
use Rattle.capture.specs.declared.Judgement.{Judgement}
use Rattle.capture.specs.declared.Tally.{Tally}
use Rattle.capture.specs.Judgement.{agrees, all_in_range, count, differs, first, is_lost, nothing}
use Rattle.capture.specs.Tally.{tallied, tally_of, total, with_sample}

abbrev pub start : Tally
start = record { judgement = nothing; outside = false }

-- from the sample at a place on
unfoldable pub gone : Tally → ℕ → List ℕ → List Sample → Tally
gone t place [] samples = t
gone t place (label ∷ labels) [] = t
gone t place (label ∷ labels) (sample ∷ samples) = gone (tallied t place label sample) (place + 1) labels samples

-- each sample counts once
pub one_more : (j : Judgement) (place label : ℕ) (sample : Sample) → total (with_sample j place label sample) ≡ total j + 1
one_more j place label Lost = omega arith
one_more j place label (Pair i q) =
    by_cases (eqb (nearest_label i q) label) (λ t. rw t (omega arith)) (λ f. rw f (omega arith))

-- what the samples from a place on add
abbrev tally : ℕ → ℕ → ℕ → Option ℕ → Bool → Tally
tally a d l f o = record { judgement = record { agreeing = a; differing = d; lost = l; first = f }; outside = o }

alike : {a a' d d' l l' : ℕ} {f f' : Option ℕ} {o o' : Bool} → a ≡ a' → d ≡ d' → l ≡ l' → f ≡ f' → o ≡ o' → tally a d l f o ≡ tally a' d' l' f' o'
alike p q r s u = rw (p, q, r, s, u) refl

abbrev added : Tally → ℕ → List ℕ → List Sample → Tally
added t place labels samples =
    let j = t.judgement in
    tally
    (j.agreeing + count agrees labels samples)
    (j.differing + count differs labels samples)
    (j.lost + count is_lost labels samples)
    (option_or j.first (option_map (λ k. place + k) (first differs labels samples)))
    (t.outside || not (all_in_range samples))

or-none : (f : Option ℕ) → option_or f None ≡ f
or-none None = refl
or-none (Some k) = refl

outside_next : (o r rest : Bool) → ((o || not r) || not rest) ≡ (o || not (r && rest))
outside_next true r rest = refl
outside_next false true rest = refl
outside_next false false rest = refl

later : (f rest : Option ℕ) (place : ℕ)
    → option_or f (option_map (λ k. place + 1 + k) rest) ≡ option_or f (option_map (λ k. place + k) (option_map suc rest))
later f None place = refl
later f (Some k) place = let e : place + 1 + k ≡ place + suc k = omega arith in rw e refl

here : (f rest : Option ℕ) (place : ℕ)
    → option_or (option_or f (Some place)) rest ≡ option_or f (Some (place + 0))
here None rest place = let e : place ≡ place + 0 = omega arith in ap Some e
here (Some k) rest place = refl

added_next : (t : Tally) (place label : ℕ) (sample : Sample) (labels : List ℕ) (samples : List Sample)
    → added (tallied t place label sample) (place + 1) labels samples ≡ added t place (label ∷ labels) (sample ∷ samples)
unfolding count first all_in_range
added_next t place label Lost labels samples =
    alike (omega arith) (omega arith) (omega arith) (later t.judgement.first (first differs labels samples) place) (outside_next t.outside true (all_in_range samples))
added_next t place label (Pair i q) labels samples =
    let out = outside_next t.outside (sample_in_range (Pair i q)) (all_in_range samples) in
    by_cases
    (eqb (nearest_label i q) label)
    (λ e. rw e (alike (omega arith) (omega arith) (omega arith) (later t.judgement.first (first differs labels samples) place) out))
    (λ e. rw e (alike (omega arith) (omega arith) (omega arith) (here t.judgement.first _ place) out))

gone_adds : (t : Tally) (place : ℕ) (labels : List ℕ) (samples : List Sample) → length labels ≡ length samples
    → gone t place labels samples ≡ added t place labels samples
unfolding gone count first all_in_range
gone_adds t place [] [] e = alike (omega arith) (omega arith) (omega arith) (sym (or-none t.judgement.first)) (sym (or_false t.outside))
gone_adds t place [] (sample ∷ samples) e = absurd (omega arith)
gone_adds t place (label ∷ labels) [] e = absurd (omega arith)
gone_adds t place (label ∷ labels) (sample ∷ samples) e =
    gone_adds (tallied t place label sample) (place + 1) labels samples (omega arith) ∙ added_next t place label sample labels samples

from_zero : (f : Option ℕ) → option_map (λ k. 0 + k) f ≡ f
from_zero None = refl
from_zero (Some k) = let e : 0 + k ≡ k = omega arith in ap Some e

pub gone_all : (labels : List ℕ) (samples : List Sample) → length labels ≡ length samples → gone start 0 labels samples ≡ tally_of labels samples
gone_all labels samples e =
    gone_adds start 0 labels samples e
    ∙ alike (omega arith) (omega arith) (omega arith) (from_zero (first differs labels samples)) refl
