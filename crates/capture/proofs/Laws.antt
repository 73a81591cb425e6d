-- What a judgement says: the counts total the samples, and the first place is that of the first sample that differs, if one does.
use mathlib.Core.Path.{◌≡◌, refl, ap}
use mathlib.Core.Bool.{Bool, true, false}
use mathlib.Core.List.{List, [], ◌∷◌}
use mathlib.Core.Logic.{◌↔◌}
use Prim.Native.Nat.{ℕ, zero, suc, ◌+◌, ◌<◌}
use native.Mathlib.Omega.{arith}
use lib.Dec.{eqb}
use lib.ListN.{length, get_or, replicate}
use Rattle.std.specs.Prelude.{Option, Some, None, if◌then◌else◌, option_map}
use Rattle.bits.proofs.Cases.{by_cases}
use Rattle.nearest.specs.Nearest.{nearest_label}
use Rattle.samples.specs.declared.Sample.{Sample}
use Rattle.samples.specs.declared.Sample.TheVariants.{Lost, Pair}
use Rattle.samples.specs.Samples.{sample_in_range}
use Rattle.capture.specs.Judgement.{agrees, all_in_range, count, differs, first, is_lost}

later : (rest : Option ℕ) (k : ℕ) → option_map suc rest ≡ Some k → (j : ℕ) × (rest ≡ Some j) × (suc j ≡ k)
later None k e = cc
later (Some j) k e = let is : suc j ≡ k = cc in (j, refl, is)

-- a sample agrees, differs or is lost, and is no two of these
one_of : (label : ℕ) (sample : Sample)
    → (if agrees label sample then 1 else 0) + (if differs label sample then 1 else 0) + (if is_lost label sample then 1 else 0) ≡ 1
one_of label Lost = refl
one_of label (Pair i q) = by_cases (eqb (nearest_label i q) label) (λ t. rw t refl) (λ f. rw f refl)

pub counts_total : (labels : List ℕ) (samples : List Sample) → length labels ≡ length samples
    → count agrees labels samples + count differs labels samples + count is_lost labels samples ≡ length labels
unfolding count
counts_total [] samples e = refl
counts_total (label ∷ labels) [] e = absurd (omega arith)
counts_total (label ∷ labels) (sample ∷ samples) e = omega (arith, one_of label sample, counts_total labels samples (omega arith))

module _ (test : ℕ → Sample → Bool) where
  pub first-none : (labels : List ℕ) (samples : List Sample) → (first test labels samples ≡ None) ↔ (count test labels samples ≡ 0)
  unfolding first count
  first-none [] samples = (λ e. refl, λ e. refl)
  first-none (label ∷ labels) [] = (λ e. refl, λ e. refl)
  first-none (label ∷ labels) (sample ∷ samples) =
      let rest = first-none labels samples in
      by_cases
      (test label sample)
      (λ t. rw t (λ e. cc, λ e. absurd (omega (arith, e))))
      (λ f.
      rw f (
        λ e. omega (arith, rest.0 (suc-none (first test labels samples) e)),
        λ e. ap (option_map suc) (rest.1 (omega (arith, e))),
      ))
    where
      suc-none : (k : Option ℕ) → option_map suc k ≡ None → k ≡ None
      suc-none None e = refl
      suc-none (Some k) e = cc

  -- the place, and that none before it is so
  pub record Place (labels : List ℕ) (samples : List Sample) (k : ℕ) : Type 0 where
    pub inside : k < length labels
    pub here : test (get_or labels k 0) (get_or samples k Lost) ≡ true
    pub before : (j : ℕ) → j < k → test (get_or labels j 0) (get_or samples j Lost) ≡ false

  place_behind : (label : ℕ) (labels : List ℕ) (sample : Sample) (samples : List Sample) (k : ℕ) → test label sample ≡ false → Place labels samples k
      → Place (label ∷ labels) (sample ∷ samples) (suc k)
  place_behind label labels sample samples k f p = record { inside = omega (arith, p.inside); here = p.here; before = earlier }
    where
      earlier : (j : ℕ) → j < suc k → test (get_or (label ∷ labels) j 0) (get_or (sample ∷ samples) j Lost) ≡ false
      earlier zero h = f
      earlier (suc j) h = p.before j (omega arith)

  pub first-place : (labels : List ℕ) (samples : List Sample) (k : ℕ) → first test labels samples ≡ Some k → Place labels samples k
  unfolding first
  first-place [] samples k e = cc
  first-place (label ∷ labels) [] k e = cc
  first-place (label ∷ labels) (sample ∷ samples) k e =
      by_cases
      (test label sample)
      (λ t.
      let e' : Some 0 ≡ Some k = rw t at e in
      let is : 0 ≡ k = cc in
      rw (← is) (record { inside = omega arith; here = t; before = (λ j h. absurd (omega arith)) }))
      (λ f.
      let (j, found, next) = later (first test labels samples) k (rw f at e) in
      rw (← next) (place_behind label labels sample samples j f (first-place labels samples j found)))

-- one label and one sample, repeated
module _ (test : ℕ → Sample → Bool) (label : ℕ) (sample : Sample) where
  pub count_each : (n : ℕ) → test label sample ≡ true → count test (replicate n label) (replicate n sample) ≡ n
  unfolding count
  count_each zero t = refl
  count_each (suc n) t = rw t (omega (arith, count_each n t))

  pub count_none : (n : ℕ) → test label sample ≡ false → count test (replicate n label) (replicate n sample) ≡ 0
  unfolding count
  count_none zero f = refl
  count_none (suc n) f = rw f (omega (arith, count_none n f))

pub repeated_in_range : (n : ℕ) (sample : Sample) → sample_in_range sample ≡ true → all_in_range (replicate n sample) ≡ true
unfolding all_in_range
repeated_in_range zero sample t = refl
repeated_in_range (suc n) sample t = rw t (repeated_in_range n sample t)
