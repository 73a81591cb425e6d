-- How many bits each register keeps, over the format: S and P of table 4-3, and N1.
use mathlib.Core.Path.{◌≡◌, refl, sym, ap, ◌∙◌}
use mathlib.Core.Bool.{Bool, true}
use mathlib.Core.List.{List, [], ◌∷◌}
use Prim.Native.Nat.{ℕ, suc, ◌+◌, ◌-◌, ◌*◌, ◌/◌, ◌%◌}
use native.Mathlib.Omega.{arith}
use borrow.Author.Tests.{eqb-true}
use lib.Dec.{eqb}
use lib.ListN.{length, get_or}
use Rattle.bits.specs.Permutation.{Permutes}
use Rattle.bits.proofs.Table.{every, below}
use Rattle.acm.specs.Formats.{formats, format_of, last_format, is_format, P, N1}
use Rattle.acm.specs.declared.table.Format.{Format}
use Rattle.acm.proofs.Laws.{format-sound, format-test}
use Rattle.puncture.specs.Puncture.{period, pattern, survives, punctured, rate_matched}
use Rattle.puncture.specs.Table42.{positions}
use Rattle.puncture.proofs.Matched.{rate_matched-length}
use Rattle.puncture.proofs.Places.{places, places-permuted, places_periods, kept-places}

-- how many of n positions a pattern keeps, repeated as it is
abbrev ones : List ℕ → ℕ → ℕ
ones pat n = places (λ i. eqb (get_or pat (i % period) 0) 1) n

-- the whole periods, the rest and the two terminating bits make up the S that table 4-3 prints
abbrev keeps-S : Format → List ℕ → Bool
keeps-S r pat = eqb (ones pat (r.i % period) + r.i / period * ones pat period + 2) r.s

tested : below (λ g. keeps-S (format_of (suc g)) (pattern (format_of (suc g)).survivors)) last_format ≡ true
unfolding format_of formats pattern positions
tested = refl

-- P as table 4-3 prints it, and for 28 to 37 table 4-1 of 004
abbrev printed-P : List ℕ
printed-P =
    7558 ∷ 5758 ∷ 4690 ∷ 3849 ∷ 3000 ∷ 1810 ∷ 7830 ∷ 8458 ∷ 5698 ∷ 4361 ∷ 3082 ∷ 1443 ∷ 7918 ∷ 6659 ∷ 5349 ∷ 3885 ∷ 2520 ∷ 8745 ∷ 7363 ∷ 5823 ∷
    4303 ∷ 2698 ∷ 9234 ∷ 7558 ∷ 6093 ∷ 4685 ∷ 3171 ∷
    7918 ∷ 6659 ∷ 5349 ∷ 3885 ∷ 2520 ∷ 7918 ∷ 6659 ∷ 5349 ∷ 3885 ∷ 2520 ∷
    []

printed-P-all : length printed-P ≡ last_format
printed-P-all = refl

-- P = I - Δ + 2, in every line
printed-P_right : every (λ g printed. eqb (P (format_of (suc g))) printed) 0 printed-P ≡ true
unfolding format_of formats
printed-P_right = refl

repeats : (S k : ℕ) → survives S (k + period) ≡ survives S k
repeats S k =
    let e : (k + period) % period ≡ k % period = omega arith in
    ap (λ (j : ℕ). eqb (get_or (pattern S) j 0) 1) e

module _ (f : ℕ) (h : is_format f ≡ true) where
  abbrev r : Format
  r = format_of f

  pub upper-length : (π : ℕ → ℕ) → Permutes r.i π → (bits : List ℕ) → length bits ≡ r.i
      → length (punctured r.survivors π bits) + 2 ≡ r.s
  upper-length π p bits e =
      let S = r.survivors in
      let test = survives S in
      let n : length (punctured S π bits) ≡ places (λ i. test (π i)) (length bits) =
      let z : 0 + length bits ≡ length bits = omega arith in
      omega (arith, kept-places (λ i. test (π i)) 0 bits, ap (places (λ i. test (π i))) z) in
      let whole : r.i % period + r.i / period * period ≡ r.i = omega arith in
      let split : places test r.i ≡ places test (r.i % period) + r.i / period * places test period =
      ap (places test) (sym whole) ∙ places_periods period test (repeats S) (r.i / period) (r.i % period) in
      let told : places test (r.i % period) + r.i / period * places test period + 2 ≡ r.s =
      eqb-true _ _ (format-test (λ f. keeps-S (format_of f) (pattern (format_of f).survivors)) tested f h) in
      ap (λ (k : ℕ). k + 2) (n ∙ ap (places (λ i. test (π i))) e ∙ places-permuted r.i π p test ∙ split) ∙ told

  pub lower-length : (bits : List ℕ) → length bits ≡ r.i → length (rate_matched r.i r.delta bits) ≡ r.i - r.delta
  lower-length bits e = rate_matched-length r.i r.delta bits (format-sound f h).deletes e

  -- with the two terminating bits of each, the registers keep N1 bits
  pub kept-total : (π : ℕ → ℕ) → Permutes r.i π → (upper lower : List ℕ) → length upper ≡ r.i → length lower ≡ r.i
      → (length (punctured r.survivors π upper) + 2) + (length (rate_matched r.i r.delta lower) + 2) ≡ N1 r
  kept-total π p upper lower eu el =
      omega (arith, upper-length π p upper eu, lower-length lower el, (format-sound f h).total)
