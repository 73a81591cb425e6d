-- Two lists of one label each, repeated: every place differs, in as many bits.
use mathlib.Core.Path.{◌≡◌, refl, ◌∙◌}
use mathlib.Core.Bool.{true}
use Prim.Native.Nat.{ℕ, zero, suc, ◌*◌, ◌≤◌}
use native.Mathlib.Omega.{arith}
use borrow.Author.Tests.{eq-eqb, ne_eqb}
use lib.ListN.{replicate, length-replicate}
use Rattle.bits.specs.Checks.{passed}
use Rattle.bits.proofs.Legal.{legal_repeated}
use Rattle.acm.specs.Formats.{symbols, is_format, format_of, top_label}
use Rattle.compare.specs.Comparison.{differing, apart, differing_bits, first_place, compare_number, compared, unequal}
use Rattle.compare.proofs.Checked.{compare_passes}

bits_repeated : (n m x y : ℕ) → differing_bits m (replicate n x) (replicate n y) ≡ n * apart m x y
unfolding differing_bits
bits_repeated zero m x y = omega arith
bits_repeated (suc n) m x y = omega (arith, bits_repeated n m x y)

module _ (x y : ℕ) (d : x ≡ y → ⊥) where
  places_repeated : (n : ℕ) → differing (replicate n x) (replicate n y) ≡ n
  unfolding differing
  places_repeated zero = refl
  places_repeated (suc n) = rw (ne_eqb x y d) (omega (arith, places_repeated n))

  first_repeated : (n : ℕ) → first_place (replicate n x) (replicate n y) ≡ 0
  unfolding first_place
  first_repeated zero = refl
  first_repeated (suc n) = rw (ne_eqb x y d)

module _ (f x y : ℕ) (h : is_format f ≡ true) (hx : x ≤ top_label f) (hy : y ≤ top_label f) (n : ℕ) (e : n ≡ symbols) where
  passes : compare_number f (replicate n x) (replicate n y) ≡ passed
  passes =
      compare_passes f _ _
      record {
        known = h;
        long_a = length-replicate n x ∙ e;
        long_b = length-replicate n y ∙ e;
        legal_a = legal_repeated (top_label f) n x hx;
        legal_b = legal_repeated (top_label f) n y hy;
      }

  pub compare_repeated : (x ≡ y → ⊥) → compared f (replicate n x) (replicate n y) ≡ unequal (n * apart (format_of f).m x y) 0
  compare_repeated d =
      let some : n ≡ 0 → ⊥ = λ z. omega (arith, e) in
      rw
      (eq-eqb _ _ passes, places_repeated x y d n, ne_eqb n 0 some, bits_repeated n (format_of f).m x y, first_repeated x y d n)
