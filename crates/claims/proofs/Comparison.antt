-- The laws of the comparison together; the bounds are reached by lists of one label each.
use mathlib.Core.Path.{◌≡◌, refl, sym, ap, ◌∙◌}
use mathlib.Core.Bool.{true}
use mathlib.Core.List.{List}
use Prim.Native.Nat.{ℕ, zero-le, ◌*◌, ◌^◌, ◌<◌}
use native.Mathlib.Nat.{le_refl}
use native.Mathlib.Omega.{arith}
use lib.Bits.{xor_zero_l}
use lib.Count.{ones, ones-ones}
use lib.Pow.{ones_lt, pow_mono, pow_pos}
use Rattle.bits.specs.Checks.{passed}
use Rattle.acm.specs.Formats.{symbols, is_format, format_of, top_label}
use Rattle.acm.proofs.Laws.{format-sound}
use Rattle.compare.specs.Comparison.{apart, compare_number, compared, unequal}
use Rattle.compare.proofs.Bits.{apart-xor}
use Rattle.compare.proofs.Checked.{compare_passed}
use Rattle.compare.proofs.Differing.{differing-none, first-differs, before-first}
use Rattle.compare.proofs.Laws.{compare_swap, compare_same, compare_first, compare_none, compare_least, compare_most}
use Rattle.compare.proofs.Repeated.{compare_repeated}
use Rattle.claims.specs.Comparison.{First, Tells, Reached, Comparing}
use Rattle.claims.proofs.CodedBits.{coded}

module _ (f : ℕ) (h : is_format f ≡ true) where
  abbrev m : ℕ
  m = (format_of f).m

  -- 0 and 1 are labels of every format
  one : 1 < 2 ^ m
  one = omega (arith, pow_mono {i = 1} {j = m} (omega (arith, (format-sound f h).least-m)))

  single : apart m 0 1 ≡ 1
  unfolding ones
  single = apart-xor m 0 1 (pow_pos m) one

  all : apart m 0 (top_label f) ≡ m
  all = apart-xor m 0 (top_label f) (pow_pos m) (ones_lt m) ∙ ap ones (xor_zero_l (top_label f)) ∙ ones-ones m

  reached : Reached f
  reached =
      record {
        least =
            compare_repeated f 0 1 h zero-le (omega (arith, one)) symbols refl (λ e. omega (arith, e)) ∙ ap (λ (n : ℕ). unequal n 0) (omega (arith, single));
        most =
            compare_repeated f 0 (top_label f) h zero-le (le_refl (top_label f)) symbols refl (λ e. omega (arith, e, one))
            ∙ ap (λ (n : ℕ). unequal n 0) (ap (λ (k : ℕ). symbols * k) all ∙ sym (format-sound f h).labels);
      }

first : (f : ℕ) (a b : List ℕ) → compare_number f a b ≡ passed → (a ≡ b → ⊥) → First a b (compared f a b).first
first f a b p d =
    let fits = compare_passed f a b p in
    let long = fits.long_a ∙ sym fits.long_b in
    let place = first-differs a b long (λ z. d (differing-none a b long z)) in
    rw (compare_first f a b p d)
    record { inside = rw (sym fits.long_a) place.0; differs = place.1; before = before-first a b }

tells : Tells
tells f a b p =
    record {
      same = compare_same f a b p;
      first = first f a b p;
      none = compare_none f a b p;
      least = compare_least f a b p;
      most = compare_most f a b p;
    }

pub comparing : Comparing
comparing = record { either_order = compare_swap; tells = tells; reaches = reached; coded-bits = coded }
