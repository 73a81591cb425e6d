-- The number is 0 exactly if all of the checks hold of the lists.
use mathlib.Core.Path.{◌≡◌, refl}
use mathlib.Core.Bool.{true}
use mathlib.Core.List.{List}
use Prim.Native.Nat.{ℕ}
use borrow.Author.Tests.{eqb-true, eq-eqb}
use lib.Dec.{lit<}
use lib.ListN.{length}
use Rattle.bits.specs.Checks.{◌or_else◌, passed}
use Rattle.bits.specs.Legal.{all_at_most}
use Rattle.bits.proofs.Passed.{passes}
use Rattle.acm.specs.Formats.{symbols, is_format, top_label}
use Rattle.compare.specs.Comparison.{compare_checks, compare_number}

pub record ComparePassed (f : ℕ) (a b : List ℕ) : Type 0 where
  pub known : is_format f ≡ true
  pub long_a : length a ≡ symbols
  pub long_b : length b ≡ symbols
  pub legal_a : all_at_most (top_label f) a ≡ true
  pub legal_b : all_at_most (top_label f) b ≡ true

pub compare_passed : (f : ℕ) (a b : List ℕ) → compare_number f a b ≡ passed → ComparePassed f a b
unfolding compare_number
compare_passed f a b e =
    let part = passes (compare_checks f a b) (true or_else passed) refl e in
    record {
      known = part 0 (lit< tt);
      long_a = eqb-true _ _ (part 1 (lit< tt));
      long_b = eqb-true _ _ (part 2 (lit< tt));
      legal_a = part 3 (lit< tt);
      legal_b = part 4 (lit< tt);
    }

pub compare_passes : (f : ℕ) (a b : List ℕ) → ComparePassed f a b → compare_number f a b ≡ passed
unfolding compare_number
compare_passes f a b c = rw (c.known, eq-eqb _ _ c.long_a, eq-eqb _ _ c.long_b, c.legal_a, c.legal_b)
