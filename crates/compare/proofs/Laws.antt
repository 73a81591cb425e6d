-- What a comparison says: "same" exactly of equal lists, the same either way round, and a count of bits that is 0 exactly with "same".
use mathlib.Core.Path.{◌≡◌, refl, sym, ap, ◌∙◌}
use mathlib.Core.Bool.{Bool, true, false, false≢true}
use mathlib.Core.List.{List}
use mathlib.Core.Logic.{◌↔◌}
use Prim.Native.Nat.{ℕ, ◌*◌, ◌≤◌}
use native.Mathlib.Omega.{arith}
use borrow.Author.Tests.{eqb-true, eq-eqb, ne_eqb}
use lib.Dec.{eqb}
use lib.ListN.{length}
use Rattle.bits.specs.Checks.{passed, bad_length, bad_element}
use Rattle.std.specs.Prelude.{if◌then◌else◌}
use Rattle.bits.specs.Legal.{all_at_most}
use Rattle.bits.proofs.Cases.{by_cases}
use Rattle.acm.specs.Formats.{symbols, format_of, top_label}
use Rattle.acm.proofs.Laws.{format-sound}
use Rattle.compare.specs.Comparison.{compare_number, compared, differing, differing_bits, first_place, equal}
use Rattle.compare.proofs.Bits.{bits_width, bits_swap, bits-least, bits_most}
use Rattle.compare.proofs.Checked.{ComparePassed, compare_passed}
use Rattle.compare.proofs.Differing.{differing_self, differing-none, differing_swap, first_swap}

-- two checks of one number in either order
checks_swap : (s t : Bool) (n others : ℕ) → (if s then (if t then others else n) else n) ≡ (if t then (if s then others else n) else n)
checks_swap true t n others = refl
checks_swap false true n others = refl
checks_swap false false n others = refl

pub number_swap : (f : ℕ) (a b : List ℕ) → compare_number f a b ≡ compare_number f b a
unfolding compare_number
number_swap f a b =
    rw
    (checks_swap (all_at_most (top_label f) a) (all_at_most (top_label f) b) bad_element passed, checks_swap (eqb (length a) symbols) (eqb (length b) symbols) bad_length _)

-- the same answer either way round
pub compare_swap : (f : ℕ) (a b : List ℕ) → compared f a b ≡ compared f b a
compare_swap f a b = rw (number_swap f a b, differing_swap a b, bits_swap (format_of f).m a b, first_swap a b)

-- a list and itself are the same
pub compare_self : (f : ℕ) (a : List ℕ) → compare_number f a a ≡ passed → compared f a a ≡ equal
compare_self f a p = rw (eq-eqb (compare_number f a a) passed p, differing_self a)

module _ (f : ℕ) (a b : List ℕ) (p : compare_number f a b ≡ passed) where
  abbrev m : ℕ
  m = (format_of f).m

  fits : ComparePassed f a b
  fits = compare_passed f a b p

  done : eqb (compare_number f a b) passed ≡ true
  done = eq-eqb (compare_number f a b) passed p

  -- "same" is said of lists that differ nowhere, and so of equal lists alone
  nowhere : ((compared f a b).same ≡ true) ↔ (differing a b ≡ 0)
  nowhere = (
    (λ s. by_cases (eqb (differing a b) 0) (eqb-true (differing a b) 0) (λ n. absurd (false≢true (rw (done, n) at s)))),
    (λ z. rw (done, eq-eqb (differing a b) 0 z)),
  )

  pub compare_same : ((compared f a b).same ≡ true) ↔ (a ≡ b)
  compare_same = (
    (λ s. differing-none a b (fits.long_a ∙ sym fits.long_b) (nowhere.0 s)),
    (λ e. nowhere.1 (ap (differing a) (sym e) ∙ differing_self a)),
  )

  pub compare_first : (a ≡ b → ⊥) → (compared f a b).first ≡ first_place a b
  compare_first d = rw (done, ne_eqb (differing a b) 0 (λ z. d (compare_same.0 (nowhere.1 z))))

  -- the bits that differ, and those of whole bytes, which the code counts
  pub byte_bits : differing_bits 8 a b ≡ differing_bits m a b
  byte_bits = sym (bits_width m 8 (omega (arith, (format-sound f fits.known).most-m)) a b fits.legal_a fits.legal_b)

  least : differing a b ≤ differing_bits m a b
  least = bits-least m a b fits.legal_a fits.legal_b

  pub no_bits : (differing_bits m a b ≡ 0) ↔ (differing a b ≡ 0)
  no_bits = ((λ z. omega (arith, least)), (λ z. omega (arith, rw z at (bits_most m a b))))

  -- they are the count, which is 0 exactly with "same", and no less than the places that differ and no more than m times these
  pub compare_bits : (compared f a b).count ≡ differing_bits m a b
  compare_bits =
      by_cases (eqb (differing a b) 0)
      (λ t. rw (done, t) (sym (no_bits.1 (eqb-true (differing a b) 0 t))))
      (λ n. rw (done, n))

  pub compare_none : ((compared f a b).count ≡ 0) ↔ ((compared f a b).same ≡ true)
  compare_none = ((λ z. nowhere.1 (no_bits.0 (sym compare_bits ∙ z))), (λ s. compare_bits ∙ no_bits.1 (nowhere.0 s)))

  pub compare_least : differing a b ≤ (compared f a b).count
  compare_least = rw compare_bits least

  pub compare_most : (compared f a b).count ≤ m * differing a b
  compare_most = rw compare_bits (bits_most m a b)
