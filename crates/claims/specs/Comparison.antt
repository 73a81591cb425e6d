-- What the answer of a comparison says of two label lists.
use Rattle.std.specs.Prelude.{◌≡◌, true, List, ◌↔◌, ℕ, ◌*◌, ◌≤◌, ◌<◌, length, get_or, replicate}
use Rattle.bits.specs.Checks.{passed}
use Rattle.bits.specs.Legal.{all_bits}
use Rattle.acm.specs.Formats.{symbols, is_format, format_of, top_label}
use Rattle.mapping.specs.Labels.{labels}
use Rattle.compare.specs.Comparison.{differing, compare_number, compared, unequal}

-- the answer does not depend on the order of the lists, whatever they are
abbrev pub EitherOrder : Type 0
EitherOrder = (f : ℕ) (a b : List ℕ) → compared f a b ≡ compared f b a

-- p is the first place at which two label lists differ
pub record First (a b : List ℕ) (p : ℕ) : Type 0 where
  pub inside : p < symbols
  pub differs : get_or a p 0 ≡ get_or b p 0 → ⊥
  pub before : (k : ℕ) → k < p → get_or a k 0 ≡ get_or b k 0

-- "same" exactly if the lists are equal, else the first place that differs; a count that is 0 exactly with "same", and that is at least the number
-- of places that differ and at most m times it
pub record Told (f : ℕ) (a b : List ℕ) : Type 0 where
  pub same : ((compared f a b).same ≡ true) ↔ (a ≡ b)
  pub first : (a ≡ b → ⊥) → First a b (compared f a b).first
  pub none : ((compared f a b).count ≡ 0) ↔ ((compared f a b).same ≡ true)
  pub least : differing a b ≤ (compared f a b).count
  pub most : (compared f a b).count ≤ (format_of f).m * differing a b

-- of every comparison that passes its checks
abbrev pub Tells : Type 0
Tells = (f : ℕ) (a b : List ℕ) → compare_number f a b ≡ passed → Told f a b

-- there are such comparisons in every format, and they reach either bound: labels 0 against labels 1, a bit at each place, and against the largest,
-- all N bits
pub record Reached (f : ℕ) : Type 0 where
  pub least : compared f (replicate symbols 0) (replicate symbols 1) ≡ unequal symbols 0
  pub most : compared f (replicate symbols 0) (replicate symbols (top_label f)) ≡ unequal (format_of f).n 0

abbrev pub Reaches : Type 0
Reaches = (f : ℕ) → is_format f ≡ true → Reached f

-- of the labels of two codewords it counts the coded bits in which the codewords differ, whatever N ones and zeros they are
pub record Coded (f : ℕ) (a b : List ℕ) : Type 0 where
  pub passes : compare_number f (labels (format_of f).m a) (labels (format_of f).m b) ≡ passed
  pub counts : (compared f (labels (format_of f).m a) (labels (format_of f).m b)).count ≡ differing a b

abbrev pub CodedBits : Type 0
CodedBits =
    (f : ℕ) → is_format f ≡ true → (a b : List ℕ) → length a ≡ (format_of f).n → length b ≡ (format_of f).n → all_bits a ≡ true → all_bits b ≡ true → Coded f a b

pub record Comparing : Type 0 where
  pub either_order : EitherOrder
  pub tells : Tells
  pub reaches : Reaches
  pub coded-bits : CodedBits
