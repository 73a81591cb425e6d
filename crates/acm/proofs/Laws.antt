-- What holds of every format's record, from one test over all.
use mathlib.Core.Path.{◌≡◌, refl, sym, ap, subst}
use mathlib.Core.Bool.{Bool, true, false}
use mathlib.Core.List.{List, [], ◌∷◌, map}
use Prim.Native.Nat.{ℕ, zero, suc, ◌+◌, ◌-◌, ◌*◌, ◌%◌, ◌≤◌, ◌<◌}
use native.Mathlib.Omega.{arith}
use borrow.Author.Tests.{leb-true, leb-false, le-leb, ltb-true, eqb-true}
use lib.Dec.{leb, ltb, eqb, lit<}
use lib.ListN.{length, get_or, get_or-map, get_or-eq_default}
use Rattle.bits.specs.Checks.{passed, bad_format}
use Rattle.bits.proofs.Cases.{by_cases}
use Rattle.bits.proofs.Table.{left-true, right_true, every, every-at, below, below_at}
use Rattle.acm.specs.declared.table.Format.{Format}
use Rattle.acm.specs.declared.table.Row.{Row}
use Rattle.acm.specs.Formats.{M, symbols, piece_length, formats, format_of, none, last_format, last_one_stage, is_format, P, N1, hard_bits, AllSoft, most_k, most_i, most_n, Answer, answer_of, looked_up}
use Rattle.std.specs.Prelude.{Ok}
use Rattle.acm.specs.Table.{record_of}

pub record Sound (r : Format) : Type 0 where
  pub split : r.k ≡ r.k1 + r.k2
  pub outer : 2 * r.i ≡ 3 * (r.k1 + 2)
  pub even : r.k1 % 2 ≡ 0
  pub banks : r.i ≡ M * r.w
  pub labels : r.n ≡ symbols * r.m
  pub total : r.s + P r ≡ N1 r
  pub deletes : r.delta < r.i
  pub keeps : r.survivors ≤ 300
  pub least-keeps : 200 ≤ r.survivors
  pub some : 0 < r.w
  pub widest : r.w ≤ 546
  pub least-m : 2 ≤ r.m
  pub most-m : r.m ≤ 8
  pub soft-fits : r.soft ≤ r.m
  pub pieces : r.k2 ≡ piece_length * hard_bits r
  pub most_k_lem : r.k ≤ most_k

-- the same as tests, in the same order
abbrev tests : Format → List Bool
tests r =
    eqb r.k (r.k1 + r.k2)
    ∷ eqb (2 * r.i) (3 * (r.k1 + 2))
    ∷ eqb (r.k1 % 2) 0
    ∷ eqb r.i (M * r.w)
    ∷ eqb r.n (symbols * r.m)
    ∷ eqb (r.s + P r) (N1 r)
    ∷ ltb r.delta r.i
    ∷ leb r.survivors 300
    ∷ leb 200 r.survivors
    ∷ ltb 0 r.w
    ∷ leb r.w 546
    ∷ leb 2 r.m
    ∷ leb r.m 8
    ∷ leb r.soft r.m
    ∷ eqb r.k2 (piece_length * hard_bits r)
    ∷ leb r.k most_k
    ∷ []

abbrev sound : Format → Bool
sound r = every (λ i t. t) 0 (tests r)

tested : below (λ g. sound (format_of (suc g))) last_format ≡ true
unfolding format_of formats
tested = refl

-- formats are the numbers 1 to 37
pub format-low : (f : ℕ) → is_format f ≡ true → 1 ≤ f
format-low f h = leb-true 1 f (left-true (leb 1 f) (leb f last_format) h)

pub format_high : (f : ℕ) → is_format f ≡ true → f ≤ last_format
format_high f h = leb-true f last_format (right_true (leb 1 f) (leb f last_format) h)

-- a test that holds of 1 to some number holds of each of them, and one that holds of 1 to 37 of every format
numbers-test : (test : ℕ → Bool) (last : ℕ) → below (λ g. test (suc g)) last ≡ true → (f : ℕ) → 1 ≤ f → f ≤ last → test f ≡ true
numbers-test test last all f low high =
    let e : suc (f - 1) ≡ f = omega arith in
    subst (λ (g : ℕ). test g ≡ true) e (below_at (λ g. test (suc g)) last all (f - 1) (omega arith))

pub format-test : (test : ℕ → Bool) → below (λ g. test (suc g)) last_format ≡ true → (f : ℕ) → is_format f ≡ true → test f ≡ true
format-test test all f h = numbers-test test last_format all f (format-low f h) (format_high f h)

-- every format has a record, and the record's number is the place it stands at
pub one_each : length formats ≡ last_format
unfolding formats
one_each = refl

numbered : below (λ g. eqb (format_of (suc g)).number (suc g)) last_format ≡ true
unfolding format_of formats
numbered = refl

pub format-number : (f : ℕ) → is_format f ≡ true → (format_of f).number ≡ f
format-number f h = eqb-true _ _ (format-test (λ f. eqb (format_of f).number f) numbered f h)

-- up to 27 K1, K2 and the soft bits are K, 0 and m
k1_tested : below (λ g. eqb (format_of (suc g)).k1 (format_of (suc g)).k) last_one_stage ≡ true
unfolding format_of formats
k1_tested = refl

k2_tested : below (λ g. eqb (format_of (suc g)).k2 0) last_one_stage ≡ true
unfolding format_of formats
k2_tested = refl

soft-tested : below (λ g. eqb (format_of (suc g)).soft (format_of (suc g)).m) last_one_stage ≡ true
unfolding format_of formats
soft-tested = refl

pub all-soft : (f : ℕ) → is_format f ≡ true → f ≤ last_one_stage → AllSoft (format_of f)
all-soft f h few =
    let low = format-low f h in
    record {
      k1_is = eqb-true _ _ (numbers-test (λ f. eqb (format_of f).k1 (format_of f).k) last_one_stage k1_tested f low few);
      k2_is = eqb-true _ _ (numbers-test (λ f. eqb (format_of f).k2 0) last_one_stage k2_tested f low few);
      soft-is = eqb-true _ _ (numbers-test (λ f. eqb (format_of f).soft (format_of f).m) last_one_stage soft-tested f low few);
    }

-- record g of the table is that of format g + 1
pub record_at : (f : ℕ) → 1 ≤ f → get_or formats (f - 1) none ≡ format_of f
unfolding format_of
record_at f low =
    let e : f ≡ suc (f - 1) = omega arith in
    subst (λ (n : ℕ). get_or formats (f - 1) none ≡ get_or (none ∷ formats) n none) (sym e) refl

-- a record as a row; the rows of all records have each at its place
abbrev pub row_of : Format → Row
row_of r =
    record {
      number = r.number;
      m = r.m;
      k = r.k;
      i = r.i;
      w = r.w;
      n = r.n;
      k1 = r.k1;
      k2 = r.k2;
      soft = r.soft;
      survivors = r.survivors;
      s = r.s;
      delta = r.delta;
    }

pub row_at : (g : ℕ) → record_of (get_or (map row_of formats) g (row_of none)) ≡ get_or formats g none
row_at g = ap record_of (get_or-map row_of formats g none)

module _ (f : ℕ) (h : is_format f ≡ true) where
  part : (k : ℕ) → k < 16 → get_or (tests (format_of f)) k true ≡ true
  part = every-at (λ i t. t) (tests (format_of f)) true (format-test (λ f. sound (format_of f)) tested f h)

  pub format-sound : Sound (format_of f)
  format-sound =
      record {
        split = eqb-true _ _ (part 0 (lit< tt));
        outer = eqb-true _ _ (part 1 (lit< tt));
        even = eqb-true _ _ (part 2 (lit< tt));
        banks = eqb-true _ _ (part 3 (lit< tt));
        labels = eqb-true _ _ (part 4 (lit< tt));
        total = eqb-true _ _ (part 5 (lit< tt));
        deletes = ltb-true _ _ (part 6 (lit< tt));
        keeps = leb-true _ _ (part 7 (lit< tt));
        least-keeps = leb-true _ _ (part 8 (lit< tt));
        some = ltb-true _ _ (part 9 (lit< tt));
        widest = leb-true _ _ (part 10 (lit< tt));
        least-m = leb-true _ _ (part 11 (lit< tt));
        most-m = leb-true _ _ (part 12 (lit< tt));
        soft-fits = leb-true _ _ (part 13 (lit< tt));
        pieces = eqb-true _ _ (part 14 (lit< tt));
        most_k_lem = leb-true _ _ (part 15 (lit< tt));
      }

-- memory of the largest K, I and N is enough for every format
pub record Within (r : Format) : Type 0 where
  pub some : 0 < r.k
  pub most_k_lem : r.k ≤ most_k
  pub most_i_lem : r.i ≤ most_i
  pub most_n_lem : r.n ≤ most_n

pub within : (f : ℕ) → is_format f ≡ true → Within (format_of f)
within f h =
    let s = format-sound f h in
    record {
      some = omega (arith, s.split, s.outer, s.banks, s.some);
      most_k_lem = s.most_k_lem;
      most_i_lem = omega (arith, s.banks, s.widest);
      most_n_lem = omega (arith, s.labels, s.most-m);
    }

-- what the two answers of a lookup say
pub found : (f : ℕ) (r : Format) → answer_of (Ok r) ≡ looked_up f → (is_format f ≡ true) × (r ≡ format_of f)
found f r e =
    by_cases (is_format f)
    (λ t. (t, ap (λ (a : Answer). a.format) (rw t at e)))
    (λ n. absurd (number-clash (ap (λ (a : Answer). a.number) (rw n at e))))
  where
    number-clash : passed ≡ bad_format → ⊥
    number-clash q = omega arith

-- a number that is no format's has the record of zeros
pub no_record : (f : ℕ) → is_format f ≡ false → format_of f ≡ none
unfolding format_of formats
no_record zero h = refl
no_record (suc f) h =
    let high = leb-false (suc f) last_format (rw (le-leb 1 (suc f) (omega arith)) at h) in
    get_or-eq_default formats none {n = f} (omega arith)
