-- The block of a pattern has K bits, and the ones of a list are no more than its elements.
use mathlib.Core.Path.{◌≡◌, refl, ap, ◌∙◌}
use mathlib.Core.Bool.{true}
use mathlib.Core.List.{List, [], ◌∷◌}
use Prim.Native.Nat.{ℕ, zero, suc, ◌+◌, ◌≤◌, ◌<◌}
use native.Mathlib.Omega.{arith}
use borrow.Author.Tests.{le-leb, eq-eqb}
use lib.Dec.{eqb}
use lib.ListN.{length, take, set, replicate, length-replicate, length-set}
use lib.Seq.{length-take-le, take_at}
use Rattle.std.specs.Prelude.{cond, count_by, ◌==◌, Result, Ok, Err, IsOk}
use Rattle.std.proofs.lemmas.List.Sums.{sum_by-cons}
use Rattle.bits.specs.Checks.{number_of, passed}
use Rattle.bits.specs.declared.checks.Refusal.{Refusal}
use Rattle.bits.specs.Legal.{all_bits}
use Rattle.bits.proofs.Cases.{by_cases}
use Rattle.bits.proofs.Legal.{legal_repeated}
use Rattle.bits.proofs.Refusals.{not_passed}
use Rattle.acm.specs.Formats.{is_format, format_of}
use Rattle.acm.specs.declared.table.Format.{Format}
use Rattle.acm.proofs.Laws.{within}
use Rattle.encoder.specs.Calls.{encode_number, encode_output}
use Rattle.encoder.specs.Codeword.{codeword}
use Rattle.encoder.proofs.Codewords.{codeword-length}
use Rattle.row.specs.Row.{block, ones}

single-bits : (n : ℕ) → all_bits (set (replicate n 0) 0 1) ≡ true
single-bits zero = refl
single-bits (suc n) = legal_repeated 1 n 0 (omega arith)

pub block-length : (p K : ℕ) → length (block p K) ≡ K
unfolding block
block-length p K =
    by_cases (eqb p 0)
    (λ t. rw t (length-replicate K 0))
    (λ f.
    by_cases (eqb p 1)
    (λ t. rw (f, t) (length-replicate K 1))
    (λ g. rw (f, g) (length-set (replicate K 0) 0 1 ∙ length-replicate K 0)))

pub block-bits : (p K : ℕ) → all_bits (block p K) ≡ true
unfolding block
block-bits p K =
    by_cases (eqb p 0)
    (λ t. rw t (legal_repeated 1 K 0 (omega arith)))
    (λ f. by_cases (eqb p 1) (λ t. rw (f, t) (legal_repeated 1 K 1 (omega arith))) (λ g. rw (f, g) (single-bits K)))

pub ones-most : (bits : List ℕ) → ones bits ≤ length bits
unfolding ones
ones-most [] = omega arith
ones-most (b ∷ bits) =
    by_cases (eqb b 1) (λ t. rw t (omega (arith, ones-most bits))) (λ f. rw f (omega (arith, ones-most bits)))

-- they are as many as std counts
pub ones-counted : (bits : List ℕ) → count_by (λ b. b == 1) bits ≡ ones bits
unfolding ones
ones-counted [] = refl
ones-counted (b ∷ bits) =
    sum_by-cons (λ c. cond (c == 1) 1 0) b bits ∙ ap (λ (n : ℕ). cond (b == 1) 1 0 + n) (ones-counted bits)

-- a pattern's block is put to the front of memory that may be longer
module _ (f : ℕ) (memory : List ℕ) (room : (format_of f).k ≤ length memory) {r : Format} (is : r ≡ format_of f) where
  pub some-room : is_format f ≡ true → 0 < length (take r.k memory)
  some-room h = rw (is, length-take-le (format_of f).k memory room) (within f h).some

  pub block-put : (p : ℕ) {filled : List ℕ} → filled ≡ block p (length (take r.k memory)) → filled ≡ block p (format_of f).k
  block-put p put = put ∙ rw (is, length-take-le (format_of f).k memory room)

-- and is encoded, in memory that is long enough
module _ (f : ℕ) (h : is_format f ≡ true) (p : ℕ) (work out lent : List ℕ) (work-room : (format_of f).i ≤ length work) (out-room : (format_of f).n ≤ length out)
    (put : lent ≡ block p (format_of f).k) where
  passes : encode_number f lent (length work) (length out) ≡ passed
  unfolding encode_number
  passes =
      rw (put, h, eq-eqb _ _ (block-length p (format_of f).k), block-bits p (format_of f).k, le-leb _ _ work-room, le-leb _ _ out-room)

  pub answer-ok : (answer : Result Unit Refusal) → number_of answer ≡ encode_number f lent (length work) (length out) → IsOk answer
  answer-ok (Ok done) e = refl
  answer-ok (Err refusal) e = absurd (not_passed refusal (e ∙ passes))

  pub ones-of_output : {output : List ℕ} {n : ℕ} → output ≡ encode_output f lent work out → n ≡ (format_of f).n
      → count_by (λ b. b == 1) (take n output) ≡ ones (codeword f (block p (format_of f).k))
  unfolding encode_output
  ones-of_output {output} {n} e is =
      let code : take n output ≡ codeword f (block p (format_of f).k) = rw (is, e, eq-eqb _ _ passes, put) (take_at _ _ _ (codeword-length f h (block p (format_of f).k) (block-length p (format_of f).k))) in
      ones-counted (take n output) ∙ ap ones code
