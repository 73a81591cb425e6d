-- The codeword's trellis part: how long its registers are, that they are bits, and that it depends on the first I outer kept bits alone.
use mathlib.Core.Path.{◌≡◌, ap, ◌∙◌}
use mathlib.Core.Bool.{true}
use mathlib.Core.List.{List, ◌++◌}
use Prim.Native.Nat.{ℕ, ◌+◌}
use native.Mathlib.Omega.{arith}
use lib.ListN.{length, length-append}
use Rattle.bits.specs.Legal.{all_bits}
use Rattle.bits.specs.Permutation.{Permutes}
use Rattle.bits.proofs.Legal.{legal-append}
use Rattle.acm.specs.Formats.{is_format, format_of, N1}
use Rattle.acm.specs.declared.table.Format.{Format}
use Rattle.acm.proofs.Laws.{format-sound}
use Rattle.trellis.specs.Trellis.{zero-state, ends, parities, termination}
use Rattle.trellis.proofs.Runs.{parities-length, parities-bits, termination-bits}
use Rattle.interleaver.specs.Interleaver.{π}
use Rattle.interleaver.proofs.Formats.{π-permutes}
use Rattle.puncture.specs.Puncture.{survives, punctured, rate_matched}
use Rattle.puncture.proofs.Count as count
use Rattle.puncture.proofs.Kept.{kept-bits}
use Rattle.puncture.proofs.Matched.{rate_matched-bits}
use Rattle.inner.specs.Registers.{upper, lower, registers, interleaved, from_outer}
use Rattle.inner.proofs.Reading.{read_length, read-bits, read-front}

-- for any permutation of the positions
module _ (f : ℕ) (h : is_format f ≡ true) (ρ : ℕ → ℕ) (p : Permutes (format_of f).i ρ) (bits : List ℕ) (e : length bits ≡ (format_of f).i) where
  abbrev r : Format
  r = format_of f

  pub upper_long : length (upper r.survivors ρ bits) ≡ r.s
  upper_long =
      length-append (punctured r.survivors ρ bits) (termination (ends zero-state bits)) ∙ count.upper-length f h ρ p bits e

  pub lower_long : r.s + length (lower r.i r.delta bits) ≡ N1 r
  lower_long =
      let n = length-append (rate_matched r.i r.delta (parities zero-state bits)) (parities (ends zero-state bits) (termination (ends zero-state bits))) in
      let m = count.lower-length f h (parities zero-state bits) (parities-length zero-state bits ∙ e) in
      omega (arith, n, m, (format-sound f h).total)

module _ (f : ℕ) (h : is_format f ≡ true) where
  abbrev read : List ℕ → List ℕ
  read kept = interleaved (format_of f) (π f) kept

  read-long : (kept : List ℕ) → length (read kept) ≡ (format_of f).i
  read-long kept = read_length (π f) kept 0 (format_of f).i

  pub from_outer-length : (kept : List ℕ) → length (from_outer f kept) ≡ N1 (format_of f)
  unfolding from_outer
  from_outer-length kept =
      let r = format_of f in
      let up = upper_long f h (π f) (π-permutes f h) (read kept) (read-long kept) in
      let low = lower_long f h (π f) (π-permutes f h) (read kept) (read-long kept) in
      length-append (upper r.survivors (π f) (read kept)) (lower r.i r.delta (read kept)) ∙ omega (arith, up, low)

  pub interleaved-front : (a b : List ℕ) → length a ≡ (format_of f).i → read (a ++ b) ≡ read a
  interleaved-front a b e =
      read-front (π f) a b (format_of f).i (λ i l. omega (arith, (π-permutes f h).below i l)) 0 (format_of f).i (omega arith)

  pub from_outer-front : (a b : List ℕ) → length a ≡ (format_of f).i → from_outer f (a ++ b) ≡ from_outer f a
  unfolding from_outer
  from_outer-front a b e = ap (registers (format_of f) (π f)) (interleaved-front a b e)

  pub from_outer-bits : (kept : List ℕ) → all_bits kept ≡ true → all_bits (from_outer f kept) ≡ true
  unfolding from_outer
  from_outer-bits kept b =
      let r = format_of f in
      let bits = read kept in
      let x = ends zero-state bits in
      let up = legal-append 1 (punctured r.survivors (π f) bits) (termination x)
      (kept-bits (λ i. survives r.survivors (π f i)) 0 bits (read-bits (π f) kept b 0 r.i)) (termination-bits x) in
      let low = legal-append 1 (rate_matched r.i r.delta (parities zero-state bits)) (parities x (termination x))
      (rate_matched-bits r.i r.delta (parities zero-state bits) (parities-bits zero-state bits)) (parities-bits x (termination x)) in
      legal-append 1 (upper r.survivors (π f) bits) (lower r.i r.delta bits) up low
