-- In a format the registers fit at the start, whole, and what is written at the front of an output is the codeword's trellis part.
use mathlib.Core.Path.{◌≡◌, ap, ◌∙◌}
use mathlib.Core.Bool.{true}
use mathlib.Core.List.{List, ◌++◌}
use Prim.Native.Nat.{ℕ, ◌≤◌}
use native.Mathlib.Nat.{zero-add}
use native.Mathlib.Omega.{arith}
use lib.ListN.{length, drop}
use lib.Seq.{sets}
use Rattle.bits.proofs.Fill.{sets-front}
use Rattle.acm.specs.Formats.{is_format, format_of, N1}
use Rattle.acm.proofs.Laws.{format-sound}
use Rattle.interleaver.specs.Interleaver.{π}
use Rattle.interleaver.proofs.Formats.{π-permutes}
use Rattle.inner.specs.Left.{starting, Fits}
use Rattle.inner.specs.Registers.{interleaved, from_outer}
use Rattle.inner.proofs.Codewords.{upper_long, lower_long, from_outer-length}
use Rattle.inner.proofs.Reading.{read_length, reads_all}
use Rattle.inner.proofs.Turns.{lower_start}

module _ (f : ℕ) (h : is_format f ≡ true) where
  -- at the start both registers are left whole
  pub fits_whole : (work : List ℕ) → Fits (format_of f) (π f) work 0 (starting (format_of f))
  fits_whole work =
      let bits = interleaved (format_of f) (π f) work in
      let long = read_length (π f) work 0 (format_of f).i in
      let d = (format-sound f h).deletes in
      record {
        upper-ends = rw (reads_all (π f) work (format_of f).i) (zero-add _ ∙ upper_long f h (π f) (π-permutes f h) bits long);
        lower-ends = rw (reads_all (π f) work (format_of f).i, ← lower_start (format_of f).i (format_of f).delta bits (omega (arith, d))) (lower_long f h (π f) (π-permutes f h) bits long);
        apart = omega arith;
        counter_low = d;
      }

  pub front-written : (work out : List ℕ) → N1 (format_of f) ≤ length out → sets out 0 (from_outer f work) ≡ from_outer f work ++ drop (N1 (format_of f)) out
  front-written work out ho =
      let n = from_outer-length f h work in
      sets-front (from_outer f work) out (omega (arith, n)) ∙ ap (λ (k : ℕ). from_outer f work ++ drop k out) n
