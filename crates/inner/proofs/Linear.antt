-- Linearity: the registers of a sum, and so the trellis part of its codeword, are the sums.
use mathlib.Core.Path.{◌≡◌, refl, sym, ap, ap₂, ◌∙◌}
use mathlib.Core.Bool.{Bool, true}
use mathlib.Core.List.{List, ◌++◌}
use Prim.Native.Nat.{ℕ, zero, suc, ◌+◌, ◌<◌}
use lib.ListN.{length}
use Rattle.bits.specs.Sum.{◌⊕*◌}
use Rattle.bits.proofs.Sums.{⊕*-append, ⊕*-at}
use Rattle.acm.specs.Formats.{is_format, format_of}
use Rattle.acm.proofs.Laws.{format-sound}
use Rattle.trellis.specs.Trellis.{State, zero-state, ends, parities, termination}
use Rattle.trellis.proofs.Linear.{parities-sum, termination-sum, zero-ends-sum}
use Rattle.trellis.proofs.Runs.{parities-length}
use Rattle.interleaver.specs.Interleaver.{π}
use Rattle.interleaver.proofs.Formats.{π-permutes}
use Rattle.puncture.specs.Puncture.{survives, kept_at, rate_matched}
use Rattle.puncture.proofs.Kept.{kept-sum, kept-length}
use Rattle.puncture.proofs.Matched.{rate_matched-sum, rate_matched-length}
use Rattle.inner.specs.Registers.{read_from, upper, lower, registers, interleaved, from_outer}
use Rattle.inner.proofs.Codewords.{upper_long}
use Rattle.inner.proofs.Reading.{read_length}

read-sum : (ρ : ℕ → ℕ) (a b : List ℕ) → length a ≡ length b → (i n : ℕ) → read_from ρ (a ⊕* b) i n ≡ read_from ρ a i n ⊕* read_from ρ b i n
read-sum ρ a b e i zero = refl
read-sum ρ a b e i (suc n) = rw (⊕*-at a b (ρ i) e, read-sum ρ a b e (i + 1) n)

-- the terminating bits after a run over a sum, and their parities
module _ (a b : List ℕ) (e : length a ≡ length b) where
  tail-sum : termination (ends zero-state (a ⊕* b)) ≡ termination (ends zero-state a) ⊕* termination (ends zero-state b)
  tail-sum = ap termination (zero-ends-sum a b e) ∙ termination-sum (ends zero-state a) (ends zero-state b)

  abbrev tail : List ℕ → List ℕ
  tail bits = parities (ends zero-state bits) (termination (ends zero-state bits))

  tail-parities-sum : tail (a ⊕* b) ≡ tail a ⊕* tail b
  tail-parities-sum =
      ap₂ (λ (x : State) (l : List ℕ). parities x l) (zero-ends-sum a b e) tail-sum
      ∙ parities-sum (ends zero-state a) (ends zero-state b) (termination (ends zero-state a)) (termination (ends zero-state b))

  pub upper-sum : (S : ℕ) (ρ : ℕ → ℕ) → upper S ρ (a ⊕* b) ≡ upper S ρ a ⊕* upper S ρ b
  upper-sum S ρ =
      let test : ℕ → Bool = λ i. survives S (ρ i) in
      ap₂ (λ (k l : List ℕ). k ++ l) (kept-sum test 0 a b e) tail-sum
      ∙ sym (⊕*-append (kept_at test 0 a) (kept_at test 0 b) _ _ (kept-length test 0 a b e))

  pub lower-sum : (I Δ : ℕ) → Δ < I → length a ≡ I → lower I Δ (a ⊕* b) ≡ lower I Δ a ⊕* lower I Δ b
  lower-sum I Δ d la =
      let p = parities zero-state a in
      let q = parities zero-state b in
      let long = parities-length zero-state a ∙ la in
      let long' = parities-length zero-state b ∙ sym e ∙ la in
      ap₂ (λ (k l : List ℕ). k ++ l)
      (ap (rate_matched I Δ) (parities-sum zero-state zero-state a b) ∙ rate_matched-sum I Δ p q (long ∙ sym long'))
      tail-parities-sum
      ∙ sym (⊕*-append (rate_matched I Δ p) (rate_matched I Δ q) _ _ (rate_matched-length I Δ p d long ∙ sym (rate_matched-length I Δ q d long')))

module _ (f : ℕ) (h : is_format f ≡ true) (a b : List ℕ) (e : length a ≡ length b) where
  pub from_outer-sum : from_outer f (a ⊕* b) ≡ from_outer f a ⊕* from_outer f b
  unfolding from_outer
  from_outer-sum =
      let r = format_of f in
      let A = interleaved r (π f) a in
      let B = interleaved r (π f) b in
      let la = read_length (π f) a 0 r.i in
      let lb = read_length (π f) b 0 r.i in
      let same : length A ≡ length B = la ∙ sym lb in
      let permutes = π-permutes f h in
      ap (registers r (π f)) (read-sum (π f) a b e 0 r.i)
      ∙ ap₂ (λ (k l : List ℕ). k ++ l) (upper-sum A B same r.survivors (π f)) (lower-sum A B same r.i r.delta (format-sound f h).deletes la)
      ∙ sym (⊕*-append (upper r.survivors (π f) A) (upper r.survivors (π f) B) _ _
      (upper_long f h (π f) permutes A la ∙ sym (upper_long f h (π f) permutes B lb)))
