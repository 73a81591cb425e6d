-- Linearity: the codeword of a sum is the sum of the codewords.
use mathlib.Core.Path.{◌≡◌, sym, ap, ap₂, ◌∙◌}
use mathlib.Core.Bool.{true}
use mathlib.Core.List.{List, ◌++◌}
use Prim.Native.Nat.{ℕ}
use lib.ListN.{length}
use Rattle.bits.specs.Legal.{all_bits}
use Rattle.bits.specs.Sum.{◌⊕*◌}
use Rattle.bits.specs.Three.{xored}
use Rattle.bits.proofs.Lists.{drop-same}
use Rattle.bits.proofs.Sums.{⊕*-append, ⊕*-length, ⊕*-take, ⊕*-drop}
use Rattle.bits.proofs.Three.{xored-bits}
use Rattle.acm.specs.Formats.{is_format, format_of, hard_bits}
use Rattle.trellis.specs.Trellis.{outer}
use Rattle.trellis.proofs.Linear.{outer-sum}
use Rattle.inner.specs.Registers.{from_outer}
use Rattle.inner.proofs.Codewords.{from_outer-length}
use Rattle.inner.proofs.Linear.{from_outer-sum}
use Rattle.pieces.specs.Pieces.{coded_pieces}
use Rattle.pieces.proofs.Laws.{pieces-sum}
use Rattle.encoder.specs.Codeword.{trellis_part, hard_part, hard_coded, codeword}
use Rattle.encoder.proofs.Codewords.{codeword-bits, part-long, outer-long}

module _ (f : ℕ) (h : is_format f ≡ true) (a b : List ℕ) (la : length a ≡ (format_of f).k) (lb : length b ≡ (format_of f).k) where
  trellis-sum : from_outer f (outer (trellis_part f (a ⊕* b))) ≡ from_outer f (outer (trellis_part f a)) ⊕* from_outer f (outer (trellis_part f b))
  trellis-sum =
      let p = trellis_part f a in
      let q = trellis_part f b in
      ap (λ (l : List ℕ). from_outer f (outer l)) (⊕*-take (format_of f).k1 a b)
      ∙ ap (from_outer f) (outer-sum p q (part-long f h a la ∙ sym (part-long f h b lb)))
      ∙ from_outer-sum f h (outer p) (outer q) (outer-long f h a la ∙ sym (outer-long f h b lb))

  hard-sum : hard_coded f (a ⊕* b) ≡ hard_coded f a ⊕* hard_coded f b
  hard-sum =
      let n = hard_bits (format_of f) in
      ap (coded_pieces n) (⊕*-drop (format_of f).k1 a b (la ∙ sym lb))
      ∙ pieces-sum n (hard_part f a) (hard_part f b) (drop-same (format_of f).k1 a b (la ∙ sym lb))

  pub codeword-sum : codeword f (a ⊕* b) ≡ codeword f a ⊕* codeword f b
  unfolding codeword
  codeword-sum =
      let first = from_outer f (outer (trellis_part f a)) in
      let other = from_outer f (outer (trellis_part f b)) in
      ap₂ (λ (k l : List ℕ). k ++ l) trellis-sum hard-sum
      ∙ sym (⊕*-append first other (hard_coded f a) (hard_coded f b) (from_outer-length f h (outer (trellis_part f a)) ∙ sym (from_outer-length f h (outer (trellis_part f b)))))

-- the codeword of the exclusive or of three blocks
pub codeword-xored : (f : ℕ) → is_format f ≡ true → (a b c : List ℕ) → length a ≡ (format_of f).k → length b ≡ (format_of f).k → length c ≡ (format_of f).k
    → all_bits a ≡ true → all_bits b ≡ true → all_bits c ≡ true → codeword f (xored a b c) ≡ xored (codeword f a) (codeword f b) (codeword f c)
codeword-xored f h a b c la lb lc ha hb hc =
    ap (codeword f) (xored-bits a b c ha hb hc)
    ∙ codeword-sum f h (a ⊕* b) c (⊕*-length a b (la ∙ sym lb) ∙ la) lc
    ∙ ap (λ (l : List ℕ). l ⊕* codeword f c) (codeword-sum f h a b la lb)
    ∙ sym (xored-bits (codeword f a) (codeword f b) (codeword f c) (codeword-bits f h a ha) (codeword-bits f h b hb) (codeword-bits f h c hc))
