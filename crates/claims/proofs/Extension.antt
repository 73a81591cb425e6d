-- The trellis part depends on five numbers of a record, and one test over the formats says that a format from 28 on shares them with its twin.
use mathlib.Core.Path.{◌≡◌, refl, sym, ap, ap₂, ◌∙◌}
use mathlib.Core.Bool.{Bool, true, ◌&&◌, ◌||◌}
use mathlib.Core.List.{List, [], ◌∷◌, ◌++◌}
use Prim.Native.Nat.{ℕ, suc, ◌+◌, ◌-◌, ◌*◌, ◌/◌, ◌%◌, ◌^◌, ◌≤◌, ◌<◌}
use native.Mathlib.Omega.{arith}
use borrow.Author.Tests.{leb-true, le-leb, lt-leb, eqb-true}
use lib.Dec.{leb, eqb, lit<}
use lib.ListN.{length, get_or, replicate, length-replicate}
use lib.Seq.{get_or-append-add}
use Rattle.bits.specs.Legal.{all_bits}
use Rattle.bits.specs.Sum.{◌⊕*◌, bit}
use Rattle.bits.proofs.Legal.{legal_repeated}
use Rattle.bits.proofs.Table.{left-true, right_true, every, every-at, below}
use Rattle.acm.specs.Formats.{symbols, formats, last_format, last_one_stage, is_format, format_of, N1, hard_bits}
use Rattle.acm.specs.declared.table.Format.{Format}
use Rattle.acm.proofs.Laws.{format-sound, format-test}
use Rattle.trellis.specs.Trellis.{outer}
use Rattle.annex_c.specs.AnnexC.{size_of}
use Rattle.interleaver.specs.Interleaver.{permuted, π}
use Rattle.inner.specs.Registers.{from_outer}
use Rattle.inner.proofs.Codewords.{from_outer-length}
use Rattle.mapping.specs.Labels.{label, labels}
use Rattle.mapping.proofs.Rows.{label_at, label-first, label-last, label-front}
use Rattle.bch.specs.Bch.{coded}
use Rattle.bch.proofs.Laws.{multiples, filling}
use Rattle.pieces.proofs.Laws.{pieces-at}
use Rattle.header.specs.Descriptor.{twice, scrambling, descriptor}
use Rattle.header.proofs.Descriptor.{six_rows}
use Rattle.encoder.specs.Codeword.{trellis_part, hard_part, hard_coded, codeword}
use Rattle.encoder.proofs.Codewords.{codeword-bits, hard-long, hard-none, part-long, part_whole, one_stage}
use Rattle.claims.specs.Demand3.{Block, block_labels}
use Rattle.claims.specs.Extension.{twin, piece, Extends, Extendable, Keeps, KeepsDescriptor, Multiples, Filling, Extension}

-- what a format shares with its twin
abbrev shared : Format → Format → List Bool
shared r t =
    eqb t.k r.k1
    ∷ eqb t.i r.i
    ∷ eqb t.w r.w
    ∷ eqb t.survivors r.survivors
    ∷ eqb t.delta r.delta
    ∷ eqb t.m r.soft
    ∷ []

abbrev shares : ℕ → Bool
shares f = leb f last_one_stage || (is_format (twin f) && leb (twin f) last_one_stage && every (λ i t. t) 0 (shared (format_of f) (format_of (twin f))))

tested : below (λ g. shares (suc g)) last_format ≡ true
unfolding format_of formats
tested = refl

-- from 28 on
module _ (f : ℕ) (h : is_format f ≡ true) (high : last_one_stage < f) where
  abbrev t : ℕ
  t = twin f

  pairs : (is_format t && leb t last_one_stage && every (λ i t. t) 0 (shared (format_of f) (format_of t))) ≡ true
  pairs = rw (lt-leb f last_one_stage high) at (format-test shares tested f h)

  known : is_format t ≡ true
  known = left-true (is_format t) (leb t last_one_stage) (left-true (is_format t && leb t last_one_stage) (every (λ i t. t) 0 (shared (format_of f) (format_of t))) pairs)

  few : t ≤ last_one_stage
  few = leb-true t last_one_stage (right_true (is_format t) (leb t last_one_stage) (left-true (is_format t && leb t last_one_stage) (every (λ i t. t) 0 (shared (format_of f) (format_of t))) pairs))

  part : (k : ℕ) → k < 6 → get_or (shared (format_of f) (format_of t)) k true ≡ true
  part = every-at (λ i t. t) (shared (format_of f) (format_of t)) true (right_true (is_format t && leb t last_one_stage) (every (λ i t. t) 0 (shared (format_of f) (format_of t))) pairs)

  k-is : (format_of t).k ≡ (format_of f).k1
  k-is = eqb-true _ _ (part 0 (lit< tt))

  m-is : (format_of t).m ≡ (format_of f).soft
  m-is = eqb-true _ _ (part 5 (lit< tt))

  π-is : π t ≡ π f
  unfolding π
  π-is = ap {B = ℕ → ℕ} (λ (w : ℕ) i. permuted (size_of w).α (size_of w).β i) (eqb-true _ _ (part 2 (lit< tt)))

  from_outer-is : (kept : List ℕ) → from_outer t kept ≡ from_outer f kept
  unfolding from_outer
  from_outer-is kept =
      rw (π-is, eqb-true (format_of t).i (format_of f).i (part 1 (lit< tt)), eqb-true (format_of t).survivors (format_of f).survivors (part 3 (lit< tt)), eqb-true (format_of t).delta (format_of f).delta (part 4 (lit< tt)))

  module _ (block : List ℕ) (B : Block f block) where
    abbrev first : List ℕ
    first = from_outer f (outer (trellis_part f block))

    first-is : codeword t (trellis_part f block) ≡ first
    first-is = one_stage t known few (trellis_part f block) (part-long f h block B.long ∙ sym k-is) ∙ from_outer-is (outer (trellis_part f block))

    codeword-is : codeword f block ≡ first ++ hard_coded f block
    unfolding codeword
    codeword-is = refl

    abbrev n : ℕ
    n = hard_bits (format_of f)

    bits : all_bits (codeword f block) ≡ true
    bits = codeword-bits f h block B.bits

    first_bits_lem : (r : ℕ) → r < symbols → get_or (block_labels f block) r 0 / 2 ^ n ≡ get_or (block_labels t (trellis_part f block)) r 0
    first_bits_lem r l =
        let m : (format_of f).m ≡ n + (format_of f).soft = omega (arith, (format-sound f h).soft-fits) in
        ap (λ (x : ℕ). x / 2 ^ n) (label_at (format_of f).m (codeword f block) r l ∙ ap (λ (m : ℕ). label m (codeword f block) r) m)
        ∙ label-first n (format_of f).soft (codeword f block) r bits
        ∙ ap (λ (w : List ℕ). label (format_of f).soft w r) codeword-is
        ∙ label-front (format_of f).soft first (hard_coded f block) r l (omega (arith, from_outer-length f h (outer (trellis_part f block))))
        ∙ sym (label_at (format_of t).m (codeword t (trellis_part f block)) r l ∙ ap₂ (λ (m : ℕ) (w : List ℕ). label m w r) m-is first-is)

    columns : (j : ℕ) → j < n → (r : ℕ) → r < symbols → bit (n - suc j) (get_or (block_labels f block) r 0) ≡ get_or (coded (piece f block j)) r 0
    columns j low r l =
        let soft = (format_of f).soft in
        let m : (format_of f).m ≡ (n - suc j) + suc (soft + j) = omega (arith, (format-sound f h).soft-fits) in
        let long : length first ≡ N1 (format_of f) = from_outer-length f h (outer (trellis_part f block)) in
        let place : r + (soft + j) * symbols ≡ length first + (j * symbols + r) = omega (arith, long) in
        ap (bit (n - suc j)) (label_at (format_of f).m (codeword f block) r l ∙ ap (λ (m : ℕ). label m (codeword f block) r) m)
        ∙ ap (λ (x : ℕ). x % 2) (label-first (n - suc j) (suc (soft + j)) (codeword f block) r bits)
        ∙ label-last (soft + j) (codeword f block) r bits
        ∙ ap₂ (λ (w : List ℕ) (p : ℕ). get_or w p 0) codeword-is place
        ∙ get_or-append-add first (hard_coded f block) (j * symbols + r) 0
        ∙ pieces-at n (hard_part f block) j r (hard-long f h block B.long) low l

extends : Extends
extends f h high block B = record {
  known = known f h high;
  long = k-is f h high;
  codewords = codeword-is f h high block B ∙ ap (λ (l : List ℕ). l ++ hard_coded f block) (sym (first-is f h high block B));
  first_bits_lem = first_bits_lem f h high block B;
  columns = columns f h high block B;
}

given : (f x : ℕ) → x ≤ 1 → Block f (replicate (format_of f).k x)
given f x h = record { long = length-replicate {A = ℕ} (format_of f).k x; bits = legal_repeated 1 (format_of f).k x h }

extendable : Extendable
extendable f low high = (rw (le-leb 1 f (omega arith), le-leb f last_format high), given f 0 (omega arith), given f 1 (omega arith))

keeps : Keeps
keeps f h few block B =
    let is = one_stage f h few block B.long in
    (part_whole f h few block B.long, hard-none f h few block, is, ap (labels (format_of f).m) is)

keeps-descriptor : KeepsDescriptor
unfolding descriptor
keeps-descriptor f pilots low = ap (λ (y : List ℕ). twice y ⊕* scrambling) (six_rows f pilots (omega arith))

multiple_of_g : Multiples
multiple_of_g bits c h hc e = multiples bits h c e hc

zeros-change_nothing : Filling
zeros-change_nothing = filling

pub extension : Extension
extension = record {
  extends = extends;
  extendable = extendable;
  keeps = keeps;
  keeps-descriptor = keeps-descriptor;
  multiples = multiple_of_g;
  filling = zeros-change_nothing;
}
