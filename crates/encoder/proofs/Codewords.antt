-- The codeword of a block: how long it and its parts are, that they are bits, and how it is written.
use mathlib.Core.Path.{◌≡◌, sym, ap, ap₂, ◌∙◌}
use mathlib.Core.Bool.{true}
use mathlib.Core.List.{List, [], ◌++◌, append-nil, append_assoc}
use Prim.Native.Nat.{ℕ, ◌+◌, ◌*◌, ◌%◌, ◌≤◌}
use native.Mathlib.Omega.{arith}
use lib.ListN.{length, take, drop, length-append, length-drop}
use lib.Seq.{sets, sets-eq, drop_at, length-take-le, take_all}
use Rattle.bits.specs.Legal.{all_bits}
use Rattle.bits.proofs.Legal.{legal-take, legal-drop, legal-append}
use Rattle.acm.specs.Formats.{piece_length, last_one_stage, is_format, format_of, N1, hard_bits}
use Rattle.acm.specs.declared.table.Format.{Format}
use Rattle.acm.proofs.Laws.{format-sound, all-soft}
use Rattle.trellis.specs.Trellis.{outer}
use Rattle.trellis.proofs.Outer.{outer-length, outer-bits}
use Rattle.inner.specs.Registers.{from_outer}
use Rattle.inner.proofs.Codewords.{from_outer-length, from_outer-front, from_outer-bits}
use Rattle.pieces.proofs.Laws.{pieces-length, pieces-bits}
use Rattle.encoder.specs.Codeword.{trellis_part, hard_part, hard_coded, codeword}

-- the trellis part of a block, as it is lent by the format's record
pub lent_is : (f : ℕ) (block : List ℕ) {r : Format} → r ≡ format_of f → take r.k1 block ≡ trellis_part f block
lent_is f block is = ap (λ (r : Format). take r.k1 block) is

pub part-bits : (f : ℕ) (block : List ℕ) → all_bits block ≡ true → all_bits (trellis_part f block) ≡ true
part-bits f block b = legal-take 1 (format_of f).k1 block b

module _ (f : ℕ) (h : is_format f ≡ true) where
  pub trellis-room : {room : ℕ} → (format_of f).n ≤ room → N1 (format_of f) ≤ room
  trellis-room fits = omega (arith, (format-sound f h).soft-fits, (format-sound f h).labels)

  pub codeword-bits : (block : List ℕ) → all_bits block ≡ true → all_bits (codeword f block) ≡ true
  unfolding codeword
  codeword-bits block b =
      let part = trellis_part f block in
      legal-append 1 (from_outer f (outer part)) (hard_coded f block)
      (from_outer-bits f h (outer part) (outer-bits part (part-bits f block b)))
      (pieces-bits (hard_bits (format_of f)) (hard_part f block) (legal-drop 1 (format_of f).k1 block b))

  -- of a block of K bits
  module _ (block : List ℕ) (e : length block ≡ (format_of f).k) where
    pub part-long : length (trellis_part f block) ≡ (format_of f).k1
    part-long = length-take-le (format_of f).k1 block (omega (arith, (format-sound f h).split))

    pub part-even : length (trellis_part f block) % 2 ≡ 0
    part-even = omega (arith, part-long, (format-sound f h).even)

    pub lent_long : {r : Format} → r ≡ format_of f → length (take r.k1 block) ≡ r.k1
    lent_long is = rw is part-long

    -- its outer kept bits
    pub outer-long : length (outer (trellis_part f block)) ≡ (format_of f).i
    outer-long = omega (arith, outer-length (trellis_part f block) part-even, part-long, (format-sound f h).outer)

    -- the workspace as it is written, by the record at hand
    pub work-written : (work : List ℕ) {r : Format} → r ≡ format_of f
        → outer (take r.k1 block) ++ drop (length (outer (take r.k1 block))) work ≡ outer (trellis_part f block) ++ drop (format_of f).i work
    work-written work is = rw (is, outer-long)

    -- its pieces, and their codewords
    pub hard-long : length (hard_part f block) ≡ piece_length * hard_bits (format_of f)
    hard-long = length-drop (format_of f).k1 block ∙ omega (arith, (format-sound f h).split, (format-sound f h).pieces)

    pub both_long : N1 (format_of f) + length (hard_coded f block) ≡ (format_of f).n
    both_long = omega (arith, pieces-length (hard_bits (format_of f)) (hard_part f block) hard-long, (format-sound f h).labels, (format-sound f h).soft-fits)

    pub codeword-length : length (codeword f block) ≡ (format_of f).n
    unfolding codeword
    codeword-length =
        length-append (from_outer f (outer (trellis_part f block))) (hard_coded f block)
        ∙ omega (arith, from_outer-length f h (outer (trellis_part f block)), both_long)

    -- the codeword as it is written: the pieces, and then the inner trellis, from a workspace with the outer kept bits at its front, before them
    pub both-written : (rest out : List ℕ) → (format_of f).n ≤ length out
        → from_outer f (outer (trellis_part f block) ++ rest) ++ drop (N1 (format_of f)) (sets out (N1 (format_of f)) (hard_coded f block))
        ≡ codeword f block ++ drop (format_of f).n out
    unfolding codeword
    both-written rest out room =
        let n = N1 (format_of f) in
        let first = from_outer f (outer (trellis_part f block)) in
        let second = hard_coded f block in
        let before = take n out in
        let behind = drop (n + length second) out in
        ap (λ (l : List ℕ). l ++ drop n (sets out n second)) (from_outer-front f h (outer (trellis_part f block)) rest outer-long)
        ∙ ap (λ (l : List ℕ). first ++ drop n l) (sets-eq second out n (omega (arith, both_long, room)) ∙ append_assoc before second behind)
        ∙ ap (λ (l : List ℕ). first ++ l) (drop_at before (second ++ behind) n (length-take-le n out (trellis-room room)))
        ∙ sym (append_assoc first second behind)
        ∙ ap (λ (k : ℕ). (first ++ second) ++ drop k out) both_long

-- of formats 1 to 27 the trellis part is the whole block, and so the codeword is what the trellises give
module _ (f : ℕ) (h : is_format f ≡ true) (few : f ≤ last_one_stage) (block : List ℕ) where
  pub hard-none : hard_coded f block ≡ []
  hard-none =
      let none : hard_bits (format_of f) ≡ 0 = omega (arith, (all-soft f h few).soft-is) in
      rw none

  pub part_whole : length block ≡ (format_of f).k → trellis_part f block ≡ block
  part_whole e = take_all (format_of f).k1 block (omega (arith, (all-soft f h few).k1_is, e))

  pub one_stage : length block ≡ (format_of f).k → codeword f block ≡ from_outer f (outer block)
  unfolding codeword
  one_stage e =
      ap₂ (λ (p l : List ℕ). from_outer f (outer p) ++ l) (part_whole e) hard-none ∙ append-nil (from_outer f (outer block))
