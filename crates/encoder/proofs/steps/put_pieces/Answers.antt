-- The pieces are the block's bits from K1 on, as many as a label has hard bits, and their codewords begin where the trellis part ends.
use mathlib.Core.Path.{◌≡◌, ap, ◌∙◌}
use mathlib.Core.Bool.{true}
use mathlib.Core.List.{List, ◌++◌}
use Prim.Native.Nat.{ℕ, ◌+◌, ◌-◌, ◌*◌, ◌/◌, ◌≤◌}
use native.Mathlib.Omega.{arith}
use borrow.Rule.Slice.PartMut.{put_mid}
use lib.ListN.{length, take, drop, length-drop}
use lib.Seq.{sets, take_all, length-take-le}
use Rattle.bits.specs.Legal.{all_bits}
use Rattle.bits.proofs.Legal.{legal-drop}
use Rattle.bits.proofs.Parts.{sets_of_front}
use Rattle.acm.specs.Formats.{symbols, piece_length, is_format, format_of, N1, hard_bits}
use Rattle.acm.specs.declared.table.Format.{Format}
use Rattle.acm.proofs.Laws.{Sound, format-sound}
use Rattle.pieces.specs.Pieces.{coded_pieces, all_coded}
use Rattle.pieces.proofs.Laws.{pieces-length}
use Rattle.encoder.specs.Codeword.{hard_part, hard_coded}
use Rattle.encoder.proofs.Codewords.{hard-long}
use Rattle.encoder.proofs.steps.put_pieces.Goals as goal

-- the record at hand is the format's
module _ (f : ℕ) (known : is_format f ≡ true) {r : Format} (is : r ≡ format_of f) (block : List ℕ) (long : length block ≡ (format_of f).k) where
  sound : Sound r
  sound = rw is (format-sound f known)

  k1-fits : r.k1 ≤ length block
  k1-fits = omega (arith, long, ap (λ (r : Format). r.k) is, sound.split)

  part-is : take (length block - r.k1) (drop r.k1 block) ≡ hard_part f block
  part-is = take_all (length block - r.k1) (drop r.k1 block) (rw length-drop (omega arith)) ∙ ap (λ (r : Format). drop r.k1 block) is

  place_is : r.soft * symbols ≡ N1 (format_of f)
  place_is = omega (arith, ap (λ (r : Format). r.soft) is)

  -- as many pieces as a label has hard bits
  all-is : all_coded (take (length block - r.k1) (drop r.k1 block)) ≡ hard_coded f block
  all-is =
      let n : length (hard_part f block) / piece_length ≡ hard_bits (format_of f) = omega (arith, hard-long f known block long) in
      ap all_coded part-is ∙ ap (λ (n : ℕ). coded_pieces n (hard_part f block)) n

  many : length (hard_coded f block) ≡ symbols * hard_bits (format_of f)
  many = pieces-length (hard_bits (format_of f)) (hard_part f block) (hard-long f known block long)

  -- the codewords' place in an output of N bytes or more
  module _ (out : List ℕ) (fits : (format_of f).n ≤ length out) where
    room : r.soft * symbols + length (hard_coded f block) ≤ length out
    room = omega (arith, place_is, many, fits, (format-sound f known).labels, (format-sound f known).soft-fits)

    part_room : length (all_coded (take (length block - r.k1) (drop r.k1 block))) ≤ length (take (length out - r.soft * symbols) (drop (r.soft * symbols) out))
    part_room =
        let at = r.soft * symbols in
        omega (arith, ap length all-is, room, length-take-le (length out - at) (drop at out) (omega (arith, length-drop at out)))

    stored : (new : List ℕ)
        → (let lent = all_coded (take (length block - r.k1) (drop r.k1 block)) in
        new ≡ lent ++ drop (length lent) (take (length out - r.soft * symbols) (drop (r.soft * symbols) out)))
        → put_mid (r.soft * symbols) (length out - r.soft * symbols) out new ≡ sets out (N1 (format_of f)) (hard_coded f block)
    stored new e =
        let at = r.soft * symbols in
        sets_of_front at (length out - at) out (hard_coded f block) new (omega (arith, room)) (omega (arith, room)) (rw all-is at e)
        ∙ ap (λ (k : ℕ). sets out k (hard_coded f block)) place_is

pub slice_bounds-write-count : goal.slice_bounds-write-count
slice_bounds-write-count c = k1-fits _ c.args.format.listed c.record-f.ensures c.args.block.now c.requires.0

pub slice_bounds-write-start : goal.slice_bounds-write-start
slice_bounds-write-start c = k1-fits _ c.args.format.listed c.record-f.ensures c.args.block.now c.requires.0

pub overflow_mul-f : goal.overflow_mul-f
overflow_mul-f c =
    let s = sound _ c.args.format.listed c.record-f.ensures c.args.block.now c.requires.0 in
    omega (arith, s.soft-fits, s.most-m)

pub slice_bounds-write-count-2 : goal.slice_bounds-write-count-2
slice_bounds-write-count-2 c = omega (arith, room _ c.args.format.listed c.record-f.ensures c.args.block.now c.requires.0 c.args.out.now c.requires.2)

pub slice_bounds-write-start-2 : goal.slice_bounds-write-start-2
slice_bounds-write-start-2 c = omega (arith, room _ c.args.format.listed c.record-f.ensures c.args.block.now c.requires.0 c.args.out.now c.requires.2)

pub write-requires : goal.write-requires
write-requires c =
    let f = c.args.format.number in
    let known = c.args.format.listed in
    let block = c.args.block.now in (
      ap all_bits (part-is f known c.record-f.ensures block c.requires.0) ∙ legal-drop 1 (format_of f).k1 block c.requires.1,
      part_room f known c.record-f.ensures block c.requires.0 c.args.out.now c.requires.2,
    )

pub returns : goal.returns
returns c = stored _ c.args.format.listed c.record-f.ensures c.args.block.now c.requires.0 c.args.out.now c.requires.2 c.write.new.out c.write.ensures
