-- The codewords of the pieces that are left, from one piece to the next.
use mathlib.Core.Path.{◌≡◌, ap, ◌∙◌}
use mathlib.Core.Bool.{true}
use mathlib.Core.List.{List, [], ◌++◌}
use Prim.Native.Nat.{ℕ, suc, ◌+◌, ◌-◌, ◌*◌, ◌/◌, ◌%◌, ◌≤◌, ◌<◌}
use native.Mathlib.Omega.{arith}
use borrow.Rule.Slice.PartMut.{put_mid}
use lib.ListN.{length, take, drop, length-append, length-drop}
use lib.Seq.{take_at, drop_at, length-take-le}
use Rattle.bits.specs.Legal.{all_bits}
use Rattle.bits.proofs.Fill.{Left, left_as, left_end, left-stretch}
use Rattle.bits.proofs.Legal.{legal-front, legal-rest}
use Rattle.bits.proofs.Parts.{sets_of_front}
use Rattle.acm.specs.Formats.{piece_length, symbols}
use Rattle.bch.specs.Bch.{check_length, coded}
use Rattle.bch.specs.Register.{byte_length}
use Rattle.bch.proofs.Laws.{coded-length}
use Rattle.pieces.specs.Pieces.{all_coded}

-- after count codewords, those of the pieces that are left are left to store
pub record PiecesLeft (out₀ list out : List ℕ) (count size : ℕ) (rest : List ℕ) : Type 0 where
  pub size_is : size ≡ piece_length
  pub bits : all_bits rest ≡ true
  pub left : Left out₀ 0 (all_coded list) out (count * symbols) (all_coded rest)

-- a piece, and what is left behind it
module _ (rest piece next : List ℕ) (split : rest ≡ piece ++ next) (long : length piece ≡ piece_length) where
  coded_next : all_coded rest ≡ coded piece ++ all_coded next
  coded_next =
      let many : length rest / piece_length ≡ suc (length next / piece_length) = omega (arith, ap length split, length-append piece next) in
      rw (many, split, take_at piece next piece_length long, drop_at piece next piece_length long)

module _ {out₀ list out rest : List ℕ} {count size : ℕ} (p : PiecesLeft out₀ list out count size rest) (room : length (all_coded list) ≤ length out₀) where
  module _ (piece next : List ℕ) (split : rest ≡ piece ++ next) (lent : length piece ≡ size) (j : ℕ) (at : j ≡ count) where
    long : length piece ≡ piece_length
    long = lent ∙ p.size_is

    coded_long : length (coded piece) ≡ symbols
    coded_long = omega (arith, coded-length piece, long)

    inside : j * symbols + symbols ≤ length out
    inside = rw at (omega (arith, p.left.count, p.left.same, room, ap length (coded_next rest piece next split long), length-append (coded piece) (all_coded next), coded_long))

    pub piece_asks : (all_bits piece ≡ true) × (length piece % byte_length ≡ 0) × (length piece + check_length ≤ length (take (length out - j * symbols) (drop (j * symbols) out)))
    piece_asks =
        let part = length-take-le (length out - j * symbols) (drop (j * symbols) out) (omega (arith, length-drop (j * symbols) out)) in
        (legal-front 1 piece next (rw split at p.bits), omega (arith, long), omega (arith, part, long, inside))

    -- its codeword is written to the front of what is behind the others'
    pub piece_turn : (new : List ℕ) (after same : ℕ)
        → new ≡ coded piece ++ drop (length piece + check_length) (take (length out - j * symbols) (drop (j * symbols) out)) → after ≡ count + 1 → same ≡ size
        → PiecesLeft out₀ list (put_mid (j * symbols) (length out - j * symbols) out new) after same next
    piece_turn new after same is past kept =
        let stored = sets_of_front (j * symbols) (length out - j * symbols) out (coded piece) new (omega (arith, coded_long, inside)) (omega (arith, inside)) (rw (coded-length piece) is) in
        record {
          size_is = kept ∙ p.size_is;
          bits = legal-rest 1 piece next (rw split at p.bits);
          left = left-stretch _ (coded piece) (all_coded next) (after * symbols) (coded_next rest piece next split long) (rw (← at) stored) (omega (arith, past, at, coded_long)) p.left;
        }

  -- no piece is left
  pub pieces_end : length rest < size → out ≡ all_coded list ++ drop (length (all_coded list)) out₀
  pieces_end few =
      let none : length rest / piece_length ≡ 0 = omega (arith, p.size_is) in
      let z : all_coded rest ≡ [] = rw none in
      left_end room (left_as z p.left)
