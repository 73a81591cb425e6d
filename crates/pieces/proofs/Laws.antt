-- The codewords of the pieces: how long they are, that they are bits, that they are linear, and where each stands.
use mathlib.Core.Path.{◌≡◌, refl, sym, ap, ap₂, ◌∙◌}
use mathlib.Core.Bool.{true}
use mathlib.Core.List.{List, ◌++◌}
use Prim.Native.Nat.{ℕ, zero, suc, ◌+◌, ◌*◌, ◌<◌}
use native.Mathlib.Omega.{arith}
use lib.ListN.{length, get_or, take, drop, length-append, length-drop, get_or-append}
use lib.Seq.{length-take-le, drop-drop, get_or-append-add}
use Rattle.bits.specs.Legal.{all_bits}
use Rattle.bits.specs.Sum.{◌⊕*◌}
use Rattle.bits.proofs.Legal.{legal-take, legal-drop, legal-append}
use Rattle.bits.proofs.Lists.{take_same, drop-same}
use Rattle.bits.proofs.Sums.{⊕*-append, ⊕*-take, ⊕*-drop}
use Rattle.acm.specs.Formats.{piece_length, symbols}
use Rattle.bch.specs.Bch.{coded, check_length}
use Rattle.bch.proofs.Laws.{coded-length, coded-bits, coded-sum}
use Rattle.pieces.specs.Pieces.{coded_pieces}

pub pieces-length : (n : ℕ) (bits : List ℕ) → length bits ≡ piece_length * n → length (coded_pieces n bits) ≡ symbols * n
pieces-length zero bits e = refl
pieces-length (suc n) bits e =
    let piece = take piece_length bits in
    let rest = drop piece_length bits in
    let long : length piece ≡ piece_length = length-take-le piece_length bits (omega arith) in
    let others = pieces-length n rest (length-drop piece_length bits ∙ omega arith) in
    length-append (coded piece) (coded_pieces n rest) ∙ omega (arith, others, long, coded-length piece)

pub pieces-bits : (n : ℕ) (bits : List ℕ) → all_bits bits ≡ true → all_bits (coded_pieces n bits) ≡ true
pieces-bits zero bits h = refl
pieces-bits (suc n) bits h =
    let piece = take piece_length bits in
    let rest = drop piece_length bits in
    legal-append 1 (coded piece) (coded_pieces n rest)
    (coded-bits piece (legal-take 1 piece_length bits h)) (pieces-bits n rest (legal-drop 1 piece_length bits h))

-- linear
pub pieces-sum : (n : ℕ) (a b : List ℕ) → length a ≡ length b → coded_pieces n (a ⊕* b) ≡ coded_pieces n a ⊕* coded_pieces n b
pieces-sum zero a b e = refl
pieces-sum (suc n) a b e =
    let p = take piece_length a in
    let q = take piece_length b in
    let same = take_same piece_length a b e in
    let long : length (coded p) ≡ length (coded q) = coded-length p ∙ ap (λ (k : ℕ). k + check_length) same ∙ sym (coded-length q) in
    ap₂ (λ (k l : List ℕ). k ++ l)
    (ap coded (⊕*-take piece_length a b) ∙ coded-sum p q same)
    (ap (coded_pieces n) (⊕*-drop piece_length a b e) ∙ pieces-sum n (drop piece_length a) (drop piece_length b) (drop-same piece_length a b e))
    ∙ sym (⊕*-append (coded p) (coded q) _ _ long)

-- the codeword of piece j, counted from 0
pub pieces-at : (n : ℕ) (bits : List ℕ) (j r : ℕ) → length bits ≡ piece_length * n → j < n → r < symbols
    → get_or (coded_pieces n bits) (j * symbols + r) 0 ≡ get_or (coded (take piece_length (drop (j * piece_length) bits))) r 0
pieces-at zero bits j r e h l = absurd (omega arith)
pieces-at (suc n) bits zero r e h l =
    let piece = take piece_length bits in
    let first : 0 * symbols + r ≡ r = omega arith in
    let inside : r < length (coded piece) = omega (arith, coded-length piece, length-take-le piece_length bits (omega arith)) in
    ap (λ (k : ℕ). get_or (coded_pieces (suc n) bits) k 0) first ∙ get_or-append (coded piece) (coded_pieces n (drop piece_length bits)) 0 r inside
pieces-at (suc n) bits (suc j) r e h l =
    let piece = take piece_length bits in
    let rest = drop piece_length bits in
    let long : length (coded piece) ≡ symbols = omega (arith, coded-length piece, length-take-le piece_length bits (omega arith)) in
    let past : suc j * symbols + r ≡ length (coded piece) + (j * symbols + r) = omega (arith, long) in
    let on : piece_length + j * piece_length ≡ suc j * piece_length = omega arith in
    ap (λ (k : ℕ). get_or (coded_pieces (suc n) bits) k 0) past
    ∙ get_or-append-add (coded piece) (coded_pieces n rest) (j * symbols + r) 0
    ∙ pieces-at n rest j r (length-drop piece_length bits ∙ omega arith) (omega arith) l
    ∙ ap (λ (l : List ℕ). get_or (coded (take piece_length l)) r 0) (drop-drop (j * piece_length) piece_length bits ∙ ap (λ (k : ℕ). drop k bits) on)
