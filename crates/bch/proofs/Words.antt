-- The register in a word: eight bits at once, and a list from some place on.
use mathlib.Core.Path.{◌≡◌, sym, ap, ap₂, ◌∙◌}
use mathlib.Core.Bool.{Bool, true, ◌&&◌}
use mathlib.Core.List.{List, ◌++◌}
use Prim.Native.Nat.{ℕ, ◌+◌, ◌-◌, ◌*◌, ◌/◌, ◌%◌, ◌^◌, ◌≤◌, ◌<◌}
use native.Mathlib.Nat.{mul-div_cancel}
use native.Mathlib.Omega.{arith}
use borrow.Author.Tests.{ltb-true}
use lib.Bits.{bit_xor}
use lib.Dec.{ltb}
use lib.ListN.{length, get_or, take, drop}
use lib.Pow.{pow_pos}
use lib.Seq.{take_at, drop_at}
use Rattle.bits.specs.Legal.{all_bits}
use Rattle.bits.specs.Same.{same}
use Rattle.bits.specs.Sum.{◌⊕*◌}
use Rattle.bits.specs.Words.{bits_of}
use Rattle.bits.proofs.Same.{same-equal}
use Rattle.bits.proofs.Table.{every, every-at, left-true, right_true}
use Rattle.bits.proofs.Words.{length-bits, bits-split, bits-low, bits-mod, bits-legal, bits-xor}
use Rattle.bch.specs.Bch.{check_length, zeros, lower}
use Rattle.bch.specs.Register.{byte_length, Table, register_from}
use Rattle.bch.proofs.Laws.{lower-length, some}
use Rattle.bch.proofs.Registers.{several}

-- bits of the register that stay when eight leave
abbrev pub staying : ℕ
staying = check_length - byte_length

cleared : (w : ℕ) → bits_of byte_length (w * 2 ^ byte_length) ≡ zeros byte_length
unfolding bits_of
cleared w =
    let z : w * 2 ^ byte_length ≡ w * 2 ^ byte_length + 0 = omega arith in
    ap (bits_of byte_length) z ∙ bits-low byte_length byte_length w 0 (omega arith)

-- the register of zeros has a length of 52
several_here : (us r : List ℕ) → length r ≡ check_length → length us ≤ check_length → all_bits r ≡ true
    → register_from lower r us ≡ (drop (length us) r ++ zeros (length us)) ⊕* register_from lower (zeros check_length) (us ⊕* take (length us) r)
several_here us r e low h =
    several lower some us r (e ∙ sym lower-length) (omega (arith, low, lower-length)) h
    ∙ ap (λ (n : ℕ). (drop (length us) r ++ zeros (length us)) ⊕* register_from lower (zeros n) (us ⊕* take (length us) r)) lower-length

-- eight bits at once
module _ (word byte : ℕ) (entry : ℕ) (is : bits_of check_length entry ≡ register_from lower (zeros check_length) (bits_of byte_length (bit_xor byte (word / 2 ^ staying)))) where
  pub feed_bits : bits_of check_length (bit_xor (word * 2 ^ byte_length % 2 ^ check_length) entry) ≡ register_from lower (bits_of check_length word) (bits_of byte_length byte)
  feed_bits =
      let us = bits_of byte_length byte in
      let high = bits_of byte_length (word / 2 ^ staying) in
      let low = bits_of staying word in
      let many = length-bits byte_length (word / 2 ^ staying) in
      let n : length us ≡ byte_length = length-bits byte_length byte in
      let moved : bits_of check_length (word * 2 ^ byte_length % 2 ^ check_length) ≡ low ++ zeros byte_length =
      bits-mod check_length (word * 2 ^ byte_length) ∙ bits-split staying byte_length (word * 2 ^ byte_length)
      ∙ ap₂ (λ (k : ℕ) (l : List ℕ). bits_of staying k ++ l) (mul-div_cancel word (pow_pos byte_length)) (cleared word) in
      bits-xor check_length (word * 2 ^ byte_length % 2 ^ check_length) entry
      ∙ ap₂ (λ (a b : List ℕ). a ⊕* b) moved (is ∙ ap (register_from lower (zeros check_length)) (bits-xor byte_length byte (word / 2 ^ staying)))
      ∙ sym
      (several_here us (bits_of check_length word) (length-bits check_length word) (omega (arith, n)) (bits-legal check_length word)
      ∙ ap (λ (k : ℕ). (drop k (bits_of check_length word) ++ zeros k) ⊕* register_from lower (zeros check_length) (us ⊕* take k (bits_of check_length word))) n
      ∙ ap (λ (l : List ℕ). (drop byte_length l ++ zeros byte_length) ⊕* register_from lower (zeros check_length) (us ⊕* take byte_length l)) (bits-split byte_length staying word)
      ∙ ap₂ (λ (a b : List ℕ). (a ++ zeros byte_length) ⊕* register_from lower (zeros check_length) (us ⊕* b)) (drop_at high low byte_length many) (take_at high low byte_length many))

-- a table, by one test over its entries
abbrev test : ℕ → ℕ → Bool
test byte word = ltb word (2 ^ check_length) && same (bits_of check_length word) (register_from lower (zeros check_length) (bits_of byte_length byte))

pub table_of : (table : List ℕ) → length table ≡ 2 ^ byte_length → every test 0 table ≡ true → Table table
table_of table n e =
    let at : (byte : ℕ) → byte < 2 ^ byte_length → test byte (get_or table byte 0) ≡ true = λ byte h. every-at test table 0 e byte (omega (arith, n)) in
    record {
      long = n;
      small = λ byte h. ltb-true _ _ (left-true _ (same (bits_of check_length (get_or table byte 0)) (register_from lower (zeros check_length) (bits_of byte_length byte))) (at byte h));
      entry = λ byte h. same-equal _ _ (right_true (ltb (get_or table byte 0) (2 ^ check_length)) _ (at byte h));
    }
