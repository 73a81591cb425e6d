-- How the stores of marker and descriptor make the header, and what its slots are.
use mathlib.Core.Path.{◌≡◌, refl, sym, ap, ◌∙◌}
use mathlib.Core.Bool.{true}
use mathlib.Core.List.{List, [], ◌∷◌, ◌++◌, append_assoc, map-append}
use Prim.Native.Nat.{ℕ, zero, suc, ◌+◌, ◌*◌, ◌≤◌, ◌<◌}
use native.Mathlib.Omega.{arith}
use borrow.Author.Tests.{eqb-true, eqb-false}
use lib.Dec.{eqb}
use lib.ListN.{length, get_or, drop, replicate, length-append, length-map}
use lib.Seq.{take_at, drop_at, drop-drop}
use borrow.Rule.Slice.PartMut.{put_mid}
use Rattle.bits.specs.Legal.{all_at_most, all_bits}
use Rattle.bits.specs.Words.{unpacked}
use Rattle.bits.specs.Sum.{◌⊕*◌}
use Rattle.bits.proofs.Cases.{by_cases}
use Rattle.bits.proofs.Legal.{legal_head, legal-tail}
use Rattle.bits.proofs.Words.{length-unpacked}
use Rattle.header.specs.Marker.{marker, marker_length}
use Rattle.header.specs.Descriptor.{descriptor, descriptor_length, pilots_off, pilots_on}
use Rattle.header.specs.Header.{header, header_code, header_length, header_one, header_slots, header_zero}
use Rattle.header.specs.Words.{word_length}
use Rattle.header.proofs.Marker.{marker_length_lem}
use Rattle.header.proofs.Descriptor.{descriptor-legal, descriptor_length_lem, pilots-turn}

-- the descriptor's slots are stored behind the marker's
pub header-stored : (f pilots : ℕ) (words out first bits : List ℕ) {slots : List ℕ} → unpacked word_length words ≡ marker
    → first ≡ header_slots (unpacked word_length words) ++ drop (word_length * length words) out
    → slots ≡ header_slots bits → bits ≡ descriptor f pilots → put_mid marker_length descriptor_length first slots ≡ header f pilots ++ drop header_length out
unfolding header
header-stored f pilots words out first bits is a b d =
    let m = header_slots marker in
    let rest = drop marker_length out in
    let long : length m ≡ marker_length = length-map marker header_code ∙ marker_length_lem in
    let many : word_length * length words ≡ marker_length = sym (length-unpacked word_length words) ∙ ap length is ∙ marker_length_lem in
    rw (a, is, many, b, d, take_at m rest marker_length long, drop_at m rest marker_length long, drop-drop descriptor_length marker_length out, map-append header_code marker (descriptor f pilots))
    (sym (append_assoc m (header_slots (descriptor f pilots)) (drop header_length out)))

pub header_length_lem : (f pilots : ℕ) → length (header f pilots) ≡ header_length
unfolding header
header_length_lem f pilots = rw (length-map, length-append, marker_length_lem, descriptor_length_lem f pilots)

-- the marker's slots, and behind them the descriptor's
pub header-parts : (f pilots : ℕ) → header f pilots ≡ header_slots marker ++ header_slots (descriptor f pilots)
unfolding header
header-parts f pilots = map-append header_code marker (descriptor f pilots)

slots-low : (bits : List ℕ) → all_at_most header_one (header_slots bits) ≡ true
slots-low [] = refl
slots-low (b ∷ bits) = by_cases (eqb b 0) (λ t. rw t (slots-low bits)) (λ f. rw f (slots-low bits))

pub header-low : (f pilots : ℕ) → all_at_most header_one (header f pilots) ≡ true
unfolding header
header-low f pilots = slots-low (marker ++ descriptor f pilots)

-- and no slot is below a zero's
slots-high : (bits : List ℕ) (k : ℕ) → k < length bits → header_zero ≤ get_or (header_slots bits) k 0
slots-high [] k h = absurd (omega arith)
slots-high (b ∷ bits) zero h = by_cases (eqb b 0) (λ t. rw t (omega arith)) (λ f. rw f (omega arith))
slots-high (b ∷ bits) (suc k) h = slots-high bits k (omega arith)

pub header-high : (f pilots s : ℕ) → s < header_length → header_zero ≤ get_or (header f pilots) s 0
unfolding header
header-high f pilots s h =
    slots-high (marker ++ descriptor f pilots) s
    (omega (arith, h, length-append marker (descriptor f pilots), marker_length_lem, descriptor_length_lem f pilots))

-- a bit and the same turned over have both slots between them
slots-turned : (n : ℕ) (bits : List ℕ) → length bits ≡ n → all_bits bits ≡ true → (k : ℕ) → k < n
    → get_or (header_slots (bits ⊕* replicate n 1)) k 0 + get_or (header_slots bits) k 0 ≡ header_zero + header_one
slots-turned n [] long legal k h = absurd (omega (arith, long))
slots-turned zero (b ∷ bits) long legal k h = absurd (omega arith)
slots-turned (suc n) (b ∷ bits) long legal (suc k) h = slots-turned n bits (omega (arith, long)) (legal-tail 1 b bits legal) k (omega arith)
slots-turned (suc n) (b ∷ bits) long legal zero h =
    by_cases
    (eqb b 0)
    (λ t. rw (eqb-true b 0 t))
    (λ f. let e : b ≡ 1 = omega (arith, legal_head 1 b bits legal, eqb-false b 0 f) in rw e)

pub descriptor-turned : (f k : ℕ) → k < descriptor_length
    → get_or (header_slots (descriptor f pilots_on)) k 0 + get_or (header_slots (descriptor f pilots_off)) k 0 ≡ header_zero + header_one
descriptor-turned f k h =
    rw (pilots-turn f) (slots-turned descriptor_length (descriptor f pilots_off) (descriptor_length_lem f pilots_off) (descriptor-legal f pilots_off) k h)
