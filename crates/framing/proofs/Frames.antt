-- How the stores of header and body make the frame.
use mathlib.Core.Path.{◌≡◌, refl, sym, ap, ap₂, ◌∙◌}
use mathlib.Core.List.{List, ◌++◌}
use Prim.Native.Nat.{ℕ, ◌+◌, ◌-◌, ◌≤◌}
use native.Mathlib.Omega.{arith}
use lib.Dec.{eqb}
use lib.ListN.{length, take, drop, length-append}
use borrow.Rule.Slice.PartMut.{put_mid}
use Rattle.bits.specs.Three.{xored}
use Rattle.bits.proofs.Cases.{by_cases}
use Rattle.bits.proofs.Three.{three-append, xored_self}
use Rattle.pilots.proofs.Behind.{stored_behind}
use Rattle.header.specs.Descriptor.{pilots_on}
use Rattle.header.specs.Header.{header, header_length}
use Rattle.header.proofs.Headers.{header_length_lem}
use Rattle.pilots.proofs.Inserted.{with_length, with_xored}
use Rattle.framing.specs.Frame.{body, frame, frame_labels, frame_length}

body-length : (pilots : ℕ) (labels : List ℕ) → length labels ≡ frame_labels → header_length + length (body pilots labels) ≡ frame_length pilots
body-length pilots labels many =
    by_cases (eqb pilots pilots_on) (λ on. rw (on, with_length labels, many)) (λ off. rw (off, many))

pub frame_length_lem : (f pilots : ℕ) (labels : List ℕ) → length labels ≡ frame_labels → length (frame f pilots labels) ≡ frame_length pilots
frame_length_lem f pilots labels many = length-append (header f pilots) (body pilots labels) ∙ rw (header_length_lem f pilots) (body-length pilots labels many)

-- the body is stored behind the header
pub frame-stored : (f pilots : ℕ) (labels out first body-slots : List ℕ) → length labels ≡ frame_labels → frame_length pilots ≤ length out
    → first ≡ header f pilots ++ drop header_length out
    → body-slots ≡ body pilots labels ++ drop (length (body pilots labels)) (take (length first - header_length) (drop header_length first))
    → put_mid header_length (length first - header_length) first body-slots ≡ frame f pilots labels ++ drop (frame_length pilots) out
frame-stored f pilots labels out first body-slots many room front behind =
    let long = body-length pilots labels many in
    stored_behind header_length (header f pilots) (body pilots labels) out first body-slots (header_length_lem f pilots) (omega (arith, long, room)) front behind
    ∙ ap (λ (k : ℕ). frame f pilots labels ++ drop k out) long

-- the frame of the exclusive or of three lists of labels: one header, three times, is that header, and so it is with the pilots
body-xored : (pilots : ℕ) (a b c : List ℕ) → length a ≡ length b → length b ≡ length c → body pilots (xored a b c) ≡ xored (body pilots a) (body pilots b) (body pilots c)
body-xored pilots a b c e f = by_cases (eqb pilots pilots_on) (λ on. rw on (with_xored a b c e f)) (λ off. rw off)

pub frame-xored : (f pilots : ℕ) (a b c : List ℕ) → length a ≡ length b → length b ≡ length c
    → frame f pilots (xored a b c) ≡ xored (frame f pilots a) (frame f pilots b) (frame f pilots c)
frame-xored f pilots a b c e d =
    let h = header f pilots in
    ap₂ (λ (k l : List ℕ). k ++ l) (sym (xored_self h)) (body-xored pilots a b c e d)
    ∙ sym (three-append _ h h h (body pilots a) (body pilots b) (body pilots c) refl refl)
