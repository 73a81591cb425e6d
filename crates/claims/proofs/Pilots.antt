-- Pilots, from the laws of header, pilots and frame.
use mathlib.Core.Path.{◌≡◌, refl, sym, ap, ◌∙◌}
use mathlib.Core.Bool.{true}
use mathlib.Core.List.{List, ◌++◌}
use Prim.Native.Nat.{ℕ, ◌+◌, ◌-◌, ◌≤◌, ◌<◌}
use native.Mathlib.Omega.{arith}
use borrow.Author.Tests.{le-leb, eq-eqb}
use lib.ListN.{length, get_or, length-append, length-map, length-replicate, get_or-append}
use lib.Pow.{pow_mono}
use lib.Seq.{get_or-append-add}
use Rattle.bits.proofs.Cases.{by_cases}
use Rattle.bits.proofs.Legal.{legal_repeated}
use Rattle.acm.specs.Formats.{is_format, format_of, top_label}
use Rattle.acm.proofs.Laws.{format-sound}
use Rattle.header.specs.Marker.{marker_length, marker}
use Rattle.header.specs.Descriptor.{descriptor, pilots_off, pilots_on}
use Rattle.header.specs.Header.{header, header_code, header_length, header_slots, header_zero}
use Rattle.header.proofs.Marker.{marker_length_lem}
use Rattle.header.proofs.Headers.{descriptor-turned, header_length_lem, header-parts}
use Rattle.pilots.specs.Pilots.{pilot, piloted_length}
use Rattle.framing.specs.Frame.{frame, frame_labels, frame_length}
use Rattle.framing.specs.Calls.{frame_number, frame_output}
use Rattle.framing.specs.Places.{is_pilot, without_pilots}
use Rattle.framing.proofs.Places.{label_slot_lem, other_slot, pilot-slot, section-slots, without_frame}
use Rattle.claims.specs.Pilots.{Counts, Passes, Piloting, Places, Some, Stays, TakesOut}

stays : Stays
unfolding frame_number frame_output header
stays f labels out = (refl, refl)

-- a label is below a header bit's slot
low : (f : ℕ) → is_format f ≡ true → top_label f < header_zero
low f h = omega (arith, pow_mono {i = (format_of f).m} {j = 8} (format-sound f h).most-m)

places : Places
places f h labels L = record {
  pilots = λ s inside. (told s (room s inside), pilot-slot f labels s (room s inside));
  labels_at = λ i below. label_slot_lem f labels i (omega (arith, below, L.long));
  parts = λ k below. section-slots f labels k (omega (arith, below, L.long));
}
  where
    room : (s : ℕ) → s < frame_length pilots_on → s < header_length + piloted_length (length labels)
    room s inside = rw L.long inside

    told : (s : ℕ) → s < header_length + piloted_length (length labels) → get_or (frame f pilots_on labels) s 0 ≡ pilot → is_pilot s ≡ true
    told s inside e =
        by_cases (is_pilot s) (λ t. t) (λ other. absurd (omega (arith, e, other_slot f labels (top_label f) L.legal (low f h) s inside other)))

-- header and labels, whatever the choice: what stands where
module _ (f : ℕ) (labels : List ℕ) (choice : ℕ) where
  abbrev slots : List ℕ
  slots = header f choice ++ labels

  marker-slots : length (header_slots marker) ≡ marker_length
  marker-slots = length-map marker header_code ∙ marker_length_lem

  in_header : (s : ℕ) → s < header_length → get_or slots s 0 ≡ get_or (header_slots marker ++ header_slots (descriptor f choice)) s 0
  in_header s h =
      get_or-append (header f choice) labels 0 s (omega (arith, header_length_lem f choice)) ∙ ap (λ (l : List ℕ). get_or l s 0) (header-parts f choice)

  at-marker : (s : ℕ) → s < marker_length → get_or slots s 0 ≡ get_or (header_slots marker) s 0
  at-marker s h =
      in_header s (omega arith) ∙ get_or-append (header_slots marker) (header_slots (descriptor f choice)) 0 s (omega (arith, marker-slots))

  at-descriptor : (s : ℕ) → marker_length ≤ s → s < header_length → get_or slots s 0 ≡ get_or (header_slots (descriptor f choice)) (s - marker_length) 0
  at-descriptor s above below =
      let e : s ≡ length (header_slots marker) + (s - marker_length) = omega (arith, marker-slots) in
      in_header s below
      ∙ ap (λ (n : ℕ). get_or (header_slots marker ++ header_slots (descriptor f choice)) n 0) e
      ∙ get_or-append-add (header_slots marker) (header_slots (descriptor f choice)) (s - marker_length) 0

  at-labels : (s : ℕ) → header_length ≤ s → get_or slots s 0 ≡ get_or labels (s - header_length) 0
  at-labels s above =
      let e : s ≡ length (header f choice) + (s - header_length) = omega (arith, header_length_lem f choice) in
      ap (λ (n : ℕ). get_or slots n 0) e ∙ get_or-append-add (header f choice) labels (s - header_length) 0

  long : length slots ≡ header_length + length labels
  long = length-append (header f choice) labels ∙ rw (header_length_lem f choice)

takes_out : TakesOut
takes_out f labels = record {
  long = ap length out ∙ long f labels pilots_on ∙ sym (long f labels pilots_off);
  before = λ s h. at s ∙ at-marker f labels pilots_on s h ∙ sym (at-marker f labels pilots_off s h);
  descriptor = λ s above below.
      rw (at s, at-descriptor f labels pilots_on s above below, at-descriptor f labels pilots_off s above below)
      (descriptor-turned f (s - marker_length) (omega arith));
  behind = λ s h. at s ∙ at-labels f labels pilots_on s h ∙ sym (at-labels f labels pilots_off s h);
}
  where
    out : without_pilots (frame f pilots_on labels) ≡ header f pilots_on ++ labels
    out = without_frame f labels

    at : (s : ℕ) → get_or (without_pilots (frame f pilots_on labels)) s 0 ≡ get_or (header f pilots_on ++ labels) s 0
    at s = ap (λ (l : List ℕ). get_or l s 0) out

labels_pass : Passes
unfolding frame_number
labels_pass f pilots h choice labels L =
    rw (h, le-leb _ _ choice, eq-eqb _ _ L.long, L.legal, le-leb (frame_length pilots) (frame_length pilots) (omega arith))

labels_of_zeros : Some
labels_of_zeros f = record {
  long = length-replicate {A = ℕ} frame_labels 0;
  legal = legal_repeated (top_label f) frame_labels 0 (omega arith);
}

counts : Counts
counts = record { subsections = refl; section-pilots = refl; section-slots = refl; slots = refl }

pub piloting : Piloting
piloting = record { stays = stays; places = places; takes_out = takes_out; passes = labels_pass; some = labels_of_zeros; counts = counts }
