-- Laws of the places in a frame with pilots.
use mathlib.Core.Path.{◌≡◌, sym, ap, ◌∙◌}
use mathlib.Core.Bool.{true, false}
use mathlib.Core.List.{List, [], ◌∷◌, ◌++◌, append-nil, append_assoc}
use Prim.Native.Nat.{ℕ, zero, suc, ◌+◌, ◌-◌, ◌*◌, ◌%◌, ◌≤◌, ◌<◌}
use native.Mathlib.Nat.{add-zero}
use native.Mathlib.Omega.{arith}
use borrow.Author.Tests.{le-leb, lt-leb, leb-true, leb-false, ltb-true, ltb-false}
use lib.Dec.{ltb, leb}
use lib.ListN.{length, get_or, take, drop, length-drop, take-append-drop, get_or-append}
use lib.Seq.{get_or-append-add, length-take-le, drop-append-add, drop-append_seam, take_at}
use Rattle.bits.specs.Legal.{all_at_most}
use Rattle.bits.proofs.Cases.{by_cases}
use Rattle.bits.proofs.Legal.{legal-at}
use Rattle.bits.proofs.Table.{left-true, right_true}
use Rattle.acm.specs.Formats.{symbols}
use Rattle.header.specs.Descriptor.{pilots_on}
use Rattle.header.specs.Header.{header, header_length, header_one, header_zero}
use Rattle.header.proofs.Headers.{header_length_lem, header-low}
use Rattle.pilots.specs.Pilots.{pilot, piloted_length, pilots, subsection_labels, subsection_length, subsection_pilots, with_pilots}
use Rattle.pilots.proofs.Inserted.{with_append, with_length, with_next, with_rest}
use Rattle.pilots.proofs.Places.{label_at, standing, with_at}
use Rattle.framing.specs.Frame.{frame, section}
use Rattle.framing.specs.Places.{is_pilot, label_slot, without_from, without_pilots}

-- the header has no pilots
in_header : (s : ℕ) → s < header_length → is_pilot s ≡ false
in_header s h = rw (lt-leb header_length s h)

-- of each sub-section the slots past its labels are pilots'
module _ (k i : ℕ) where
  abbrev slot : ℕ
  slot = header_length + k * subsection_length + i

  place : i < subsection_length → (slot - header_length) % subsection_length ≡ i
  place h = omega arith

  on-label : i < subsection_labels → is_pilot slot ≡ false
  on-label h = rw (le-leb header_length slot (omega arith), place (omega arith), lt-leb subsection_labels i h)

  on-pilot : subsection_labels ≤ i → i < subsection_length → is_pilot slot ≡ true
  on-pilot above below = rw (le-leb header_length slot (omega arith), place below, le-leb subsection_labels i above)

next : (s i : ℕ) → s + suc i ≡ suc s + i
next s i = omega arith

-- a stretch without pilots stays, and one of pilots goes
stays : (s : ℕ) (xs ys : List ℕ) → ((i : ℕ) → i < length xs → is_pilot (s + i) ≡ false) → without_from s (xs ++ ys) ≡ xs ++ without_from (s + length xs) ys
stays s [] ys h = rw add-zero
stays s (x ∷ xs) ys h =
    let here : is_pilot s ≡ false = rw add-zero at (h 0 (omega arith)) in
    rw (here, next s (length xs)) (ap (λ (l : List ℕ). x ∷ l) (stays (suc s) xs ys (λ i below. rw (← next s i) (h (suc i) (omega arith)))))

goes : (s : ℕ) (xs ys : List ℕ) → ((i : ℕ) → i < length xs → is_pilot (s + i) ≡ true) → without_from s (xs ++ ys) ≡ without_from (s + length xs) ys
goes s [] ys h = rw add-zero
goes s (x ∷ xs) ys h =
    let here : is_pilot s ≡ true = rw add-zero at (h 0 (omega arith)) in
    rw (here, next s (length xs)) (goes (suc s) xs ys (λ i below. rw (← next s i) (h (suc i) (omega arith))))

-- the labels that are over, from sub-section k on
without_rest : (k : ℕ) (labels : List ℕ) → length labels < subsection_labels → without_from (header_length + k * subsection_length) (with_pilots labels) ≡ labels
without_rest k labels h =
    rw (with_rest labels h)
    (ap (without_from (header_length + k * subsection_length)) (sym (append-nil labels))
    ∙ stays (header_length + k * subsection_length) labels [] (λ i below. on-label k i (omega (arith, below, h)))
    ∙ append-nil labels)

-- a whole sub-section, the k-th: its labels stay
without_next : (k : ℕ) (labels more : List ℕ) → subsection_labels ≤ length labels
    → without_from (header_length + k * subsection_length) (take subsection_labels labels ++ pilots ++ more)
    ≡ take subsection_labels labels ++ without_from (header_length + suc k * subsection_length) more
without_next k labels more h =
    let front = take subsection_labels labels in
    let s = header_length + k * subsection_length in
    let long = length-take-le subsection_labels labels h in
    let past : s + length front + length pilots ≡ header_length + suc k * subsection_length = omega (arith, long) in
    ap (without_from s) (append_assoc front pilots more)
    ∙ stays s front (pilots ++ more) (λ i below. on-label k i (omega (arith, below, long)))
    ∙ ap
    (λ (l : List ℕ). front ++ l)
    (goes (s + length front) pilots more behind ∙ ap (λ (n : ℕ). without_from n more) past)
  where
    behind : (i : ℕ) → i < subsection_pilots → is_pilot (header_length + k * subsection_length + length (take subsection_labels labels) + i) ≡ true
    behind i below =
        let e : header_length + k * subsection_length + length (take subsection_labels labels) + i ≡ slot k (subsection_labels + i) = omega (arith, length-take-le subsection_labels labels h) in
        rw e (on-pilot k (subsection_labels + i) (omega arith) (omega arith))

without_with : (n k : ℕ) (labels : List ℕ) → length labels < suc n * subsection_labels → without_from (header_length + k * subsection_length) (with_pilots labels) ≡ labels
without_with zero k labels h = without_rest k labels (omega (arith, h))
without_with (suc n) k labels h =
    let rest = drop subsection_labels labels in
    by_cases
    (ltb (length labels) subsection_labels)
    (λ t. without_rest k labels (ltb-true _ _ t))
    (λ f.
    let many = ltb-false _ _ f in
    rw (with_next labels many)
    (without_next k labels (with_pilots rest) many
    ∙ ap (λ (l : List ℕ). take subsection_labels labels ++ l) (without_with n (suc k) rest (omega (arith, h, length-drop subsection_labels labels)))
    ∙ take-append-drop subsection_labels labels))

-- a frame with pilots, without the pilots' slots
pub without_frame : (f : ℕ) (labels : List ℕ) → without_pilots (frame f pilots_on labels) ≡ header f pilots_on ++ labels
unfolding without_pilots
without_frame f labels =
    let h = header f pilots_on in
    let long = header_length_lem f pilots_on in
    let start : 0 + length h ≡ header_length + 0 * subsection_length = omega (arith, long) in
    stays 0 h (with_pilots labels) (λ i below. in_header (0 + i) (omega (arith, below, long)))
    ∙ ap (λ (l : List ℕ). h ++ l) (ap (λ (s : ℕ). without_from s (with_pilots labels)) start ∙ without_with (length labels) 0 labels (omega arith))

-- sub-sections of a codeword section (table 5-2)
abbrev subsections : ℕ
subsections = 15

module _ (f : ℕ) (labels : List ℕ) where
  -- a slot behind the header
  behind-header : (s : ℕ) → header_length ≤ s → s < header_length + piloted_length (length labels)
      → get_or (frame f pilots_on labels) s 0 ≡ standing labels (s - header_length)
  behind-header s above inside =
      let p = s - header_length in
      let e : s ≡ length (header f pilots_on) + p = omega (arith, header_length_lem f pilots_on) in
      ap (λ (n : ℕ). get_or (frame f pilots_on labels) n 0) e ∙ get_or-append-add (header f pilots_on) (with_pilots labels) p 0 ∙ with_at labels p (omega arith)

  pub label_slot_lem : (i : ℕ) → i < length labels → get_or (frame f pilots_on labels) (label_slot i) 0 ≡ get_or labels i 0
  label_slot_lem i h =
      let p = label_slot i - header_length in
      let low : p % subsection_length < subsection_labels = omega arith in
      let e : label_at p ≡ i = omega arith in
      behind-header (label_slot i) (omega arith) (omega arith) ∙ rw (lt-leb _ _ low, e)

  pub pilot-slot : (s : ℕ) → s < header_length + piloted_length (length labels) → is_pilot s ≡ true → get_or (frame f pilots_on labels) s 0 ≡ pilot
  pilot-slot s inside h =
      let past = leb subsection_labels ((s - header_length) % subsection_length) in
      behind-header s (leb-true _ _ (left-true (leb header_length s) past h)) inside ∙ rw (right_true (leb header_length s) past h)

  -- a slot that is no pilot's
  pub other_slot : (top : ℕ) → all_at_most top labels ≡ true → top < header_zero → (s : ℕ) → s < header_length + piloted_length (length labels) → is_pilot s ≡ false
      → get_or (frame f pilots_on labels) s 0 < pilot
  other_slot top legal low s inside h =
      by_cases
      (leb header_length s)
      (λ t.
      let p = s - header_length in
      let no : leb subsection_labels (p % subsection_length) ≡ false = rw t at h in
      let found : get_or (frame f pilots_on labels) s 0 ≡ get_or labels (label_at p) 0 = behind-header s (leb-true _ _ t) inside ∙ rw no in
      omega (arith, found, legal-at top labels legal (label_at p), low))
      (λ t.
      let found = get_or-append (header f pilots_on) (with_pilots labels) 0 s (omega (arith, leb-false header_length s t, header_length_lem f pilots_on)) in
      omega (arith, found, legal-at header_one (header f pilots_on) (header-low f pilots_on) s))

  -- a codeword section, and its pilots among its labels
  pub section-slots : (k : ℕ) → k * symbols + symbols ≤ length labels
      → take (piloted_length symbols) (drop (header_length + k * piloted_length symbols) (frame f pilots_on labels)) ≡ with_pilots (section labels k)
  section-slots k room =
      let a = take (k * symbols) labels in
      let rest = drop (k * symbols) labels in
      let b = section labels k in
      let c = drop symbols rest in
      let slots = piloted_length symbols in
      let long_a = length-take-le (k * symbols) labels (omega (arith, room)) in
      let long_b = length-take-le symbols rest (omega (arith, room, length-drop (k * symbols) labels)) in
      let split : with_pilots labels ≡ with_pilots a ++ (with_pilots b ++ with_pilots c) =
      ap with_pilots (sym (take-append-drop (k * symbols) labels))
      ∙ with_append (subsections * k) a rest (omega (arith, long_a))
      ∙ ap (λ (l : List ℕ). with_pilots a ++ l) (ap with_pilots (sym (take-append-drop symbols rest)) ∙ with_append subsections b c (omega (arith, long_b))) in
      let past : header_length + k * slots ≡ length (header f pilots_on) + length (with_pilots a) =
      omega (arith, header_length_lem f pilots_on, with_length a, long_a) in
      ap (λ (n : ℕ). take slots (drop n (frame f pilots_on labels))) past
      ∙ ap (take slots) (drop-append-add (header f pilots_on) (with_pilots labels) (length (with_pilots a)))
      ∙ ap (λ (l : List ℕ). take slots (drop (length (with_pilots a)) l)) split
      ∙ ap (take slots) (drop-append_seam (with_pilots a) (with_pilots b ++ with_pilots c))
      ∙ take_at (with_pilots b) (with_pilots c) slots (with_length b ∙ ap piloted_length long_b)
