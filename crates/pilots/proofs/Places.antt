-- What stands at each place among the labels with pilots, place 0 being the first label's.
use mathlib.Core.Path.{◌≡◌, ap, ◌∙◌}
use mathlib.Core.List.{List, ◌++◌}
use Prim.Native.Nat.{ℕ, zero, suc, ◌+◌, ◌-◌, ◌*◌, ◌/◌, ◌%◌, ◌≤◌, ◌<◌}
use native.Mathlib.Omega.{arith}
use borrow.Author.Tests.{lt-leb, leb-true, leb-false}
use lib.Dec.{leb}
use lib.ListN.{length, get_or, take, drop, length-append, length-drop, get_or-replicate, get_or-append}
use lib.Seq.{get_or-append-add, get_or-take, get_or-drop, length-take-le}
use Rattle.std.specs.Prelude.{if◌then◌else◌}
use Rattle.bits.proofs.Cases.{by_cases}
use Rattle.pilots.specs.Pilots.{inserted, pilot, piloted_length, pilots, subsection_labels, subsection_length, subsection_pilots, with_pilots}

-- the number of the label at a place, if it is no pilot's
abbrev pub label_at : ℕ → ℕ
label_at p = p / subsection_length * subsection_labels + p % subsection_length

-- a pilot, where the place, modulo the length of a sub-section, is past its labels; else a label
abbrev pub standing : List ℕ → ℕ → ℕ
standing labels p = if leb subsection_labels (p % subsection_length) then pilot else get_or labels (label_at p) 0

-- the first sub-section, and what follows it
module _ (labels : List ℕ) (more : List ℕ) (h : subsection_labels ≤ length labels) where
  abbrev front : List ℕ
  front = take subsection_labels labels

  front_length : length front ≡ subsection_labels
  front_length = length-take-le subsection_labels labels h

  chunk_length : length (front ++ pilots) ≡ subsection_length
  chunk_length = omega (arith, length-append front pilots, front_length)

  at_label : (p : ℕ) → p < subsection_labels → get_or (front ++ pilots ++ more) p 0 ≡ get_or labels p 0
  at_label p below =
      get_or-append (front ++ pilots) more 0 p (omega (arith, chunk_length))
      ∙ get_or-append front pilots 0 p (omega (arith, front_length))
      ∙ get_or-take subsection_labels labels p 0 below

  at-pilot : (p : ℕ) → subsection_labels ≤ p → p < subsection_length → get_or (front ++ pilots ++ more) p 0 ≡ pilot
  at-pilot p above below =
      let k = p - subsection_labels in
      let e : p ≡ length front + k = omega (arith, front_length) in
      get_or-append (front ++ pilots) more 0 p (omega (arith, chunk_length))
      ∙ ap (λ (n : ℕ). get_or (front ++ pilots) n 0) e
      ∙ get_or-append-add front pilots k 0
      ∙ get_or-replicate subsection_pilots k pilot 0 (omega arith)

  at_more : (p : ℕ) → get_or (front ++ pilots ++ more) (subsection_length + p) 0 ≡ get_or more p 0
  at_more p = rw (← chunk_length) (get_or-append-add (front ++ pilots) more p 0)

  in_first : (p : ℕ) → p < subsection_length → get_or (front ++ pilots ++ more) p 0 ≡ standing labels p
  in_first p below =
      let same : p % subsection_length ≡ p = omega arith in
      let first : label_at p ≡ p = omega arith in
      by_cases
      (leb subsection_labels p)
      (λ t. rw (same, t) (at-pilot p (leb-true subsection_labels p t) below))
      (λ f. rw (first, same, f) (at_label p (leb-false subsection_labels p f)))

-- n sub-sections, and fewer labels over than another has
abbrev Parts : ℕ → List ℕ → Type 0
Parts n labels = (n * subsection_labels ≤ length labels) × (length labels < suc n * subsection_labels)

-- one sub-section on
standing_on : (labels : List ℕ) (p : ℕ) → standing (drop subsection_labels labels) p ≡ standing labels (subsection_length + p)
standing_on labels p =
    let here : (subsection_length + p) % subsection_length ≡ p % subsection_length = omega arith in
    let there : subsection_labels + label_at p ≡ label_at (subsection_length + p) = omega arith in
    rw (← there, here, get_or-drop subsection_labels labels (label_at p) 0)

inserted-at : (n : ℕ) (labels : List ℕ) → Parts n labels → (p : ℕ) → p < length labels + n * subsection_pilots → get_or (inserted n labels) p 0 ≡ standing labels p
inserted-at zero labels h p inside =
    let low : p % subsection_length < subsection_labels = omega (arith, h.1) in
    let e : label_at p ≡ p = omega (arith, h.1) in
    rw (lt-leb _ _ low, e)
inserted-at (suc n) labels h p inside =
    let rest = drop subsection_labels labels in
    let many : subsection_labels ≤ length labels = omega (arith, h.0) in
    let long = length-drop subsection_labels labels in
    let parts : Parts n rest = (omega (arith, long, h.0), omega (arith, long, h.1)) in
    by_cases
    (leb subsection_length p)
    (λ t.
    let q = p - subsection_length in
    let e : p ≡ subsection_length + q = omega (arith, leb-true subsection_length p t) in
    rw e (at_more labels (inserted n rest) many q ∙ inserted-at n rest parts q (omega (arith, long, e)) ∙ standing_on labels q))
    (λ f. in_first labels (inserted n rest) many p (leb-false subsection_length p f))

module _ (labels : List ℕ) where
  all-parts : Parts (length labels / subsection_labels) labels
  all-parts = (omega arith, omega arith)

  pub with_at : (p : ℕ) → p < piloted_length (length labels) → get_or (with_pilots labels) p 0 ≡ standing labels p
  unfolding with_pilots
  with_at p inside = inserted-at (length labels / subsection_labels) labels all-parts p inside
