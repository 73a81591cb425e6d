-- The segments between cuts: where each begins and ends, for a loop over them, and that they are the input.
use mathlib.Core.Path.{◌≡◌, refl, sym, ap, ◌∙◌}
use mathlib.Core.Bool.{true}
use mathlib.Core.List.{List, [], ◌∷◌, ◌++◌, append-nil}
use Prim.Native.Nat.{ℕ, zero-le, ◌+◌, ◌-◌, ◌≤◌}
use native.Mathlib.Omega.{arith}
use borrow.Author.Tests.{leb-true}
use lib.Dec.{leb}
use lib.ListN.{length, drop, length-append, length-drop, take-append-drop}
use lib.Seq.{take_all, drop-drop}
use Rattle.bits.specs.Joined.{joined}
use Rattle.bits.specs.Legal.{all_at_most}
use Rattle.bits.proofs.Legal.{legal_head, legal-tail}
use Rattle.bits.proofs.Table.{left-true, right_true}
use Rattle.cuts.specs.Cuts.{stops, between, segments_from, segments, most_cuts, rises_from, is_inside, Cuts}

-- the first of places that do not fall is not below where they start, and the others do not fall from it on
pub rising : (from : ℕ) {c : ℕ} {cuts cs : List ℕ} → cuts ≡ c ∷ cs → rises_from from cuts ≡ true → (from ≤ c) × (rises_from c cs ≡ true)
rising from {c} {cuts} {cs} is up =
    let both = rw is at up in
    (leb-true from c (left-true (leb from c) (rises_from c cs) both), right_true (leb from c) (rises_from c cs) both)

pub stops-length : (long : ℕ) (cuts : List ℕ) → length (stops long cuts) ≡ length cuts + 1
stops-length long cuts = length-append cuts (long ∷ [])

-- a loop over the segments is where one of them begins, before its end and those of the later ones: they rise up to the input's end
abbrev pub Rises : ℕ → ℕ → List ℕ → Type 0
Rises long from [] = from ≡ long
Rises long from (to ∷ later) = (from ≤ to) × (to ≤ long) × Rises long to later

pub record Ahead (long from : ℕ) (ends : List ℕ) : Type 0 where
  pub rises : Rises long from ends

stops-rise : (long from : ℕ) (cuts : List ℕ) → from ≤ long → rises_from from cuts ≡ true → all_at_most long cuts ≡ true → Rises long from (stops long cuts)
stops-rise long from [] h up low = (h, omega arith, refl)
stops-rise long from (c ∷ cs) h up low =
    let (here, later) = rising from refl up in
    let inside = legal_head long c cs low in
    (here, inside, stops-rise long c cs inside later (legal-tail long c cs low))

module _ {long : ℕ} {cuts : List ℕ} (c : Cuts long cuts) where
  pub cuts_few : length cuts ≤ most_cuts
  cuts_few = leb-true _ _ c.few

  pub ahead_start : Ahead long 0 (stops long cuts)
  ahead_start =
      let rises = left-true (rises_from 0 cuts) (all_at_most long cuts) c.inside in
      record { rises = stops-rise long 0 cuts zero-le rises (right_true (rises_from 0 cuts) (all_at_most long cuts) c.inside) }

module _ {long from : ℕ} {ends : List ℕ} (a : Ahead long from ends) where
  module _ {to : ℕ} {later : List ℕ} (is : ends ≡ to ∷ later) where
    pub ahead_up : from ≤ to
    ahead_up = (rw is at a.rises).0

    pub ahead_low : to ≤ long
    ahead_low = (rw is at a.rises).1

    pub ahead_next : Ahead long to later
    ahead_next = record { rises = (rw is at a.rises).2 }

  -- past the last segment it is at the input's end
  pub ahead-end : ends ≡ [] → from ≡ long
  ahead-end none = rw none at a.rises

-- the segments, one behind the other, are the input
segments-rest : (bits : List ℕ) (from : ℕ) (cuts : List ℕ) → from ≤ length bits → rises_from from cuts ≡ true → all_at_most (length bits) cuts ≡ true
    → joined (segments_from from (stops (length bits) cuts) bits) ≡ drop from bits
segments-rest bits from [] h up low = append-nil (between from (length bits) bits) ∙ take_all (length bits - from) (drop from bits) (simp length-drop (omega arith))
segments-rest bits from (c ∷ cs) h up low =
    let (here, later) = rising from refl up in
    let e : from + (c - from) ≡ c = omega arith in
    ap (λ (l : List ℕ). between from c bits ++ l)
    (segments-rest bits c cs (legal_head (length bits) c cs low) later (legal-tail (length bits) c cs low)
    ∙ sym (drop-drop (c - from) from bits ∙ ap (λ (n : ℕ). drop n bits) e))
    ∙ take-append-drop (c - from) (drop from bits)

pub segments_join : (bits cuts : List ℕ) → is_inside (length bits) cuts ≡ true → joined (segments cuts bits) ≡ bits
segments_join bits cuts inside =
    segments-rest bits 0 cuts zero-le (left-true (rises_from 0 cuts) (all_at_most (length bits) cuts) inside)
    (right_true (rises_from 0 cuts) (all_at_most (length bits) cuts) inside)
