-- The inner encoder's loop: what is left of each register at time i, a turn, and the end.
use mathlib.Core.Path.{◌≡◌, refl, sym, ap, ◌∙◌}
use mathlib.Core.List.{List, ◌∷◌, ◌++◌}
use Prim.Native.Nat.{ℕ, ◌+◌, ◌≤◌, ◌<◌}
use native.Mathlib.Omega.{arith}
use borrow.Author.Tests.{leb-true, leb-false}
use lib.Dec.{eqb, leb}
use lib.ListN.{length, get_or, length-append}
use lib.Seq.{sets}
use Rattle.std.specs.Prelude.{if◌then◌else◌}
use Rattle.bits.proofs.Cases.{by_cases}
use Rattle.bits.proofs.Fill.{sets-append}
use Rattle.acm.specs.Formats.{N1}
use Rattle.acm.specs.declared.table.Format.{Format}
use Rattle.trellis.specs.Trellis.{State, zero-state, parity, next, parities, ends, termination}
use Rattle.puncture.specs.Puncture.{survives, kept_at, counted, counter_start, counted_from}
use Rattle.puncture.proofs.Matched.{rate_matched-counted}
use Rattle.coder.specs.Coder.{state_in, turned, stored, finished}
use Rattle.coder.specs.declared.steps.Coder.{Coder}
use Rattle.inner.specs.Left.{starting, reads, upper_from, lower_from, upper_left, lower_left, completed, Fits}
use Rattle.inner.specs.Registers.{upper, lower, registers, interleaved}
use Rattle.inner.proofs.Reading.{reads_all, read-end, read-bit}
use Rattle.inner.proofs.Registers.{Two, two_as, two_put_upper, two_put_lower, two_room-upper, two_room-lower}

-- the terminating bits are always left
upper_left_lem : (S : ℕ) (ρ : ℕ → ℕ) (i : ℕ) (x : State) (bits : List ℕ) → 0 < length (upper_from S ρ i x bits)
upper_left_lem S ρ i x bits =
    omega (arith, length-append (kept_at (λ i. survives S (ρ i)) i bits) (termination (ends x bits)))

lower_left_lem : (I Δ c : ℕ) (x : State) (bits : List ℕ) → 0 < length (lower_from I Δ c x bits)
lower_left_lem I Δ c x bits =
    omega (arith, length-append (counted_from I Δ c (parities x bits)) (parities (ends x bits) (termination (ends x bits))))

pub lower_start : (I Δ : ℕ) (bits : List ℕ) → Δ ≤ I → lower I Δ bits ≡ lower_from I Δ (counter_start Δ) zero-state bits
lower_start I Δ bits d =
    ap (λ (l : List ℕ). l ++ parities (ends zero-state bits) (termination (ends zero-state bits))) (rate_matched-counted I Δ (parities zero-state bits) d)

module _ (ρ : ℕ → ℕ) (work : List ℕ) (I i : ℕ) (x : State) {u : ℕ} (h : i < I) (bit : u ≡ get_or work (ρ i) 0) where
  upper-turn : (S : ℕ)
      → upper_from S ρ i x (reads ρ work I i)
      ≡ (if survives S (ρ i) then u ∷ upper_from S ρ (i + 1) (next x u) (reads ρ work I (i + 1))
      else upper_from S ρ (i + 1) (next x u) (reads ρ work I (i + 1)))
  upper-turn S =
      rw (read-bit ρ work I i h bit) (by_cases (survives S (ρ i)) (λ t. rw t) (λ f. rw f))

  lower-turn : (Δ c : ℕ)
      → lower_from I Δ c x (reads ρ work I i)
      ≡ (if (counted I Δ c).kept then parity x u ∷ lower_from I Δ (counted I Δ c).counter (next x u) (reads ρ work I (i + 1))
      else lower_from I Δ (counted I Δ c).counter (next x u) (reads ρ work I (i + 1)))
  lower-turn Δ c =
      rw (read-bit ρ work I i h bit) (by_cases (counted I Δ c).kept (λ t. rw t) (λ f. rw f))

-- the counter stays below I
pub counter_low : (I Δ c : ℕ) → Δ ≤ I → c < I → (counted I Δ c).counter < I
counter_low I Δ c d h =
    by_cases (leb Δ c) (λ t. rw t (omega (arith, leb-true Δ c t))) (λ f. rw f (omega (arith, leb-false Δ c f)))

module _ (r : Format) (ρ : ℕ → ℕ) (work : List ℕ) where
  -- the loop at time i, in an output of so many bytes that is F once all is stored
  abbrev pub Going : ℕ → List ℕ → List ℕ → ℕ → Coder → Type 0
  Going room F out i c = Two room r.s (N1 r) F out c.upper (upper_left r ρ work i c) c.lower (lower_left r ρ work i c)

  pub going_start : (out : List ℕ) (i : ℕ) (c : Coder) → Fits r ρ work i c → Going (length out) (completed r ρ work i c out) out i c
  going_start out i c fits = record { same = refl; upper = fits.upper-ends; lower = fits.lower-ends; apart = fits.apart; rest = refl }

  module _ {room : ℕ} {F out : List ℕ} (i : ℕ) (c : Coder) (going : Going room F out i c) where
    pub going_rooms : N1 r ≤ room → (c.upper < length out) × (c.lower < length out)
    going_rooms fits = (
      two_room-upper fits going (upper_left_lem r.survivors ρ i (state_in c) (reads ρ work r.i i)),
      two_room-lower fits going (lower_left_lem r.i r.delta c.counter (state_in c) (reads ρ work r.i i)),
    )

    -- a turn on the bit that is read, with the mark of its position
    pub going_turn : (mark u : ℕ) → i < r.i → u ≡ get_or work (ρ i) 0 → eqb mark 1 ≡ survives r.survivors (ρ i)
        → Going room F (stored u c out) (i + 1) (turned r.i r.delta mark u c)
    going_turn mark u h bit marked =
        let x = state_in c in
        let bits = reads ρ work r.i (i + 1) in
        let keeps = survives r.survivors (ρ i) in
        let matching = counted r.i r.delta c.counter in
        let U = upper_from r.survivors ρ (i + 1) (next x u) bits in
        let L = lower_from r.i r.delta matching.counter (next x u) bits in
        let above = two_put_upper keeps u U (upper_left_lem r.survivors ρ (i + 1) (next x u) bits)
        (two_as (upper-turn ρ work r.i i x h bit r.survivors) refl going) in
        rw marked (two_put_lower matching.kept (parity x u) L (lower_left_lem r.i r.delta matching.counter (next x u) bits)
        (two_as refl (lower-turn ρ work r.i i x h bit r.delta c.counter) above))

  -- at the start both registers are left, whole
  pub completed_start : (out : List ℕ) → r.delta ≤ r.i → Fits r ρ work 0 (starting r)
      → completed r ρ work 0 (starting r) out ≡ sets out 0 (registers r ρ (interleaved r ρ work))
  completed_start out d fits =
      let bits = interleaved r ρ work in
      let U = upper r.survivors ρ bits in
      let L = lower r.i r.delta bits in
      let S : r.s ≡ 0 + length U = sym fits.upper-ends ∙ ap (λ (l : List ℕ). 0 + length (upper_from r.survivors ρ 0 zero-state l)) (reads_all ρ work r.i) in
      rw (reads_all ρ work r.i, ← lower_start r.i r.delta bits d) (ap (λ (k : ℕ). sets (sets out 0 U) k L) S ∙ sym (sets-append out 0 U L))

  -- at the end the terminating bits are
  pub completed-end : (i : ℕ) (c : Coder) (out : List ℕ) → r.i ≤ i → completed r ρ work i c out ≡ finished c out
  completed-end i c out h = rw (read-end ρ work r.i i h)
