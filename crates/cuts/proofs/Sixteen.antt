-- The sixteen states that a loop over the segments fills: the ends of their runs from 00, and the starting states worked out from these.
use mathlib.Core.Path.{◌≡◌, refl, sym, ap, ◌∙◌}
use mathlib.Core.Bool.{true}
use mathlib.Core.Logic.{◌⊎◌, inl, inr}
use mathlib.Core.List.{List, [], ◌∷◌, ◌++◌, map}
use Prim.Native.Nat.{ℕ, zero, suc, ◌+◌, ◌-◌, ◌/◌, ◌%◌, ◌≤◌, ◌<◌}
use native.Mathlib.Omega.{arith}
use lib.ListN.{length, take, drop, set, replicate}
use Rattle.std.proofs.Common.{Iter, None}
use Rattle.std.specs.Iterator.{YieldsFirst}
use Rattle.std.specs.Iterator.Adapters.{zip_first, zip_second, zip_steps}
use Rattle.std.specs.Slice.Iter.{iter_rest, iter_steps}
use Rattle.std.specs.declared.iter.Zip.{Zip}
use Rattle.bits.specs.Legal.{all_bits}
use Rattle.bits.proofs.Fill.{Left, left_start, left_as, left_store, left_end}
use Rattle.trellis.specs.Trellis.{State, zero-state, state_number, ends}
use Rattle.trellis.proofs.Runs.{ends-bits}
use Rattle.cuts.specs.Cuts.{stops, between, segments_from, end_state, end_states, start_states, most_cuts, most_segments, Cuts, padded, states_of}
use Rattle.cuts.specs.Propagation.{following, worked_from, worked_out}
use Rattle.cuts.specs.declared.States.{States}
use Rattle.cuts.proofs.Propagations.{worked_out_lem}
use Rattle.cuts.proofs.Segments.{stops-length}

segments-length : (from : ℕ) (ends bits : List ℕ) → length (map end_state (segments_from from ends bits)) ≡ length ends
segments-length from [] bits = refl
segments-length from (to ∷ later) bits = ap suc (segments-length to later bits)

pub ended-length : (cuts bits : List ℕ) → length (end_states cuts bits) ≡ length cuts + 1
ended-length cuts bits = segments-length 0 (stops (length bits) cuts) bits ∙ stops-length (length bits) cuts

-- the starting states that are left to store: none, past the last cut or the last end
pub worked_done : (x : State) (from : ℕ) (cuts es : List ℕ) → (cuts ≡ []) ⊎ (es ≡ []) → worked_from x from cuts es ≡ []
worked_done x from [] es h = refl
worked_done x from (c ∷ cs) [] h = refl
worked_done x from (c ∷ cs) (e ∷ es) (inl h) = cc
worked_done x from (c ∷ cs) (e ∷ es) (inr h) = cc

worked_length : (x : State) (from : ℕ) (cuts es : List ℕ) → length (worked_from x from cuts es) ≤ length cuts
worked_length x from [] es = omega arith
worked_length x from (c ∷ cs) [] = omega arith
worked_length x from (c ∷ cs) (e ∷ es) = omega (arith, worked_length (following x (c - from) e) c cs es)

pub worked_fits : (cuts es : List ℕ) → length cuts ≤ most_cuts → length (worked_out cuts es) ≤ most_segments
worked_fits cuts es h = omega (arith, worked_length zero-state 0 cuts es)

-- end states that stand behind those of the segments are not looked at
worked_front : (x : State) (from : ℕ) (cuts es more : List ℕ) → length cuts ≤ length es → worked_from x from cuts (es ++ more) ≡ worked_from x from cuts es
worked_front x from [] es more h = refl
worked_front x from (c ∷ cs) [] more h = absurd (omega arith)
worked_front x from (c ∷ cs) (e ∷ es) more h =
    let y = following x (c - from) e in
    ap (λ (l : List ℕ). state_number y ∷ l) (worked_front y c cs es more (omega arith))

-- sixteen states
drop-zeros : (k n : ℕ) → drop k (replicate {A = ℕ} n 0) ≡ replicate (n - k) 0
drop-zeros zero n =
    let e : n ≡ n - 0 = omega arith in
    ap (λ (m : ℕ). replicate {A = ℕ} m 0) e
drop-zeros (suc k) zero =
    let e : 0 ≡ 0 - suc k = omega arith in
    ap (λ (m : ℕ). replicate {A = ℕ} m 0) e
drop-zeros (suc k) (suc n) =
    let e : n - k ≡ suc n - suc k = omega arith in
    drop-zeros k n ∙ ap (λ (m : ℕ). replicate {A = ℕ} m 0) e

pub padded-is : {ws vs out : List ℕ} {n : ℕ} → length ws ≤ most_segments → vs ≡ [] → Left (replicate most_segments 0) 0 ws out n vs → out ≡ padded ws
padded-is {ws} h e l = left_end h (left_as e l) ∙ ap (λ (t : List ℕ). ws ++ t) (drop-zeros (length ws) most_segments)

-- a loop over the segments, the j-th of which begins at `from`, has the end states of those with these ends left to store
pub record Ending (cuts bits : List ℕ) (from j : ℕ) (ends ended : List ℕ) : Type 0 where
  pub left : Left (replicate most_segments 0) 0 (end_states cuts bits) ended j (map end_state (segments_from from ends bits))

pub ending_start : {long : ℕ} (cuts bits : List ℕ) → length bits ≡ long → Ending cuts bits 0 0 (stops long cuts) (replicate most_segments 0)
ending_start cuts bits e = record { left = rw (← e) (left_start _ _ _) }

module _ {cuts bits ends ended : List ℕ} {from j : ℕ} (s : Ending cuts bits from j ends ended) where
  pub ending_on : {to e : ℕ} {later : List ℕ} → ends ≡ to ∷ later → e ≡ end_state (between from to bits) → Ending cuts bits to (j + 1) later (set ended j e)
  ending_on is end = record { left = left_store (left_as (rw (is, end)) s.left) }

  module _ (few : length cuts ≤ most_cuts) where
    pub ending_room : {to : ℕ} {later : List ℕ} → ends ≡ to ∷ later → j < most_segments
    ending_room is = omega (arith, s.left.count, segments-length from ends bits, ap length is, ended-length cuts bits, few)

    pub ending-end : ends ≡ [] → ended ≡ padded (end_states cuts bits)
    ending-end none = padded-is (omega (arith, ended-length cuts bits, few)) (rw none) s.left

-- between the two passes
module _ (bits cuts : List ℕ) (c : Cuts (length bits) cuts) {ended : List ℕ} (is : ended ≡ padded (end_states cuts bits)) where
  pub started_is : all_bits bits ≡ true → {started : List ℕ} → started ≡ padded (worked_out cuts ended) → started ≡ padded (start_states cuts bits)
  started_is legal worked =
      let e = end_states cuts bits in
      let front = worked_front zero-state 0 cuts e (replicate (most_segments - length e) 0) (omega (arith, ended-length cuts bits)) in
      worked ∙ ap (λ (l : List ℕ). padded (worked_out cuts l)) is
      ∙ ap padded (ap (λ (l : List ℕ). 0 ∷ l) front ∙ worked_out_lem bits cuts legal c.inside)

pub states_are : (bits cuts : List ℕ) {ended started : List ℕ} → ended ≡ padded (end_states cuts bits) → started ≡ padded (start_states cuts bits)
    → (let s : States = record { ended = ended; started = started } in s ≡ states_of cuts bits)
states_are bits cuts e s = rw (e, s)

-- the state that a run from 00 ends in, found again from the two lowest bits of its number
end_found : (bits : List ℕ) → (let s = end_state bits in (s / 2 % 2, s % 2) ≡ ends zero-state bits)
end_found bits =
    let x = ends zero-state bits in
    let two_bits = ends-bits zero-state bits (omega arith) (omega arith) in
    let first : end_state bits / 2 % 2 ≡ x.0 = omega (arith, two_bits.0, two_bits.1) in
    let second : end_state bits % 2 ≡ x.1 = omega (arith, two_bits.1) in
    rw (first, second)

-- the starting states of the segments that end at these places, the first of which begins at `from`
abbrev pub starts_from : ℕ → List ℕ → List ℕ → List ℕ
starts_from from [] bits = []
starts_from from (to ∷ later) bits = end_state (take from bits) ∷ starts_from to later bits

starts-all : (long from : ℕ) (cuts bits : List ℕ) → starts_from from (stops long cuts) bits ≡ map (λ c. end_state (take c bits)) (from ∷ cuts)
starts-all long from [] bits = refl
starts-all long from (c ∷ cs) bits = ap (λ (l : List ℕ). end_state (take from bits) ∷ l) (starts-all long c cs bits)

-- a loop over the segments has the starting states of those to come before it, and the zeros behind them
pub record Starting (bits : List ℕ) (from : ℕ) (places started : List ℕ) : Type 0 where
  pub zeros : List ℕ
  pub are : started ≡ starts_from from places bits ++ zeros

pub starting_start : (long : ℕ) (cuts bits : List ℕ) {started : List ℕ} → started ≡ padded (start_states cuts bits) → Starting bits 0 (stops long cuts) started
starting_start long cuts bits is = record { zeros = replicate (most_segments - length (start_states cuts bits)) 0; are = rw (is, starts-all long 0 cuts bits) }

module _ {bits places started : List ℕ} {from : ℕ} (s : Starting bits from places started) where
  module _ {to start : ℕ} {later rest : List ℕ} (is : places ≡ to ∷ later) (first : started ≡ start ∷ rest) where
    both : start ∷ rest ≡ end_state (take from bits) ∷ (starts_from to later bits ++ s.zeros)
    both = rw (first, is) at s.are

    pub starting_on : Starting bits to later rest
    starting_on = record { zeros = s.zeros; are = cc }

    -- as a state, by the two lowest bits of its number
    pub starting_state : (let x : State = (start / 2 % 2, start % 2) in x ≡ ends zero-state (take from bits))
    starting_state =
        let number : start ≡ end_state (take from bits) = cc in
        rw number (end_found (take from bits))

-- a loop over both ends where the segments do
pub starting-end : {bits : List ℕ} {from : ℕ} (it after : Zip (List ℕ) (Iter ℕ)) → Starting bits from (zip_first it) (iter_rest (zip_second it))
    → zip_steps (YieldsFirst (λ (s : List ℕ). s)) iter_steps it None after → zip_first it ≡ []
starting-end it after s (inl (left, (none, _))) = none
starting-end {bits} {from} it after s (inr (left, (none, _))) = none-left (zip_first it) (ap length (sym s.are) ∙ none)
  where
    none-left : (l : List ℕ) → length (starts_from from l bits ++ s.zeros) ≡ 0 → l ≡ []
    none-left [] e = refl
    none-left (to ∷ later) e = absurd (omega arith)
