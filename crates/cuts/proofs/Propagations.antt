-- The state equation (6-5 to 6-7): a run from any state by its run from 00, so the starting states of all segments; and A³ = I.
use mathlib.Core.Path.{◌≡◌, refl, sym, ap, ◌∙◌}
use mathlib.Core.Bool.{true}
use mathlib.Core.List.{List, [], ◌∷◌, ◌++◌, map}
use Prim.Native.Nat.{ℕ, zero, suc, ◌+◌, ◌-◌, ◌/◌, ◌%◌, ◌≤◌}
use native.Mathlib.Omega.{arith}
use Rattle.std.specs.List.{fold, range_with_len}
use lib.ListN.{length, take, drop, replicate, length-replicate, length-drop, take-append-drop}
use lib.Seq.{length-take-le, take-add}
use Rattle.bits.specs.Legal.{all_at_most, all_bits}
use Rattle.bits.specs.Sum.{◌⊕◌, ◌⊕*◌}
use Rattle.bits.proofs.Legal.{legal_head, legal-tail, legal-take, legal-rest}
use Rattle.bits.proofs.Table.{left-true, right_true}
use Rattle.trellis.specs.Trellis.{State, zero-state, ◌⊕ₛ◌, state_number, state_of, next, ends}
use Rattle.trellis.proofs.Linear.{ends-sum}
use Rattle.trellis.proofs.Runs.{ends-append, ends-bits, end_back}
use Rattle.cuts.specs.Cuts.{between, segments_from, stops, end_state, end_states, start_states, rises_from, is_inside}
use Rattle.cuts.specs.Propagation.{propagated, following, worked_from, worked_out}
use Rattle.cuts.proofs.Segments.{rising}

-- steps without input, as a fold over their numbers
pub propagated_folds : (n from : ℕ) (x : State) → fold (λ (x : State) (k : ℕ). next x 0) x (range_with_len from n) ≡ propagated n x
propagated_folds zero from x = refl
propagated_folds (suc n) from x = propagated_folds n (from + 1) (next x 0)

-- steps without input are steps on zeros
propagated-zeros : (n : ℕ) (x : State) → propagated n x ≡ ends x (replicate n 0)
propagated-zeros zero x = refl
propagated-zeros (suc n) x = propagated-zeros n (next x 0)

zeros-sum : (a : List ℕ) → all_bits a ≡ true → replicate (length a) 0 ⊕* a ≡ a
zeros-sum [] e = refl
zeros-sum (u ∷ a) e =
    let low : u ≤ 1 = legal_head 1 u a e in
    let h : 0 ⊕ u ≡ u = omega arith in
    rw (h, zeros-sum a (legal-tail 1 u a e))

-- equation 6-5: the end from x is the end from 00 and, added to it, x propagated over as many steps
pub ends_from : (x : State) (a : List ℕ) → x.0 ≤ 1 → x.1 ≤ 1 → all_bits a ≡ true → ends x a ≡ propagated (length a) x ⊕ₛ ends zero-state a
ends_from x a h0 h1 e =
    let z0 : x.0 ⊕ 0 ≡ x.0 = omega arith in
    let z1 : x.1 ⊕ 0 ≡ x.1 = omega arith in
    rw (propagated-zeros (length a) x) (rw (zeros-sum a e, z0, z1) at (ends-sum x zero-state (replicate (length a) 0) a (length-replicate (length a) 0)))

-- equation 6-7: A³ is the identity
propagated_three : (x : State) → x.0 ≤ 1 → x.1 ≤ 1 → propagated 3 x ≡ x
propagated_three (zero, zero) h0 h1 = refl
propagated_three (zero, suc zero) h0 h1 = refl
propagated_three (suc zero, zero) h0 h1 = refl
propagated_three (suc zero, suc zero) h0 h1 = refl
propagated_three (suc (suc a), b) h0 h1 = absurd (omega arith)
propagated_three (zero, suc (suc b)) h0 h1 = absurd (omega arith)
propagated_three (suc zero, suc (suc b)) h0 h1 = absurd (omega arith)

pub propagated-period : (n : ℕ) (x : State) → x.0 ≤ 1 → x.1 ≤ 1 → propagated n x ≡ propagated (n % 3) x
propagated-period zero x h0 h1 = refl
propagated-period (suc zero) x h0 h1 = refl
propagated-period (suc (suc zero)) x h0 h1 = refl
propagated-period (suc (suc (suc n))) x h0 h1 =
    let e : suc (suc (suc n)) % 3 ≡ n % 3 = omega arith in
    ap (propagated n) (propagated_three x h0 h1) ∙ propagated-period n x h0 h1 ∙ ap (λ (k : ℕ). propagated k x) (sym e)

-- the bits before a place are those before an earlier one, and those between
pub between-joins : (from to : ℕ) (bits : List ℕ) → from ≤ to → take to bits ≡ take from bits ++ between from to bits
between-joins from to bits h =
    let e : to ≡ from + (to - from) = omega arith in
    ap (λ (n : ℕ). take n bits) e ∙ take-add from (to - from) bits

pub between-length : (from to : ℕ) (bits : List ℕ) → to ≤ length bits → length (between from to bits) ≡ to - from
between-length from to bits h = length-take-le (to - from) (drop from bits) (simp length-drop (omega arith))

between-bits : (from to : ℕ) (bits : List ℕ) → all_bits bits ≡ true → all_bits (between from to bits) ≡ true
between-bits from to bits h =
    let rest = legal-rest 1 (take from bits) (drop from bits) (rw (take-append-drop from bits) h) in
    legal-take 1 (to - from) (drop from bits) rest

-- a segment from its own start ends where the plain run is at its end
pub ends-between : (bits : List ℕ) (from to : ℕ) → from ≤ to → ends (ends zero-state (take from bits)) (between from to bits) ≡ ends zero-state (take to bits)
ends-between bits from to h =
    sym (ends-append zero-state (take from bits) (between from to bits)) ∙ ap (ends zero-state) (sym (between-joins from to bits h))

-- equation 6-6 at one cut
following-is : (bits : List ℕ) (from c : ℕ) → all_bits bits ≡ true → from ≤ c → c ≤ length bits
    → following (ends zero-state (take from bits)) (c - from) (end_state (between from c bits)) ≡ ends zero-state (take c bits)
following-is bits from c legal up low =
    let x = ends zero-state (take from bits) in
    let s = between from c bits in
    let two = ends-bits zero-state (take from bits) (omega arith) (omega arith) in
    ap (λ (y : State). propagated (c - from) x ⊕ₛ y) (end_back 0 s (omega arith))
    ∙ ap (λ (k : ℕ). propagated k x ⊕ₛ ends zero-state s) (sym (between-length from c bits low))
    ∙ sym (ends_from x s two.0 two.1 (between-bits from c bits legal))
    ∙ ends-between bits from c up

-- and at all of them
worked_from_lem : (bits : List ℕ) → all_bits bits ≡ true → (from : ℕ) (cuts : List ℕ) → rises_from from cuts ≡ true → all_at_most (length bits) cuts ≡ true
    → worked_from (ends zero-state (take from bits)) from cuts (map end_state (segments_from from (stops (length bits) cuts) bits))
    ≡ map (λ c. end_state (take c bits)) cuts
worked_from_lem bits legal from [] up low = refl
worked_from_lem bits legal from (c ∷ cs) up low =
    let (here, later) = rising from refl up in
    let step = following-is bits from c legal here (legal_head (length bits) c cs low) in
    ap (λ (x : State). state_number x ∷ worked_from x c cs (map end_state (segments_from c (stops (length bits) cs) bits))) step
    ∙ ap (λ (l : List ℕ). end_state (take c bits) ∷ l)
    (worked_from_lem bits legal c cs later (legal-tail (length bits) c cs low))

pub worked_out_lem : (bits cuts : List ℕ) → all_bits bits ≡ true → is_inside (length bits) cuts ≡ true → worked_out cuts (end_states cuts bits) ≡ start_states cuts bits
worked_out_lem bits cuts legal inside =
    ap (λ (l : List ℕ). 0 ∷ l)
    (worked_from_lem bits legal 0 cuts (left-true (rises_from 0 cuts) (all_at_most (length bits) cuts) inside)
    (right_true (rises_from 0 cuts) (all_at_most (length bits) cuts) inside))

-- of a number's bits the lowest two count
pub low_bits : (x : State) (e : ℕ) → x ⊕ₛ (e / 2 % 2, e % 2) ≡ x ⊕ₛ state_of e
low_bits x e =
    let first : x.0 ⊕ e / 2 % 2 ≡ x.0 ⊕ e / 2 = omega arith in
    rw first
