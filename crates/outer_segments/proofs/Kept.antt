-- The outer trellis's kept bits by segments: how many, over joined lists, of the whole run, and segments stored one behind the other.
use mathlib.Core.Path.{◌≡◌, refl, sym, ap, ◌∙◌}
use mathlib.Core.List.{List, [], ◌∷◌, ◌++◌}
use Prim.Native.Nat.{ℕ, suc, ◌+◌, ◌%◌, ◌≤◌}
use native.Mathlib.Omega.{arith}
use borrow.Author.Tests.{eq-eqb, ne_eqb, eqb-true, eqb-false}
use Rattle.std.specs.List.{fold}
use lib.Dec.{eqb}
use lib.ListN.{length, take, drop}
use lib.Seq.{sets, length-sets, length-take-le, take-length}
use Rattle.bits.proofs.Cases.{by_cases}
use Rattle.bits.proofs.Fill.{sets-append, sets-front}
use Rattle.trellis.specs.Trellis.{State, zero-state, parity, next, parities, ends, termination, terminated, kept, outer}
use Rattle.trellis.proofs.Runs.{terminated-length}
use Rattle.cuts.specs.Cuts.{between}
use Rattle.cuts.proofs.Propagations.{between-joins}
use Rattle.outer_segments.specs.Kept.{kept_from, kept_before}

pub kept-length : (i : ℕ) (x : State) (bits : List ℕ) → kept_before i + length (kept_from i x bits) ≡ kept_before (i + length bits)
kept-length i x [] = omega arith
kept-length i x (u ∷ us) =
    by_cases (eqb (i % 2) 0)
    (λ t. rw t (omega (arith, eqb-true (i % 2) 0 t, kept-length (i + 1) (next x u) us)))
    (λ f. rw f (omega (arith, eqb-false (i % 2) 0 f, kept-length (i + 1) (next x u) us)))

kept_append : (i : ℕ) (x : State) (a b : List ℕ) → kept_from i x (a ++ b) ≡ kept_from i x a ++ kept_from (i + length a) (ends x a) b
kept_append i x [] b =
    let e : i ≡ i + 0 = omega arith in
    ap (λ (k : ℕ). kept_from k x b) e
kept_append i x (u ∷ a) b =
    let e : i + 1 + length a ≡ i + suc (length a) = omega arith in
    let step = kept_append (i + 1) (next x u) a b ∙ ap (λ (k : ℕ). kept_from (i + 1) (next x u) a ++ kept_from k (ends (next x u) a) b) e in
    by_cases (eqb (i % 2) 0) (λ t. rw t (ap (λ (l : List ℕ). u ∷ parity x u ∷ l) step)) (λ f. rw f (ap (λ (l : List ℕ). u ∷ l) step))

-- the state that a run ends in, as a fold
pub ends_folds : (x : State) (bits : List ℕ) → fold (λ (x : State) (u : ℕ). next x u) x bits ≡ ends x bits
ends_folds x [] = refl
ends_folds x (u ∷ us) = ends_folds (next x u) us

-- from an even step on, over pairs of steps, they are those that the whole run keeps
kept-pairs : (i : ℕ) (x : State) (bits : List ℕ) → i % 2 ≡ 0 → length bits % 2 ≡ 0 → kept_from i x bits ≡ kept bits (parities x bits)
kept-pairs i x [] e d = refl
kept-pairs i x (u ∷ []) e d = absurd (omega arith)
kept-pairs i x (u ∷ v ∷ us) e d =
    let odd : (i + 1) % 2 ≡ 0 → ⊥ = λ z. omega arith in
    rw (eq-eqb (i % 2) 0 e, ne_eqb ((i + 1) % 2) 0 odd)
    (ap (λ (l : List ℕ). u ∷ parity x u ∷ v ∷ l) (kept-pairs (i + 1 + 1) (next (next x u) v) us (omega arith) (omega arith)))

module _ (block : List ℕ) (even : length block % 2 ≡ 0) where
  abbrev x : State
  x = ends zero-state block

  outer-is : outer block ≡ kept_from 0 zero-state (terminated block)
  outer-is = sym (kept-pairs 0 zero-state (terminated block) refl (omega (arith, terminated-length zero-state block)))

  pub outer-room : kept_before (length block + 2) ≡ length (outer block)
  outer-room = omega (arith, kept-length 0 zero-state (terminated block), ap length outer-is, terminated-length zero-state block)

  -- stored in two parts, those of the terminating steps behind the block's
  pub outer-stored : (work : List ℕ) {work₁ work₂ : List ℕ} {end : State} → length (outer block) ≤ length work → end ≡ x
      → work₁ ≡ sets work 0 (kept_from 0 zero-state block)
      → work₂ ≡ sets work₁ (kept_before (length block)) (kept_from (length block) end (termination end))
      → work₂ ≡ outer block ++ drop (length (outer block)) work
  outer-stored work {work₁} room is is₁ is₂ =
      let a = kept_from 0 zero-state block in
      let b = kept_from (length block) x (termination x) in
      let n : 0 + length block ≡ length block = omega arith in
      let at : kept_before (length block) ≡ 0 + length a = ap kept_before (sym n) ∙ sym (kept-length 0 zero-state block) in
      let joined = kept_append 0 zero-state block (termination x) ∙ ap (λ (k : ℕ). a ++ kept_from k x (termination x)) n in
      is₂ ∙ ap (λ (y : State). sets work₁ (kept_before (length block)) (kept_from (length block) y (termination y))) is
      ∙ rw (is₁, at) (sym (sets-append work 0 a b))
      ∙ ap (sets work 0) (sym (outer-is ∙ joined)) ∙ sets-front (outer block) work room

-- at a segment's start, the kept bits of the steps before it have been stored; and so at its end
pub record Stored (bits work₀ : List ℕ) (from : ℕ) (work : List ℕ) : Type 0 where
  pub before : work ≡ sets work₀ 0 (kept_from 0 zero-state (take from bits))

pub stored-length : {bits work₀ : List ℕ} {from : ℕ} {work : List ℕ} → Stored bits work₀ from work → length work ≡ length work₀
stored-length {bits} {work₀} {from} s = ap length s.before ∙ length-sets work₀ 0 (kept_from 0 zero-state (take from bits))

module _ (bits : List ℕ) {work₀ work : List ℕ} (from to : ℕ) (stored : Stored bits work₀ from work) (up : from ≤ to) (low : to ≤ length bits) where
  steps_before : 0 + length (take from bits) ≡ from
  steps_before = omega (arith, length-take-le from bits (omega arith))

  pub stored_next : {x : State} {new : List ℕ} → x ≡ ends zero-state (take from bits) → new ≡ sets work (kept_before from) (kept_from from x (between from to bits)) → Stored bits work₀ to new
  stored_next is New-is =
      let y = ends zero-state (take from bits) in
      let a = kept_from 0 zero-state (take from bits) in
      let b = kept_from from y (between from to bits) in
      let at : kept_before from ≡ 0 + length a = ap kept_before (sym steps_before) ∙ sym (kept-length 0 zero-state (take from bits)) in
      let joined = kept_append 0 zero-state (take from bits) (between from to bits) ∙ ap (λ (k : ℕ). a ++ kept_from k y (between from to bits)) steps_before in
      record {
        before =
            New-is ∙ ap (λ (z : State). sets work (kept_before from) (kept_from from z (between from to bits))) is
            ∙ rw (stored.before, at) (sym (sets-append work₀ 0 a b))
            ∙ ap (sets work₀ 0) (sym (ap (kept_from 0 zero-state) (between-joins from to bits up) ∙ joined));
      }

pub stored_start : (bits work : List ℕ) → Stored bits work 0 work
stored_start bits work = record { before = refl }

pub stored-end : {bits work₀ work : List ℕ} {from : ℕ} → from ≡ length bits → Stored bits work₀ from work → work ≡ sets work₀ 0 (kept_from 0 zero-state bits)
stored-end {bits} {work₀} e s = s.before ∙ ap (λ (l : List ℕ). sets work₀ 0 (kept_from 0 zero-state l)) (ap (λ (n : ℕ). take n bits) e ∙ take-length bits)
