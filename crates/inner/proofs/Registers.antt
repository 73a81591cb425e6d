-- A loop that fills two registers of one buffer in order, the upper up to S and the lower from S to N, told by what is left to store in each:
-- the buffer with vs stored from n on and ws from q on is F.
use mathlib.Core.Path.{◌≡◌, refl, sym, ap, subst₂, ◌∙◌}
use mathlib.Core.Bool.{Bool, true, false}
use mathlib.Core.List.{List, [], ◌∷◌}
use Prim.Native.Nat.{ℕ, suc, ◌+◌, ◌≤◌, ◌<◌}
use native.Mathlib.Numerals.{add-one}
use native.Mathlib.Omega.{arith}
use lib.ListN.{length, set, length-set}
use lib.Seq.{sets, set_comm, set-set}
use Rattle.std.specs.Prelude.{if◌then◌else◌}

-- a store behind the stretch that is still to be stored may come first
set-sets : (l : List ℕ) (n : ℕ) (vs : List ℕ) (q y : ℕ) → n + length vs ≤ q → set (sets l n vs) q y ≡ sets (set l q y) n vs
set-sets l n [] q y h = refl
set-sets l n (v ∷ vs) q y h =
    set-sets (set l n v) (suc n) vs q y (omega arith)
    ∙ ap (λ (m : List ℕ). sets m (suc n) vs) (set_comm l n q v y (λ e. omega arith))

pub record Two (room S N : ℕ) (F out : List ℕ) (n : ℕ) (vs : List ℕ) (q : ℕ) (ws : List ℕ) : Type 0 where
  pub same : length out ≡ room
  pub upper : n + length vs ≡ S
  pub lower : q + length ws ≡ N
  pub apart : S ≤ q
  pub rest : sets (sets out n vs) q ws ≡ F

-- what is left may be written another way
pub two_as : {room S N : ℕ} {F out : List ℕ} {n q : ℕ} {vs us ws ts : List ℕ} → vs ≡ us → ws ≡ ts → Two room S N F out n vs q ws → Two room S N F out n us q ts
two_as {room} {S} {N} {F} {out} {n} {q} e d t = subst₂ (λ (a b : List ℕ). Two room S N F out n a q b) e d t

module _ {room S N : ℕ} {F out : List ℕ} {n q : ℕ} where
  two_store_upper : {x : ℕ} {vs ws : List ℕ} → Two room S N F out n (x ∷ vs) q ws → Two room S N F (set out n x) (n + 1) vs q ws
  two_store_upper {x} t = record {
    same = length-set out n x ∙ t.same;
    upper = omega (arith, t.upper);
    lower = t.lower;
    apart = t.apart;
    rest = rw (add-one n) t.rest;
  }

  two_store_lower : {y : ℕ} {vs ws : List ℕ} → Two room S N F out n vs q (y ∷ ws) → Two room S N F (set out q y) n vs (q + 1) ws
  two_store_lower {y} {vs} {ws} t = record {
    same = length-set out q y ∙ t.same;
    upper = t.upper;
    lower = omega (arith, t.lower);
    apart = omega (arith, t.apart);
    rest = rw (add-one q) (ap (λ (l : List ℕ). sets l (suc q) ws) (sym (set-sets out n vs q y (omega (arith, t.upper, t.apart)))) ∙ t.rest);
  }

-- a store at the place of a bit that is left is undone by it
set_undone : (l : List ℕ) (n x : ℕ) (vs : List ℕ) → 0 < length vs → sets (set l n x) n vs ≡ sets l n vs
set_undone l n x [] h = absurd (omega arith)
set_undone l n x (v ∷ vs) h = ap (λ (m : List ℕ). sets m (suc n) vs) (set-set l n x v)

-- every bit is stored, but a register goes on only past one that is kept
module _ {room S N : ℕ} {F out : List ℕ} {n q : ℕ} where
  pub two_put_upper : (kept : Bool) (x : ℕ) (vs : List ℕ) {ws : List ℕ} → 0 < length vs → Two room S N F out n (if kept then x ∷ vs else vs) q ws
      → Two room S N F (set out n x) (if kept then n + 1 else n) vs q ws
  two_put_upper true x vs left t = two_store_upper t
  two_put_upper false x vs {ws} left t = record {
    same = length-set out n x ∙ t.same;
    upper = t.upper;
    lower = t.lower;
    apart = t.apart;
    rest = ap (λ (l : List ℕ). sets l q ws) (set_undone out n x vs left) ∙ t.rest;
  }

  pub two_put_lower : (kept : Bool) (y : ℕ) {vs : List ℕ} (ws : List ℕ) → 0 < length ws → Two room S N F out n vs q (if kept then y ∷ ws else ws)
      → Two room S N F (set out q y) n vs (if kept then q + 1 else q) ws
  two_put_lower true y ws left t = two_store_lower t
  two_put_lower false y {vs} ws left t = record {
    same = length-set out q y ∙ t.same;
    upper = t.upper;
    lower = t.lower;
    apart = t.apart;
    rest =
        ap (λ (l : List ℕ). sets l q ws) (sym (set-sets out n vs q y (omega (arith, t.upper, t.apart))))
        ∙ set_undone (sets out n vs) q y ws left ∙ t.rest;
  }

-- a register with a bit left has room for it
module _ {room S N : ℕ} {F out : List ℕ} {n q : ℕ} {vs ws : List ℕ} where
  pub two_room-upper : N ≤ room → Two room S N F out n vs q ws → 0 < length vs → n < length out
  two_room-upper fits t left = omega (arith, t.same, t.upper, t.lower, t.apart)

  pub two_room-lower : N ≤ room → Two room S N F out n vs q ws → 0 < length ws → q < length out
  two_room-lower fits t left = omega (arith, t.same, t.lower)
