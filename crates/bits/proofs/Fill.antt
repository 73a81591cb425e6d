-- A loop that fills a buffer in order, told by what is left to store: the buffer with vs stored from n on is the buffer at the start, out₀,
-- with all of ws stored from `at` on.
--     left_start   at the start all of ws is left
--     left_as      what is left may be written another way
--     left-room    while something is left, n is inside the buffer
--     left_store   a store at n takes the first of what is left; two and three stores likewise
--     left-count   with nothing left, n is past ws
--     left_end     with nothing left, the buffer is ws and, behind it, what was there
use mathlib.Core.Path.{◌≡◌, refl, ap, subst, ◌∙◌}
use mathlib.Core.List.{List, [], ◌∷◌, ◌++◌}
use Prim.Native.Nat.{ℕ, suc, ◌+◌, ◌≤◌, ◌<◌}
use native.Mathlib.Nat.{add-zero}
use native.Mathlib.Numerals.{add-one}
use native.Mathlib.Omega.{arith}
use lib.ListN.{length, drop, set, length-set, length-append}
use lib.Seq.{sets, sets-eq, length-sets}

pub record Left {A : Type 0} (out₀ : List A) (at : ℕ) (ws out : List A) (n : ℕ) (vs : List A) : Type 0 where
  pub same : length out ≡ length out₀
  pub count : n + length vs ≡ at + length ws
  pub rest : sets out n vs ≡ sets out₀ at ws

pub left_start : {A : Type 0} (out₀ : List A) (at : ℕ) (ws : List A) → Left out₀ at ws out₀ at ws
left_start out₀ at ws = record { same = refl; count = refl; rest = refl }

module _ {A : Type 0} {out₀ : List A} {at : ℕ} {ws out : List A} {n : ℕ} where
  pub left_as : {vs us : List A} → vs ≡ us → Left out₀ at ws out n vs → Left out₀ at ws out n us
  left_as e l = subst (λ (r : List A). Left out₀ at ws out n r) e l

  pub left-room : {x : A} {vs : List A} → at + length ws ≤ length out₀ → Left out₀ at ws out n (x ∷ vs) → n < length out
  left-room room l = omega (arith, l.count, l.same)

  pub left_store : {x : A} {vs : List A} → Left out₀ at ws out n (x ∷ vs) → Left out₀ at ws (set out n x) (n + 1) vs
  left_store {x} l = record {
    same = length-set out n x ∙ l.same;
    count = omega (arith, l.count);
    rest = rw (add-one n) l.rest;
  }

  pub left-room_three : {x y z : A} {vs : List A} → at + length ws ≤ length out₀ → Left out₀ at ws out n (x ∷ y ∷ z ∷ vs) → n + 2 < length out
  left-room_three room l = omega (arith, l.count, l.same)

  pub left-count : Left out₀ at ws out n [] → n ≡ at + length ws
  left-count l = omega (arith, l.count)

module _ {A : Type 0} {out₀ : List A} {at : ℕ} {ws out : List A} {n : ℕ} where
  pub left_store_two : {x y : A} {vs : List A} → Left out₀ at ws out n (x ∷ y ∷ vs) → Left out₀ at ws (set (set out n x) (n + 1) y) (n + 2) vs
  left_store_two l =
      let e : n + 1 + 1 ≡ n + 2 = omega arith in
      rw e at (left_store (left_store l))

  pub left_store_three : {x y z : A} {vs : List A} → Left out₀ at ws out n (x ∷ y ∷ z ∷ vs)
      → Left out₀ at ws (set (set (set out n x) (n + 1) y) (n + 2) z) (n + 3) vs
  left_store_three l =
      let e : n + 2 + 1 ≡ n + 3 = omega arith in
      rw e at (left_store (left_store_two l))

-- stored from the front
pub sets-front : {A : Type 0} (ws l : List A) → length ws ≤ length l → sets l 0 ws ≡ ws ++ drop (length ws) l
sets-front ws l room =
    let z : 0 + length ws ≡ length ws = omega arith in
    sets-eq ws l 0 (omega arith) ∙ ap (λ (k : ℕ). ws ++ drop k l) z

pub left_end : {A : Type 0} {out₀ ws out : List A} {n : ℕ} → length ws ≤ length out₀ → Left out₀ 0 ws out n [] → out ≡ ws ++ drop (length ws) out₀
left_end {A} {out₀} {ws} room l = l.rest ∙ sets-front ws out₀ room

-- one stretch stored behind another
pub sets-append : {A : Type 0} (out : List A) (n : ℕ) (xs ys : List A) → sets out n (xs ++ ys) ≡ sets (sets out n xs) (n + length xs) ys
sets-append out n [] ys = rw add-zero
sets-append out n (x ∷ xs) ys =
    let s : n + suc (length xs) ≡ suc n + length xs = omega arith in
    rw s (sets-append (set out n x) (suc n) xs ys)

-- several are stored at once
pub left_stores : {A : Type 0} {out₀ : List A} {at : ℕ} {ws out : List A} {n : ℕ} (xs vs : List A) → Left out₀ at ws out n (xs ++ vs) → Left out₀ at ws (sets out n xs) (n + length xs) vs
left_stores {A} {out₀} {at} {ws} {out} {n} xs vs l = record {
  same = length-sets out n xs ∙ l.same;
  count = omega (arith, l.count, length-append xs vs);
  rest = rw (sets-append out n xs vs) at l.rest;
}

-- a stretch of what is left is stored by a call
pub left-stretch : {A : Type 0} {out₀ : List A} {at : ℕ} {ws out us : List A} {n : ℕ} (new xs vs : List A) (k : ℕ) → us ≡ xs ++ vs → new ≡ sets out n xs → k ≡ n + length xs
    → Left out₀ at ws out n us → Left out₀ at ws new k vs
left-stretch new xs vs k split stored past l = rw (stored, past) (left_stores xs vs (left_as split l))

-- a loop that counts its stores, from `at` on, once none is left
module _ {A : Type 0} {out₀ : List A} {at : ℕ} {ws out : List A} where
  pub fill_end : {n : ℕ} {us : List A} → us ≡ [] → Left out₀ at ws out n us → out ≡ sets out₀ at ws
  fill_end e l = (left_as e l).rest
