-- Lists: from a place on, up to one, joined, and after a store.
use mathlib.Core.Path.{◌≡◌, refl, sym, ap, ap₂, ◌∙◌}
use mathlib.Core.List.{List, [], ◌∷◌, ◌++◌, append_assoc, append-nil}
use Prim.Native.Nat.{ℕ, ◌+◌, ◌*◌, ◌<◌}
use native.Mathlib.Nat.{zero-mul, suc-mul}
use native.Mathlib.Numerals.{add-one}
use native.Mathlib.Omega.{arith}
use borrow.Author.Tests.{eqb-true, eqb-false}
use lib.Dec.{eqb}
use lib.ListN.{length, get_or, set, take, drop, length-append, length-take, length-drop}
use lib.Seq.{drop-cons, drop_at, take_at, get_or-set_same, get_or-set_other}
use Rattle.std.specs.List.{All}
use Rattle.std.proofs.lemmas.List.Elements.{All-head, All-tail}
use Rattle.bits.specs.Joined.{joined}
use Rattle.bits.proofs.Cases.{by_cases}

-- a list from i on begins with its element at i
pub drop-next : (l : List ℕ) (i : ℕ) → i < length l → drop i l ≡ get_or l i 0 ∷ drop (i + 1) l
drop-next l i h = rw (add-one i, drop-cons l i 0 h)

pub drop-next_two : (l : List ℕ) (i : ℕ) → i + 1 < length l → drop i l ≡ get_or l i 0 ∷ get_or l (i + 1) 0 ∷ drop (i + 2) l
drop-next_two l i h =
    let two : i + 1 + 1 ≡ i + 2 = omega arith in
    drop-next l i (omega arith) ∙ ap (λ (r : List ℕ). get_or l i 0 ∷ r) (rw two at (drop-next l (i + 1) h))

-- lists behind others, and one more
pub joined-append : (xs ys : List (List ℕ)) → joined (xs ++ ys) ≡ joined xs ++ joined ys
joined-append [] ys = refl
joined-append (x ∷ xs) ys = rw (joined-append xs ys, append_assoc)

pub joined-last : (lists : List (List ℕ)) (last : List ℕ) → joined (lists ++ (last ∷ [])) ≡ joined lists ++ last
joined-last lists last = joined-append lists (last ∷ []) ∙ ap (λ (l : List ℕ). joined lists ++ l) (append-nil last)

-- lists of n elements each, joined: how long that is, and that it has them each at its place
abbrev pub Long : ℕ → List ℕ → Type 0
Long n list = length list ≡ n

pub joined-long : (n : ℕ) (lists : List (List ℕ)) → All (Long n) lists → length (joined lists) ≡ length lists * n
joined-long n [] all = sym (zero-mul n)
joined-long n (list ∷ lists) all =
    length-append list (joined lists)
    ∙ omega (arith, All-head (Long n) list lists all, joined-long n lists (All-tail (Long n) list lists all), suc-mul (length lists) n)

pub joined-once : (n : ℕ) (xs ys : List (List ℕ)) → length xs ≡ length ys → All (Long n) xs → All (Long n) ys → joined xs ≡ joined ys → xs ≡ ys
joined-once n [] [] e hx hy j = refl
joined-once n [] (y ∷ ys) e hx hy j = absurd (omega arith)
joined-once n (x ∷ xs) [] e hx hy j = absurd (omega arith)
joined-once n (x ∷ xs) (y ∷ ys) e hx hy j =
    let lx = All-head (Long n) x xs hx in
    let ly = All-head (Long n) y ys hy in
    let first : x ≡ y = sym (take_at x (joined xs) n lx) ∙ ap (take n) j ∙ take_at y (joined ys) n ly in
    let others : joined xs ≡ joined ys = sym (drop_at x (joined xs) n lx) ∙ ap (drop n) j ∙ drop_at y (joined ys) n ly in
    ap₂ (λ (l : List ℕ) (ls : List (List ℕ)). l ∷ ls) first (joined-once n xs ys (omega arith) (All-tail (Long n) x xs hx) (All-tail (Long n) y ys hy) others)

-- an entry after a store: the one stored, or the one that was there
pub entry_set : (l : List ℕ) (i x k v : ℕ) → i < length l → (k ≡ i → x ≡ v) → ((k ≡ i → ⊥) → get_or l k 0 ≡ v) → get_or (set l i x) k 0 ≡ v
entry_set l i x k v h new old =
    by_cases (eqb k i)
    (λ t. let e : k ≡ i = eqb-true k i t in ap (λ (n : ℕ). get_or (set l i x) n 0) e ∙ get_or-set_same l i x 0 h ∙ new e)
    (λ f. get_or-set_other l i k x 0 (eqb-false k i f) ∙ old (eqb-false k i f))

-- the fronts of two lists of one length, and what is behind them
module _ (n : ℕ) (a b : List ℕ) (e : length a ≡ length b) where
  pub take_same : length (take n a) ≡ length (take n b)
  take_same = simp (length-take, e)

  pub drop-same : length (drop n a) ≡ length (drop n b)
  drop-same = simp (length-drop, e)
