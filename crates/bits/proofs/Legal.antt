-- Laws of the scan for illegal elements.
use mathlib.Core.Path.{◌≡◌, refl, sym, ap, ◌∙◌}
use mathlib.Core.Bool.{Bool, true, false, ◌&&◌, ◌||◌, false≢true}
use mathlib.Core.List.{List, [], ◌∷◌, ◌++◌}
use Prim.Native.Nat.{ℕ, zero, suc, zero-le, ◌≤◌}
use native.Mathlib.Omega.{arith}
use borrow.Author.Tests.{le-leb, lt-leb, leb-true, leb-false}
use Rattle.std.specs.Prelude.{◌↔◌, IsTrue, fold, max}
use Rattle.std.specs.List.{All}
use lib.Dec.{leb}
use lib.ListN.{get_or, take, drop, replicate, take-append-drop}
use Rattle.bits.specs.Joined.{joined}
use Rattle.bits.specs.Legal.{all_at_most}
use Rattle.bits.proofs.Cases.{by_cases}
use Rattle.bits.proofs.Table.{left-true}

pub and-false : (b : Bool) → (b && false) ≡ false
and-false true = refl
and-false false = refl

and-true : (b : Bool) → (b && true) ≡ b
and-true true = refl
and-true false = refl

pub or_false : (b : Bool) → (b || false) ≡ b
or_false true = refl
or_false false = refl

and_assoc : (a b c : Bool) → ((a && b) && c) ≡ (a && (b && c))
and_assoc true b c = refl
and_assoc false b c = refl

-- two lists joined
pub legal-both : (top : ℕ) (a b : List ℕ) → all_at_most top (a ++ b) ≡ (all_at_most top a && all_at_most top b)
legal-both top [] b = refl
legal-both top (x ∷ a) b = by_cases (leb x top) (λ e. rw e (legal-both top a b)) (λ e. rw e)

-- a list is legal exactly if its largest element, and one before it, are
both_at_most : (top m x : ℕ) → leb (max m x) top ≡ (leb m top && leb x top)
both_at_most top m x =
    by_cases
    (leb m top)
    (λ e. by_cases (leb x top)
    (λ f. rw (e, f) (le-leb _ _ (omega (arith, leb-true m top e, leb-true x top f))))
    (λ f. rw (e, f) (lt-leb _ _ (omega (arith, leb-false x top f)))))
    (λ e. rw e (lt-leb _ _ (omega (arith, leb-false m top e))))

largest_from : (top m : ℕ) (l : List ℕ) → leb (fold (λ m x. max m x) m l) top ≡ (leb m top && all_at_most top l)
largest_from top m [] = sym (and-true (leb m top))
largest_from top m (x ∷ l) = rw (largest_from top (max m x) l, both_at_most top m x) (and_assoc (leb m top) (leb x top) (all_at_most top l))

pub largest_of : (top : ℕ) (l : List ℕ) → all_at_most top l ≡ leb (fold (λ m x. max m x) 0 l) top
largest_of top l = sym (largest_from top 0 l ∙ rw (le-leb 0 top (omega arith)))

-- a stretch and what is left behind it
pub legal_split : (top largest : ℕ) (rest stretch next : List ℕ) → rest ≡ stretch ++ next → all_at_most top stretch ≡ leb largest top
    → all_at_most top rest ≡ (leb largest top && all_at_most top next)
legal_split top largest rest stretch next e h =
    ap (all_at_most top) e ∙ legal-both top stretch next ∙ ap (λ (b : Bool). b && all_at_most top next) h

pub legal_head : (top x : ℕ) (l : List ℕ) → all_at_most top (x ∷ l) ≡ true → x ≤ top
legal_head top x l e = by_cases (leb x top) (leb-true x top) (λ f. absurd (false≢true (rw f at e)))

pub legal-tail : (top x : ℕ) (l : List ℕ) → all_at_most top (x ∷ l) ≡ true → all_at_most top l ≡ true
legal-tail top x l e = rw (le-leb x top (legal_head top x l e)) at e

pub legal-at : (top : ℕ) (l : List ℕ) → all_at_most top l ≡ true → (k : ℕ) → get_or l k 0 ≤ top
legal-at top [] e k = zero-le
legal-at top (x ∷ l) e zero = legal_head top x l e
legal-at top (x ∷ l) e (suc k) = legal-at top l (legal-tail top x l e) k

pub legal_of : (top : ℕ) (l : List ℕ) → ((k : ℕ) → get_or l k 0 ≤ top) → all_at_most top l ≡ true
legal_of top [] h = refl
legal_of top (x ∷ l) h = rw (le-leb x top (h 0)) (legal_of top l (λ k. h (suc k)))

pub legal-front : (top : ℕ) (a b : List ℕ) → all_at_most top (a ++ b) ≡ true → all_at_most top a ≡ true
legal-front top a b e = left-true (all_at_most top a) (all_at_most top b) (rw (legal-both top a b) at e)

-- the front of a list, as an iterator over its chunks lends it
pub legal_of_front : (top : ℕ) (list front rest : List ℕ) → list ≡ front ++ rest → all_at_most top list ≡ true → all_at_most top front ≡ true
legal_of_front top list front rest split h = legal-front top front rest (rw split at h)

pub legal-take : (top n : ℕ) (l : List ℕ) → all_at_most top l ≡ true → all_at_most top (take n l) ≡ true
legal-take top n l e = legal-front top (take n l) (drop n l) (rw (take-append-drop n l) e)

pub legal-rest : (top : ℕ) (a b : List ℕ) → all_at_most top (a ++ b) ≡ true → all_at_most top b ≡ true
legal-rest top [] b e = e
legal-rest top (x ∷ a) b e = legal-rest top a b (legal-tail top x (a ++ b) e)

pub legal-drop : (top n : ℕ) (l : List ℕ) → all_at_most top l ≡ true → all_at_most top (drop n l) ≡ true
legal-drop top n l h = legal-rest top (take n l) (drop n l) (rw (take-append-drop n l) h)

pub legal-append : (top : ℕ) (a b : List ℕ) → all_at_most top a ≡ true → all_at_most top b ≡ true → all_at_most top (a ++ b) ≡ true
legal-append top [] b e f = f
legal-append top (x ∷ a) b e f =
    rw (le-leb x top (legal_head top x a e)) (legal-append top a b (legal-tail top x a e) f)

-- lists that are legal joined are legal each
pub legal-each : (top : ℕ) (lists : List (List ℕ)) → all_at_most top (joined lists) ≡ true → All (λ (list : List ℕ). all_at_most top list ≡ true) lists
legal-each top [] h k d s = absurd (omega arith)
legal-each top (list ∷ lists) h zero d s = legal-front top list (joined lists) h
legal-each top (list ∷ lists) h (suc k) d s = legal-each top lists (legal-rest top list (joined lists) h) k d (omega arith)

pub legal_repeated : (top n x : ℕ) → x ≤ top → all_at_most top (replicate n x) ≡ true
legal_repeated top zero x h = refl
legal_repeated top (suc n) x h = rw (le-leb x top h) (legal_repeated top n x h)

-- what a scan finds
all-low : (top : ℕ) (l : List ℕ) → All (λ x. x ≤ top) l → all_at_most top l ≡ true
all-low top [] h = refl
all-low top (x ∷ l) h = rw (le-leb x top (h 0 0 (omega arith))) (all-low top l (λ k d s. h (suc k) d (omega arith)))

each_low : (top : ℕ) (l : List ℕ) → all_at_most top l ≡ true → All (λ x. x ≤ top) l
each_low top [] e k d s = absurd (omega arith)
each_low top (x ∷ l) e zero d s = legal_head top x l e
each_low top (x ∷ l) e (suc k) d s = each_low top l (legal-tail top x l e) k d (omega arith)

pub low_is : (top : ℕ) (l : List ℕ) (low : Bool) → IsTrue low ↔ All (λ x. x ≤ top) l → low ≡ all_at_most top l
low_is top l true h = sym (all-low top l (h.0 refl))
low_is top l false h =
    by_cases (all_at_most top l) (λ t. absurd (false≢true (h.1 (each_low top l t)))) (λ f. sym f)
