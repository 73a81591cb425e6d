-- The chains that compare: an entry with what it should be, and so on with the rest.
use mathlib.Core.Path.{◌≡◌, sym, ap, ◌∙◌}
use mathlib.Core.Bool.{Bool, true, false, ◌&&◌}
use mathlib.Core.List.{List, [], ◌∷◌, map}
use Prim.Native.Nat.{ℕ, ◌<◌}
use native.Mathlib.Omega.{arith}
use lib.Dec.{eqb}
use lib.ListN.{length, get_or}
use lib.Seq.{ext_get_or}
use Rattle.std.specs.Bool.{MatchBool}
use Rattle.std.specs.List.{zip, fold, enumerate_from, AllWithin, HoldsAt}
use Rattle.std.proofs.lemmas.List.FromFn.{length-enumerate_from, get_or-enumerate_from}
use Rattle.bits.specs.Same.{same}
use Rattle.bits.proofs.Cases.{by_cases}
use Rattle.bits.proofs.Same.{same_self}
use Rattle.interleaver.specs.Expanded.{expanded_from}
use Rattle.interleaver.proofs.Expanded.{expanded-length, expanded-at}
use Rattle.entries.proofs.Columns.{differ}

-- with what its row should have
pub rows_right : (ρ : ℕ → ℕ) (l : List ℕ) (r : Bool)
    → (let rows = enumerate_from 0 l in
    MatchBool r (AllWithin (λ (p : ℕ × ℕ). p.1 ≡ ρ p.0) rows 0 (length rows)) ((k : ℕ) × (k < length rows) × HoldsAt (λ (p : ℕ × ℕ). p.1 ≡ ρ p.0 → ⊥) rows k))
    → r ≡ same l (expanded_from ρ 0 (length l))
rows_right ρ l true right =
    let E = expanded_from ρ 0 (length l) in
    let equal : l ≡ E = ext_get_or 0 l E (sym (expanded-length ρ 0 (length l))) (λ k h.
    let entry = get_or-enumerate_from 0 l k (0, 0) h in
    sym (ap (λ (p : ℕ × ℕ). p.1) entry) ∙ right k (0, 0) (omega arith) (omega (arith, h, length-enumerate_from 0 l)) ∙ ap (λ (p : ℕ × ℕ). ρ p.0) entry
    ∙ sym (expanded-at ρ 0 (length l) k 0 h)) in
    sym (ap (λ (m : List ℕ). same m E) equal ∙ same_self E)
rows_right ρ l false (k, low, wrong) =
    let E = expanded_from ρ 0 (length l) in
    let h : k < length l = omega (arith, low, length-enumerate_from 0 l) in
    let entry = get_or-enumerate_from 0 l k (0, 0) h in
    sym (differ l E (λ e. wrong (0, 0) (ap (λ (p : ℕ × ℕ). p.1) entry ∙ ap (λ (m : List ℕ). get_or m k 0) e ∙ expanded-at ρ 0 (length l) k 0 h ∙ sym (ap (λ (p : ℕ × ℕ). ρ p.0) entry))))

-- with what the one a column before it says
pub same_behind : (g : ℕ → ℕ) (entries before : List ℕ) (right : Bool) → length before ≡ length entries
    → fold (λ (r : Bool) (p : ℕ × ℕ). r && eqb p.0 (g p.1)) right (zip entries before) ≡ (right && same entries (map g before))
same_behind g [] [] right e = by_cases right (λ t. rw t) (λ f. rw f)
same_behind g [] (y ∷ ys) right e = absurd (omega arith)
same_behind g (x ∷ xs) [] right e = absurd (omega arith)
same_behind g (x ∷ xs) (y ∷ ys) right e = rw (same_behind g xs ys (right && eqb x (g y)) (omega arith)) (by_cases right (λ t. rw t) (λ f. rw f))
