-- A part of a buffer that is written as a whole, or at its front.
use Rattle.std.proofs.Common.{◌≡◌, ◌∙◌, ℕ, ◌+◌, ◌≤◌, List, ◌++◌, length, take, drop, arith, append_assoc, refl, sym, ap}
use Rattle.std.proofs.lemmas.List.Edits.{sets, sets-eq}
use Rattle.std.proofs.lemmas.List.{drop-drop, drop-append-le, length-drop, length-take-le, take-append-drop}
use borrow.Rule.Slice.PartMut.{put_mid}

-- what a write to n elements from the place at on leaves
pub sets_of_part : {A : Type 0} (at n : ℕ) (out list : List A) → length list ≡ n → at + n ≤ length out → put_mid at n out list ≡ sets out at list
sets_of_part at n out list e h =
    let room : at + length list ≤ length out = omega arith in
    rw (sets-eq list out at room, ← e, append_assoc, drop-drop (length list) at out) refl

-- what a write to the first of them leaves
pub sets_of_front : {A : Type 0} (at n : ℕ) (out list new : List A) → length list ≤ n → at + n ≤ length out
    → new ≡ list ++ drop (length list) (take n (drop at out)) → put_mid at n out new ≡ sets out at list
sets_of_front {A} at n out list new low room e =
    let part = drop at out in
    let k = length list in
    let fits : k ≤ length (take n part) = omega (arith, length-take-le n part (omega (arith, length-drop at out))) in
    let behind : drop k (take n part) ++ drop n part ≡ drop (at + k) out =
    sym (drop-append-le k (take n part) (drop n part) fits) ∙ ap (λ (l : List A). drop k l) (take-append-drop n part) ∙ drop-drop k at out in
    rw (e, append_assoc list (drop k (take n part)) (drop n part), behind)
    (sym (sets-eq list out at (omega arith) ∙ append_assoc (take at out) list (drop (at + k) out)))
