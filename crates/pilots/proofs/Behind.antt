-- What a call leaves that stores to the part of a buffer behind what was stored.
use Rattle.std.proofs.Common.{◌≡◌, ◌∙◌, ℕ, ◌+◌, ◌-◌, ◌≤◌, List, ◌++◌, length, take, drop, arith, refl, sym, ap}
use Rattle.std.proofs.lemmas.List.{drop-drop, drop_at, length-append, length-drop, take_at}
use Rattle.std.proofs.lemmas.List.Edits.{sets-eq}
use borrow.Rule.Slice.PartMut.{put_mid}
use Rattle.bits.proofs.Parts.{sets_of_front}

pub stored_behind : {A : Type 0} (n : ℕ) (xs ys out mid new : List A) → length xs ≡ n → n + length ys ≤ length out
    → mid ≡ xs ++ drop n out → new ≡ ys ++ drop (length ys) (take (length mid - n) (drop n mid))
    → put_mid n (length mid - n) mid new ≡ xs ++ ys ++ drop (n + length ys) out
stored_behind n xs ys out mid new long room front behind =
    let same : length mid ≡ length out = omega (arith, ap length front, length-append xs (drop n out), length-drop n out, long) in
    let rest : drop n mid ≡ drop n out = ap (drop n) front ∙ drop_at xs (drop n out) n long in
    let last : drop (n + length ys) mid ≡ drop (n + length ys) out =
    sym (drop-drop (length ys) n mid) ∙ ap (drop (length ys)) rest ∙ drop-drop (length ys) n out in
    sets_of_front n (length mid - n) mid ys new (omega (arith, same)) (omega (arith, same)) behind
    ∙ sets-eq ys mid n (omega (arith, same))
    ∙ rw (last, ap (take n) front ∙ take_at xs (drop n out) n long) refl
