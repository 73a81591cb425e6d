-- Laws of the labels with pilots.
use mathlib.Core.Path.{◌≡◌, refl, sym, ap, ap₂, ◌∙◌}
use mathlib.Core.List.{List, [], ◌∷◌, ◌++◌, append_assoc, append-nil}
use Prim.Native.Nat.{ℕ, zero, suc, ◌+◌, ◌*◌, ◌/◌, ◌≤◌, ◌<◌}
use native.Mathlib.Omega.{arith}
use lib.ListN.{length, take, drop, length-append, length-drop, drop_of_length-le}
use lib.Seq.{length-take-le, take-append-le, drop-append-le, take_all}
use Rattle.bits.specs.Three.{xored}
use Rattle.bits.proofs.Lists.{take_same, drop-same}
use Rattle.bits.proofs.Three.{three-length, three-append, three-take, three-drop, xored_self}
use Rattle.pilots.specs.Pilots.{inserted, piloted_length, pilots, subsection_labels, subsection_pilots, with_pilots}

-- a whole sub-section, and what follows it
pub with_next : (labels : List ℕ) → subsection_labels ≤ length labels
    → with_pilots labels ≡ take subsection_labels labels ++ pilots ++ with_pilots (drop subsection_labels labels)
unfolding with_pilots
with_next labels h =
    let n : length labels / subsection_labels ≡ suc (length (drop subsection_labels labels) / subsection_labels) = omega (arith, length-drop subsection_labels labels) in
    rw n

-- fewer labels than a sub-section has
pub with_rest : (labels : List ℕ) → length labels < subsection_labels → with_pilots labels ≡ labels
unfolding with_pilots
with_rest labels h = let z : length labels / subsection_labels ≡ 0 = omega arith in rw z

-- a whole sub-section alone
pub with_whole : (labels : List ℕ) → length labels ≡ subsection_labels → with_pilots labels ≡ labels ++ pilots
with_whole labels e =
    let none : drop subsection_labels labels ≡ [] = drop_of_length-le labels {i = subsection_labels} (omega (arith, e)) in
    with_next labels (omega (arith, e)) ∙ rw (none, with_rest [] (omega arith), take_all subsection_labels labels (omega (arith, e))) (simp append-nil)

inserted-length : (n : ℕ) (labels : List ℕ) → n * subsection_labels ≤ length labels → length (inserted n labels) ≡ length labels + n * subsection_pilots
inserted-length zero labels h = omega arith
inserted-length (suc n) labels h =
    let rest = drop subsection_labels labels in
    let shorter = length-drop subsection_labels labels in
    omega
    (arith, length-append (take subsection_labels labels ++ pilots) (inserted n rest), length-append (take subsection_labels labels) pilots, length-take-le subsection_labels labels (omega arith), shorter, inserted-length n rest (omega (arith, shorter)))

pub with_length : (labels : List ℕ) → length (with_pilots labels) ≡ piloted_length (length labels)
unfolding with_pilots
with_length labels = inserted-length (length labels / subsection_labels) labels (omega arith)

-- whole sub-sections, and labels behind them
pub with_append : (n : ℕ) (a b : List ℕ) → length a ≡ n * subsection_labels → with_pilots (a ++ b) ≡ with_pilots a ++ with_pilots b
with_append zero [] b e = rw (with_rest [] (omega arith))
with_append zero (x ∷ a) b e = absurd (omega arith)
with_append (suc n) a b e =
    let h : subsection_labels ≤ length a = omega (arith, e) in
    let rest = drop subsection_labels a in
    let shorter : length rest ≡ n * subsection_labels = omega (arith, e, length-drop subsection_labels a) in
    with_next (a ++ b) (omega (arith, length-append a b))
    ∙ rw (take-append-le subsection_labels a b h, drop-append-le subsection_labels a b h, with_append n rest b shorter, with_next a h) (simp append_assoc)

-- three lists of one length: the pilots, three times, are pilots
inserted-xored : (n : ℕ) (a b c : List ℕ) → length a ≡ length b → length b ≡ length c
    → inserted n (xored a b c) ≡ xored (inserted n a) (inserted n b) (inserted n c)
inserted-xored zero a b c e f = refl
inserted-xored (suc n) a b c e f =
    let k = subsection_labels in
    let front = take_same k a b e in
    let other = take_same k b c f in
    let rest = inserted-xored n (drop k a) (drop k b) (drop k c) (drop-same k a b e) (drop-same k b c f) in
    ap₂ (λ (l r : List ℕ). l ++ pilots ++ r) (three-take _ k a b c) (ap (inserted n) (three-drop _ k a b c e f) ∙ rest)
    ∙ sym (three-append _ (take k a ++ pilots) (take k b ++ pilots) (take k c ++ pilots) (inserted n (drop k a)) (inserted n (drop k b)) (inserted n (drop k c))
    (behind a b front) (behind b c other)
    ∙ ap (λ (l : List ℕ). l ++ xored (inserted n (drop k a)) (inserted n (drop k b)) (inserted n (drop k c)))
    (three-append _ (take k a) (take k b) (take k c) pilots pilots pilots front other ∙ ap (λ (l : List ℕ). xored (take k a) (take k b) (take k c) ++ l) (xored_self pilots)))
  where
    behind : (x y : List ℕ) → length (take subsection_labels x) ≡ length (take subsection_labels y)
        → length (take subsection_labels x ++ pilots) ≡ length (take subsection_labels y ++ pilots)
    behind x y e = omega (arith, e, length-append (take subsection_labels x) pilots, length-append (take subsection_labels y) pilots)

pub with_xored : (a b c : List ℕ) → length a ≡ length b → length b ≡ length c
    → with_pilots (xored a b c) ≡ xored (with_pilots a) (with_pilots b) (with_pilots c)
unfolding with_pilots
with_xored a b c e f =
    let last : length c ≡ length a = sym (e ∙ f) in
    rw (three-length _ a b c e f, ← e, last) (inserted-xored (length a / subsection_labels) a b c e f)
