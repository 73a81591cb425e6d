-- The pattern laid out over three periods: three copies of it, one behind the other.
use mathlib.Core.Path.{◌≡◌, sym, ap, ◌∙◌}
use mathlib.Core.List.{List, [], ◌++◌, append-nil, append_assoc}
use Prim.Native.Nat.{ℕ, ◌+◌, ◌*◌, ◌-◌, ◌%◌, ◌≤◌, ◌<◌}
use native.Mathlib.Omega.{arith}
use borrow.Author.Tests.{ltb-true, ltb-false}
use borrow.Rule.Slice.PartMut.{put_mid}
use lib.Dec.{eqb, ltb}
use lib.ListN.{length, get_or, drop, length-append, length-drop, get_or-append, drop_of_length-le}
use lib.Seq.{take_at, drop_at, get_or-append-add}
use Rattle.bits.proofs.Cases.{by_cases}
use Rattle.puncture.specs.Puncture.{period, pattern, LaidOut, survives}
use Rattle.puncture.proofs.Zeroed.{pattern-length}

-- a number of three periods is one of a period behind none, one or two
module _ (pat : List ℕ) (long : length pat ≡ period) where
  behind : (rest : List ℕ) (j k : ℕ) → k + period ≡ j → get_or (pat ++ rest) j 0 ≡ get_or rest k 0
  behind rest j k e =
      let n : j ≡ length pat + k = omega arith in
      rw n (get_or-append-add pat rest k 0)

  thrice-entry : (j : ℕ) → j < 3 * period → get_or (pat ++ (pat ++ pat)) j 0 ≡ get_or pat (j % period) 0
  thrice-entry j h =
      by_cases (ltb j period)
      (λ t. let l : j < period = ltb-true j period t in
      let r : j % period ≡ j = omega arith in
      rw r (get_or-append pat (pat ++ pat) 0 j (omega arith)))
      (λ f. let l : period ≤ j = ltb-false j period f in
      by_cases (ltb j (2 * period))
      (λ t. let m : j < 2 * period = ltb-true j (2 * period) t in
      let r : j % period ≡ j - period = omega arith in
      rw r (behind (pat ++ pat) j (j - period) (omega arith) ∙ get_or-append pat pat 0 (j - period) (omega arith)))
      (λ g. let m : 2 * period ≤ j = ltb-false j (2 * period) g in
      let r : j % period ≡ j - 2 * period = omega arith in
      rw r (behind (pat ++ pat) j (j - period) (omega arith) ∙ behind pat (j - period) (j - 2 * period) (omega arith))))

laid_thrice : (S : ℕ) → LaidOut S (pattern S ++ (pattern S ++ pattern S))
laid_thrice S = record {
  long = omega (arith, length-append (pattern S) (pattern S ++ pattern S), length-append (pattern S) (pattern S), pattern-length S);
  entry = thrice-entry (pattern S) (pattern-length S);
}

-- as the code lays it out: one copy behind the other, from the front
module _ (S : ℕ) (out pat one two : List ℕ) (long : length out ≡ 3 * period) (is : pat ≡ pattern S) (first : one ≡ pat) (second : two ≡ pat) where
  abbrev p : List ℕ
  p = pattern S

  abbrev rest : List ℕ
  rest = drop period (drop period out)

  p-length : length p ≡ period
  p-length = pattern-length S

  two_copies : put_mid period period (one ++ drop period out) two ≡ (p ++ p) ++ rest
  two_copies =
      rw (first, second, is, take_at p (drop period out) period p-length, drop_at p (drop period out) period p-length)
      (sym (append_assoc p p rest))

  twice_length : length (p ++ p) ≡ 2 * period
  twice_length = omega (arith, length-append p p, p-length)

  rest-length : length rest ≡ period
  rest-length = omega (arith, length-drop period (drop period out), length-drop period out, long)

  pub third-fits : 3 * period ≤ length (put_mid period period (one ++ drop period out) two)
  third-fits = rw two_copies (omega (arith, length-append (p ++ p) rest, twice_length, rest-length))

  pub laid_out_is : (three : List ℕ) → three ≡ pat → LaidOut S (put_mid (2 * period) period (put_mid period period (one ++ drop period out) two) three)
  laid_out_is three third =
      let at_most : length rest ≤ period = omega (arith, rest-length) in
      let none : drop period rest ≡ [] = drop_of_length-le rest at_most in
      rw (two_copies, third, is, take_at (p ++ p) rest (2 * period) twice_length, drop_at (p ++ p) rest (2 * period) twice_length, none, append-nil p, append_assoc p p p)
      (laid_thrice S)

-- any number below three periods that leaves what p leaves has p's mark
pub laid_survives : (S : ℕ) (l : List ℕ) → LaidOut S l → (r p : ℕ) → r < 3 * period → r % period ≡ p % period → eqb (get_or l r 0) 1 ≡ survives S p
laid_survives S l laid r p h e = ap (λ (m : ℕ). eqb m 1) (laid.entry r h ∙ ap (λ (n : ℕ). get_or (pattern S) n 0) e)
