-- What the calls ask: a symbol's arguments pass exactly if each check holds, and symbols in a row pass only if each by itself does.
use mathlib.Core.Path.{◌≡◌, refl}
use mathlib.Core.Bool.{true}
use mathlib.Core.List.{List}
use Prim.Native.Nat.{ℕ, ◌+◌, ◌≤◌, ◌<◌}
use native.Mathlib.Omega.{arith}
use borrow.Author.Tests.{leb-true, le-leb, lt-ltb}
use lib.Dec.{lit<}
use lib.ListN.{length, get_or}
use Rattle.std.specs.Prelude.{Option}
use Rattle.bits.specs.Checks.{◌or_else◌, passed}
use Rattle.bits.proofs.Legal.{legal-at}
use Rattle.bits.proofs.Passed.{passes}
use Rattle.bits.proofs.Table.{left-true, right_true}
use Rattle.scrambling.specs.Code.{code_legal}
use Rattle.waveform.specs.Waveform.{last_label, places, pointed, point_number, points_checks, points_number}

module _ (f slot : ℕ) (code : Option ℕ) (i : ℕ) (least : 33 ≤ f) (most : f ≤ 37) where
  pub symbol_passes : slot ≤ last_label → code_legal code ≡ true → i < places → point_number f slot code i ≡ passed
  unfolding point_number
  symbol_passes label legal inside = rw (le-leb 33 f least, le-leb f 37 most, le-leb slot last_label label, legal, lt-ltb i places inside) refl

  pub formats-alike : pointed f slot code i ≡ pointed 33 slot code i
  unfolding point_number
  formats-alike = rw (le-leb 33 f least, le-leb f 37 most) refl

pub each_passes : (f : ℕ) (slots : List ℕ) (code : Option ℕ) (i room : ℕ) → points_number f slots code i room ≡ passed
    → (k : ℕ) → k < length slots → point_number f (get_or slots k 0) code (i + k) ≡ passed
unfolding points_number
each_passes f slots code i room e k h =
    let part = passes (points_checks f slots code i room) (true or_else passed) refl e in
    let known = part 0 (lit< tt) in
    let inside = leb-true _ _ (part 3 (lit< tt)) in
    symbol_passes f _ code (i + k) (leb-true _ _ (left-true _ _ known)) (leb-true _ _ (right_true _ _ known))
    (legal-at last_label slots (part 1 (lit< tt)) k) (part 2 (lit< tt)) (omega arith)
