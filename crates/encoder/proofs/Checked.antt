-- What the number 0 of a call says of its arguments: that all of its checks hold.
use mathlib.Core.Path.{◌≡◌, refl, sym}
use mathlib.Core.Bool.{true}
use mathlib.Core.List.{List}
use Prim.Native.Nat.{ℕ, ◌≤◌}
use borrow.Author.Tests.{leb-true, eqb-true}
use lib.Dec.{lit<}
use lib.ListN.{length}
use Rattle.bits.specs.Checks.{◌or_else◌, passed}
use Rattle.bits.specs.Legal.{all_bits}
use Rattle.bits.proofs.Passed.{passes}
use Rattle.acm.specs.Formats.{symbols, is_format, format_of}
use Rattle.encoder.specs.Calls.{encode_checks, encode_number, labels_checks, labels_number}

pub record EncodePassed (f : ℕ) (block : List ℕ) (work_room out_room : ℕ) : Type 0 where
  pub known : is_format f ≡ true
  pub long : length block ≡ (format_of f).k
  pub bits : all_bits block ≡ true
  pub work-fits : (format_of f).i ≤ work_room
  pub out-fits : (format_of f).n ≤ out_room

pub encode_passed : (f : ℕ) (block : List ℕ) (work_room out_room : ℕ) → encode_number f block work_room out_room ≡ passed → EncodePassed f block work_room out_room
unfolding encode_number
encode_passed f block work_room out_room e =
    let part = passes (encode_checks f block work_room out_room) (true or_else passed) refl e in
    record {
      known = part 0 (lit< tt);
      long = eqb-true _ _ (part 1 (lit< tt));
      bits = part 2 (lit< tt);
      work-fits = leb-true _ _ (part 3 (lit< tt));
      out-fits = leb-true _ _ (part 4 (lit< tt));
    }

-- the same of a number that is the format's
pub encode_passed-at : {n f : ℕ} {block : List ℕ} {work_room out_room : ℕ} → n ≡ f → passed ≡ encode_number f block work_room out_room → EncodePassed n block work_room out_room
encode_passed-at {f = f} {block} {work_room} {out_room} is e = rw is (encode_passed f block work_room out_room (sym e))

pub record LabelsPassed (f : ℕ) (codeword : List ℕ) (room : ℕ) : Type 0 where
  pub known : is_format f ≡ true
  pub long : length codeword ≡ (format_of f).n
  pub bits : all_bits codeword ≡ true
  pub fits : symbols ≤ room

pub labels-passed : (f : ℕ) (codeword : List ℕ) (room : ℕ) → labels_number f codeword room ≡ passed → LabelsPassed f codeword room
unfolding labels_number
labels-passed f codeword room e =
    let part = passes (labels_checks f codeword room) (true or_else passed) refl e in
    record {
      known = part 0 (lit< tt);
      long = eqb-true _ _ (part 1 (lit< tt));
      bits = part 2 (lit< tt);
      fits = leb-true _ _ (part 3 (lit< tt));
    }
