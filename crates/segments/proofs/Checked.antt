-- What the number 0 says of a call's arguments, and what the inner trellis reads of the workspace then.
use mathlib.Core.Path.{◌≡◌, refl, sym, ◌∙◌}
use mathlib.Core.Bool.{true}
use mathlib.Core.List.{List, ◌++◌}
use Prim.Native.Nat.{ℕ}
use borrow.Author.Tests.{eqb-true}
use lib.Dec.{eqb, lit<}
use lib.ListN.{length}
use Rattle.bits.specs.Checks.{◌or_else◌, first_failed, passed}
use Rattle.bits.specs.Legal.{all_bits}
use Rattle.bits.proofs.Cases.{by_cases}
use Rattle.bits.proofs.Passed.{passes as passes-at, when_passed, passed-before}
use Rattle.bits.proofs.Table.{left-true, right_true}
use Rattle.acm.specs.Formats.{is_format, format_of}
use Rattle.trellis.specs.Trellis.{outer}
use Rattle.trellis.proofs.Outer.{outer-bits}
use Rattle.interleaver.specs.Interleaver.{π}
use Rattle.inner.specs.Registers.{interleaved}
use Rattle.inner.proofs.Codewords.{interleaved-front}
use Rattle.inner.proofs.Reading.{read-bits}
use Rattle.encoder.specs.Calls.{encode_number, encode_workspace, encode_output}
use Rattle.cuts.specs.Cuts.{is_few, is_inside, Cuts}
use Rattle.segments.specs.Calls.{cuts_checks, segments_number, segments_workspace, segments_output}

module _ (f : ℕ) (block : List ℕ) (work_room out_room : ℕ) (outer_list inner_list : List ℕ) where
  pub record SegmentsPassed : Type 0 where
    pub passes : segments_number f block work_room out_room outer_list inner_list ≡ passed
    pub encodes : encode_number f block work_room out_room ≡ passed
    pub outer_cuts : Cuts (format_of f).k1 outer_list
    pub inner_cuts : Cuts (format_of f).i inner_list

  pub segments-passed : segments_number f block work_room out_room outer_list inner_list ≡ passed → SegmentsPassed
  unfolding segments_number
  segments-passed e =
      let encodes = passed-before (encode_number f block work_room out_room) (first_failed (cuts_checks f outer_list inner_list)) e in
      let n = encode_number f block work_room out_room in
      let cuts_pass = when_passed n (first_failed (cuts_checks f outer_list inner_list)) n encodes ∙ e in
      let part = passes-at (cuts_checks f outer_list inner_list) (true or_else passed) refl cuts_pass in
      let few = part 0 (lit< tt) in
      let inside = part 1 (lit< tt) in
      record {
        passes = e;
        encodes = encodes;
        outer_cuts = record {
          few = left-true (is_few outer_list) (is_few inner_list) few;
          inside = left-true (is_inside (format_of f).k1 outer_list) (is_inside (format_of f).i inner_list) inside;
        };
        inner_cuts = record {
          few = right_true (is_few outer_list) (is_few inner_list) few;
          inside = right_true (is_inside (format_of f).k1 outer_list) (is_inside (format_of f).i inner_list) inside;
        };
      }

pub segments_passed-at : {n f : ℕ} {block : List ℕ} {work_room out_room : ℕ} {outer_list inner_list : List ℕ} → n ≡ f
    → passed ≡ segments_number f block work_room out_room outer_list inner_list → SegmentsPassed n block work_room out_room outer_list inner_list
segments_passed-at {f = f} {block} {work_room} {out_room} {outer_list} {inner_list} is e =
    rw is (segments-passed f block work_room out_room outer_list inner_list (sym e))

-- with cuts that pass their checks the call is encode
module _ (f : ℕ) (block : List ℕ) (outer_list inner_list : List ℕ) (o : Cuts (format_of f).k1 outer_list) (i : Cuts (format_of f).i inner_list) where
  pub plain_number_lem : (work_room out_room : ℕ) → segments_number f block work_room out_room outer_list inner_list ≡ encode_number f block work_room out_room
  unfolding segments_number
  plain_number_lem work_room out_room =
      let n = encode_number f block work_room out_room in
      by_cases (eqb n passed) (λ t. rw (t, o.few, i.few, o.inside, i.inside) (sym (eqb-true n passed t))) (λ h. rw h)

  pub plain-workspace : (work out : List ℕ) → segments_workspace f block work out outer_list inner_list ≡ encode_workspace f block work out
  unfolding segments_workspace encode_workspace
  plain-workspace work out =
      let n = encode_number f block (length work) (length out) in
      rw (plain_number_lem (length work) (length out)) (by_cases (eqb n passed) (λ t. rw t) (λ h. rw h))

  pub plain-output : (work out : List ℕ) → segments_output f block work out outer_list inner_list ≡ encode_output f block work out
  unfolding segments_output encode_output
  plain-output work out =
      let n = encode_number f block (length work) (length out) in
      rw (plain_number_lem (length work) (length out)) (by_cases (eqb n passed) (λ t. rw t) (λ h. rw h))

-- the interleaved bits of a workspace with the outer kept bits of a list at its front
module _ (f : ℕ) (known : is_format f ≡ true) (bits rest : List ℕ) (long : length (outer bits) ≡ (format_of f).i) where
  pub work-read : interleaved (format_of f) (π f) (outer bits ++ rest) ≡ interleaved (format_of f) (π f) (outer bits)
  work-read = interleaved-front f known (outer bits) rest long

  pub work-bits : all_bits bits ≡ true → all_bits (interleaved (format_of f) (π f) (outer bits ++ rest)) ≡ true
  work-bits h = rw work-read (read-bits (π f) (outer bits) (outer-bits bits h) 0 (format_of f).i)
