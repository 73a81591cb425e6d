-- What the number 0 says of a call's arguments.
use mathlib.Core.Path.{◌≡◌, refl, sym, ◌∙◌}
use mathlib.Core.Bool.{true}
use mathlib.Core.List.{List}
use Prim.Native.Nat.{ℕ, ◌≤◌}
use borrow.Author.Tests.{leb-true, eq-eqb}
use lib.Dec.{lit<}
use lib.ListN.{length}
use Rattle.bits.specs.Checks.{◌or_else◌, first_failed, passed}
use Rattle.bits.proofs.Passed.{passes as passes-at, when_passed, passed-before}
use Rattle.acm.specs.Formats.{format_of}
use Rattle.interleaver.specs.Expanded.{expands}
use Rattle.encoder.specs.Calls.{encode_number}
use Rattle.sharing.specs.Calls.{memory_checks, shared_number}

module _ (f : ℕ) (block : List ℕ) (work_room out_room : ℕ) (memory : List ℕ) (held : ℕ) where
  abbrev plain : ℕ
  plain = encode_number f block work_room out_room

  abbrev number : ℕ
  number = shared_number f block work_room out_room memory held

  -- once encode's checks hold, those of the memory decide
  pub memory_later : plain ≡ passed → first_failed (memory_checks f memory held) ≡ number
  unfolding shared_number
  memory_later e = when_passed plain (first_failed (memory_checks f memory held)) plain e

  pub record SharedPassed : Type 0 where
    pub passes : number ≡ passed
    pub encodes : plain ≡ passed
    pub room : (format_of f).i ≤ length memory
    pub holds : held ≡ (format_of f).i → expands f memory ≡ true

  pub shared-passed : number ≡ passed → SharedPassed
  unfolding shared_number
  shared-passed e =
      let encodes = passed-before plain (first_failed (memory_checks f memory held)) e in
      let part = passes-at (memory_checks f memory held) (true or_else passed) refl (memory_later encodes ∙ e) in
      record {
        passes = e;
        encodes = encodes;
        room = leb-true (format_of f).i (length memory) (part 0 (lit< tt));
        holds = λ d. rw (eq-eqb held (format_of f).i d) at (part 1 (lit< tt));
      }

pub shared_passed-at : {n f : ℕ} {block : List ℕ} {work_room out_room : ℕ} {memory : List ℕ} {held : ℕ} → n ≡ f
    → passed ≡ shared_number f block work_room out_room memory held → SharedPassed n block work_room out_room memory held
shared_passed-at {f = f} {block} {work_room} {out_room} {memory} {held} is e = rw is (shared-passed f block work_room out_room memory held (sym e))
