-- The checks of the moves: first those of the line, then that there is room for the one that is written.
use mathlib.Core.Path.{◌≡◌, refl, sym, ap, ◌∙◌}
use mathlib.Core.Bool.{true, false}
use mathlib.Core.List.{List, [], ◌∷◌, ◌++◌}
use Prim.Native.Nat.{ℕ, ◌≤◌}
use borrow.Author.Tests.{leb-true, ne_eqb}
use lib.Dec.{lit<}
use lib.ListN.{length}
use Rattle.std.specs.Prelude.{Option, Some, None, Err}
use Rattle.std.proofs.lemmas.Option.{none-some, same_Some}
use Rattle.bits.specs.Checks.{Check, ◌or_else◌, first_failed, check_number, passed, bad_line, no_way_back}
use Rattle.bits.specs.declared.checks.Refusal.{Refusal}
use Rattle.bits.proofs.Cases.{by_cases}
use Rattle.bits.proofs.Passed.{numbered, passes, fails_first, fails_later}
use Rattle.bits.proofs.Refusals.{not_passed}
use Rattle.job_line.specs.declared.steps.Added.{Added}
use Rattle.job_line.specs.declared.steps.Line.{Line}
use Rattle.job_line.specs.Line.{is_old, is_longer, old_in, longer_in, said, line_of}
use Rattle.job_line.specs.Job.{plain, numbers_checks, said_checks, said_number}
use Rattle.job_line.proofs.Lines.{apart, read-old, read-longer}
use Rattle.job_moves.specs.Moves.{is_plain, lengthened, old_checks, old_number, shortened, plain_checks, plain_number, room_checks, room_number, lengthen_number, shorten_number, answer_of, moved, written_over}
use Rattle.job_moves.proofs.Bytes.{plain-is}

-- a move whose line is refused, and one whose line is not
module _ (cs : List Check) (written out : List ℕ) where
  abbrev number : ℕ
  number = first_failed (cs ++ room_checks written (length out))

  pub line_refuses : (r : Refusal) → check_number r ≡ first_failed cs → number ≡ check_number r
  line_refuses r e = fails_first cs (room_checks written (length out)) (λ p. not_passed r (e ∙ p)) ∙ sym e

  pub room_decides : numbered cs ≡ true → passed ≡ first_failed cs → room_number written (length out) ≡ number
  room_decides n e = sym (fails_later cs (room_checks written (length out)) n (sym e))

  pub refused_answer : (r : Refusal) → check_number r ≡ first_failed cs → answer_of (Err r) ≡ moved number written
  refused_answer r e = rw (line_refuses r e, ne_eqb (check_number r) passed (not_passed r)) refl

  pub refused_output : (r : Refusal) → check_number r ≡ first_failed cs → out ≡ written_over number written out
  refused_output r e = rw (line_refuses r e, ne_eqb (check_number r) passed (not_passed r)) refl

  module _ (n : numbered cs ≡ true) (e : passed ≡ first_failed cs) {bytes : List ℕ} (is : written ≡ bytes) where
    pub made_answer : moved (room_number bytes (length out)) bytes ≡ moved number written
    made_answer = ap (λ (xs : List ℕ). moved (room_number xs (length out)) xs) (sym is) ∙ ap (λ (n : ℕ). moved n written) (room_decides n e)

    pub made_output : written_over (room_number bytes (length out)) bytes out ≡ written_over number written out
    made_output = ap (λ (xs : List ℕ). written_over (room_number xs (length out)) xs out) (sym is) ∙ ap (λ (n : ℕ). written_over n written out) (room_decides n e)

-- the exits of check_old: what is read is no line, or one of the longer form, or its numbers are asked about
pub none_old : (text : List ℕ) → None ≡ line_of text → bad_line ≡ old_number text
unfolding old_number
none_old text e =
    by_cases (is_old text) (λ t. absurd (none-some _ (rw t at e))) (λ f. rw f)

module _ (text : List ℕ) (l : Line) (read : Some l ≡ line_of text) where
  pub other_old : (l.added ≡ None → ⊥) → bad_line ≡ old_number text
  unfolding old_number said
  other_old some =
      by_cases
      (is_old text)
      (λ t. let e : Some l ≡ Some (old_in text) = rw t at read in absurd (some (ap (λ (l : Line). l.added) (same_Some _ _ e))))
      (λ f. rw f)

  pub old_asks : l.added ≡ None → said_number l ≡ old_number text
  unfolding old_number said_number
  old_asks none =
      let (old, is) = read-old text l read none in
      rw (old, is) refl

-- and those of check_plain
pub none_plain : (text : List ℕ) → None ≡ line_of text → bad_line ≡ plain_number text
unfolding plain_number
none_plain text e =
    by_cases (is_longer text) (λ t. absurd (none-some _ (some t))) (λ f. rw f)
  where
    some : is_longer text ≡ true → None ≡ Some (said text)
    some t = by_cases (is_old text) (λ o. rw o at e) (λ o. rw (o, t) at e)

module _ (text : List ℕ) (l : Line) (read : Some l ≡ line_of text) where
  pub other_plain : l.added ≡ None → bad_line ≡ plain_number text
  unfolding plain_number
  other_plain none =
      let (old, is) = read-old text l read none in
      rw (apart text old)

  module _ (a : Added) (some : l.added ≡ Some a) where
    asks : plain_number text ≡ first_failed (said_checks l ++ (is_plain l.added or_else no_way_back ∷ []))
    unfolding plain_number
    asks =
        let (longer, is) = read-longer text l a read some in
        rw (longer, is) refl

    pub said_refused : (said_number l ≡ passed → ⊥) → said_number l ≡ plain_number text
    unfolding said_number
    said_refused n = sym (asks ∙ fails_first (said_checks l) (is_plain l.added or_else no_way_back ∷ []) n)

    pub plain_asked : said_number l ≡ passed → plain_number text ≡ first_failed (is_plain (Some a) or_else no_way_back ∷ [])
    unfolding said_number
    plain_asked e =
        asks ∙ fails_later (said_checks l) (is_plain l.added or_else no_way_back ∷ []) refl e ∙ ap (λ (o : Option Added). first_failed (is_plain o or_else no_way_back ∷ [])) some

pub not_plain : (a : Added) → (a ≡ plain → ⊥) → is_plain (Some a) ≡ false
not_plain a n = by_cases (is_plain (Some a)) (λ t. absurd (n (plain-is a t))) (λ f. f)

-- what passed checks say
pub record LengthenPassed (text : List ℕ) (room : ℕ) : Type 0 where
  pub old : is_old text ≡ true
  pub said : first_failed (numbers_checks (old_in text)) ≡ passed
  pub room-there : length (lengthened text) ≤ room

pub record ShortenPassed (text : List ℕ) (room : ℕ) : Type 0 where
  pub longer : is_longer text ≡ true
  pub said : first_failed (said_checks (longer_in text)) ≡ passed
  pub plain : is_plain (longer_in text).added ≡ true
  pub room-there : length (shortened text) ≤ room

pub lengthen_passed : (text : List ℕ) (room : ℕ) → lengthen_number text room ≡ passed → LengthenPassed text room
unfolding lengthen_number
lengthen_passed text room e =
    let part = passes (old_checks text ++ room_checks (lengthened text) room) (true or_else passed) refl e in
    record { old = part 0 (lit< tt); said = rw (part 1 (lit< tt), part 2 (lit< tt)); room-there = leb-true _ _ (part 3 (lit< tt)) }

pub shorten_passed : (text : List ℕ) (room : ℕ) → shorten_number text room ≡ passed → ShortenPassed text room
unfolding shorten_number
shorten_passed text room e =
    let part = passes (plain_checks text ++ room_checks (shortened text) room) (true or_else passed) refl e in
    record {
      longer = part 0 (lit< tt);
      said = rw (part 1 (lit< tt), part 2 (lit< tt), part 3 (lit< tt), part 4 (lit< tt));
      plain = part 5 (lit< tt);
      room-there = leb-true _ _ (part 6 (lit< tt));
    }

-- a line that may move by its own checks
pub old_passed : (text : List ℕ) → old_number text ≡ passed → is_old text ≡ true
unfolding old_number
old_passed text e = passes (old_checks text) (true or_else passed) refl e 0 (lit< tt)

pub plain_passed : (text : List ℕ) → plain_number text ≡ passed → (is_longer text ≡ true) × (is_plain (longer_in text).added ≡ true)
unfolding plain_number
plain_passed text e =
    let part = passes (plain_checks text) (true or_else passed) refl e in
    (part 0 (lit< tt), part 5 (lit< tt))
