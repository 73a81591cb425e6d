-- The numbers in the text of a line's numbers are these, so a move there and back comes to the numbers it began with, and each move asks about
-- the numbers that the other asked about.
use mathlib.Core.Path.{◌≡◌, refl, sym, ap, ap₂, ◌∙◌}
use mathlib.Core.Bool.{Bool, true, ◌||◌}
use mathlib.Core.List.{List, [], ◌∷◌, ◌++◌}
use Prim.Native.Nat.{ℕ, ◌≤◌}
use native.Mathlib.Omega.{arith}
use borrow.Author.Tests.{eqb-true, eqb-false, le-leb}
use lib.Dec.{eqb}
use lib.ListN.{length}
use Rattle.std.specs.Prelude.{Option, Some, None, if◌then◌else◌}
use Rattle.bits.specs.Checks.{Check, ◌or_else◌, first_failed, passed, bad_line, no_way_back}
use Rattle.bits.specs.Place.{place}
use Rattle.bits.proofs.Cases.{by_cases}
use Rattle.bits.proofs.Passed.{fails_first, fails_later}
use Rattle.ascii.specs.Text.{decimal, decimal_within}
use Rattle.job_line.specs.declared.steps.Added.{Added}
use Rattle.job_line.specs.declared.steps.Line.{Line}
use Rattle.job_line.specs.Line.{longest_old, text_of, fits, is_old, is_longer, is_line, old_in, longer_in}
use Rattle.job_line.specs.Job.{plain, numbers_checks, added_checks, said_checks, said_number, job_number, Answer, accepted, refused, asked}
use Rattle.job_line.proofs.Reader.{low_of}
use Rattle.job_line.proofs.Lines.{old_agrees, longer_agrees, apart, old_is, longer_is, old_there, longer_there, old_written, longer_written, said-old, said-longer, old-short, longer-short}
use Rattle.job_moves.specs.Moves.{with_added, is_plain, lengthened, shortened, room_checks, old_number, lengthen_number, shorten_number}
use Rattle.job_moves.proofs.Bytes.{lengthened_bytes, shortened_bytes, plain-is, plain_text}
use Rattle.job_moves.proofs.Checked.{lengthen_passed, shorten_passed}
use Rattle.claims.specs.JobLine as claim

-- a line's numbers in the one form and in the other
abbrev old : Line → Line
old = with_added None

abbrev longer : Line → Line
longer = with_added (Some plain)

old-fits : (l : Line) → fits l ≡ true → fits (old l) ≡ true
old-fits l h = let low = low_of l h in rw (low.format, low.pattern)

longer-fits : (l : Line) → fits l ≡ true → fits (longer l) ≡ true
longer-fits l h = let low = low_of l h in rw (low.format, low.pattern)

-- the moves of a text of numbers
module _ (l : Line) (room : ℕ) (h : fits l ≡ true) where
  lengthened-at : lengthened (text_of (old l)) ≡ text_of (longer l)
  unfolding lengthened
  lengthened-at = ap (λ (k : Line). text_of (longer k)) (old_there l.format l.pattern)

  lengthen_at : lengthen_number (text_of (old l)) room ≡ first_failed (numbers_checks l ++ room_checks (text_of (longer l)) room)
  unfolding lengthen_number lengthened
  lengthen_at =
      ap₂
      (λ (b : Bool) (k : Line). first_failed ((b or_else bad_line ∷ numbers_checks k) ++ room_checks (text_of (longer k)) room))
      (old_written l.format l.pattern (old-fits l h)) (old_there l.format l.pattern)

module _ (l : Line) (a : Added) (room : ℕ) (h : fits (with_added (Some a) l) ≡ true) where
  abbrev line : Line
  line = with_added (Some a) l

  abbrev asks : List Check
  asks = is_plain (Some a) or_else no_way_back ∷ []

  shortened-at : shortened (text_of line) ≡ text_of (old l)
  unfolding shortened
  shortened-at = ap (λ (k : Line). text_of (old k)) (longer_there l.format l.pattern a)

  shorten_at : shorten_number (text_of line) room ≡ first_failed ((said_checks line ++ asks) ++ room_checks (text_of (old l)) room)
  unfolding shorten_number shortened
  shorten_at =
      ap₂
      (λ (b : Bool) (k : Line).
      first_failed ((b or_else bad_line ∷ said_checks k ++ (is_plain k.added or_else no_way_back ∷ [])) ++ room_checks (text_of (old k)) room))
      (longer_written l.format l.pattern a h) (longer_there l.format l.pattern a)

-- there is room
room_passes : (written : List ℕ) (room : ℕ) → length written ≤ room → first_failed (room_checks written room) ≡ passed
room_passes written room fits = rw (le-leb (length written) room fits)

-- checks that pass with others behind them pass without
before_passes : (cs ds : List Check) → first_failed (cs ++ ds) ≡ passed → first_failed cs ≡ passed
before_passes cs ds e =
    by_cases
    (eqb (first_failed cs) passed)
    (λ t. eqb-true _ _ t)
    (λ f. let n = eqb-false (first_failed cs) passed f in sym (fails_first cs ds n) ∙ e)

back : claim.Back
back text room e =
    let pass = lengthen_passed text room e in
    let l = old_in text in
    let (h, is) = old_is text pass.old in
    let written = ap lengthened is ∙ lengthened-at l room h in
    let home = ap shortened written ∙ shortened-at l plain room (longer-fits l h) ∙ sym is in (
      home,
      (λ room' fits.
          ap (λ (t : List ℕ). shorten_number t room') written
          ∙ shorten_at l plain room' (longer-fits l h)
          ∙ fails_later (numbers_checks l) (room_checks (text_of (old l)) room') refl pass.said
          ∙ room_passes (text_of (old l)) room' (omega (arith, ap length is))),
    )

there : claim.There
there text room e =
    let pass = shorten_passed text room e in
    let l = longer_in text in
    let (h, is) = longer_is text pass.longer in
    let is' = plain_text text pass.longer pass.plain in
    let written = ap shortened is' ∙ shortened-at l plain room (longer-fits l h) in (
      ap lengthened written ∙ lengthened-at l room h ∙ sym is',
      (λ room' fits.
          ap (λ (t : List ℕ). lengthen_number t room') written
          ∙ lengthen_at l room' h
          ∙ fails_later (numbers_checks l) (room_checks (text_of (longer l)) room') refl (before_passes (numbers_checks l) (added_checks l) pass.said)
          ∙ room_passes (text_of (longer l)) room' (omega (arith, ap length is'))),
    )

abbrev ask : Bool → Line → Answer
ask b l =
    let n = first_failed (b or_else bad_line ∷ said_checks l) in
    if eqb n passed then accepted l else refused n

either : (b : Bool) → (b || true) ≡ true
either b = by_cases b (λ t. rw t) (λ f. rw f)

keeps : claim.Keeps
unfolding job_number
keeps text old-line =
    let l = old_in text in
    let (h, is) = old_is text old-line in
    let written = ap lengthened is ∙ lengthened-at l 0 h in
    let long = longer_written l.format l.pattern plain (longer-fits l h) in
    let says = said-longer (text_of (longer l)) long ∙ longer_there l.format l.pattern plain in
    let line : is_line (text_of (longer l)) ≡ true = rw long (either (is_old (text_of (longer l)))) in
    let here : is_line text ≡ true = rw old-line in
    ap asked written ∙ ap₂ ask line says ∙ sym (ap₂ ask here (said-old text old-line))

numbers : claim.Numbers
unfolding job_number old_number
numbers text old-line =
    let here : is_line text ≡ true = rw old-line in
    ap₂ (λ (b : Bool) (l : Line). first_failed (b or_else bad_line ∷ said_checks l)) here (said-old text old-line) ∙ rw old-line

module _ (l : Line) (a : Added) (some : l.added ≡ Some a) (h : fits l ≡ true) (pass : said_number l ≡ passed) (room : ℕ) (room-there : longest_old ≤ room) where
  abbrev said-line : List Check
  said-line = said_checks (with_added (Some a) l)

  is : l ≡ with_added (Some a) l
  is = ap (λ (o : Option Added). with_added o l) some

  fits-line : fits (with_added (Some a) l) ≡ true
  fits-line = ap (λ (k : Line). fits k) (sym is) ∙ h

  said-passes : first_failed said-line ≡ passed
  unfolding said_number
  said-passes = ap (λ (k : Line). first_failed (said_checks k)) (sym is) ∙ pass

  number-is : shorten_number (text_of l) room ≡ first_failed ((said-line ++ asks l a room fits-line) ++ room_checks (text_of (old l)) room)
  number-is = ap (λ (k : Line). shorten_number (text_of k) room) is ∙ shorten_at l a room fits-line

  asked-there : first_failed (said-line ++ asks l a room fits-line) ≡ first_failed (asks l a room fits-line)
  asked-there = fails_later said-line (asks l a room fits-line) refl said-passes

  goes_back : shorten_number (text_of l) room ≡ passed → a ≡ plain
  goes_back e =
      let asked-passes = sym asked-there ∙ before_passes (said-line ++ asks l a room fits-line) (room_checks (text_of (old l)) room) (sym number-is ∙ e) in
      by_cases (is_plain (Some a)) (λ t. plain-is a t) (λ f. absurd (omega (arith, rw f at asked-passes)))

  plain_back : a ≡ plain → shorten_number (text_of l) room ≡ passed
  plain_back e =
      let asked-passes : first_failed (asks l a room fits-line) ≡ passed = rw e in
      let short = old-short (text_of (old l)) (old_written l.format l.pattern (old-fits l h)) in
      number-is
      ∙ fails_later (said-line ++ asks l a room fits-line) (room_checks (text_of (old l)) room) refl (asked-there ∙ asked-passes)
      ∙ room_passes (text_of (old l)) room (omega (arith, short))

only : claim.Only
only l a some h pass room room-there = (goes_back l a some h pass room room-there, plain_back l a some h pass room room-there)

some : claim.Some
unfolding lengthen_number lengthened shorten_number shortened is_old is_longer place decimal decimal_within
some = (refl, refl, refl)

pub job_line : claim.JobLine
job_line =
    record {
      lines = λ text. (old_agrees text, longer_agrees text);
      apart = apart;
      back = back;
      there = there;
      only = only;
      keeps = keeps;
      numbers = numbers;
      bytes_there = lengthened_bytes;
      bytes_back = λ text room e. (let pass = shorten_passed text room e in shortened_bytes text pass.longer pass.plain);
      short = λ text. (old-short text, longer-short text);
      some = some;
    }
