-- The two lines of a move are the same but for their ends.
use mathlib.Core.Path.{◌≡◌, refl, sym, ap, ap₂, ◌∙◌}
use mathlib.Core.Bool.{true, false≢true}
use mathlib.Core.List.{List, ◌∷◌, ◌++◌, append_assoc}
use Prim.Native.Nat.{ℕ, ◌-◌, ◌≤◌}
use native.Mathlib.Omega.{arith}
use borrow.Author.Tests.{eqb-true}
use lib.Dec.{eqb}
use lib.ListN.{length, take, length-append}
use lib.Seq.{take_at}
use Rattle.std.specs.Prelude.{Option, Some, None}
use Rattle.bits.proofs.Table.{left-true, right_true}
use Rattle.ascii.specs.Text.{ascii, comma, decimal}
use Rattle.ascii.proofs.Decimal.{decimal-one}
use Rattle.job_line.specs.declared.steps.Added.{Added}
use Rattle.job_line.specs.declared.steps.Line.{Line}
use Rattle.fields.specs.Fields.{behind}
use Rattle.job_line.specs.Line.{added_in, added_text, text_of, is_old, is_longer, old_in, longer_in}
use Rattle.job_line.proofs.Lines.{old_is, longer_is}
use Rattle.job_line.specs.Job.{plain}
use Rattle.job_moves.specs.Moves.{with_added, is_unscrambled, is_plain, lengthened, shortened}

-- both begin alike
abbrev front : Line → List ℕ
front l = decimal l.format ++ comma ∷ decimal l.pattern

parted : (l : Line) (ending : List ℕ) → decimal l.format ++ comma ∷ (decimal l.pattern ++ ending) ≡ front l ++ ending
parted l ending = sym (append_assoc (decimal l.format) (comma ∷ decimal l.pattern) ending)

abbrev pub old_end : List ℕ
old_end = ascii "\n"

abbrev pub longer_end : List ℕ
longer_end = ascii ",0,-\n"

old_text : (l : Line) → text_of (with_added None l) ≡ front l ++ old_end
old_text l = parted l old_end

plain-end : added_text (Some plain) ≡ longer_end
plain-end = rw (decimal-one 0 (omega arith)) refl

longer_text : (l : Line) → text_of (with_added (Some plain) l) ≡ front l ++ longer_end
longer_text l = rw plain-end (parted l longer_end)

-- a text's front, by the length of its end
before_end : (text xs ending : List ℕ) → text ≡ xs ++ ending → take (length text - length ending) text ≡ xs
before_end text xs ending is =
    let long : length text - length ending ≡ length xs = omega (arith, ap length is, length-append xs ending) in
    ap (take (length text - length ending)) is ∙ take_at xs ending _ (sym long)

module _ (text : List ℕ) (old : is_old text ≡ true) where
  old-front : text ≡ front (old_in text) ++ old_end
  old-front = (old_is text old).1 ∙ old_text (old_in text)

  pub lengthened_bytes : lengthened text ≡ take (length text - length old_end) text ++ longer_end
  unfolding lengthened
  lengthened_bytes =
      longer_text (old_in text) ∙ ap (λ (xs : List ℕ). xs ++ longer_end) (sym (before_end text (front (old_in text)) old_end old-front))

  pub old-some : length old_end ≤ length text
  old-some = omega (arith, ap length old-front, length-append (front (old_in text)) old_end)

-- a line with no pilots and unscrambled adds just this
unscrambled-is : (code : Option ℕ) → is_unscrambled code ≡ true → code ≡ None
unscrambled-is None h = refl
unscrambled-is (Some n) h = absurd (false≢true h)

pub plain-is : (a : Added) → is_plain (Some a) ≡ true → a ≡ plain
plain-is a h =
    let unscrambled = right_true (eqb a.pilots 0) (is_unscrambled a.code) h in
    let none = eqb-true a.pilots 0 (left-true (eqb a.pilots 0) (is_unscrambled a.code) h) in
    ap₂ (λ (pilots : ℕ) (code : Option ℕ). record { pilots = pilots; code = code }) none (unscrambled-is a.code unscrambled)

module _ (text : List ℕ) (longer : is_longer text ≡ true) (plainly : is_plain (longer_in text).added ≡ true) where
  pub plain_text : text ≡ text_of (with_added (Some plain) (longer_in text))
  plain_text = (longer_is text longer).1 ∙ ap (λ (a : Option Added). text_of (with_added a (longer_in text))) (ap Some (plain-is (added_in (behind comma (behind comma text))) plainly))

  longer-front : text ≡ front (longer_in text) ++ longer_end
  longer-front = plain_text ∙ longer_text (longer_in text)

  pub shortened_bytes : shortened text ≡ take (length text - length longer_end) text ++ old_end
  unfolding shortened
  shortened_bytes =
      old_text (longer_in text) ∙ ap (λ (xs : List ℕ). xs ++ old_end) (sym (before_end text (front (longer_in text)) longer_end longer-front))

  pub longer-some : length longer_end ≤ length text
  longer-some = omega (arith, ap length longer-front, length-append (front (longer_in text)) longer_end)
