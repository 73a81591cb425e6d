-- The two forms of the job line, and the moves between them (document 02, L11).
use Rattle.std.specs.Prelude.{◌≡◌, true, false, List, ◌++◌, ◌↔◌, ℕ, ◌-◌, ◌≤◌, length, take, Some as some}
use Rattle.bits.specs.Checks.{passed}
use Rattle.ascii.specs.Text.{ascii}
use Rattle.job_line.specs.declared.steps.Added.{Added}
use Rattle.job_line.specs.declared.steps.Line.{Line}
use Rattle.job_line.specs.Line.{OldLine, LongerLine, longest_old, longest_line, text_of, fits, is_old, is_longer}
use Rattle.job_line.specs.Job.{plain, said_number, job_number, asked}
use Rattle.job_moves.specs.Moves.{lengthened, shortened, old_number, lengthen, shorten}

-- a text is a line of a form exactly if it is the text of a line's numbers, and no text is one of both
abbrev pub Lines : Type 0
Lines = (text : List ℕ) → ((is_old text ≡ true) ↔ OldLine text) × ((is_longer text ≡ true) ↔ LongerLine text)

abbrev pub Apart : Type 0
Apart = (text : List ℕ) → is_old text ≡ true → is_longer text ≡ false

-- there and back gives the old line, byte for byte, and the move back is refused for nothing but its room
abbrev pub Back : Type 0
Back =
    (text : List ℕ) (room : ℕ) → (lengthen text room).number ≡ passed
    → (shortened (lengthened text) ≡ text) × ((room' : ℕ) → length text ≤ room' → (shorten (lengthened text) room').number ≡ passed)

-- back and there gives the longer line
abbrev pub There : Type 0
There =
    (text : List ℕ) (room : ℕ) → (shorten text room).number ≡ passed
    → (lengthened (shortened text) ≡ text) × ((room' : ℕ) → length text ≤ room' → (lengthen (shortened text) room').number ≡ passed)

-- of the lines of the longer form that ask for a job, exactly those with pilots 0 and a dash go back
abbrev pub Only : Type 0
Only =
    (l : Line) (a : Added) → l.added ≡ some a → fits l ≡ true → said_number l ≡ passed → (room : ℕ) → longest_old ≤ room
    → ((shorten (text_of l) room).number ≡ passed) ↔ (a ≡ plain)

-- a lengthened line asks for the same job, or is refused with the same number
abbrev pub Keeps : Type 0
Keeps = (text : List ℕ) → is_old text ≡ true → asked (lengthened text) ≡ asked text

-- a line of the old form has the number that it had when there was no other: that of checks 6, 1 and 7
abbrev pub Numbers : Type 0
Numbers = (text : List ℕ) → is_old text ≡ true → job_number text ≡ old_number text

-- byte for byte: the line feed makes way for three bytes more and itself, and they for it
abbrev pub BytesThere : Type 0
BytesThere = (text : List ℕ) → is_old text ≡ true → lengthened text ≡ take (length text - 1) text ++ ascii ",0,-\n"

abbrev pub BytesBack : Type 0
BytesBack = (text : List ℕ) (room : ℕ) → (shorten text room).number ≡ passed → shortened text ≡ take (length text - 5) text ++ ascii "\n"

-- how long a line of each form can be
abbrev pub Short : Type 0
Short = (text : List ℕ) → (is_old text ≡ true → length text ≤ longest_old) × (is_longer text ≡ true → length text ≤ longest_line)

-- there are such lines
abbrev pub Some : Type 0
Some =
    ((lengthen (ascii "13,0\n") 9).number ≡ passed) × (lengthened (ascii "13,0\n") ≡ ascii "13,0,0,-\n")
    × ((shorten (ascii "13,0,0,-\n") 5).number ≡ passed)

pub record JobLine : Type 0 where
  pub lines : Lines
  pub apart : Apart
  pub back : Back
  pub there : There
  pub only : Only
  pub keeps : Keeps
  pub numbers : Numbers
  pub bytes_there : BytesThere
  pub bytes_back : BytesBack
  pub short : Short
  pub some : Some
