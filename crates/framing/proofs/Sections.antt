-- Laws of the codeword section.
use mathlib.Core.Path.{◌≡◌}
use mathlib.Core.List.{List, [], ◌∷◌}
use Prim.Native.Nat.{ℕ, zero, suc, ◌+◌, ◌*◌, ◌<◌}
use native.Mathlib.Omega.{arith}
use borrow.Author.Tests.{eqb-true, eq-eqb, lt-ltb}
use lib.Dec.{eqb}
use lib.ListN.{length, get_or, drop, length-drop}
use lib.Seq.{length-take-le, take_at, drop-append-add}
use Rattle.std.specs.Prelude.{if◌then◌else◌}
use Rattle.std.proofs.lemmas.List.Elements.{All-from_get_or}
use Rattle.bits.specs.Checks.{passed}
use Rattle.bits.specs.Joined.{joined}
use Rattle.bits.proofs.Cases.{by_cases}
use Rattle.bits.proofs.Lists.{Long, joined-long}
use Rattle.acm.specs.Formats.{symbols}
use Rattle.framing.specs.Frame.{section, sections}
use Rattle.framing.specs.Calls.{section_labels, section_number}
use Rattle.framing.proofs.Checked.{section-passed}

-- with the number 0 the part is a codeword's labels, with any other it is empty
pub section-length : (labels : List ℕ) (place : ℕ)
    → length (section_labels labels place) ≡ (if eqb (section_number labels place) passed then symbols else 0)
unfolding section_labels
section-length labels place =
    by_cases (eqb (section_number labels place) passed)
    (λ t. let p = section-passed labels place (eqb-true _ _ t) in
    rw t (length-take-le symbols (drop (place * symbols) labels) (simp length-drop (omega (arith, p.long, p.inside)))))
    (λ f. rw f)

-- lists that are all a codeword's labels
abbrev pub Codewords : List (List ℕ) → Type 0
Codewords lists = (k : ℕ) → k < length lists → length (get_or lists k []) ≡ symbols

others : (labels : List ℕ) (lists : List (List ℕ)) → Codewords (labels ∷ lists) → Codewords lists
others labels lists all k h = all (suc k) (omega arith)

pub joined_length : (lists : List (List ℕ)) → Codewords lists → length (joined lists) ≡ length lists * symbols
joined_length lists all = joined-long symbols lists (All-from_get_or (Long symbols) lists [] all)

section_of_joined : (lists : List (List ℕ)) → Codewords lists → (k : ℕ) → k < length lists → section (joined lists) k ≡ get_or lists k []
section_of_joined [] all k h = absurd (omega arith)
section_of_joined (labels ∷ lists) all zero h = take_at labels (joined lists) symbols (all 0 (omega arith))
section_of_joined (labels ∷ lists) all (suc k) h =
    let long = all 0 (omega arith) in
    let past : suc k * symbols ≡ length labels + k * symbols = omega arith in
    rw (past, drop-append-add labels (joined lists) (k * symbols)) (section_of_joined lists (others labels lists all) k (omega arith))

-- section k of sixteen joined label lists is list k
pub section-joined : (lists : List (List ℕ)) → length lists ≡ sections → Codewords lists → (place : ℕ) → place < sections
    → section_labels (joined lists) place ≡ get_or lists place []
unfolding section_labels section_number
section-joined lists many all place h =
    let long : length (joined lists) ≡ sections * symbols = rw many at (joined_length lists all) in
    rw (eq-eqb _ _ long, lt-ltb place sections h) (section_of_joined lists all place (omega arith))
