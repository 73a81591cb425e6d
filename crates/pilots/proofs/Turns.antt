-- The turns of the loop that puts labels with pilots, a chunk at a time: what is left to store are the labels that are left, with their pilots.
use Rattle.std.proofs.Common.{◌≡◌, ◌∙◌, ℕ, ◌+◌, ◌-◌, ◌*◌, ◌≤◌, ◌<◌, List, [], ◌++◌, arith, length, take, drop, append-nil, length-append, min, ap}
use Rattle.std.proofs.lemmas.List.{nil_from_length}
use lib.Dec.{leb}
use lib.Seq.{sets, length-sets}
use borrow.Author.Tests.{leb-true, leb-false}
use borrow.Rule.Slice.PartMut.{put_mid}
use Rattle.bits.proofs.Cases.{by_cases}
use Rattle.bits.proofs.Fill.{sets-append, sets-front}
use Rattle.bits.proofs.Parts.{sets_of_front}
use Rattle.pilots.specs.Pilots.{piloted_length, subsection_labels, subsection_length, with_pilots}
use Rattle.pilots.proofs.Inserted.{with_append, with_length, with_rest}

-- after i chunks: every one before the last is a whole sub-section
pub record Chunked (out₀ labels out : List ℕ) (i size : ℕ) (rest : List ℕ) : Type 0 where
  pub whole : size ≡ subsection_labels
  pub count : 0 < length rest → subsection_labels * i + length rest ≡ length labels
  pub same : length out ≡ length out₀
  pub left : sets out (subsection_length * i) (with_pilots rest) ≡ sets out₀ 0 (with_pilots labels)

module _ {out₀ labels out : List ℕ} {i size : ℕ} {rest : List ℕ} (chunked : Chunked out₀ labels out i size rest)
    (room : piloted_length (length labels) ≤ length out₀) where
  -- one chunk more
  module _ (part more : List ℕ) (split : rest ≡ part ++ more) (long : length part ≡ min size (length rest)) (some : 0 < length rest) (j : ℕ) (at : j ≡ i) where
    lengths : length rest ≡ length part + length more
    lengths = rw split (length-append part more)

    chunk_short : length part ≤ subsection_labels
    chunk_short = omega (arith, chunked.whole)

    inside : subsection_length * j + piloted_length (length part) ≤ length out
    inside = omega (arith, at, chunk_short, chunked.count some, chunked.same, lengths, room)

    pub chunked_turn : (new : List ℕ) (next same : ℕ)
        → new ≡ with_pilots part ++ drop (piloted_length (length part)) (take (length out - subsection_length * j) (drop (subsection_length * j) out))
        → next ≡ i + 1 → same ≡ size
        → Chunked out₀ labels (put_mid (subsection_length * j) (length out - subsection_length * j) out new) next same more
    chunked_turn new next same is e kept =
        let many = with_length part in
        let stored = sets_of_front (subsection_length * j) (length out - subsection_length * j) out (with_pilots part) new (omega (arith, many, inside)) (omega (arith, inside)) (rw many is) in
        let left_j : sets out (subsection_length * j) (with_pilots rest) ≡ sets out₀ 0 (with_pilots labels) = rw (← at) at chunked.left in
        record {
          whole = kept ∙ chunked.whole;
          count = λ h. omega (arith, chunked.count some, lengths, chunked.whole);
          same = ap length stored ∙ length-sets out (subsection_length * j) (with_pilots part) ∙ chunked.same;
          left =
              by_cases (leb subsection_labels (length part))
              (λ t.
              let full : length part ≡ subsection_labels = omega (arith, chunk_short, leb-true _ _ t) in
              let past : subsection_length * next ≡ subsection_length * j + length (with_pilots part) = omega (arith, many, full, at, e) in
              rw (past, stored, ← sets-append out (subsection_length * j) (with_pilots part) (with_pilots more), ← with_append 1 part more full, ← split) left_j)
              (λ f.
              let none : more ≡ [] = nil_from_length more (omega (arith, leb-false _ _ f, lengths, chunked.whole)) in
              let all : rest ≡ part = split ∙ rw none (append-nil part) in
              rw (none, with_rest [] (omega arith), stored, ← all) left_j);
        }

  pub chunked_end : length rest ≡ 0 → out ≡ with_pilots labels ++ drop (piloted_length (length labels)) out₀
  chunked_end none =
      let e : rest ≡ [] = nil_from_length rest none in
      (rw (e, with_rest [] (omega arith)) at chunked.left) ∙ sets-front (with_pilots labels) out₀ (omega (arith, with_length labels, room)) ∙ rw (with_length labels)
