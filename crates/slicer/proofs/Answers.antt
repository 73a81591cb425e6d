-- What a call that passes answers and leaves in each buffer.
use mathlib.Core.Path.{◌≡◌, refl, sym}
use mathlib.Core.Bool.{true, false, false≢true}
use mathlib.Core.List.{List, ◌++◌}
use Prim.Native.Nat.{ℕ, ◌-◌, ◌/◌, ◌%◌, ◌≤◌, ◌<◌}
use borrow.Author.Tests.{lt-ltb, le-ltb, ltb-true, ltb-false, eqb-true, eqb-false}
use lib.Dec.{eqb, ltb}
use lib.ListN.{length, take, drop}
use Rattle.bits.specs.Checks.{passed}
use Rattle.bits.proofs.Cases.{by_cases}
use Rattle.acm.specs.Formats.{format_of}
use Rattle.waiting.specs.Waiting.{advanced}
use Rattle.slicer.specs.declared.Slicer.{Slicer}
use Rattle.slicer.specs.Calls.{K, without_block, block_number, BlockAnswer, handed, waits, refused, sliced, block_memory, block_output}
use Rattle.slicer.specs.Change.{change_number, yields, looked}

module _ (s : Slicer) (memory out : List ℕ) where
  -- answer, memory and output of a call for a block
  abbrev pub Ends : BlockAnswer → List ℕ → List ℕ → Type 0
  Ends answer memory' out' =
      (answer ≡ sliced s memory (length out)) × ((memory' ≡ block_memory s memory (length out)) × (out' ≡ block_output s memory out))

  module _ (e : block_number s memory (length out) ≡ passed) where
    pub block_waits_lem : s.waiting < K s → Ends (waits s) memory out
    unfolding sliced block_memory block_output
    block_waits_lem few = (rw (e, lt-ltb _ _ few), (rw (e, lt-ltb _ _ few), rw (e, lt-ltb _ _ few)))

    pub block-done : K s ≤ s.waiting
        → Ends (handed (without_block s)) (advanced (K s) (s.waiting - K s) memory) (take (K s) memory ++ drop (K s) out)
    unfolding sliced block_memory block_output
    block-done enough = (rw (e, le-ltb _ _ enough), (rw (e, le-ltb _ _ enough), rw (e, le-ltb _ _ enough)))

module _ (s : Slicer) (memory : List ℕ) (room : ℕ) where
  -- what holds of each of the three answers holds of the answer
  pub in_each : (P : BlockAnswer → Type 0)
      → ((block_number s memory room ≡ passed → ⊥) → P (refused (block_number s memory room) s))
      → (block_number s memory room ≡ passed → s.waiting < K s → P (waits s))
      → (block_number s memory room ≡ passed → K s ≤ s.waiting → P (handed (without_block s)))
      → P (sliced s memory room)
  unfolding sliced
  in_each P refusal few enough =
      by_cases (eqb (block_number s memory room) passed)
      (λ t. by_cases (ltb s.waiting (K s))
      (λ l. rw (t, l) (few (eqb-true _ _ t) (ltb-true _ _ l)))
      (λ g. rw (t, g) (enough (eqb-true _ _ t) (ltb-false _ _ g))))
      (λ n. rw n (refusal (eqb-false _ _ n)))

  pub record Handed (a : BlockAnswer) : Type 0 where
    pub number : block_number s memory room ≡ passed
    pub enough : K s ≤ s.waiting
    pub after : a.slicer ≡ without_block s

  pub hands_out : (sliced s memory room).block ≡ true → Handed (sliced s memory room)
  hands_out =
      in_each (λ a. a.block ≡ true → Handed a)
      (λ n h. absurd (false≢true h))
      (λ e few h. absurd (false≢true h))
      (λ e enough h. record { number = e; enough = enough; after = refl })

  pub hands_none : (sliced s memory room).block ≡ false → (sliced s memory room).slicer ≡ s
  hands_none = in_each (λ a. a.block ≡ false → a.slicer ≡ s) (λ n h. refl) (λ e few h. refl) (λ e enough h. absurd (false≢true (sym h)))

  pub answer-number : (sliced s memory room).number ≡ block_number s memory room
  answer-number = in_each (λ a. a.number ≡ block_number s memory room) (λ n. refl) (λ e few. sym e) (λ e enough. sym e)

  pub answer-format : (sliced s memory room).slicer.format ≡ s.format
  answer-format = in_each (λ a. a.slicer.format ≡ s.format) (λ n. refl) (λ e few. refl) (λ e enough. refl)

  pub never_both : (sliced s memory room).block ≡ true → (sliced s memory room).wait ≡ true → ⊥
  never_both =
      in_each (λ a. a.block ≡ true → a.wait ≡ true → ⊥)
      (λ n b w. false≢true b)
      (λ e few b w. false≢true b)
      (λ e enough b w. false≢true w)

pub look_done : (s : Slicer) (f : ℕ) → change_number s f ≡ passed
    → (let K = (format_of f).k in yields (s.waiting / K) (s.waiting % K) ≡ looked s f)
unfolding looked
look_done s f e = rw e
