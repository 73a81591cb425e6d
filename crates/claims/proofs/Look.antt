-- The look's answer and the calls after the command: before each it is known how many bits wait.
use mathlib.Core.Path.{◌≡◌, refl, sym, ap, subst, ◌∙◌}
use mathlib.Core.Bool.{true}
use mathlib.Core.List.{List, [], ◌∷◌, ◌++◌}
use Prim.Native.Nat.{ℕ, zero, suc, ◌+◌, ◌-◌, ◌*◌, ◌/◌, ◌%◌, ◌≤◌, ◌<◌}
use native.Mathlib.Nat.{zero-mul, suc-mul, div-add-mod', mod-lt, le-div_iff_mul-le}
use native.Mathlib.Omega.{arith}
use borrow.Author.Tests.{ltb-true, ltb-false}
use lib.Dec.{ltb}
use lib.ListN.{length}
use lib.Seq.{take-take, length-take-le}
use Rattle.bits.specs.Checks.{passed}
use Rattle.bits.proofs.Cases.{by_cases}
use Rattle.acm.specs.Formats.{format_of}
use Rattle.acm.proofs.Laws.{within}
use Rattle.transfer.proofs.Marked.{marked_length}
use Rattle.slicer.specs.declared.Slicer.{Slicer}
use Rattle.slicer.specs.Calls.{K, without_block, block_number, BlockAnswer, handed}
use Rattle.slicer.specs.Change.{change_number, LookAnswer, yields, looked}
use Rattle.slicer.proofs.Checked.{push_passed, block-passed, change-passed}
use Rattle.slicer.proofs.Answers.{block_waits_lem, block-done, hands_out, answer-number, answer-format, never_both, look_done}
use Rattle.claims.specs.Stream.{Call, Block, Change, Channel, begun, call, calls}
use Rattle.claims.specs.Look.{answered, NextBlock, commanded, after, next, Blocks, NoneRefused, Ends, Looks, Passes, Yields, Looking}
use Rattle.claims.proofs.Stream.{taken, into, push_taken, block-given, change-into, taken-sound, all_sound, begun-sound, opens}

next-block : NextBlock
next-block c f out e t =
    let d = into c f in
    let same : call c (Change f) ≡ d = change-into c f e in
    let hands : (answered d out).block ≡ true = subst (λ (d : Channel). (answered d out).block ≡ true) same t in
    let h = hands_out d.slicer d.memory (length out) hands in
    let p = block-passed d.slicer d.memory (length out) h.number in
    let there : c.slicer.waiting ≤ length c.memory = omega (arith, p.count, p.memory-fits) in
    record {
      block =
          ap (λ (d : Channel). (call d (Block out)).blocks) same
          ∙ ap (λ (d : Channel). d.blocks) (block-given d out there hands)
          ∙ ap (λ (l : List ℕ). c.blocks ++ (l ∷ [])) (sym (take-take (format_of f).k c.slicer.waiting c.memory h.enough));
      long = omega (arith, h.enough, length-take-le c.slicer.waiting c.memory there);
    }

calls_last : (c : Channel) (xs : List Call) (x : Call) → calls c (xs ++ (x ∷ [])) ≡ call (calls c xs) x
calls_last c [] x = refl
calls_last c (y ∷ xs) x = calls_last (call c y) xs x

module _ (c : Channel) (f : ℕ) (out : ℕ → List ℕ) where
  abbrev s : Slicer
  s = c.slicer

  abbrev k : ℕ
  k = (format_of f).k

  after_next : (n : ℕ) → (after c f out (suc n)).slicer ≡ (next c f out n).slicer
  after_next n = ap (λ (d : Channel). d.slicer) (calls_last c (commanded f out n) (Block (out n)))

  module _ (change : change_number s f ≡ passed) where
    -- the format stays the commanded one
    format-is : (n : ℕ) → (after c f out n).slicer.format ≡ f
    format-is zero = ap (λ (d : Channel). d.slicer.format) (change-into c f change)
    format-is (suc n) =
        let d = after c f out n in
        ap (λ (s : Slicer). s.format) (after_next n) ∙ answer-format d.slicer d.memory (length (out n)) ∙ format-is n

    k-is : (n : ℕ) → K (after c f out n).slicer ≡ k
    k-is n = ap (λ (g : ℕ). (format_of g).k) (format-is n)

  -- n blocks have been handed out, and so many bits fewer wait
  record Reached (n : ℕ) : Type 0 where
    blocks : Blocks c f out n
    waiting : (after c f out n).slicer.waiting + n * k ≡ s.waiting

  module _ (none : NoneRefused c f out) where
    number_of : (n : ℕ) → Blocks c f out n → (let d = after c f out n in block_number d.slicer d.memory (length (out n)) ≡ passed)
    number_of n made =
        let d = after c f out n in
        sym (answer-number d.slicer d.memory (length (out n))) ∙ none.blocks n made

    reached : (n : ℕ) → n * k ≤ s.waiting → Reached n
    reached zero enough =
        let all : (after c f out 0).slicer.waiting ≡ s.waiting = ap (λ (d : Channel). d.slicer.waiting) (change-into c f none.change) in
        record { blocks = λ j low. absurd (omega arith); waiting = omega (arith, all, zero-mul k) }
    reached (suc n) enough =
        let d = after c f out n in
        let r = reached n (omega (arith, suc-mul n k)) in
        let full : K d.slicer ≤ d.slicer.waiting = omega (arith, suc-mul n k, k-is none.change n, r.waiting) in
        let done : handed (without_block d.slicer) ≡ next c f out n =
        (block-done d.slicer d.memory (out n) (number_of n r.blocks) full).0 in
        let fewer : (after c f out (suc n)).slicer.waiting ≡ d.slicer.waiting - K d.slicer =
        ap (λ (s : Slicer). s.waiting) (after_next n ∙ ap (λ (a : BlockAnswer). a.slicer) (sym done)) in
        record {
          blocks = λ j low.
              by_cases (ltb j n)
              (λ t. r.blocks j (ltb-true j n t))
              (λ l. let e : n ≡ j = omega (arith, ltb-false j n l) in
              subst (λ (i : ℕ). (next c f out i).block ≡ true) e (ap (λ (a : BlockAnswer). a.block) (sym done)));
          waiting = omega (arith, suc-mul n k, k-is none.change n, r.waiting, fewer, full);
        }

    ends : Ends c f out (yields (s.waiting / k) (s.waiting % k))
    ends =
        let n = s.waiting / k in
        let d = after c f out n in
        let whole : n * k + s.waiting % k ≡ s.waiting = div-add-mod' s.waiting k in
        let low : s.waiting % k < k = mod-lt s.waiting (within f (change-passed s f none.change).known).some in
        let r = reached n (omega (arith, whole)) in
        let few : d.slicer.waiting < K d.slicer = omega (arith, whole, low, r.waiting, k-is none.change n) in
        record {
          number = refl;
          blocks = r.blocks;
          wait = ap (λ (a : BlockAnswer). a.wait) (sym (block_waits_lem d.slicer d.memory (out n) (number_of n r.blocks) few).0);
          bits = omega (arith, whole, r.waiting);
        }

  -- calls end in one way
  not_later : (a b : LookAnswer) → Ends c f out a → Ends c f out b → a.blocks < b.blocks → ⊥
  not_later a b x y low =
      let d = after c f out a.blocks in
      never_both d.slicer d.memory (length (out a.blocks)) (y.blocks a.blocks low) x.wait

  one_end : (a b : LookAnswer) → Ends c f out a → Ends c f out b → a ≡ b
  one_end a b x y =
      let left : a.blocks < b.blocks → ⊥ = not_later a b x y in
      let right : b.blocks < a.blocks → ⊥ = not_later b a y x in
      let same : a.blocks ≡ b.blocks = omega (arith, left, right) in
      let bits : a.bits ≡ b.bits = sym x.bits ∙ ap (λ (n : ℕ). (after c f out n).slicer.waiting) same ∙ y.bits in
      ap (λ (n : ℕ). record { number = n; blocks = a.blocks; bits = a.bits }) (x.number ∙ sym y.number)
      ∙ ap (λ (n : ℕ). record { number = b.number; blocks = n; bits = a.bits }) same
      ∙ ap (λ (n : ℕ). record { number = b.number; blocks = b.blocks; bits = n }) bits

looks : Looks
looks c f out none a =
    let look : Ends c f out (looked c.slicer f) = subst (Ends c f out) (look_done c.slicer f none.change) (ends c f out none) in
    ((λ e. subst (Ends c f out) (sym e) look), (λ x. one_end c f out a (looked c.slicer f) x look))

none-refused : Passes
none-refused g own memory room xs f known out fits =
    let c = calls (begun g memory) xs in
    let sound = all_sound (begun g memory) xs (begun-sound g own memory room) in
    let change = (opens c sound).changes f known in
    record {
      change = change;
      blocks = λ n made.
          let d = after c f out n in
          answer-number d.slicer d.memory (length (out n))
          ∙ (opens d (all_sound c (commanded f out n) sound)).gives (length (out n)) (omega (arith, fits n, k-is c f out change n));
    }

some : Yields
some g own memory room frame long f known =
    let c = begun g memory in
    let d = taken c frame in
    let sound = begun-sound g own memory room in
    let passes = (opens c sound).takes frame (omega (arith, long)) (omega (arith, long)) refl (within g own).some in
    let change = (opens d (taken-sound c frame (push_passed _ _ _ passes) sound)).changes f known in
    let one : 1 * (format_of f).k ≤ d.slicer.waiting = omega (arith, long, marked_length frame, (within f known).most_k_lem) in
    subst (λ (d : Channel). 1 ≤ (looked d.slicer f).blocks) (sym (push_taken c frame passes))
    (subst (λ (a : LookAnswer). 1 ≤ a.blocks) (look_done d.slicer f change) ((le-div_iff_mul-le (within f known).some).1 one))

pub looking : Looking
looking = record { next-block = next-block; looks = looks; none-refused = none-refused; some = some }
