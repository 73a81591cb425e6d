-- While held names a size, the memory holds the interleaver of each format of that size. So no call is refused for its entries, and each reply is
-- encode's, which knows nothing of the other calls.
use mathlib.Core.Path.{◌≡◌, refl, sym, ap, ap₂, subst, ◌∙◌}
use mathlib.Core.Bool.{true}
use mathlib.Core.List.{List, [], ◌∷◌, ◌++◌, map}
use Prim.Native.Nat.{ℕ, ◌+◌, ◌-◌, ◌≤◌, ◌<◌}
use native.Mathlib.Omega.{arith}
use borrow.Author.Tests.{eqb-true, eqb-false, eq-eqb, ne_eqb, le-leb}
use lib.Dec.{eqb}
use lib.ListN.{length, get_or, take, drop, length-append, length-drop, length-replicate}
use lib.Seq.{get_or-append-add, get_or-drop, get_or-take, ext_get_or, length-take-le}
use Rattle.bits.specs.Checks.{passed}
use Rattle.std.specs.Prelude.{if◌then◌else◌}
use Rattle.bits.proofs.Cases.{by_cases}
use Rattle.bits.proofs.Legal.{legal_repeated}
use Rattle.bits.proofs.Same.{same_self}
use Rattle.acm.specs.Formats.{is_format, format_of}
use Rattle.acm.proofs.Laws.{format-sound}
use Rattle.interleaver.specs.Interleaver.{π}
use Rattle.interleaver.specs.Expanded.{expanded, expands}
use Rattle.interleaver.proofs.Expanded.{expanded-at, expanded-long, holds-entry, holds_already, one_interleaver, built_holds}
use Rattle.encoder.specs.Calls.{encode_number}
use Rattle.encoder.proofs.Checked.{encode_passed}
use Rattle.sharing.specs.Calls.{shared_number, shared, shared_memory, shared_workspace, shared_output}
use Rattle.sharing.proofs.Checked.{SharedPassed, shared-passed}
use Rattle.claims.specs.Sharing.{Channel, same-channel, Call, Reply, Lent, fresh, reply, after, replies, replies_to, calls_of, plain_number, plain_reply, Plain, Apart, Leaves, Memory, Entries, OneInterleaver, zeros, Some, Sharing}

-- one call
module _ (s : Lent) (c : Call) where
  abbrev f : ℕ
  f = c.format

  abbrev number : ℕ
  number = shared_number f c.block (length c.work) (length c.out) s.memory s.held

  number_is : (reply s c).number ≡ number
  unfolding shared
  number_is = by_cases (eqb number passed) (λ t. rw t (sym (eqb-true number passed t))) (λ h. rw h)

  sound : number ≡ passed → SharedPassed f c.block (length c.work) (length c.out) s.memory s.held
  sound e = shared-passed _ _ _ _ _ _ e

  known : number ≡ passed → is_format f ≡ true
  known e = (encode_passed _ _ _ _ (sound e).encodes).known

  after-passed : number ≡ passed → after s c ≡ record { held = (format_of f).i; memory = expanded f ++ drop (format_of f).i s.memory }
  unfolding shared shared_memory
  after-passed e = rw (eq-eqb number passed e)

  after-refused : (number ≡ passed → ⊥) → after s c ≡ s
  unfolding shared shared_memory
  after-refused n = rw (ne_eqb number passed n)

  memory-long : length (after s c).memory ≡ length s.memory
  memory-long =
      by_cases
      (eqb number passed)
      (λ t.
      let e = eqb-true number passed t in
      let I = (format_of f).i in
      ap (λ (l : Lent). length l.memory) (after-passed e)
      ∙ omega (arith, (sound e).room, length-append (expanded f) (drop I s.memory), expanded-long f, length-drop I s.memory))
      (λ h. ap (λ (l : Lent). length l.memory) (after-refused (eqb-false number passed h)))

-- what held says of the memory
record Good (s : Lent) : Type 0 where
  holds : (f : ℕ) → is_format f ≡ true → s.held ≡ (format_of f).i → expands f s.memory ≡ true

good-fresh : (memory : List ℕ) → Good (fresh memory)
good-fresh memory = record { holds = λ f h e. absurd (omega (arith, e, (format-sound f h).deletes)) }

module _ (s : Lent) (good : Good s) (c : Call) where
  good-after : Good (after s c)
  good-after =
      by_cases
      (eqb (number s c) passed)
      (λ t.
      let e = eqb-true (number s c) passed t in
      subst Good (sym (after-passed s c e)) (record { holds = λ g h d. built_holds c.format g (known s c e) h d _ }))
      (λ h. subst Good (sym (after-refused s c (eqb-false (number s c) passed h))) good)

  -- no entry is refused
  entries_hold : is_format c.format ≡ true → (if eqb s.held (format_of c.format).i then expands c.format s.memory else true) ≡ true
  entries_hold h = grind arith

  number-plain : number s c ≡ plain_number (length s.memory) c
  unfolding shared_number
  number-plain =
      let n = encode_number c.format c.block (length c.work) (length c.out) in
      by_cases
      (eqb n passed)
      (λ t. rw (t, entries_hold (encode_passed _ _ _ _ (eqb-true n passed t)).known))
      (λ h. rw h)

  reply-plain : reply s c ≡ plain_reply (length s.memory) c
  unfolding shared shared_workspace shared_output
  reply-plain = rw number-plain (by_cases (eqb (plain_number (length s.memory) c) passed) (λ t. rw t) (λ h. rw h))

plain_from : (s : Lent) → Good s → (cs : List Call) → replies s cs ≡ map (plain_reply (length s.memory)) cs
plain_from s good [] = refl
plain_from s good (c ∷ cs) =
    ap₂ (λ (r : Reply) (rs : List Reply). r ∷ rs) (reply-plain s good c)
    (plain_from (after s c) (good-after s good c) cs ∙ ap (λ (n : ℕ). map (plain_reply n) cs) (memory-long s c))

to_from : (x : Channel) (s : Lent) → Good s → (cs : List Call) → replies_to x s cs ≡ map (plain_reply (length s.memory)) (calls_of x cs)
to_from x s good [] = refl
to_from x s good (c ∷ cs) =
    let rest = to_from x (after s c) (good-after s good c) cs ∙ ap (λ (n : ℕ). map (plain_reply n) (calls_of x cs)) (memory-long s c) in
    by_cases
    (same-channel x c.channel)
    (λ t. rw t (ap₂ (λ (r : Reply) (rs : List Reply). r ∷ rs) (reply-plain s good c) rest))
    (λ n. rw n rest)

plain : Plain
plain memory cs = plain_from (fresh memory) (good-fresh memory) cs

apart : Apart
apart x memory other cs ds long calls =
    to_from x (fresh memory) (good-fresh memory) cs
    ∙ ap₂ (λ (n : ℕ) (l : List Call). map (plain_reply n) l) long calls
    ∙ sym (to_from x (fresh other) (good-fresh other) ds)

-- what stands behind the expanded interleaver
behind-front : (f : ℕ) (memory : List ℕ) (i : ℕ) → (format_of f).i ≤ i → get_or (expanded f ++ drop (format_of f).i memory) i 0 ≡ get_or memory i 0
behind-front f memory i h =
    let I = (format_of f).i in
    let there : i ≡ length (expanded f) + (i - I) = omega (arith, expanded-long f) in
    let back : I + (i - I) ≡ i = omega arith in
    ap (λ (k : ℕ). get_or (expanded f ++ drop I memory) k 0) there
    ∙ get_or-append-add (expanded f) (drop I memory) (i - I) 0
    ∙ get_or-drop I memory (i - I) 0
    ∙ ap (λ (k : ℕ). get_or memory k 0) back

leaves : (s : Lent) (c : Call) → (reply s c).number ≡ passed → Leaves s c
leaves s c passes =
    let e = sym (number_is s c) ∙ passes in
    let f = c.format in
    let is = after-passed s c e in
    let memory = expanded f ++ drop (format_of f).i s.memory in
    record {
      held = ap (λ (l : Lent). l.held) is;
      long = memory-long s c;
      entries = λ i h. ap (λ (l : Lent). get_or l.memory i 0) is ∙ holds-entry f memory (built_holds f f (known s c e) (known s c e) refl (drop (format_of f).i s.memory)) i h;
      behind = λ i h. ap (λ (l : Lent). get_or l.memory i 0) is ∙ behind-front f s.memory i h;
    }

reads : (s : Lent) (c : Call) → s.held ≡ (format_of c.format).i → after s c ≡ s
reads s c size =
    by_cases
    (eqb (number s c) passed)
    (λ t.
    let e = eqb-true (number s c) passed t in
    after-passed s c e
    ∙ ap₂ {C = Lent} (λ (n : ℕ) (l : List ℕ). (record { held = n; memory = l })) (sym size) (sym (holds_already c.format s.memory ((sound s c e).holds size))))
    (λ h. after-refused s c (eqb-false (number s c) passed h))

entries : Entries
unfolding expands expanded
entries f memory room = (
  (λ e. holds-entry f memory e),
  (λ right.
      let I = (format_of f).i in
      let long = length-take-le I memory room in
      let is : take I memory ≡ expanded f =
      ext_get_or 0 (take I memory) (expanded f) (long ∙ sym (expanded-long f))
      (λ i h.
      let low : i < I = omega (arith, long) in
      let here : 0 + i ≡ i = omega arith in
      get_or-take I memory i 0 low ∙ right i low ∙ sym (expanded-at (π f) 0 I i 0 low ∙ ap (π f) here)) in
      rw is (same_self (expanded f))),
)

some : Some
unfolding encode_number
some x f h room fits =
    let K = length-replicate {A = ℕ} (format_of f).k 0 in
    let I = length-replicate {A = ℕ} (format_of f).i 0 in
    let N = length-replicate {A = ℕ} (format_of f).n 0 in
    rw (
      h,
      eq-eqb _ _ K,
      legal_repeated 1 (format_of f).k 0 (omega arith),
      le-leb (format_of f).i (length (zeros x f).work) (omega (arith, I)),
      le-leb (format_of f).n (length (zeros x f).out) (omega (arith, N)),
      le-leb (format_of f).i room fits,
    )

memory : Memory
memory = record { leaves = leaves; reads = reads; refuses = λ s c n. after-refused s c (λ e. n (number_is s c ∙ e)) }

one : OneInterleaver
one f g hf hg e i = ap (λ (ρ : ℕ → ℕ). ρ i) (one_interleaver f g hf hg e)

pub sharing : Sharing
sharing = record { plain = plain; apart = apart; memory = memory; entries = entries; one_interleaver = one; some = some }
