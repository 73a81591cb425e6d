-- What holds of a channel before a call holds of it afterwards, whatever the call.
use mathlib.Core.Path.{◌≡◌, refl, sym, ap, subst, ◌∙◌}
use mathlib.Core.Bool.{true, false≢true}
use mathlib.Core.List.{List, [], ◌∷◌, ◌++◌, append_assoc}
use Prim.Native.Nat.{ℕ, ◌+◌, ◌-◌, ◌≤◌}
use native.Mathlib.Omega.{arith}
use borrow.Author.Tests.{lt-ltb, ltb-true, le-leb, eqb-true}
use lib.Dec.{eqb, ltb}
use lib.ListN.{length, take, drop}
use lib.Seq.{take_at, length-take-le}
use Rattle.bits.specs.Checks.{passed}
use Rattle.bits.specs.Joined.{joined}
use Rattle.bits.specs.Legal.{all_bits}
use Rattle.bits.proofs.Cases.{by_cases}
use Rattle.bits.proofs.Legal.{legal-append, legal-rest}
use Rattle.bits.proofs.Lists.{joined-last}
use Rattle.acm.specs.Formats.{is_format}
use Rattle.transfer.specs.Transfer.{sync_marked}
use Rattle.transfer.proofs.Marked.{marked_length, marked_bits, stream-last}
use Rattle.waiting.specs.Waiting.{memory_length, waiting_bits, waiting_number, behind, advanced}
use Rattle.waiting.proofs.Waiting.{behind-waits, behind-length, advanced-waits, advanced-length}
use Rattle.slicer.specs.Calls.{K, with_frame, without_block, push_number, pushed, push_memory, sliced, block_memory, block_output}
use Rattle.slicer.specs.Change.{with_format, change_number, changed}
use Rattle.slicer.proofs.Checked.{PushPassed, push_passed, frame-fits, ChangePassed, change-passed}
use Rattle.slicer.proofs.Exits.{push_last, block-fits, change-fits}
use Rattle.slicer.proofs.Answers.{hands_out, hands_none}
use Rattle.claims.specs.Stream.{Call, Push, Block, Change, Channel, begun, call, calls, InOrder, Streams, Waits, Open, StaysOpen, Slicing}

-- the bits are in order, and all that wait are there
pub record Kept (c : Channel) : Type 0 where
  pub there : c.slicer.waiting ≤ length c.memory
  pub order : InOrder c

-- the waiting bits pass their checks, in a format that there is
pub record Sound (c : Channel) : Type 0 where
  pub known : is_format c.slicer.format ≡ true
  pub few : c.slicer.waiting ≤ memory_length
  pub bits : all_bits (waiting_bits c.slicer.waiting c.memory) ≡ true
  pub room : memory_length ≤ length c.memory

-- a channel that has taken a frame in, one that has handed a block out, and one that goes on in another format
abbrev pub taken : Channel → List ℕ → Channel
taken c frame =
    record {
      slicer = with_frame c.slicer frame;
      memory = behind c.slicer.waiting (sync_marked frame) c.memory;
      frames = c.frames ++ (frame ∷ []);
      blocks = c.blocks;
    }

abbrev pub given : Channel → Channel
given c =
    let k = K c.slicer in
    record {
      slicer = without_block c.slicer;
      memory = advanced k (c.slicer.waiting - k) c.memory;
      frames = c.frames;
      blocks = c.blocks ++ (take k c.memory ∷ []);
    }

abbrev pub into : Channel → ℕ → Channel
into c f = record { slicer = with_format c.slicer f; memory = c.memory; frames = c.frames; blocks = c.blocks }

-- push either takes the frame in or leaves the channel as it was
pub push_taken : (c : Channel) (frame : List ℕ) → push_number c.slicer (length frame) c.memory ≡ passed → call c (Push frame) ≡ taken c frame
unfolding pushed push_memory
push_taken c frame e = rw e

pub push_either : (P : Channel → Type 0) (c : Channel) (frame : List ℕ) → P c → (PushPassed c.slicer (length frame) c.memory → P (taken c frame))
    → P (call c (Push frame))
unfolding pushed push_memory
push_either P c frame same more =
    by_cases (eqb (push_number c.slicer (length frame) c.memory) passed)
    (λ t. let e = eqb-true _ _ t in
    subst P (sym (push_taken c frame e)) (more (push_passed _ _ _ e)))
    (λ n. rw n same)

-- block either hands a block out or leaves the channel as it was
pub block-given : (c : Channel) (out : List ℕ) → c.slicer.waiting ≤ length c.memory → (sliced c.slicer c.memory (length out)).block ≡ true
    → call c (Block out) ≡ given c
unfolding block_memory block_output
block-given c out there t =
    let h = hands_out c.slicer c.memory (length out) t in
    let k = K c.slicer in
    let first : take k (take k c.memory ++ drop k out) ≡ take k c.memory =
    take_at (take k c.memory) (drop k out) k (length-take-le k c.memory (omega (arith, h.enough))) in
    rw (t, h.after, first)

pub block-either : (P : Channel → Type 0) (c : Channel) (out : List ℕ) → c.slicer.waiting ≤ length c.memory → P c
    → (K c.slicer ≤ c.slicer.waiting → P (given c)) → P (call c (Block out))
unfolding block_memory
block-either P c out there same more =
    by_cases (sliced c.slicer c.memory (length out)).block
    (λ t. subst P (sym (block-given c out there t)) (more (hands_out c.slicer c.memory (length out) t).enough))
    (λ f. rw (f, hands_none c.slicer c.memory (length out) f) same)

-- change either goes on in the other format or leaves the channel as it was
pub change-into : (c : Channel) (f : ℕ) → change_number c.slicer f ≡ passed → call c (Change f) ≡ into c f
unfolding changed
change-into c f e = rw e

pub change-either : (P : Channel → Type 0) (c : Channel) (f : ℕ) → P c → (ChangePassed c.slicer f → P (into c f)) → P (call c (Change f))
unfolding changed
change-either P c f same more =
    by_cases (eqb (change_number c.slicer f) passed)
    (λ t. let e = eqb-true _ _ t in
    subst P (sym (change-into c f e)) (more (change-passed _ _ e)))
    (λ n. rw n same)

-- a frame taken in, and a block handed out, keep the order
pub taken-keeps : (c : Channel) (frame : List ℕ) → PushPassed c.slicer (length frame) c.memory → Kept c → Kept (taken c frame)
taken-keeps c frame p k =
    let w = c.slicer.waiting in
    let bits = sync_marked frame in
    let room : w + length bits ≤ length c.memory = omega (arith, marked_length frame, frame-fits _ _ _ p, p.memory-fits) in
    record {
      there = omega (arith, behind-length w bits c.memory room);
      order =
          ap (λ (l : List ℕ). joined c.blocks ++ l) (behind-waits w bits c.memory room)
          ∙ sym (append_assoc (joined c.blocks) (waiting_bits w c.memory) bits)
          ∙ ap (λ (l : List ℕ). l ++ bits) k.order
          ∙ sym (stream-last c.frames frame);
    }

pub given-keeps : (c : Channel) → K c.slicer ≤ c.slicer.waiting → Kept c → Kept (given c)
given-keeps c enough k =
    let n = K c.slicer in
    let w = c.slicer.waiting in
    let rest = waiting_bits (w - n) (advanced n (w - n) c.memory) in
    record {
      there = omega (arith, advanced-length n w c.memory enough k.there, k.there);
      order =
          ap (λ (l : List ℕ). l ++ rest) (joined-last c.blocks (take n c.memory))
          ∙ append_assoc (joined c.blocks) (take n c.memory) rest
          ∙ ap (λ (l : List ℕ). joined c.blocks ++ l) (advanced-waits n w c.memory enough k.there)
          ∙ k.order;
    }

-- and keep the waiting bits sound
pub taken-sound : (c : Channel) (frame : List ℕ) → PushPassed c.slicer (length frame) c.memory → Sound c → Sound (taken c frame)
taken-sound c frame p h =
    let w = c.slicer.waiting in
    let bits = sync_marked frame in
    let fits = frame-fits _ _ _ p in
    let room : w + length bits ≤ length c.memory = omega (arith, marked_length frame, fits, p.memory-fits) in
    record {
      known = h.known;
      few = omega (arith, marked_length frame, fits);
      bits = rw (behind-waits w bits c.memory room) (legal-append 1 (waiting_bits w c.memory) bits h.bits (marked_bits frame));
      room = omega (arith, behind-length w bits c.memory room, h.room);
    }

pub given-sound : (c : Channel) → K c.slicer ≤ c.slicer.waiting → Sound c → Sound (given c)
given-sound c enough h =
    let n = K c.slicer in
    let w = c.slicer.waiting in
    let there : w ≤ length c.memory = omega (arith, h.few, h.room) in
    record {
      known = h.known;
      few = omega (arith, h.few);
      bits = legal-rest 1 (take n c.memory) (waiting_bits (w - n) (advanced n (w - n) c.memory)) (rw (advanced-waits n w c.memory enough there) h.bits);
      room = omega (arith, advanced-length n w c.memory enough there, h.room);
    }

-- one call, and then any
keeps : (c : Channel) (x : Call) → Kept c → Kept (call c x)
keeps c (Push frame) k = push_either Kept c frame k (λ p. taken-keeps c frame p k)
keeps c (Block out) k = block-either Kept c out k.there k (λ enough. given-keeps c enough k)
keeps c (Change f) k = change-either Kept c f k (λ p. record { there = k.there; order = k.order })

all-kept : (c : Channel) (xs : List Call) → Kept c → Kept (calls c xs)
all-kept c [] k = k
all-kept c (x ∷ xs) k = all-kept (call c x) xs (keeps c x k)

stays-sound : (c : Channel) (x : Call) → Sound c → Sound (call c x)
stays-sound c (Push frame) h = push_either Sound c frame h (λ p. taken-sound c frame p h)
stays-sound c (Block out) h = block-either Sound c out (omega (arith, h.few, h.room)) h (λ enough. given-sound c enough h)
stays-sound c (Change f) h = change-either Sound c f h (λ p. record { known = p.known; few = h.few; bits = h.bits; room = h.room })

pub all_sound : (c : Channel) (xs : List Call) → Sound c → Sound (calls c xs)
all_sound c [] h = h
all_sound c (x ∷ xs) h = all_sound (call c x) xs (stays-sound c x h)

streams : Streams
streams f memory xs = (all-kept (begun f memory) xs (record { there = omega arith; order = refl })).order

waits : Waits
unfolding sliced
waits s memory room e = ((λ w. by_cases (ltb s.waiting (K s)) (λ few. ltb-true _ _ few) (λ enough. absurd (false≢true (rw (e, enough) at w)))), (λ few. rw (e, lt-ltb _ _ few)))

-- sound bits pass the checks of every call
sound-number : (c : Channel) → Sound c → waiting_number c.slicer.waiting c.memory ≡ passed
unfolding waiting_number
sound-number c h = simp (le-leb _ _ h.few, h.bits, le-leb _ _ h.room)

pub opens : (c : Channel) → Sound c → Open c
opens c h =
    let s = c.slicer in
    let z = sound-number c h in
    record {
      takes = λ frame least most fits few. sym (push_last s (length frame) c.memory h.known least most fits few) ∙ z;
      gives = λ room fits. sym (block-fits s c.memory room h.known z fits);
      changes = λ f known. sym (change-fits s f h.known known h.few);
    }

pub begun-sound : (f : ℕ) → is_format f ≡ true → (memory : List ℕ) → memory_length ≤ length memory → Sound (begun f memory)
begun-sound f known memory room = record { known = known; few = omega arith; bits = refl; room = room }

stays_open : StaysOpen
stays_open f known memory room xs = opens (calls (begun f memory) xs) (all_sound (begun f memory) xs (begun-sound f known memory room))

pub slicing : Slicing
slicing = record { streams = streams; waits = waits; stays_open = stays_open }
