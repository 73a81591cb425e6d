-- Any frames can be sent through a slicer: blocks are taken as soon as K bits wait, and so no push is refused.
use mathlib.Core.Path.{◌≡◌, refl, sym, ap, subst, ◌∙◌}
use mathlib.Core.Bool.{true}
use mathlib.Core.List.{List, [], ◌∷◌, ◌++◌, append_assoc, append-nil}
use Prim.Native.Nat.{ℕ, zero, suc, ◌+◌, ◌-◌, ◌*◌, ◌≤◌, ◌<◌}
use native.Mathlib.Nat.{suc-mul, mul-le-mul_right}
use native.Mathlib.Omega.{arith}
use borrow.Author.Tests.{eq-eqb, ne_eqb, leb-true, leb-false, ltb-true, ltb-false}
use lib.Dec.{leb, ltb}
use lib.ListN.{length, replicate, length-append, length-replicate}
use lib.Seq.{length-take-le}
use Rattle.std.specs.List.{All}
use Rattle.std.proofs.lemmas.List.Elements.{All-nil, All-cons, All-head, All-tail}
use Rattle.bits.specs.Checks.{passed}
use Rattle.bits.specs.Joined.{joined}
use Rattle.bits.proofs.Cases.{by_cases}
use Rattle.bits.proofs.Lists.{Long, joined-long}
use Rattle.acm.specs.Formats.{is_format, format_of}
use Rattle.acm.proofs.Laws.{within}
use Rattle.transfer.specs.Transfer.{stream}
use Rattle.waiting.specs.Waiting.{memory_length, waiting_bits}
use Rattle.slicer.specs.Calls.{least_frame, most_frame, K, fits_channel, push_number, BlockAnswer, sliced}
use Rattle.slicer.proofs.Checked.{push_passed}
use Rattle.slicer.proofs.Answers.{block-done}
use Rattle.framing.specs.Frame.{sections}
use Rattle.claims.specs.Stream.{Call, Push, Block, Channel, begun, call, calls}
use Rattle.claims.specs.ThreeFrames.{InFormat, Through}
use Rattle.claims.proofs.Stream.{Sound, taken, given, push_taken, block-given, taken-sound, given-sound, opens, begun-sound}
use Rattle.claims.proofs.Through.{k-is, begun-steady}

-- calls in format f from a channel on, by which just these frames are accepted and fewer than K bits wait
record Comes (f : ℕ) (c : Channel) (frames : List (List ℕ)) : Type 0 where
  made : List Call
  one_format : All (InFormat f) made
  accepted : (calls c made).frames ≡ frames
  few : (calls c made).slicer.waiting < (format_of f).k

-- one call, and then such calls
call_first : (f : ℕ) (c : Channel) (x : Call) (d : Channel) (frames : List (List ℕ)) → InFormat f x → call c x ≡ d → Comes f d frames → Comes f c frames
call_first f c x d frames i e r =
    record {
      made = x ∷ r.made;
      one_format = All-cons (InFormat f) x r.made i r.one_format;
      accepted = ap (λ (d : Channel). (calls d r.made).frames) e ∙ r.accepted;
      few = subst (λ (d : Channel). (calls d r.made).slicer.waiting < (format_of f).k) (sym e) r.few;
    }

-- a channel in format f that takes frames of n octets
record Going (f n : ℕ) (c : Channel) : Type 0 where
  sound : Sound c
  format : c.slicer.format ≡ f
  octets : fits_channel c.slicer.octets n ≡ true

module _ (f : ℕ) (known : is_format f ≡ true) (n : ℕ) (least : least_frame ≤ n) (most : n ≤ most_frame) where
  abbrev size : ℕ
  size = (format_of f).k

  -- a block is taken where K bits wait
  module _ (c : Channel) (g : Going f n c) (enough : size ≤ c.slicer.waiting) where
    abbrev out : List ℕ
    out = replicate size 0

    full : K c.slicer ≤ c.slicer.waiting
    full = omega (arith, enough, k-is f c g.format)

    hands : (sliced c.slicer c.memory (length out)).block ≡ true
    hands =
        let passes = (opens c g.sound).gives (length out) (omega (arith, k-is f c g.format, length-replicate {A = ℕ} size 0)) in
        ap (λ (a : BlockAnswer). a.block) (sym (block-done c.slicer c.memory out passes full).0)

    takes : call c (Block out) ≡ given c
    takes = block-given c out (omega (arith, g.sound.few, g.sound.room)) hands

    still : Going f n (given c)
    still = record { sound = given-sound c full g.sound; format = g.format; octets = g.octets }

  -- and blocks, until fewer wait
  drained : (most : ℕ) (c : Channel) (frames : List (List ℕ)) → c.slicer.waiting ≤ most → Going f n c
      → ((d : Channel) → Going f n d → d.slicer.waiting < size → d.frames ≡ c.frames → Comes f d frames) → Comes f c frames
  drained zero c frames h g next = next c g (omega (arith, h, (within f known).some)) refl
  drained (suc most) c frames h g next =
      by_cases (ltb c.slicer.waiting size)
      (λ t. next c g (ltb-true _ _ t) refl)
      (λ l. let enough = ltb-false _ _ l in
      let fewer : c.slicer.waiting - K c.slicer ≤ most = omega (arith, h, k-is f c g.format, (within f known).some) in
      call_first f c (Block (out c g enough)) (given c) frames tt (takes c g enough) (drained most (given c) frames fewer (still c g enough) next))

  -- a frame is taken in where fewer wait
  module _ (c : Channel) (frame : List ℕ) (g : Going f n c) (few : c.slicer.waiting < size) (long : length frame ≡ n) where
    accepts : push_number c.slicer (length frame) c.memory ≡ passed
    accepts =
        (opens c g.sound).takes frame (omega (arith, long, least)) (omega (arith, long, most)) (ap (fits_channel c.slicer.octets) long ∙ g.octets)
        (omega (arith, few, k-is f c g.format))

    same-octets : fits_channel (length frame) n ≡ true
    same-octets = rw (long, ne_eqb n 0 (λ z. omega (arith, z, least)), eq-eqb n n refl)

    fed : Going f n (taken c frame)
    fed = record { sound = taken-sound c frame (push_passed _ _ _ accepts) g.sound; format = g.format; octets = same-octets }

  pushes : (frames : List (List ℕ)) → All (Long n) frames → (c : Channel) → Going f n c → c.slicer.waiting < size → Comes f c (c.frames ++ frames)
  pushes [] long c g few = record { made = []; one_format = All-nil (InFormat f); accepted = sym (append-nil c.frames); few = few }
  pushes (frame ∷ frames) long c g few =
      let here = All-head (Long n) frame frames long in
      let d = taken c frame in
      call_first f c (Push frame) d (c.frames ++ (frame ∷ frames)) tt (push_taken c frame (accepts c frame g few here))
      (drained d.slicer.waiting d (c.frames ++ (frame ∷ frames)) (omega arith) (fed c frame g few here)
      (λ e h less same. subst (Comes f e) (ap (λ (l : List (List ℕ)). l ++ frames) same ∙ append_assoc c.frames (frame ∷ []) frames)
      (pushes frames (All-tail (Long n) frame frames long) e h less)))

  -- so sixteen blocks come, if the stream has their bits
  pub goes-through : (memory : List ℕ) → memory_length ≤ length memory → (frames : List (List ℕ)) → All (Long n) frames
      → sections * size ≤ length (stream frames) → (blocks : List (List ℕ)) × Through f frames blocks
  goes-through memory room frames long bits =
      let start : Going f n (begun f memory) = record { sound = begun-sound f known memory room; format = refl; octets = refl } in
      let r = pushes frames long (begun f memory) start (within f known).some in
      let c = calls (begun f memory) r.made in
      (c.blocks, record { memory = memory; made = r.made; one_format = r.one_format; accepted = r.accepted; handed = refl; enough = sixteen memory frames bits r })
    where
      sixteen : (memory : List ℕ) (frames : List (List ℕ)) → sections * size ≤ length (stream frames) → (r : Comes f (begun f memory) frames)
          → sections ≤ length (calls (begun f memory) r.made).blocks
      sixteen memory frames bits r =
          let c = calls (begun f memory) r.made in
          let s = begun-steady f memory r.made r.one_format in
          let wait = waiting_bits c.slicer.waiting c.memory in
          let count : length c.blocks * size + c.slicer.waiting ≡ length (stream frames) =
          omega (arith, ap length (s.kept.order ∙ ap stream r.accepted), length-append (joined c.blocks) wait, joined-long size c.blocks s.long, length-take-le c.slicer.waiting c.memory s.kept.there) in
          by_cases (leb sections (length c.blocks))
          (λ t. leb-true _ _ t)
          (λ l. let few : suc (length c.blocks) ≤ sections = leb-false _ _ l in
          absurd (omega (arith, count, bits, r.few, suc-mul (length c.blocks) size, mul-le-mul_right size few)))
