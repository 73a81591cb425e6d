-- A slicer that stays in one format hands out the stream by K bits.
use mathlib.Core.Path.{◌≡◌, refl, sym, ap, subst, ◌∙◌}
use mathlib.Core.List.{List, [], ◌∷◌, ◌++◌, append_assoc}
use Prim.Native.Nat.{ℕ, ◌*◌}
use native.Mathlib.Omega.{arith}
use lib.ListN.{length, take, drop, take-append-drop}
use lib.Seq.{take_at, length-take-le}
use Rattle.std.specs.List.{All}
use Rattle.std.proofs.lemmas.List.Elements.{All-nil, All-head, All-tail, All-push, All-take}
use Rattle.bits.specs.Joined.{joined}
use Rattle.bits.specs.Legal.{all_bits}
use Rattle.bits.proofs.Legal.{legal-front, legal-each}
use Rattle.bits.proofs.Lists.{Long, joined-append, joined-long}
use Rattle.acm.specs.Formats.{format_of}
use Rattle.transfer.specs.Transfer.{stream}
use Rattle.transfer.proofs.Marked.{stream-bits}
use Rattle.waiting.specs.Waiting.{waiting_bits}
use Rattle.slicer.specs.Calls.{K}
use Rattle.framing.specs.Frame.{sections}
use Rattle.claims.specs.Demand3.{Block as IsBlock}
use Rattle.claims.specs.Stream.{Call, Push, Block, Change, Channel, begun, call, calls}
use Rattle.claims.specs.ThreeFrames.{InFormat, Through}
use Rattle.claims.proofs.Stream.{Kept, push_either, block-either, change-either, taken-keeps, given-keeps}

-- of a channel in format f each block handed out has K bits
pub record Steady (f : ℕ) (c : Channel) : Type 0 where
  pub kept : Kept c
  pub format : c.slicer.format ≡ f
  pub long : All (Long (format_of f).k) c.blocks

pub k-is : (f : ℕ) (c : Channel) → c.slicer.format ≡ f → K c.slicer ≡ (format_of f).k
k-is f c e = ap (λ (g : ℕ). (format_of g).k) e

steady : (f : ℕ) (c : Channel) (x : Call) → InFormat f x → Steady f c → Steady f (call c x)
steady f c (Push frame) i s =
    push_either (Steady f) c frame s (λ p. record { kept = taken-keeps c frame p s.kept; format = s.format; long = s.long })
steady f c (Block out) i s =
    block-either (Steady f) c out s.kept.there s
    (λ enough. let block = take (K c.slicer) c.memory in
    let long : length block ≡ (format_of f).k = length-take-le (K c.slicer) c.memory (omega (arith, enough, s.kept.there)) ∙ k-is f c s.format in
    record { kept = given-keeps c enough s.kept; format = s.format; long = All-push (Long (format_of f).k) c.blocks block s.long long })
steady f c (Change g) i s =
    change-either (Steady f) c g s (λ p. record { kept = record { there = s.kept.there; order = s.kept.order }; format = i; long = s.long })

all-steady : (f : ℕ) (c : Channel) (xs : List Call) → All (InFormat f) xs → Steady f c → Steady f (calls c xs)
all-steady f c [] i s = s
all-steady f c (x ∷ xs) i s = all-steady f (call c x) xs (All-tail (InFormat f) x xs i) (steady f c x (All-head (InFormat f) x xs i) s)

pub begun-steady : (f : ℕ) (memory : List ℕ) (xs : List Call) → All (InFormat f) xs → Steady f (calls (begun f memory) xs)
begun-steady f memory xs i =
    all-steady f (begun f memory) xs i
    (record { kept = record { there = omega arith; order = refl }; format = refl; long = All-nil (Long (format_of f).k) })

-- what has come through
module _ {f : ℕ} {frames blocks : List (List ℕ)} (t : Through f frames blocks) where
  abbrev c : Channel
  c = calls (begun f t.memory) t.made

  abbrev k : ℕ
  k = (format_of f).k

  s : Steady f c
  s = begun-steady f t.memory t.made t.one_format

  abbrev wait : List ℕ
  wait = waiting_bits c.slicer.waiting c.memory

  order : joined blocks ++ wait ≡ stream frames
  order = ap (λ (l : List (List ℕ)). joined l ++ wait) (sym t.handed) ∙ s.kept.order ∙ ap stream t.accepted

  blocks-long : All (Long k) blocks
  blocks-long = subst (All (Long k)) t.handed s.long

  -- every block is one of K bits
  pub blocks-are : All (IsBlock f) blocks
  blocks-are i d h =
      record {
        long = blocks-long i d h;
        bits = legal-each 1 blocks (legal-front 1 (joined blocks) wait (ap all_bits order ∙ stream-bits frames)) i d h;
      }

  pub first-many : length (take sections blocks) ≡ sections
  first-many = length-take-le sections blocks t.enough

  pub first-long : All (Long k) (take sections blocks)
  first-long = All-take (Long k) sections blocks blocks-long

  -- the first sixteen are the first bits of the stream
  pub first-joined : joined (take sections blocks) ≡ take (sections * k) (stream frames)
  first-joined =
      let first = take sections blocks in
      let rest = joined (drop sections blocks) ++ wait in
      let whole : joined first ++ rest ≡ stream frames =
      sym (append_assoc (joined first) (joined (drop sections blocks)) wait)
      ∙ ap (λ (l : List ℕ). l ++ wait) (sym (joined-append first (drop sections blocks)) ∙ ap joined (take-append-drop sections blocks))
      ∙ order in
      sym (take_at (joined first) rest (sections * k) (joined-long k first first-long ∙ ap (λ (n : ℕ). n * k) first-many)) ∙ ap (take (sections * k)) whole
