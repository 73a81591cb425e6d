-- Two channels, one interleaver memory.
use Rattle.std.specs.Prelude.{◌≡◌, Bool, true, false, List, [], ◌∷◌, map, ◌↔◌, ℕ, ◌≤◌, ◌<◌, eqb, leb, length, get_or, replicate, if◌then◌else◌}
use Rattle.bits.specs.Checks.{◌or_else◌, first_failed, passed, short_memory}
use Rattle.acm.specs.Formats.{is_format, format_of}
use Rattle.interleaver.specs.Interleaver.{π}
use Rattle.interleaver.specs.Expanded.{expands}
use Rattle.encoder.specs.Calls.{encode_number, encode_workspace, encode_output}
use Rattle.sharing.specs.Calls.{shared, shared_memory, shared_workspace, shared_output}

pub data Channel : Type 0 where
  A : Channel
  B : Channel

abbrev pub same-channel : Channel → Channel → Bool
same-channel A A = true
same-channel A B = false
same-channel B A = false
same-channel B B = true

-- a call: who makes it, and what it gives and lends of its own
pub record Call : Type 0 where
  pub channel : Channel
  pub format : ℕ
  pub block : List ℕ
  pub work : List ℕ
  pub out : List ℕ

-- what the channel gets: the number, and its buffers afterwards
pub record Reply : Type 0 where
  pub number : ℕ
  pub work : List ℕ
  pub out : List ℕ

-- what goes from call to call, whoever makes it: the memory, and the size that it holds
pub record Lent : Type 0 where
  pub held : ℕ
  pub memory : List ℕ

-- at first it holds none, and may have any entries
abbrev pub fresh : List ℕ → Lent
fresh memory = record { held = 0; memory = memory }

-- one call, by the definitions that encode_shared's contract cites
module _ (s : Lent) (c : Call) where
  abbrev pub reply : Reply
  reply = record {
    number = (shared c.format c.block (length c.work) (length c.out) s.memory s.held).number;
    work = shared_workspace c.format c.block c.work c.out s.memory s.held;
    out = shared_output c.format c.block c.work c.out s.memory s.held;
  }

  abbrev pub after : Lent
  after = record {
    held = (shared c.format c.block (length c.work) (length c.out) s.memory s.held).held;
    memory = shared_memory c.format c.block (length c.work) (length c.out) s.memory s.held;
  }

-- a list of calls, each given held and memory as the last left them: all replies, and those to one channel
abbrev pub replies : Lent → List Call → List Reply
replies s [] = []
replies s (c ∷ cs) = reply s c ∷ replies (after s c) cs

abbrev pub replies_to : Channel → Lent → List Call → List Reply
replies_to x s [] = []
replies_to x s (c ∷ cs) = if same-channel x c.channel then reply s c ∷ replies_to x (after s c) cs else replies_to x (after s c) cs

-- one channel's calls
abbrev pub calls_of : Channel → List Call → List Call
calls_of x [] = []
calls_of x (c ∷ cs) = if same-channel x c.channel then c ∷ calls_of x cs else calls_of x cs

-- encode's reply, where the memory has so many entries: behind encode's checks only its room is asked for
module _ (room : ℕ) (c : Call) where
  abbrev pub plain_number : ℕ
  plain_number =
      if eqb (encode_number c.format c.block (length c.work) (length c.out)) passed
      then first_failed (leb (format_of c.format).i room or_else short_memory ∷ [])
      else encode_number c.format c.block (length c.work) (length c.out)

  abbrev pub plain_reply : Reply
  plain_reply =
      if eqb plain_number passed
      then record {
        number = passed;
        work = encode_workspace c.format c.block c.work c.out;
        out = encode_output c.format c.block c.work c.out;
      }
      else record { number = plain_number; work = c.work; out = c.out }

-- each reply is encode's: no entry is ever refused, and a call that passes gets encode's codeword and workspace
abbrev pub Plain : Type 0
Plain = (memory : List ℕ) (cs : List Call) → replies (fresh memory) cs ≡ map (plain_reply (length memory)) cs

-- a channel's replies are the same whatever the other asks for, in memory of one size
abbrev pub Apart : Type 0
Apart =
    (x : Channel) (memory other : List ℕ) (cs ds : List Call) → length memory ≡ length other → calls_of x cs ≡ calls_of x ds
    → replies_to x (fresh memory) cs ≡ replies_to x (fresh other) ds

-- what a call leaves of the memory: one that passes, whatever was held, the interleaver of its format, and what stood behind it; one that finds
-- its size held, and one that is refused, all as it was
pub record Leaves (s : Lent) (c : Call) : Type 0 where
  pub held : (after s c).held ≡ (format_of c.format).i
  pub long : length (after s c).memory ≡ length s.memory
  pub entries : (i : ℕ) → i < (format_of c.format).i → get_or (after s c).memory i 0 ≡ π c.format i
  pub behind : (i : ℕ) → (format_of c.format).i ≤ i → get_or (after s c).memory i 0 ≡ get_or s.memory i 0

pub record Memory : Type 0 where
  pub leaves : (s : Lent) (c : Call) → (reply s c).number ≡ passed → Leaves s c
  pub reads : (s : Lent) (c : Call) → s.held ≡ (format_of c.format).i → after s c ≡ s
  pub refuses : (s : Lent) (c : Call) → ((reply s c).number ≡ passed → ⊥) → after s c ≡ s

-- check 3 of the entries: it holds exactly if each is its position's; and formats of one size have one interleaver
abbrev pub Entries : Type 0
Entries =
    (f : ℕ) (memory : List ℕ) → (format_of f).i ≤ length memory
    → (expands f memory ≡ true) ↔ ((i : ℕ) → i < (format_of f).i → get_or memory i 0 ≡ π f i)

abbrev pub OneInterleaver : Type 0
OneInterleaver = (f g : ℕ) → is_format f ≡ true → is_format g ≡ true → (format_of f).i ≡ (format_of g).i → (i : ℕ) → π f i ≡ π g i

-- in every format there are calls that pass, a block of zeros for one: so any list of these passes, in a memory with room for each
abbrev pub zeros : Channel → ℕ → Call
zeros x f = record {
  channel = x;
  format = f;
  block = replicate (format_of f).k 0;
  work = replicate (format_of f).i 0;
  out = replicate (format_of f).n 0;
}

abbrev pub Some : Type 0
Some = (x : Channel) (f : ℕ) → is_format f ≡ true → (room : ℕ) → (format_of f).i ≤ room → (plain_reply room (zeros x f)).number ≡ passed

pub record Sharing : Type 0 where
  pub plain : Plain
  pub apart : Apart
  pub memory : Memory
  pub entries : Entries
  pub one_interleaver : OneInterleaver
  pub some : Some
