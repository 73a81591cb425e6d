-- The first sixteen blocks of the exclusive or's stream are the exclusive or of the others' first sixteen, and every step from there to the slots
-- keeps the exclusive or of three.
use mathlib.Core.Path.{◌≡◌, refl, sym, ap, ap₂, ◌∙◌}
use mathlib.Core.Bool.{true}
use mathlib.Core.List.{List, [], ◌∷◌, map}
use Prim.Native.Nat.{ℕ, ◌*◌, ◌≤◌, ◌<◌}
use native.Mathlib.Omega.{arith}
use lib.Bits.{bit_xor, xor_self}
use lib.ListN.{length, get_or, get_or-append, take, replicate, length-map, length-replicate}
use Rattle.std.specs.List.{All}
use Rattle.std.proofs.lemmas.List.Elements.{All-nil, All-cons, All-take, All-map}
use Rattle.bits.specs.Joined.{joined}
use Rattle.bits.specs.Three.{xored, lists_xored}
use Rattle.bits.proofs.Lists.{Long, joined-long, joined-once}
use Rattle.bits.proofs.Three.{three-length, three-take, joined-xored, map-xored, all-xored}
use Rattle.acm.specs.Formats.{symbols, is_format, format_of, formats}
use Rattle.transfer.specs.Transfer.{stream}
use Rattle.transfer.proofs.Marked.{stream-long, stream-xored}
use Rattle.waiting.specs.Waiting.{memory_length}
use Rattle.mapping.proofs.Rows.{labels-long}
use Rattle.mapping.specs.Labels.{labels}
use Rattle.mapping.proofs.Xor.{labels-xored}
use Rattle.encoder.specs.Codeword.{codeword}
use Rattle.encoder.proofs.Codewords.{codeword-length, codeword-bits}
use Rattle.encoder.proofs.Linear.{codeword-xored}
use Rattle.header.specs.Header.{header_length, header}
use Rattle.header.proofs.Headers.{header_length_lem, header-high}
use Rattle.framing.specs.Frame.{sections, body, frame}
use Rattle.framing.proofs.Frames.{frame_length_lem, frame-xored}
use Rattle.claims.specs.Demand3.{Block, block_labels}
use Rattle.claims.specs.ThreeFrames.{Through, built, Frames, Adds, TwoDoNot, AnyOrder, Made, Again, Goes, Least, ThreeFrames}
use Rattle.claims.proofs.Goes.{goes-through}
use Rattle.claims.proofs.Through.{blocks-are, first-many, first-long, first-joined}

-- of lists of one length
long-again : (n : ℕ) (a b c : List ℕ) → Long n a → Long n b → Long n c → Long n (xored a b c)
long-again n a b c la lb lc = three-length _ a b c (la ∙ sym lb) (lb ∙ sym lc) ∙ la

again : Again
again count n us vs ws A B C =
    record {
      many = three-length _ us vs ws (A.many ∙ sym B.many) (B.many ∙ sym C.many) ∙ A.many;
      long = all-xored (Long n) (long-again n) us vs ws A.long B.long C.long;
    }

-- the labels of lists of blocks, each its symbols
module _ (f : ℕ) (blocks : List (List ℕ)) where
  all-labels : All (Long symbols) (map (block_labels f) blocks)
  all-labels = All-map (Long symbols) (block_labels f) blocks (λ k d h. labels-long (format_of f).m (codeword f _))

  labels-many : length (joined (map (block_labels f) blocks)) ≡ length blocks * symbols
  labels-many = joined-long symbols (map (block_labels f) blocks) all-labels ∙ ap (λ (n : ℕ). n * symbols) (length-map blocks (block_labels f))

-- the header stands at the front
at-header : (f pilots : ℕ) (blocks : List (List ℕ)) (s : ℕ) → s < header_length → get_or (built f pilots blocks) s 0 ≡ get_or (header f pilots) s 0
at-header f pilots blocks s h = get_or-append (header f pilots) (body pilots _) 0 s (omega (arith, h, header_length_lem f pilots))

two_do_not : TwoDoNot
two_do_not f pilots ps qs s h =
    let p = at-header f pilots ps s h in
    let q = at-header f pilots qs s h in
    (ap₂ bit_xor p q ∙ xor_self (get_or (header f pilots) s 0), omega (arith, p, header-high f pilots s h))

any_order : AnyOrder
any_order f pilots frames ps qs p q =
    ap (λ (l : List (List ℕ)). frame f pilots (joined (map (block_labels f) l)))
    (joined-once (format_of f).k (take sections ps) (take sections qs) (first-many p ∙ sym (first-many q)) (first-long p) (first-long q) (first-joined p ∙ sym (first-joined q)))

made : Made
made f h pilots frames blocks t =
    record {
      each = blocks-are t;
      long = frame_length_lem f pilots _ (labels-many f (take sections blocks) ∙ ap (λ (n : ℕ). n * symbols) (first-many t));
    }

module _ (f : ℕ) (h : is_format f ≡ true) where
  labels-keep : (a b c : List ℕ) → Block f a → Block f b → Block f c
      → block_labels f (xored a b c) ≡ xored (block_labels f a) (block_labels f b) (block_labels f c)
  labels-keep a b c A B C =
      let m = (format_of f).m in
      let la = codeword-length f h a A.long in
      let lb = codeword-length f h b B.long in
      let lc = codeword-length f h c C.long in
      ap (labels m) (codeword-xored f h a b c A.long B.long C.long A.bits B.bits C.bits)
      ∙ labels-xored m (codeword f a) (codeword f b) (codeword f c) (la ∙ sym lb) (lb ∙ sym lc) (codeword-bits f h a A.bits) (codeword-bits f h b B.bits) (codeword-bits f h c C.bits)

  module _ (pilots : ℕ) {count n : ℕ} {us vs ws ps qs rs ds : List (List ℕ)} (A : Frames count n us) (B : Frames count n vs) (C : Frames count n ws)
      (p : Through f us ps) (q : Through f vs qs) (r : Through f ws rs) (d : Through f (lists_xored us vs ws) ds) where
    abbrev k : ℕ
    k = (format_of f).k

    abbrev first : List (List ℕ) → List (List ℕ)
    first = take sections

    both : length (first ps) ≡ length (first qs)
    both = first-many p ∙ sym (first-many q)

    others : length (first qs) ≡ length (first rs)
    others = first-many q ∙ sym (first-many r)

    -- the fourth run's first blocks are the exclusive or of the others' first
    blocks-xored : first ds ≡ lists_xored (first ps) (first qs) (first rs)
    blocks-xored =
        joined-once k (first ds) (lists_xored (first ps) (first qs) (first rs))
        (first-many d ∙ sym (three-length _ (first ps) (first qs) (first rs) both others ∙ first-many p))
        (first-long d)
        (all-xored (Long k) (long-again k) (first ps) (first qs) (first rs) (first-long p) (first-long q) (first-long r))
        bits
      where
        bits : joined (first ds) ≡ joined (lists_xored (first ps) (first qs) (first rs))
        bits =
            first-joined d
            ∙ ap (take (sections * k)) (stream-xored n us vs ws (A.many ∙ sym B.many) (B.many ∙ sym C.many) A.long B.long C.long)
            ∙ three-take _ (sections * k) (stream us) (stream vs) (stream ws)
            ∙ sym (joined-xored k (first ps) (first qs) (first rs) both others (first-long p) (first-long q) (first-long r)
            ∙ rw (first-joined p, first-joined q, first-joined r))

    -- so are their labels
    abbrev L : List (List ℕ) → List (List ℕ)
    L blocks = map (block_labels f) (first blocks)

    blocks : {frames blocks : List (List ℕ)} → Through f frames blocks → All (Block f) (first blocks)
    blocks {frames} {blocks} t = All-take (Block f) sections blocks (blocks-are t)

    same : (x y : List (List ℕ)) → length (first x) ≡ length (first y) → length (L x) ≡ length (L y)
    same x y e = length-map (first x) (block_labels f) ∙ e ∙ sym (length-map (first y) (block_labels f))

    labels-xored-all : joined (L ds) ≡ xored (joined (L ps)) (joined (L qs)) (joined (L rs))
    labels-xored-all =
        ap (λ (l : List (List ℕ)). joined (map (block_labels f) l)) blocks-xored
        ∙ ap joined (map-xored (Block f) (block_labels f) labels-keep (first ps) (first qs) (first rs) (blocks p) (blocks q) (blocks r))
        ∙ joined-xored symbols (L ps) (L qs) (L rs) (same ps qs both) (same qs rs others) (all-labels f (first ps)) (all-labels f (first qs)) (all-labels f (first rs))

    many : (x y : List (List ℕ)) → length (first x) ≡ length (first y) → length (joined (L x)) ≡ length (joined (L y))
    many x y e = labels-many f (first x) ∙ ap (λ (n : ℕ). n * symbols) e ∙ sym (labels-many f (first y))

    -- and so the frames
    frames-add : built f pilots ds ≡ xored (built f pilots ps) (built f pilots qs) (built f pilots rs)
    frames-add = ap (frame f pilots) labels-xored-all ∙ frame-xored f pilots (joined (L ps)) (joined (L qs)) (joined (L rs)) (many ps qs both) (many qs rs others)

adds : Adds
adds f h pilots count n us vs ws ps qs rs ds A B C p q r d = frames-add f h pilots A B C p q r d

-- in memory of zeros
room : (n : ℕ) → n ≤ length {A = ℕ} (replicate n 0)
room n = omega (arith, length-replicate {A = ℕ} n 0)

goes : Goes
goes f known count n least most frames F bits =
    goes-through f known n least most (replicate memory_length 0) (room memory_length) frames F.long (omega (arith, bits))

-- 11,512 octets with their marker are 92,128 bits, and so are sixteen blocks of 5,758
k-of-1 : (format_of 1).k ≡ 5758
unfolding format_of formats
k-of-1 = refl

least : Least
least frame e =
    let n = length frame in
    let long : All (Long n) (frame ∷ []) = All-cons (Long n) frame [] refl (All-nil (Long n)) in
    goes-through 1 refl n (omega (arith, e)) (omega (arith, e)) (replicate memory_length 0) (room memory_length) (frame ∷ []) long
    (omega (arith, e, k-of-1, stream-long n (frame ∷ []) long))

pub three_frames : ThreeFrames
three_frames = record { adds = adds; two_do_not = two_do_not; any_order = any_order; made = made; again = again; goes = goes; least = least }
