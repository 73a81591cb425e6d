-- Laws of marked frames and of their stream.
use mathlib.Core.Path.{◌≡◌, refl, sym, ap, ap₂, ◌∙◌}
use mathlib.Core.Bool.{true}
use mathlib.Core.List.{List, [], ◌∷◌, ◌++◌, map, map-append}
use Prim.Native.Nat.{ℕ, ◌+◌, ◌*◌}
use native.Mathlib.Omega.{arith}
use lib.ListN.{length, length-append, length-map}
use lib.Seq.{sets}
use Rattle.std.specs.List.{All}
use Rattle.std.proofs.lemmas.List.Elements.{All-map, All-weaker}
use Rattle.bits.specs.Joined.{joined}
use Rattle.bits.specs.Legal.{all_bits}
use Rattle.bits.specs.Three.{xored, lists_xored}
use Rattle.bits.specs.Words.{bits_of, unpacked}
use Rattle.bits.proofs.Fill.{sets-append}
use Rattle.bits.proofs.Legal.{legal-append}
use Rattle.bits.proofs.Lists.{Long, joined-last, joined-long}
use Rattle.bits.proofs.Three.{three-append, xored_self, map-xored, joined-xored}
use Rattle.randomizer.specs.Randomizer.{octet_length, randomized}
use Rattle.randomizer.proofs.Randomized.{randomized-bits, randomized-length, randomized-xored}
use Rattle.transfer.specs.Transfer.{marker_length, sync_marker, sync_marked, stream}

marker-bits : all_bits sync_marker ≡ true
unfolding sync_marker unpacked bits_of
marker-bits = refl

marker_length_lem : length sync_marker ≡ marker_length
unfolding sync_marker unpacked bits_of
marker_length_lem = refl

-- how long a marked frame is, and that it is bits
pub marked_length : (frame : List ℕ) → length (sync_marked frame) ≡ marker_length + octet_length * length frame
unfolding sync_marked
marked_length frame = omega (arith, length-append sync_marker (randomized frame), marker_length_lem, randomized-length frame)

pub marked_bits : (frame : List ℕ) → all_bits (sync_marked frame) ≡ true
unfolding sync_marked
marked_bits frame = legal-append 1 sync_marker (randomized frame) marker-bits (randomized-bits frame)

-- one more frame
pub stream-last : (frames : List (List ℕ)) (frame : List ℕ) → stream (frames ++ (frame ∷ [])) ≡ stream frames ++ sync_marked frame
stream-last frames frame = rw (map-append sync_marked frames (frame ∷ [])) (joined-last (map sync_marked frames) (sync_marked frame))

-- the stream is bits, and of frames of n octets it has as many for each
pub stream-bits : (frames : List (List ℕ)) → all_bits (stream frames) ≡ true
stream-bits [] = refl
stream-bits (frame ∷ frames) = legal-append 1 (sync_marked frame) (stream frames) (marked_bits frame) (stream-bits frames)

marked_long : (n : ℕ) (frames : List (List ℕ)) → All (Long n) frames → All (Long (marker_length + octet_length * n)) (map sync_marked frames)
marked_long n frames long =
    All-map (Long (marker_length + octet_length * n)) sync_marked frames
    (All-weaker (Long n) (λ frame. length (sync_marked frame) ≡ marker_length + octet_length * n) (λ frame e. marked_length frame ∙ ap (λ (k : ℕ). marker_length + octet_length * k) e) frames long)

pub stream-long : (n : ℕ) (frames : List (List ℕ)) → All (Long n) frames → length (stream frames) ≡ length frames * (marker_length + octet_length * n)
stream-long n frames long =
    let m = marker_length + octet_length * n in
    joined-long m (map sync_marked frames) (marked_long n frames long) ∙ ap (λ (k : ℕ). k * m) (length-map frames sync_marked)

-- three frames of one length: three markers are one
pub marked_xored : (a b c : List ℕ) → length a ≡ length b → length b ≡ length c
    → sync_marked (xored a b c) ≡ xored (sync_marked a) (sync_marked b) (sync_marked c)
unfolding sync_marked
marked_xored a b c e f =
    ap₂ (λ (k l : List ℕ). k ++ l) (sym (xored_self sync_marker)) (randomized-xored a b c e f)
    ∙ sym (three-append _ sync_marker sync_marker sync_marker (randomized a) (randomized b) (randomized c) refl refl)

-- so the stream of the exclusive or of three lists is that of their streams
pub stream-xored : (n : ℕ) (us vs ws : List (List ℕ)) → length us ≡ length vs → length vs ≡ length ws → All (Long n) us → All (Long n) vs → All (Long n) ws
    → stream (lists_xored us vs ws) ≡ xored (stream us) (stream vs) (stream ws)
stream-xored n us vs ws e f la lb lc =
    let same : (x y : List (List ℕ)) → length x ≡ length y → length (map sync_marked x) ≡ length (map sync_marked y) =
    λ x y e. length-map x sync_marked ∙ e ∙ sym (length-map y sync_marked) in
    ap joined (map-xored (Long n) sync_marked (λ a b c la lb lc. marked_xored a b c (la ∙ sym lb) (lb ∙ sym lc)) us vs ws la lb lc)
    ∙ joined-xored (marker_length + octet_length * n) (map sync_marked us) (map sync_marked vs) (map sync_marked ws) (same us vs e) (same vs ws f)
    (marked_long n us la) (marked_long n vs lb) (marked_long n ws lc)

-- the marker, and behind it the frame
pub marked_stored : (frame out first both : List ℕ) (at : ℕ) → first ≡ sets out at sync_marker
    → both ≡ sets first (at + marker_length) (randomized frame) → both ≡ sets out at (sync_marked frame)
unfolding sync_marked
marked_stored frame out first both at a b =
    let many : at + length sync_marker ≡ at + marker_length = omega (arith, marker_length_lem) in
    b ∙ rw (a, sets-append out at sync_marker (randomized frame), many)
