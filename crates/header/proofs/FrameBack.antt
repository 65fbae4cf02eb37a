-- A header that was written into a frame reads back from it without its Q elements: its callsigns as addresses hold them, each hop heard
-- as it was.
-- Assumes nothing.
use mathlib.Core.Path.{◌≡◌, refl, sym, ap, ◌∙◌}
use mathlib.Core.Bool.{Bool, true, false, cond}
use mathlib.Core.List.{List, [], ◌∷◌, ◌++◌, map, append_assoc}
use Prim.Native.Nat.{ℕ, zero, suc, ◌+◌, ◌*◌, ◌≤◌}
use native.Mathlib.Nat.{le_of_suc-le-suc}
use native.Mathlib.Omega.{arith}
use borrow.Author.Tests.{le-ltb}
use lib.ListN.{length, take, drop, length-append, length-map}
use lib.Seq.{take_at, drop_at, drop-drop}
use Rattle.std.specs.Prelude.{Ok}
use Rattle.callsign.specs.declared.Callsign.{Callsign}
use Rattle.callsign.specs.declared.AddressWritten.{AddressWritten}
use Rattle.callsign.specs.declared.Field.TheVariants.{Destination, Source, Hop as HopField}
use Rattle.callsign.specs.Address.{read_address}
use Rattle.callsign.specs.Packed.{write_address}
use Rattle.callsign.proofs.Bits.{heard_in}
use Rattle.callsign.proofs.Characters.{address_as}
use Rattle.callsign.proofs.AddressBack.{in_address, address_seven}
use Rattle.callsign.proofs.Theorems.{address_reads_back}
use Rattle.header.specs.declared.Hop.{Hop}
use Rattle.header.specs.declared.Header.{Header}
use Rattle.header.specs.Hop.{call_hop, is_heard, calls_of}
use Rattle.header.specs.Header.{most_bytes, before, path_of, hops_of, header_accepted, unless_refused, with_hops}
use Rattle.header.specs.Frame.{pair, starts_with_pair, address_hop, address_then, frame_hops, with_pair, read_source, read_frame_header, is_none, hop_addresses, addresses, first_refusal, address_bytes, header_frame}
use Rattle.header.specs.Range.{header_in_range, frame_refusal}
use Rattle.header.proofs.InRange.{route_calls}
use Rattle.header.proofs.Frames.{destination_read}
use Rattle.header.proofs.FrameWritten.{first_none, hops_length}

-- a hop as its address holds it: "Frames keep each heard bit as it is."
unfoldable pub in_frame : Hop → Hop
in_frame h = call_hop (in_address h.call) (is_heard h)

-- ---- hops

hop_back : (h : Hop) (last : Bool) (k : ℕ) (x : List ℕ) → (write_address h.call (HopField (is_heard h)) last).refusal ≡ 0
    → frame_hops (suc k) ((write_address h.call (HopField (is_heard h)) last).bytes ++ x) ≡ before (in_frame h) (cond last (Ok []) (frame_hops k x))
unfolding frame_hops address_then address_hop in_frame heard_in
hop_back h last k x z =
    let a = write_address h.call (HopField (is_heard h)) last in
    let s : length a.bytes ≡ 7 = address_seven h.call (HopField (is_heard h)) last z in
    let m : 7 ≤ length (a.bytes ++ x) = rw (length-append a.bytes x, s) (omega arith) in
    rw (le-ltb (length (a.bytes ++ x)) 7 m, take_at a.bytes x 7 s, drop_at a.bytes x 7 s, address_reads_back h.call (HopField (is_heard h)) last z)

pub hops_back : (h : Hop) (l : List Hop) (k : ℕ) (x : List ℕ) → length (h ∷ l) ≤ k → first_refusal (hop_addresses (h ∷ l)) ≡ 0
    → frame_hops k (address_bytes (hop_addresses (h ∷ l)) ++ x) ≡ Ok (map in_frame (h ∷ l))
unfolding address_bytes hop_addresses before is_none
hops_back h l zero x m z = absurd (omega arith)
hops_back h [] (suc k) x m z =
    let a = write_address h.call (HopField (is_heard h)) true in
    rw (append_assoc a.bytes [] x) (hop_back h true k x (first_none a [] z).0)
hops_back h (h' ∷ l) (suc k) x m z =
    let a = write_address h.call (HopField (is_heard h)) false in
    let p = first_none a (hop_addresses (h' ∷ l)) z in
    rw (append_assoc a.bytes (address_bytes (hop_addresses (h' ∷ l))) x)
    (hop_back h false k (address_bytes (hop_addresses (h' ∷ l)) ++ x) p.0 ∙ ap (before (in_frame h)) (hops_back h' l k x (le_of_suc-le-suc m) p.1))

-- ---- the whole frame

all_hops : (l : List Hop) (x : List ℕ) → length l ≤ 8 → first_refusal (hop_addresses l) ≡ 0
    → cond (is_none l) (Ok []) (frame_hops 8 (address_bytes (hop_addresses l) ++ x)) ≡ Ok (map in_frame l)
unfolding is_none
all_hops [] x m z = refl
all_hops (h ∷ l) x m z = hops_back h l 8 x m z

pair_back : (from to : Callsign) (l : List Hop) (s x : List ℕ) → drop (14 + 7 * length l) s ≡ pair ++ x
    → with_pair from to (path_of l) s ≡ header_accepted from to (path_of l) (16 + 7 * length l) 0
unfolding with_pair path_of starts_with_pair
pair_back from to l s x e = let q : 14 + 7 * length l + 2 ≡ 16 + 7 * length l = omega arith in rw (e, q)

module _ (h : Header) (body : List ℕ) (e : header_in_range h ≡ true) (z : first_refusal (addresses h) ≡ 0) where
  abbrev hops : List Hop
  hops = calls_of (hops_of h.path)

  abbrev a : AddressWritten
  a = write_address h.to Destination false

  abbrev b : AddressWritten
  b = write_address h.from Source (is_none hops)

  abbrev rest : List ℕ
  rest = address_bytes (hop_addresses hops) ++ (pair ++ body)

  parts : (a.refusal ≡ 0) × (first_refusal (b ∷ hop_addresses hops) ≡ 0)
  unfolding addresses
  parts = first_none a (b ∷ hop_addresses hops) z

  others : (b.refusal ≡ 0) × (first_refusal (hop_addresses hops) ≡ 0)
  others = first_none b (hop_addresses hops) parts.1

  a_seven : length a.bytes ≡ 7
  a_seven = address_seven h.to Destination false parts.0

  b_seven : length b.bytes ≡ 7
  b_seven = address_seven h.from Source (is_none hops) others.0

  spelled : header_frame h ++ body ≡ a.bytes ++ (b.bytes ++ rest)
  unfolding header_frame address_bytes addresses
  spelled = simp append_assoc

  from_there : drop 7 (header_frame h ++ body) ≡ b.bytes ++ rest
  from_there = rw (spelled, drop_at a.bytes (b.bytes ++ rest) 7 a_seven)

  hops_there : drop 14 (header_frame h ++ body) ≡ rest
  hops_there = sym (drop-drop 7 7 (header_frame h ++ body)) ∙ rw (from_there, drop_at b.bytes rest 7 b_seven)

  pair_there : drop (14 + 7 * length hops) (header_frame h ++ body) ≡ pair ++ body
  pair_there =
      sym (drop-drop (7 * length hops) 14 (header_frame h ++ body))
      ∙ rw (hops_there, drop_at (address_bytes (hop_addresses hops)) (pair ++ body) (7 * length hops) (hops_length hops others.1))

  long : 14 ≤ length (header_frame h ++ body)
  long = rw (spelled, length-append a.bytes (b.bytes ++ rest), length-append b.bytes rest, a_seven, b_seven) (omega arith)

  source_back : read_source (in_address h.to) (header_frame h ++ body) ≡ header_accepted (in_address h.from) (in_address h.to) (path_of (map in_frame hops)) (16 + 7 * length hops) 0
  unfolding read_source unless_refused with_hops heard_in
  source_back =
      let n : length (map in_frame hops) ≡ length hops = length-map hops in_frame in
      let p : drop (14 + 7 * length (map in_frame hops)) (header_frame h ++ body) ≡ pair ++ body = rw n pair_there in
      rw (
        le-ltb (length (header_frame h ++ body)) 14 long,
        from_there,
        take_at b.bytes rest 7 b_seven,
        address_reads_back h.from Source (is_none hops) others.0,
        hops_there,
        all_hops hops (pair ++ body) (route_calls h e) others.1,
      )
      (pair_back (in_address h.from) (in_address h.to) (map in_frame hops) (header_frame h ++ body) body p ∙ rw n)

  back : length (header_frame h ++ body) ≤ most_bytes → read_frame_header (header_frame h ++ body) ≡ header_accepted (in_address h.from) (in_address h.to) (path_of (map in_frame hops)) (16 + 7 * length hops) 0
  unfolding heard_in
  back short =
      let k = long in
      let q : address_as (in_address h.to) true false ≡ read_address (take 7 (header_frame h ++ body)) =
      rw (spelled, take_at a.bytes (b.bytes ++ rest) 7 a_seven) (sym (address_reads_back h.to Destination false parts.0)) in
      sym (destination_read (header_frame h ++ body) (header_accepted (in_address h.from) (in_address h.to) (path_of (map in_frame hops)) (16 + 7 * length hops) 0) short (omega arith)
      (address_as (in_address h.to) true false) q refl refl (sym source_back))

  size : length (header_frame h) ≡ 16 + 7 * length hops
  unfolding header_frame address_bytes addresses
  size =
      rw (
        length-append (a.bytes ++ (b.bytes ++ address_bytes (hop_addresses hops))) pair,
        length-append a.bytes (b.bytes ++ address_bytes (hop_addresses hops)),
        length-append b.bytes (address_bytes (hop_addresses hops)),
        a_seven,
        b_seven,
        hops_length hops others.1,
      ) (omega arith)

-- a header that can be written, and any body behind it
pub frame_back : (h : Header) (body : List ℕ) → frame_refusal h ≡ 0 → length (header_frame h ++ body) ≤ most_bytes
    → read_frame_header (header_frame h ++ body) ≡ header_accepted (in_address h.from) (in_address h.to) (path_of (map in_frame (calls_of (hops_of h.path)))) (length (header_frame h)) 0
unfolding frame_refusal
frame_back h body z short = go (header_in_range h) refl z
  where
    go : (k : Bool) → header_in_range h ≡ k → cond k (first_refusal (addresses h)) 15 ≡ 0
        → read_frame_header (header_frame h ++ body) ≡ header_accepted (in_address h.from) (in_address h.to) (path_of (map in_frame (calls_of (hops_of h.path)))) (length (header_frame h)) 0
    go true e q = back h body e q short ∙ rw (size h body e q)
    go false e q = absurd (omega arith)
