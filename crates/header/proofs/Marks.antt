-- The marks of dropped zeros in a header: what is judged and written is that of the header without them, and no frame sets one.
-- Assumes nothing.
use mathlib.Core.Path.{◌≡◌, refl, ap}
use mathlib.Core.Bool.{Bool, true, false, cond, ◌&&◌, ◌||◌}
use mathlib.Core.List.{List, [], ◌∷◌, map, map-map, map-append}
use Prim.Native.Nat.{ℕ, zero, suc, ◌+◌, ◌-◌, ◌*◌}
use lib.Dec.{eqb, ltb}
use lib.ListN.{length, take, drop, replicate}
use Rattle.laws.specs.Lists.{any_of, pad_to}
use Rattle.laws.proofs.Lists.{take_map, drop_map, map_replicate}
use Rattle.laws.proofs.Each.{every_map}
use Rattle.callsign.specs.declared.Callsign.{Callsign}
use Rattle.callsign.specs.declared.Field.TheVariants.{Destination, Source, Hop as HopField}
use Rattle.callsign.specs.Text.{marked_as, blank_call}
use Rattle.callsign.specs.Address.{read_address}
use Rattle.callsign.proofs.Marks.{mark_in_range, mark_of_blank, mark_in_text, mark_in_address, unmarked_call, unmarked_made, unmarked_address}
use Rattle.header.specs.declared.Hop.{Hop}
use Rattle.header.specs.declared.Fault.{Fault}
use Rattle.header.specs.declared.Fault.TheVariants.{Incomplete, Call, NinthHop}
use Rattle.std.specs.Prelude.{Ok, Err}
use Rattle.header.specs.declared.Path.{Path}
use Rattle.header.specs.declared.Header.{Header}
use Rattle.header.specs.declared.HeaderRead.{HeaderRead}
use Rattle.header.specs.Hop.{not_heard, call_hop, is_heard, is_q_element, calls_of, any_heard}
use Rattle.header.specs.Header.{most_bytes, Hops, number_of, before, blank_hop, path_of, hops_of, header_of, blank_header, header_refused, header_accepted, unless_refused, with_hops}
use Rattle.header.specs.Text.{hops_text, route_text, header_text}
use Rattle.header.specs.Frame.{starts_with_pair, address_hop, address_then, frame_hops, with_pair, read_source, read_frame_header, is_none, hop_addresses, addresses, header_frame}
use Rattle.header.specs.Range.{is_some_hop, hop_in_range, is_blank, is_blank_header, path_in_range, header_in_range, text_refusal, frame_refusal}

-- ---- a header without its marks

unfoldable pub unmarked_hop : Hop → Hop
unmarked_hop h = record { call = unmarked_call h.call; kind = h.kind }

unfoldable pub unmarked_path : Path → Path
unmarked_path p = record { hops = map unmarked_hop p.hops; count = p.count }

unfoldable pub unmarked : Header → Header
unmarked h = header_of (unmarked_call h.from) (unmarked_call h.to) (unmarked_path h.path)

-- ---- lists of hops

hops_unmarked : (p : Path) → hops_of (unmarked_path p) ≡ map unmarked_hop (hops_of p)
unfolding hops_of unmarked_path
hops_unmarked p = take_map unmarked_hop p.count p.hops

pub heard_unmarked : (l : List Hop) → any_heard (map unmarked_hop l) ≡ any_heard l
unfolding any_of is_heard unmarked_hop
heard_unmarked [] = refl
heard_unmarked (h ∷ l) = ap (λ (b : Bool). is_heard h || b) (heard_unmarked l)

calls_unmarked : (l : List Hop) → calls_of (map unmarked_hop l) ≡ map unmarked_hop (calls_of l)
unfolding calls_of is_q_element unmarked_hop
calls_unmarked [] = refl
calls_unmarked (h ∷ l) = go (is_q_element h) (calls_unmarked l)
  where
    go : (k : Bool) → calls_of (map unmarked_hop l) ≡ map unmarked_hop (calls_of l)
        → cond k (calls_of (map unmarked_hop l)) (unmarked_hop h ∷ calls_of (map unmarked_hop l)) ≡ map unmarked_hop (cond k (calls_of l) (h ∷ calls_of l))
    go true r = r
    go false r = ap {B = List Hop} (λ t. unmarked_hop h ∷ t) r

-- ---- the range

hop_in_range_lem : (h : Hop) → hop_in_range (unmarked_hop h) ≡ hop_in_range h
unfolding hop_in_range is_some_hop is_q_element unmarked_hop
hop_in_range_lem h = rw (mark_in_range false h.call, mark_in_text false h.call)

hop_of_blank : (h : Hop) → is_blank (unmarked_hop h) ≡ is_blank h
unfolding is_blank unmarked_hop
hop_of_blank h = ap (λ (b : Bool). eqb h.kind not_heard && b) (mark_of_blank false h.call)

path_in_range_lem : (p : Path) → path_in_range (unmarked_path p) ≡ path_in_range p
unfolding path_in_range
path_in_range_lem p =
    rw (hops_unmarked p, every_map hop_in_range unmarked_hop hop_in_range_lem (hops_of p))
    (unfold unmarked_path in rw (drop_map unmarked_hop p.count p.hops, every_map is_blank unmarked_hop hop_of_blank (drop p.count p.hops)) refl)

pub unmarked_in_range : (h : Header) → header_in_range (unmarked h) ≡ header_in_range h
unfolding header_in_range unmarked header_of
unmarked_in_range h = rw (mark_in_range false h.from, mark_in_range false h.to, path_in_range_lem h.path)

pub unmarked_is_blank : (h : Header) → is_blank_header (unmarked h) ≡ is_blank_header h
unfolding is_blank_header unmarked header_of unmarked_path
unmarked_is_blank h = rw (mark_of_blank false h.from, mark_of_blank false h.to, every_map is_blank unmarked_hop hop_of_blank h.path.hops)

-- ---- a line

hops_text_lem : (l : List Hop) → hops_text (map unmarked_hop l) ≡ hops_text l
unfolding hops_text is_heard unmarked_hop
hops_text_lem [] = refl
hops_text_lem (h ∷ l) = rw (mark_in_text false h.call, heard_unmarked l, hops_text_lem l)

pub unmarked_text : (h : Header) → header_text (unmarked h) ≡ header_text h
unfolding header_text route_text unmarked header_of
unmarked_text h = rw (mark_in_text false h.from, mark_in_text false h.to, hops_unmarked h.path, hops_text_lem (hops_of h.path))

pub unmarked_text_refusal : (h : Header) → text_refusal (unmarked h) ≡ text_refusal h
unfolding text_refusal
unmarked_text_refusal h = rw (unmarked_in_range h)

-- ---- a frame

none_unmarked : (l : List Hop) → is_none (map unmarked_hop l) ≡ is_none l
unfolding is_none
none_unmarked [] = refl
none_unmarked (h ∷ l) = refl

hop_addresses_lem : (l : List Hop) → hop_addresses (map unmarked_hop l) ≡ hop_addresses l
unfolding hop_addresses is_heard unmarked_hop
hop_addresses_lem [] = refl
hop_addresses_lem (h ∷ l) = rw (mark_in_address false h.call (HopField (is_heard h)) (is_none (map unmarked_hop l)), none_unmarked l, hop_addresses_lem l)

same_addresses : (h : Header) → addresses (unmarked h) ≡ addresses h
unfolding addresses unmarked header_of
same_addresses h =
    let calls = calls_of (hops_of h.path) in
    rw (hops_unmarked h.path, calls_unmarked (hops_of h.path), hop_addresses_lem calls, none_unmarked calls, mark_in_address false h.to Destination false, mark_in_address false h.from Source (is_none calls))

pub unmarked_frame : (h : Header) → header_frame (unmarked h) ≡ header_frame h
unfolding header_frame
unmarked_frame h = rw (same_addresses h)

pub unmarked_frame_refusal : (h : Header) → frame_refusal (unmarked h) ≡ frame_refusal h
unfolding frame_refusal
unmarked_frame_refusal h = rw (unmarked_in_range h, same_addresses h)

-- ---- a frame read

pub twice_unmarked : (h : Header) → unmarked (unmarked h) ≡ unmarked h
unfolding unmarked header_of unmarked_path unmarked_hop marked_as
twice_unmarked h = rw (map-map unmarked_hop unmarked_hop h.path.hops)

-- refused, or hops without a mark
data Unmarked : Hops → Type 0 where
  none : (f : Fault) → Unmarked (Err f)
  some : (l : List Hop) → map unmarked_hop l ≡ l → Unmarked (Ok l)

either_hops : (b : Bool) {x y : Hops} → Unmarked x → Unmarked y → Unmarked (cond b x y)
either_hops true p q = p
either_hops false p q = q

hop_in_front : (h : Hop) {w : Hops} → unmarked_hop h ≡ h → Unmarked w → Unmarked (before h w)
unfolding before
hop_in_front h e (none f) = none f
hop_in_front h e (some l q) = some (h ∷ l) (rw (e, q))

address_hop_lem : (s : List ℕ) → unmarked_hop (address_hop (read_address s)) ≡ address_hop (read_address s)
unfolding address_hop call_hop unmarked_hop
address_hop_lem s = rw (unmarked_address s)

frame_hops_lem : (k : ℕ) (s : List ℕ) → Unmarked (frame_hops k s)
unfolding frame_hops address_then
frame_hops_lem zero s = none NinthHop
frame_hops_lem (suc k) s =
    let a = read_address (take 7 s) in
    either_hops (ltb (length s) 7) (none Incomplete)
    (either_hops (eqb a.refusal 0) (hop_in_front (address_hop a) (address_hop_lem (take 7 s)) (either_hops a.last (some [] refl) (frame_hops_lem k (drop 7 s)))) (none (Call a.refusal)))

-- a header that was read has no mark
record Bare (r : HeaderRead) : Type 0 where
  same : unmarked r.header ≡ r.header

either_bare : (b : Bool) {x y : HeaderRead} → Bare x → Bare y → Bare (cond b x y)
either_bare true p q = p
either_bare false p q = q

hop_bare : unmarked_hop blank_hop ≡ blank_hop
unfolding unmarked_hop blank_hop call_hop blank_call
hop_bare = rw (unmarked_made [] [])

path_bare : (l : List Hop) → map unmarked_hop l ≡ l → unmarked_path (path_of l) ≡ path_of l
unfolding unmarked_path path_of pad_to
path_bare l e = rw (map-append unmarked_hop l (replicate (8 - length l) blank_hop), map_replicate unmarked_hop (8 - length l) blank_hop, e, hop_bare)

accepted_bare : (from to : Callsign) (l : List Hop) (body stars : ℕ) → unmarked_call from ≡ from → unmarked_call to ≡ to → map unmarked_hop l ≡ l → Bare (header_accepted from to (path_of l) body stars)
unfolding header_accepted header_of unmarked
accepted_bare from to l body stars f t e = record { same = rw (f, t, path_bare l e) }

refused_bare : (n : ℕ) → Bare (header_refused n)
unfolding header_refused header_accepted blank_header blank_call
refused_bare n = record { same = (accepted_bare blank_call blank_call [] 0 0 (unmarked_made [] []) (unmarked_made [] []) refl).same }

pair_bare : (from to : Callsign) (s : List ℕ) {w : Hops} → unmarked_call from ≡ from → unmarked_call to ≡ to → Unmarked w → Bare (with_hops w (λ l. with_pair from to (path_of l) s))
unfolding with_hops with_pair
pair_bare from to s f t (none why) = refused_bare (number_of why)
pair_bare from to s f t (some l e) =
    either_bare (starts_with_pair (drop (14 + 7 * (path_of l).count) s)) (accepted_bare from to l (14 + 7 * (path_of l).count + 2) 0 f t e) (refused_bare 2)

source_bare : (to : Callsign) (s : List ℕ) → unmarked_call to ≡ to → Bare (read_source to s)
unfolding read_source unless_refused
source_bare to s t =
    let from = read_address (take 7 (drop 7 s)) in
    either_bare (ltb (length s) 14) (refused_bare 2)
    (either_bare (eqb from.refusal 0)
    (pair_bare from.call to s (unmarked_address (take 7 (drop 7 s))) t (either_hops from.last (some [] refl) (frame_hops_lem 8 (drop 14 s))))
    (refused_bare from.refusal))

frame_bare : (s : List ℕ) → Bare (read_frame_header s)
unfolding read_frame_header unless_refused
frame_bare s =
    let to = read_address (take 7 s) in
    either_bare (ltb most_bytes (length s)) (refused_bare 1)
    (either_bare (ltb (length s) 7) (refused_bare 2)
    (either_bare (eqb to.refusal 0) (either_bare to.last (refused_bare 2) (source_bare to.call s (unmarked_address (take 7 s)))) (refused_bare to.refusal)))

pub unmarked_read : (s : List ℕ) → unmarked (read_frame_header s).header ≡ (read_frame_header s).header
unmarked_read s = (frame_bare s).same

pub unmarked_blank : unmarked blank_header ≡ blank_header
unfolding header_refused
unmarked_blank = (refused_bare 0).same
