-- What a reader of headers answers: a refusal of its list with the blank header, or a header in range and a place within
-- the input.
-- Assumes nothing.
use mathlib.Core.Path.{◌≡◌, refl, ap}
use mathlib.Core.Logic.{inl}
use mathlib.Core.Bool.{Bool, true, false, cond, false≢true}
use mathlib.Core.List.{List, [], ◌∷◌}
use Prim.Native.Nat.{ℕ, suc, ◌+◌, ◌-◌, ◌*◌, ◌<◌, ◌≤◌}
use native.Mathlib.Omega.{arith}
use lib.Dec.{eqb, ltb}
use borrow.Author.Tests.{eqb-true, eqb-false, le-leb}
use lib.ListN.{length, take, drop, get_or, replicate, length-drop, get_or-append}
use lib.Seq.{take_at, drop_at}
use Rattle.laws.specs.Bytes.{colon, greater}
use Rattle.laws.specs.Lists.{index_of, every, pad_to, zeros}
use Rattle.laws.proofs.Each.{every_replicate}
use Rattle.laws.proofs.Places.{index_le}
use Rattle.callsign.specs.declared.Callsign.{Callsign}
use Rattle.callsign.specs.Text.{joined, made, blank_call, read_text}
use Rattle.callsign.specs.Address.{read_address}
use Rattle.callsign.specs.Range.{in_range, is_blank_call}
use Rattle.callsign.proofs.Made.{blank_range}
use Rattle.callsign.proofs.Theorems.{text_is_in_range, address_is_in_range}
use Rattle.header.specs.declared.Hop.{Hop}
use Rattle.header.specs.declared.HeaderRead.{HeaderRead}
use Rattle.header.specs.Hop.{heard_as, call_hop, is_heard, is_q_element}
use Rattle.header.specs.Header.{most_bytes, Hops, number_of, blank_hop, path_of, hops_of, header_of, blank_header, header_refused, header_accepted, unless_refused, with_hops}
use Rattle.header.specs.Text.{fields, first_of, others_of, stars_of, carried, read_route, read_before, read_header_text, read_text_header}
use Rattle.header.specs.Frame.{starts_with_pair, with_pair, read_source, read_frame_header}
use Rattle.header.specs.Range.{hop_in_range, is_blank, is_blank_header, path_in_range, header_in_range}
use Rattle.header.proofs.Typed.{is_set, heard_then_set, set_then_heard}
use Rattle.header.proofs.Going.{length_carried}
use Rattle.header.proofs.Walks.{InText, InLine, InFrame, Sound, none, some, either_sound, call_in_text, text_sound, carried_range, address_in_frame, frame_sound}

-- `ok` says which refusals there are, `kept` what the stars say of the hops
pub data Answered (ok : ℕ → Type 0) (kept : List Hop → ℕ → Type 0) (s : List ℕ) : HeaderRead → Type 0 where
  no : (n : ℕ) → ok n → Answered ok kept s (header_refused n)
  yes : (from to : Callsign) (l : List Hop) (body stars : ℕ) → in_range from ≡ true → in_range to ≡ true → length l ≤ 8 → every hop_in_range l ≡ true → body ≤ length s → kept l stars
      → Answered ok kept s (header_accepted from to (path_of l) body stars)

-- of a text: carried back, and as typed
pub record Starred (l : List Hop) (stars : ℕ) : Type 0 where
  pub typed : List Hop
  pub back : l ≡ carried typed
  pub number : stars ≡ stars_of typed

-- of a frame: none
pub record Starless (l : List Hop) (stars : ℕ) : Type 0 where
  pub number : stars ≡ 0

module _ (ok : ℕ → Type 0) (kept : List Hop → ℕ → Type 0) (s : List ℕ) where
  either : (b : Bool) {x y : HeaderRead} → (b ≡ true → Answered ok kept s x) → (b ≡ false → Answered ok kept s y) → Answered ok kept s (cond b x y)
  either true f g = f refl
  either false f g = g refl

  unless : (n : ℕ) {x : HeaderRead} → ((n ≡ 0 → ⊥) → ok n) → (n ≡ 0 → Answered ok kept s x) → Answered ok kept s (unless_refused n x)
  unfolding unless_refused
  unless n f g = either (eqb n 0) (λ e. g (eqb-true n 0 e)) (λ e. no n (f (eqb-false n 0 e)))

-- ---- a text, and a line

two_in_text : InText 2
two_in_text = record { low = omega arith; high = omega arith }

module _ (s : List ℕ) where
  hops_answered : (from to : Callsign) (body : ℕ) {w : Hops} → in_range from ≡ true → in_range to ≡ true → body ≤ length s → Sound InText 8 w
      → Answered InText Starred s (with_hops w (λ l. header_accepted from to (path_of (carried l)) body (stars_of l)))
  unfolding with_hops
  hops_answered from to body a b m (none f p) = no (number_of f) p
  hops_answered from to body a b m (some l k q) = let c = length_carried l in yes from to (carried l) body (stars_of l) a b (omega arith) (carried_range l q) m (record { typed = l; back = refl; number = refl })

  route_answered : (from : Callsign) (t : List ℕ) (body : ℕ) → in_range from ≡ true → body ≤ length s → Answered InText Starred s (read_route from t body)
  unfolding read_route
  route_answered from t body a m =
      let to = first_of (fields t) in
      unless InText Starred s (read_text to).refusal (call_in_text to) (λ z.
      hops_answered from (read_text to).call body a (text_is_in_range to) m (text_sound 8 (others_of (fields t))))

  before_answered : (t : List ℕ) (body : ℕ) → body ≤ length s → Answered InText Starred s (read_before t body)
  unfolding read_before
  before_answered t body m =
      let from = take (index_of greater t) t in
      either InText Starred s (eqb (index_of greater t) (length t)) (λ e. no 2 two_in_text) (λ e.
      unless InText Starred s (read_text from).refusal (call_in_text from) (λ z. route_answered (read_text from).call (drop (suc (index_of greater t)) t) body (text_is_in_range from) m))

  as_line : {r : HeaderRead} → Answered InText Starred s r → Answered InLine Starred s r
  as_line (no n p) = let m = p.low in let k = p.high in no n (record { low = omega arith; high = k })
  as_line (yes from to l body stars a b m q k t) = yes from to l body stars a b m q k t

  pub text_answered : Answered InText Starred s (read_header_text s)
  unfolding read_header_text
  text_answered =
      let c = index_of colon s in
      either InText Starred s (eqb c (length s)) (λ f. no 2 two_in_text) (λ f.
      let d = eqb-false c (length s) f in
      before_answered (take c s) (c + 1) (omega (arith, index_le colon s)))

  pub line_answered : Answered InLine Starred s (read_text_header s)
  unfolding read_text_header
  line_answered = either InLine Starred s (ltb most_bytes (length s)) (λ e. no 1 (record { low = omega arith; high = omega arith })) (λ e. as_line text_answered)

-- ---- a frame

two_in_frame : InFrame 2
two_in_frame = record { low = omega arith; high = inl (omega arith) }

-- where the pair stands, two bytes stand
pair_within : (s : List ℕ) (at : ℕ) → starts_with_pair (drop at s) ≡ true → at + 2 ≤ length s
unfolding starts_with_pair
pair_within s at e = go (drop at s) (length-drop at s) e
  where
    go : (l : List ℕ) → length l ≡ length s - at → starts_with_pair l ≡ true → at + 2 ≤ length s
    go [] q f = absurd (false≢true f)
    go (a ∷ []) q f = absurd (false≢true f)
    go (a ∷ b ∷ l) q f = omega arith

module _ (s : List ℕ) where
  pair_answered : (from to : Callsign) {w : Hops} → in_range from ≡ true → in_range to ≡ true → Sound InFrame 8 w → Answered InFrame Starless s (with_hops w (λ l. with_pair from to (path_of l) s))
  unfolding with_hops with_pair
  pair_answered from to a b (none f p) = no (number_of f) p
  pair_answered from to a b (some l k q) =
      either InFrame Starless s (starts_with_pair (drop (14 + 7 * (path_of l).count) s))
      (λ e. yes from to l (14 + 7 * (path_of l).count + 2) 0 a b k q (pair_within s (14 + 7 * (path_of l).count) e) (record { number = refl })) (λ e. no 2 two_in_frame)

  source_answered : (to : Callsign) → in_range to ≡ true → Answered InFrame Starless s (read_source to s)
  unfolding read_source every
  source_answered to b =
      let from = take 7 (drop 7 s) in
      either InFrame Starless s (ltb (length s) 14) (λ e. no 2 two_in_frame) (λ e.
      unless InFrame Starless s (read_address from).refusal (address_in_frame from) (λ z.
      pair_answered (read_address from).call to (address_is_in_range from) b
      (either_sound InFrame 8 (read_address from).last (λ l. some [] (omega arith) refl) (λ l. frame_sound 8 (drop 14 s)))))

  pub frame_answered : Answered InFrame Starless s (read_frame_header s)
  unfolding read_frame_header
  frame_answered =
      let to = take 7 s in
      either InFrame Starless s (ltb most_bytes (length s)) (λ e. no 1 (record { low = omega arith; high = inl (omega arith) })) (λ e.
      either InFrame Starless s (ltb (length s) 7) (λ f. no 2 two_in_frame) (λ f.
      unless InFrame Starless s (read_address to).refusal (address_in_frame to) (λ z.
      either InFrame Starless s (read_address to).last (λ g. no 2 two_in_frame) (λ g. source_answered (read_address to).call (address_is_in_range to)))))

-- ---- what every such answer has

blanks : (k : ℕ) → every is_blank (replicate k blank_hop) ≡ true
unfolding is_blank is_blank_call blank_hop call_hop heard_as blank_call made joined pad_to zeros
blanks k = every_replicate is_blank blank_hop refl k

pub path_range : (l : List Hop) → length l ≤ 8 → every hop_in_range l ≡ true → path_in_range (path_of l) ≡ true
unfolding path_in_range path_of hops_of pad_to
path_range l m q =
    rw (le-leb (length l) 8 m, take_at l (replicate (8 - length l) blank_hop) (length l) refl, q, drop_at l (replicate (8 - length l) blank_hop) (length l) refl) (blanks (8 - length l))

pub header_range : (from to : Callsign) (l : List Hop) → in_range from ≡ true → in_range to ≡ true → length l ≤ 8 → every hop_in_range l ≡ true → header_in_range (header_of from to (path_of l)) ≡ true
unfolding header_in_range header_of
header_range from to l a b m q = rw (a, b) (path_range l m q)

pub blank_is_blank : is_blank_header blank_header ≡ true
unfolding is_blank_header blank_header header_of path_of pad_to
blank_is_blank = unfold is_blank_call blank_call made joined zeros in blanks 8

pub blank_header_range : header_in_range blank_header ≡ true
unfolding blank_header every
blank_header_range = header_range blank_call blank_call [] blank_range blank_range (omega arith) refl

module _ (ok : ℕ → Type 0) (kept : List Hop → ℕ → Type 0) (s : List ℕ) where
  pub answered_range : {r : HeaderRead} → Answered ok kept s r → header_in_range r.header ≡ true
  unfolding header_refused header_accepted
  answered_range (no n p) = blank_header_range
  answered_range (yes from to l body stars a b m q k t) = header_range from to l a b m q

  pub answered_body : {r : HeaderRead} → Answered ok kept s r → r.body ≤ length s
  unfolding header_refused header_accepted
  answered_body (no n p) = omega arith
  answered_body (yes from to l body stars a b m q k t) = k

  pub answered_number : {r : HeaderRead} → Answered ok kept s r → (r.refusal ≡ 0 → ⊥) → ok r.refusal
  unfolding header_refused header_accepted
  answered_number (no n p) z = p
  answered_number (yes from to l body stars a b m q k t) z = absurd (z refl)

  pub answered_blank : {r : HeaderRead} → Answered ok kept s r → (r.refusal ≡ 0 → ⊥) → r ≡ header_refused r.refusal
  unfolding header_refused header_accepted
  answered_blank (no n p) z = refl
  answered_blank (yes from to l body stars a b m q k t) z = absurd (z refl)

-- ---- stars

-- hop i, a callsign, is heard exactly where a bit j from i on is set
module _ (ok : ℕ → Type 0) (s : List ℕ) (i : ℕ) (d : Hop) where
  pub answered_heard : {r : HeaderRead} → Answered ok Starred s r → i < r.header.path.count → is_heard (get_or r.header.path.hops i d) ≡ true → (j : ℕ) × ((i ≤ j) × (is_set r.stars j ≡ true))
  unfolding header_refused header_accepted header_of blank_header path_of pad_to
  answered_heard (no n p) h e = absurd (omega arith)
  answered_heard (yes from to l body stars a b m q k t) h e =
      let c = length_carried t.typed in
      let z : i < length t.typed = omega (arith, ap length t.back) in
      let f : is_heard (get_or (carried t.typed) i d) ≡ true = rw (← t.back) (rw (get_or-append l (replicate (8 - length l) blank_hop) d i h) at e) in
      rw t.number (heard_then_set t.typed i d z f)

  pub answered_set : {r : HeaderRead} → Answered ok Starred s r → i < r.header.path.count → is_q_element (get_or r.header.path.hops i d) ≡ false → (j : ℕ) → i ≤ j → is_set r.stars j ≡ true
      → is_heard (get_or r.header.path.hops i d) ≡ true
  unfolding header_refused header_accepted header_of blank_header path_of pad_to
  answered_set (no n p) h c j o e = absurd (omega arith)
  answered_set (yes from to l body stars a b m q k t) h c j o e =
      let y = length_carried t.typed in
      let z : i < length t.typed = omega (arith, ap length t.back) in
      let w : is_q_element (get_or (carried t.typed) i d) ≡ false = rw (← t.back) (rw (get_or-append l (replicate (8 - length l) blank_hop) d i h) at c) in
      let f : is_heard (get_or l i d) ≡ true = rw t.back (set_then_heard t.typed i d z w j o (rw t.number at e)) in
      rw (get_or-append l (replicate (8 - length l) blank_hop) d i h) f

pub answered_starless : (ok : ℕ → Type 0) (s : List ℕ) {r : HeaderRead} → Answered ok Starless s r → r.stars ≡ 0
unfolding header_refused header_accepted
answered_starless ok s (no n p) = refl
answered_starless ok s (yes from to l body stars a b m q k t) = t.number
