-- What reading hops can give, of a text or of a frame: a refusal, or at most so many hops, each in range.
-- Assumes nothing.
use mathlib.Core.Path.{◌≡◌, refl}
use mathlib.Core.Logic.{◌⊎◌, inl, inr}
use mathlib.Core.Bool.{Bool, true, false, cond, ◌&&◌, ◌||◌}
use mathlib.Core.List.{List, [], ◌∷◌}
use Prim.Native.Nat.{ℕ, zero, suc, ◌<◌, ◌≤◌}
use native.Mathlib.Omega.{arith}
use lib.Dec.{eqb, ltb, leb}
use borrow.Author.Tests.{eqb-false}
use lib.ListN.{length, take, drop}
use Rattle.std.specs.Prelude.{Result, Ok, Err}
use Rattle.laws.specs.Lists.{every}
use Rattle.laws.proofs.Tests.{and_second}
use Rattle.laws.proofs.Each.{every_first, every_rest}
use Rattle.callsign.specs.declared.Callsign.{Callsign}
use Rattle.callsign.specs.Text.{read_text}
use Rattle.callsign.specs.Address.{read_address}
use Rattle.callsign.specs.Range.{in_range, text_of}
use Rattle.callsign.proofs.Theorems.{text_is_in_range, address_is_in_range}
use Rattle.callsign.proofs.TextBack.{text_refusal_lem}
use Rattle.callsign.proofs.AddressBack.{address_refusal}
use Rattle.header.specs.declared.Hop.{Hop}
use Rattle.header.specs.declared.Fault.{Fault}
use Rattle.header.specs.declared.Fault.TheVariants.{Incomplete, Call, NinthHop, OddName}
use Rattle.header.specs.Header.{Hops, number_of, before}
use Rattle.header.specs.Hop.{is_q_name, not_heard, was_heard, q_element, heard_as, call_hop, q_hop, is_heard, is_q_element, any_heard, heard_if}
use Rattle.header.specs.Text.{hop_then, text_hops, carried}
use Rattle.header.specs.Frame.{address_hop, address_then, frame_hops}
use Rattle.header.specs.Range.{is_some_hop, hop_in_range}
use Rattle.header.proofs.Hops.{Part, name, odd, call, bad, part_read, if_q, call_is_call, name_range}

-- ---- the numbers

-- the refusals of a text, however long, of a line, and of a frame
pub record InText (n : ℕ) : Type 0 where
  pub low : 2 ≤ n
  pub high : n ≤ 6

pub record InLine (n : ℕ) : Type 0 where
  pub low : 0 < n
  pub high : n ≤ 6

pub record InFrame (n : ℕ) : Type 0 where
  pub low : 0 < n
  pub high : (n ≤ 3) ⊎ (n ≡ 5)

-- ---- hops

pub data Sound (ok : ℕ → Type 0) (k : ℕ) : Hops → Type 0 where
  none : (f : Fault) → ok (number_of f) → Sound ok k (Err f)
  some : (l : List Hop) → length l ≤ k → every hop_in_range l ≡ true → Sound ok k (Ok l)

module _ (ok : ℕ → Type 0) where
  before_sound : (h : Hop) (k : ℕ) {w : Hops} → hop_in_range h ≡ true → Sound ok k w → Sound ok (suc k) (before h w)
  unfolding before every
  before_sound h k e (none f p) = none f p
  before_sound h k e (some l m q) = some (h ∷ l) (omega arith) (rw (e, q))

  pub either_sound : (k : ℕ) (b : Bool) {x y : Hops} → (b ≡ true → Sound ok k x) → (b ≡ false → Sound ok k y) → Sound ok k (cond b x y)
  either_sound k true f g = f refl
  either_sound k false f g = g refl

-- ---- a text's hops

pub call_in_text : (s : List ℕ) → ((read_text s).refusal ≡ 0 → ⊥) → InText (read_text s).refusal
call_in_text s z = let m = text_refusal_lem s z in record { low = omega arith; high = omega arith }

-- a callsign in range is a hop in range
call_range : (c : Callsign) (b : Bool) → in_range c ≡ true → hop_in_range (call_hop c b) ≡ true
unfolding hop_in_range is_some_hop
call_range c b e = rw (call_is_call c b) (unfold call_hop heard_as in go b)
  where
    go : (b : Bool) → (leb (cond b was_heard not_heard) was_heard && in_range c) ≡ true
    go true = e
    go false = e

then_sound : (k : ℕ) (t : List ℕ) {r : Result Hop Fault} {w : Hops} → Part t r → Sound InText k w → Sound InText (suc k) (hop_then r w)
unfolding hop_then
then_sound k t (name n) w = before_sound InText (q_hop t) k (name_range t n) w
then_sound k t odd w = none OddName (record { low = omega arith; high = omega arith })
then_sound k t (call z) w = before_sound InText (call_hop (read_text t).call (read_text t).starred) k (call_range (read_text t).call (read_text t).starred (text_is_in_range t)) w
then_sound k t (bad z) w = none (Call (read_text t).refusal) (call_in_text t z)

pub text_sound : (k : ℕ) (parts : List (List ℕ)) → Sound InText k (text_hops k parts)
unfolding text_hops every
text_sound zero [] = some [] (omega arith) refl
text_sound (suc k) [] = some [] (omega arith) refl
text_sound zero (t ∷ ts) = none NinthHop (record { low = omega arith; high = omega arith })
text_sound (suc k) (t ∷ ts) = then_sound k t (part_read t) (text_sound k ts)

-- whoever is heard, a hop in range stays so
if_range : (b : Bool) (h : Hop) → hop_in_range h ≡ true → hop_in_range (heard_if b h) ≡ true
unfolding hop_in_range is_some_hop
if_range b h e = rw (if_q b h) (unfold heard_if heard_as in go (is_q_element h) b e)
  where
    go : (k b : Bool) → (cond k (is_q_name (text_of h.call)) (leb h.kind was_heard) && in_range h.call) ≡ true
        → (cond k (is_q_name (text_of h.call)) (leb (cond k q_element (cond b was_heard not_heard)) was_heard) && in_range h.call) ≡ true
    go true b e = e
    go false true e = and_second (leb h.kind was_heard) (in_range h.call) e
    go false false e = and_second (leb h.kind was_heard) (in_range h.call) e

pub carried_range : (l : List Hop) → every hop_in_range l ≡ true → every hop_in_range (carried l) ≡ true
unfolding every carried
carried_range [] e = refl
carried_range (h ∷ l) e = rw (if_range (is_heard h || any_heard l) h (every_first hop_in_range h l e), carried_range l (every_rest hop_in_range h l e))

-- ---- a frame's hops

pub address_in_frame : (s : List ℕ) → ((read_address s).refusal ≡ 0 → ⊥) → InFrame (read_address s).refusal
address_in_frame s z = let e = address_refusal s z in record { low = omega arith; high = inl (omega arith) }

pub frame_sound : (k : ℕ) (s : List ℕ) → Sound InFrame k (frame_hops k s)
unfolding frame_hops address_then address_hop every
frame_sound zero s = none NinthHop (record { low = omega arith; high = inr refl })
frame_sound (suc k) s =
    let a = read_address (take 7 s) in
    let r = frame_sound k (drop 7 s) in
    either_sound InFrame (suc k) (ltb (length s) 7)
    (λ e. none Incomplete (record { low = omega arith; high = inl (omega arith) }))
    (λ e.
    either_sound InFrame (suc k) (eqb a.refusal 0)
    (λ f.
    before_sound InFrame (address_hop a) k (call_range a.call a.heard (address_is_in_range (take 7 s)))
    (either_sound InFrame k a.last (λ g. some [] (omega arith) refl) (λ g. r)))
    (λ f. none (Call a.refusal) (address_in_frame (take 7 s) (eqb-false a.refusal 0 f))))
