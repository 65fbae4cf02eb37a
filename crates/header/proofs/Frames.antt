-- The header of a frame, place by place: destination, source, hops, and the control pair behind the addresses.
-- Assumes nothing.
use mathlib.Core.Path.{◌≡◌, refl, sym, ap, ◌∙◌}
use mathlib.Core.Bool.{Bool, true, false, cond}
use mathlib.Core.List.{List, [], ◌∷◌}
use Prim.Native.Nat.{ℕ, ◌+◌, ◌-◌, ◌*◌, ◌<◌, ◌≤◌}
use native.Mathlib.Omega.{arith}
use borrow.Author.Tests.{eq-eqb, ne_eqb, lt-ltb, le-ltb}
use borrow.Author.Rules.{part_to_end}
use lib.Dec.{eqb}
use lib.ListN.{length, get_or, take, drop, length-drop}
use Rattle.std.specs.Prelude.{Result, Ok, Err}
use Rattle.laws.specs.Lists.{every}
use Rattle.laws.proofs.Lists.{next}
use Rattle.callsign.specs.declared.Callsign.{Callsign}
use Rattle.callsign.specs.declared.AddressRead.{AddressRead}
use Rattle.callsign.specs.Address.{read_address}
use Rattle.header.specs.declared.Hop.{Hop}
use Rattle.header.specs.declared.Path.{Path}
use Rattle.header.specs.declared.Fault.{Fault}
use Rattle.header.specs.declared.HeaderRead.{HeaderRead}
use Rattle.header.specs.Header.{most_bytes, Hops, number_of, path_of, header_refused, header_accepted, unless_refused, with_hops}
use Rattle.header.specs.Frame.{control, protocol, starts_with_pair, frame_hops, with_pair, read_source, read_frame_header}
use Rattle.header.specs.Private.{frame_read}
use Rattle.header.proofs.Walks.{InFrame, Sound, some, frame_sound}

-- ---- the two bytes behind the addresses

starts_short : (l : List ℕ) → length l < 2 → starts_with_pair l ≡ false
unfolding starts_with_pair
starts_short [] h = refl
starts_short (a ∷ []) h = refl
starts_short (a ∷ b ∷ l) h = absurd (omega arith)

module _ (s : List ℕ) (at : ℕ) where
  pub pair_short : length s < at + 2 → false ≡ starts_with_pair (drop at s)
  pair_short h = sym (starts_short (drop at s) (simp length-drop (omega arith)))

  module _ (long : at + 2 ≤ length s) where
    two : drop at s ≡ get_or s at 0 ∷ get_or s (at + 1) 0 ∷ drop (at + 1 + 1) s
    two = next 0 s at (omega arith) ∙ ap {B = List ℕ} (λ l. get_or s at 0 ∷ l) (next 0 s (at + 1) (omega arith))

    pub pair_first : (get_or s at 0 ≡ control → ⊥) → false ≡ starts_with_pair (drop at s)
    unfolding starts_with_pair
    pair_first e = rw (two, ne_eqb (get_or s at 0) control e)

    pub pair_second : get_or s at 0 ≡ control → eqb (get_or s (at + 1) 0) protocol ≡ starts_with_pair (drop at s)
    unfolding starts_with_pair
    pair_second p = rw (two, eq-eqb (get_or s at 0) control p)

module _ (from to : Callsign) (p : Path) (s : List ℕ) (r : HeaderRead) (u : Bool) (e : u ≡ starts_with_pair (drop (14 + 7 * p.count) s)) where
  pub no_pair : u ≡ false → r ≡ header_refused 2 → r ≡ with_pair from to p s
  unfolding with_pair
  no_pair h w = rw (← e, h) w

  pub pair_there : u ≡ true → r ≡ header_accepted from to p (14 + 7 * p.count + 2) 0 → r ≡ with_pair from to p s
  unfolding with_pair
  pair_there h w = rw (← e, h) w

-- ---- the hops, of a source that is the last address or not

module _ (last : Bool) (s : List ℕ) where
  pub none_behind : (q : Path) → last ≡ true → q ≡ path_of [] → Ok q ≡ frame_read (cond last (Ok []) (frame_hops 8 (drop 14 s)))
  unfolding frame_read
  none_behind q l e = rw (l, e)

  pub some_behind : (p : Result Path Fault) → last ≡ false → p ≡ frame_read (frame_hops 8 (take (length s - 14) (drop 14 s))) → p ≡ frame_read (cond last (Ok []) (frame_hops 8 (drop 14 s)))
  some_behind p l e = rw l (e ∙ rw (part_to_end s 14))

hops_sound : (last : Bool) (s : List ℕ) → Sound InFrame 8 (cond last (Ok []) (frame_hops 8 s))
unfolding every
hops_sound true s = some [] (omega arith) refl
hops_sound false s = frame_sound 8 s

-- what the hops come to, by what the code has of them
by_fault : (w : Hops) (why : Fault) → Err why ≡ frame_read w → w ≡ Err why
unfolding frame_read
by_fault (Err f) why e = cc
by_fault (Ok l) why e = absurd cc

by_hops : (w : Hops) (p : Path) → Ok p ≡ frame_read w → (l : List Hop) × ((w ≡ Ok l) × (p ≡ path_of l))
unfolding frame_read
by_hops (Err f) p e = absurd cc
by_hops (Ok l) p e = (l, (refl, cc))

sound_count : {l : List Hop} → Sound InFrame 8 (Ok l) → length l ≤ 8
sound_count (some l m q) = m

pub hops_count : (r : Result Path Fault) (p : Path) (last : Bool) (s : List ℕ) → r ≡ frame_read (cond last (Ok []) (frame_hops 8 s)) → r ≡ Ok p → p.count ≤ 8
unfolding path_of
hops_count r p last s e z =
    let b = by_hops (cond last (Ok []) (frame_hops 8 s)) p (sym z ∙ e) in
    let m : length b.0 ≤ 8 = sound_count (rw b.1.0 at (hops_sound last s)) in
    let k : p.count ≡ length b.0 = ap (λ (x : Path). x.count) b.1.1 in
    omega arith

-- ---- source and hops

module _ (to : Callsign) (s : List ℕ) (r : HeaderRead) where
  pub no_source : length s < 14 → r ≡ header_refused 2 → r ≡ read_source to s
  unfolding read_source
  no_source h w = rw (lt-ltb (length s) 14 h) w

  module _ (h : 14 ≤ length s) (from : AddressRead) (q : from ≡ read_address (take 7 (drop 7 s))) where
    pub source_refused : (from.refusal ≡ 0 → ⊥) → r ≡ header_refused from.refusal → r ≡ read_source to s
    unfolding read_source unless_refused
    source_refused z w = rw (le-ltb (length s) 14 h, ← q, ne_eqb from.refusal 0 z) w

    module _ (z : from.refusal ≡ 0) (p : Result Path Fault) (e : p ≡ frame_read (cond from.last (Ok []) (frame_hops 8 (drop 14 s)))) where
      pub source_hops_refused : (why : Fault) → p ≡ Err why → r ≡ header_refused (number_of why) → r ≡ read_source to s
      unfolding read_source unless_refused with_hops
      source_hops_refused why y w =
          rw (le-ltb (length s) 14 h, ← q, eq-eqb from.refusal 0 z, by_fault (cond from.last (Ok []) (frame_hops 8 (drop 14 s))) why (sym y ∙ e)) w

      pub source_hops : (path : Path) → p ≡ Ok path → r ≡ with_pair from.call to path s → r ≡ read_source to s
      unfolding read_source unless_refused with_hops
      source_hops path y w =
          let b = by_hops (cond from.last (Ok []) (frame_hops 8 (drop 14 s))) path (sym y ∙ e) in
          rw (le-ltb (length s) 14 h, ← q, eq-eqb from.refusal 0 z, b.1.0) (w ∙ ap (λ (x : Path). with_pair from.call to x s) b.1.1)

-- ---- the frame

module _ (s : List ℕ) (r : HeaderRead) (m : length s ≤ most_bytes) where
  pub no_destination : length s < 7 → r ≡ header_refused 2 → r ≡ read_frame_header s
  unfolding read_frame_header
  no_destination h w = rw (le-ltb most_bytes (length s) m, lt-ltb (length s) 7 h) w

  module _ (h : 7 ≤ length s) (to : AddressRead) (q : to ≡ read_address (take 7 s)) where
    pub destination_refused : (to.refusal ≡ 0 → ⊥) → r ≡ header_refused to.refusal → r ≡ read_frame_header s
    unfolding read_frame_header unless_refused
    destination_refused z w = rw (le-ltb most_bytes (length s) m, le-ltb (length s) 7 h, ← q, ne_eqb to.refusal 0 z) w

    module _ (z : to.refusal ≡ 0) where
      pub destination_last : to.last ≡ true → r ≡ header_refused 2 → r ≡ read_frame_header s
      unfolding read_frame_header unless_refused
      destination_last l w = rw (le-ltb most_bytes (length s) m, le-ltb (length s) 7 h, ← q, eq-eqb to.refusal 0 z, l) w

      pub destination_read : to.last ≡ false → r ≡ read_source to.call s → r ≡ read_frame_header s
      unfolding read_frame_header unless_refused
      destination_read l w = rw (le-ltb most_bytes (length s) m, le-ltb (length s) 7 h, ← q, eq-eqb to.refusal 0 z, l) w
