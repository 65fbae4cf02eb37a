-- The loop over the addresses of a frame's hops, and the loop over the six characters of each.
-- Assumes nothing.
use mathlib.Core.Path.{◌≡◌, refl, sym, ap, ◌∙◌}
use mathlib.Core.Bool.{Bool, true, false, not, cond}
use mathlib.Core.List.{List, []}
use Prim.Native.Nat.{ℕ, suc, ◌+◌, ◌-◌, ◌/◌, ◌<◌, ◌≤◌}
use native.Mathlib.Omega.{arith}
use borrow.Author.Tests.{lt-ltb, le-ltb, not-true, not-false}
use mir.Val.{bool_byte}
use lib.ListN.{length, get_or, take, drop, set, replicate}
use lib.Seq.{get_or-take, length-take-le}
use Rattle.std.specs.Prelude.{Result, Ok, Err}
use Rattle.laws.specs.Bytes.{space, is_letter_or_digit, raised}
use Rattle.callsign.specs.declared.Callsign.{Callsign}
use Rattle.callsign.specs.declared.AddressRead.{AddressRead}
use Rattle.callsign.specs.Text.{made}
use Rattle.callsign.specs.Address.{ssid_of, heard_of, last_of, ssid_text, address_refused, read_address}
use Rattle.callsign.proofs.Characters.{Sofar, start, stops_odd, goes_space, stops_late, stops_other, goes_character, reads, address_as}
use Rattle.header.specs.declared.Hop.{Hop}
use Rattle.header.specs.declared.Path.{Path}
use Rattle.header.specs.declared.Fault.{Fault}
use Rattle.header.specs.declared.Fault.TheVariants.{Incomplete, Call, NinthHop}
use Rattle.header.specs.Hop.{call_hop}
use Rattle.header.specs.Header.{Hops, before, blank_hop}
use Rattle.header.specs.Frame.{address_hop, address_then, frame_hops}
use Rattle.header.specs.Private.{frame_read}
use Rattle.header.proofs.Hops.{flag_as}
use Rattle.header.proofs.Going.{Going, going_start, going_more, going_refused, going_done}

-- ---- one character of an address

-- i characters of the address are read, n of them stand in call, a space was met or not
pub record Spelling (a call : List ℕ) (n : ℕ) (sp : Bool) (i : ℕ) : Type 0 where
  pub seven : length a ≡ 7
  pub within : i ≤ 6
  pub few : n ≤ i
  pub sofar : Sofar a call n sp i

pub spelling_start : (a later rest : List ℕ) → a ≡ take 7 rest → length later + 7 ≡ length rest → Spelling a (replicate 6 0) 0 false 0
spelling_start a later rest e m =
    let f : length a ≡ 7 = rw e (length-take-le 7 rest (omega arith)) in
    record { seven = f; within = omega arith; few = omega arith; sofar = start a (replicate 6 0) f refl }

module _ (a call : List ℕ) (n : ℕ) (sp : Bool) (i : ℕ) (g : Spelling a call n sp i) where
  length_six : length (take 6 a) ≡ 6
  length_six = let f = g.seven in length-take-le 6 a (omega arith)

  module _ (more : i < length (take 6 a)) (l : Bool) (el : l ≡ last_of (get_or (take 6 a) i 0)) where
    below : i < 6
    below = omega (arith, length_six)

    there : get_or a i 0 ≡ get_or (take 6 a) i 0
    there = sym (get_or-take 6 a i 0 below)

    pub char_odd : l ≡ true → read_address a ≡ address_refused 3
    char_odd t = stops_odd a call n sp i g.sofar below _ there (sym el ∙ t)

    module _ (t : l ≡ false) where
      pub char_space : get_or (take 6 a) i 0 / 2 ≡ space → Spelling a call n true (i + 1)
      char_space e =
          let m = below in
          record {
            seven = g.seven;
            within = omega arith;
            few = let x = g.few in omega arith;
            sofar = goes_space a call n sp i g.sofar below _ there (sym el ∙ t) e;
          }

      module _ (e : get_or (take 6 a) i 0 / 2 ≡ space → ⊥) where
        pub char_late : sp ≡ true → read_address a ≡ address_refused 3
        char_late b = stops_late a call n sp i g.sofar below _ there b e

        module _ (b : sp ≡ false) (k : Bool) (ek : k ≡ is_letter_or_digit (get_or (take 6 a) i 0 / 2)) where
          pub char_other : not k ≡ true → read_address a ≡ address_refused 3
          char_other w = stops_other a call n sp i g.sofar below _ there b (sym el ∙ t) e (sym ek ∙ not-true k w)

          pub char_taken : not k ≡ false → (u : ℕ) → u ≡ raised (get_or (take 6 a) i 0 / 2) → Spelling a (set call n u) (n + 1) sp (i + 1)
          char_taken w u eu =
              let m = below in
              record {
                seven = g.seven;
                within = omega arith;
                few = let x = g.few in omega arith;
                sofar = goes_character a call n sp i g.sofar below _ there b (sym el ∙ t) e (sym ek ∙ not-false k w) u eu;
              }

  pub spelt : length (take 6 a) ≤ i → (c : Callsign) (h l : Bool) → c ≡ made (take n call) (ssid_text (ssid_of (get_or a 6 0))) → h ≡ heard_of (get_or a 6 0) → l ≡ last_of (get_or a 6 0)
      → address_as c h l ≡ read_address a
  spelt over c h l ec eh el = reads a call n sp i g.sofar (omega (arith, length_six)) _ refl c h l ec eh el

-- ---- one address after the other

-- count hops are read, and the next stands in front of the rest
pub record Walking (s : List ℕ) (hops : List Hop) (count : ℕ) (rest : List ℕ) : Type 0 where
  pub few : count ≤ 8
  pub going : Going (frame_hops 8 s) (frame_hops (8 - count) rest) hops count

pub walking_start : (s : List ℕ) (b : Hop) → b ≡ blank_hop → Walking s (replicate 8 b) 0 s
walking_start s b e = record { few = omega arith; going = going_start (frame_hops 8 s) b e }

module _ (s : List ℕ) (hops : List Hop) (count : ℕ) (rest : List ℕ) (g : Walking s hops count rest) where
  pub out_ninth : count ≡ 8 → ◌≡◌ {A = Result Path Fault} (Err NinthHop) (frame_read (frame_hops 8 s))
  unfolding frame_hops frame_read
  out_ninth e =
      let z : 8 - count ≡ 0 = omega arith in
      sym (rw (going_refused _ _ hops count g.going NinthHop (rw z)))

  module _ (more : count ≡ 8 → ⊥) where
    one : 8 - count ≡ suc (8 - (count + 1))
    one = let w = g.few in omega arith

    pub out_short : length rest < 7 → ◌≡◌ {A = Result Path Fault} (Err Incomplete) (frame_read (frame_hops 8 s))
    unfolding frame_hops frame_read
    out_short h = sym (rw (going_refused _ _ hops count g.going Incomplete (rw (one, lt-ltb (length rest) 7 h))))

    module _ (a later : List ℕ) (ea : a ≡ take 7 rest) (el : later ≡ drop 7 rest) (m : length later + 7 ≡ length rest) where
      next : (r : AddressRead) → r ≡ read_address a → frame_hops (8 - count) rest ≡ address_then r (frame_hops (8 - (count + 1)) later)
      unfolding frame_hops
      next r q =
          let k : 7 ≤ length rest = omega arith in
          rw (one, le-ltb (length rest) 7 k, ← ea, ← el, q)

      pub out_unread : read_address a ≡ address_refused 3 → ◌≡◌ {A = Result Path Fault} (Err (Call 3)) (frame_read (frame_hops 8 s))
      unfolding address_then address_refused frame_read
      out_unread e = sym (rw (going_refused _ _ hops count g.going (Call 3) (next (address_refused 3) (sym e))))

      module _ (c : Callsign) (h l : Bool) (q : address_as c h l ≡ read_address a) where
        goes : (w : Hops) → cond l (Ok []) (frame_hops (8 - (count + 1)) later) ≡ w → Going (frame_hops 8 s) w (set hops count (record { call = c; kind = bool_byte h })) (count + 1)
        unfolding address_then address_hop call_hop
        goes w e =
            let f = g.few in
            let b : record { call = c; kind = bool_byte h } ≡ call_hop c h = rw (flag_as h) in
            going_more _ _ hops count g.going (omega arith) (record { call = c; kind = bool_byte h }) w (next (address_as c h l) q ∙ ap (before (call_hop c h)) e ∙ ap (λ (x : Hop). before x w) (sym b))

        pub walk_on : l ≡ false → Walking s (set hops count (record { call = c; kind = bool_byte h })) (count + 1) later
        walk_on e = record { few = let w = g.few in omega arith; going = goes _ (rw e) }

        pub out_last : l ≡ true → ◌≡◌ {A = Result Path Fault} (Ok (record { count = count + 1; hops = set hops count (record { call = c; kind = bool_byte h }) })) (frame_read (frame_hops 8 s))
        out_last e = going_done _ _ _ (count + 1) (goes (Ok []) (rw e)) refl
