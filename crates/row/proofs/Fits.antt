-- A row has at most 142 bytes.
-- Assumes nothing.
use mathlib.Core.Path.{◌≡◌, refl, ap, ◌∙◌}
use mathlib.Core.Bool.{cond}
use mathlib.Core.List.{List, [], ◌∷◌}
use Prim.Native.Nat.{ℕ, ◌≤◌}
use native.Mathlib.Omega.{arith}
use lib.Dec.{eqb}
use borrow.Author.Tests.{eq-eqb, ne_eqb}
use lib.IntN.{ℤ}
use lib.ListN.{length, take, length-append, length-take}
use mir.Syntax.{w64}
use mir.Val.{Fits}
use Rattle.laws.specs.Bytes.{line_feed}
use Rattle.laws.specs.Lists.{together}
use Rattle.buffer.specs.Filled.{filled, front_of, added_all}
use Rattle.buffer.proofs.Filled.{all_front}
use Rattle.numbers.specs.Numbers.{digits, decimal}
use Rattle.numbers.proofs.Digits.{count_width}
use Rattle.callsign.specs.declared.Callsign.{Callsign}
use Rattle.callsign.specs.Range.{text_len}
use Rattle.position.specs.declared.Place.{Place}
use Rattle.header.specs.declared.Path.{Path}
use Rattle.body.specs.declared.Kind.{Kind}
use Rattle.packet.specs.declared.Record.{Record}
use Rattle.packet.specs.declared.PacketRead.{PacketRead}
use Rattle.row.proofs.Theorems.{outermost_to, own_to}
use Rattle.row.specs.Row.{absent, or_point, call_field, own_to_field, to_field, heard_among, heard_hops, angle_fields, absent_angles, place_fields, record_fields, refused_fields, row_fields, spaced, row_of, width_of}

-- ---- fields with a byte behind each

spaced_width : (fs : List (List ℕ)) → length (together (spaced fs)) ≡ width_of fs
unfolding together spaced width_of
spaced_width [] = refl
spaced_width (f ∷ []) = let e = length-append f (line_feed ∷ []) in omega arith
spaced_width (f ∷ g ∷ fs) = let e = spaced_width (g ∷ fs) in length-append f _ ∙ omega arith

-- ---- the width of a field

pub count_short : (n : ℕ) → Fits w64 n → length (digits n) ≤ 20
count_short n f = count_width n f.fits

some_width : (l : List ℕ) → length l ≤ 16 → length (or_point l) ≤ 16
unfolding or_point
some_width [] h = omega arith
some_width (b ∷ l) h = h

pub call_width : (c : Callsign) → length c.text ≡ 16 → length (call_field c) ≤ 16
unfolding call_field
call_width c h = some_width (take (text_len c) c.text) (omega (arith, length-take (text_len c) c.text))

-- n is the number of heard hops
pub hops_width : (p : Path) (n : ℕ) → n ≡ heard_among (take p.count p.hops) → length (digits p.count) ≤ 20 → length (digits n) ≤ 20
    → width_of (digits p.count ∷ digits (heard_hops p) ∷ []) ≤ 42
unfolding width_of heard_hops
hops_width p n e h k = let w : length (digits (heard_among (take p.count p.hops))) ≤ 20 = rw (← e) k in omega arith

-- y and z are the angles as the machine hands them on
pub angles_width : (p : Place) (y z : ℤ) → y ≡ p.latitude.0 → z ≡ p.longitude.0 → length (decimal y) ≤ 11 → length (decimal z) ≤ 11 → width_of (angle_fields p) ≤ 24
unfolding angle_fields width_of
angles_width p y z d e h k =
    let v : length (decimal p.latitude.0) ≤ 11 = rw (← d) h in
    let w : length (decimal p.longitude.0) ≤ 11 = rw (← e) k in
    omega arith

pub absent_width : width_of absent_angles ≤ 24
unfolding absent_angles width_of
absent_width = omega arith

pub no_to_width : length absent ≤ 16
no_to_width = omega arith

-- by the kind; k is what it is
module _ (kind k : Kind) (is : kind ≡ k) where
  pub own_to_width : (to : Callsign) → length (own_to_field k to) ≤ 16 → length (own_to_field kind to) ≤ 16
  own_to_width to h = rw is h

-- by the number of packets inside
module _ (inner : ℕ) (kind : Kind) (to : Callsign) where
  pub to_width : inner ≡ 0 → length (own_to_field kind to) ≤ 16 → length (to_field inner kind to) ≤ 16
  to_width z h = rw (own_to inner kind to z) h

  pub outer_to_width : (inner ≡ 0 → ⊥) → length (call_field to) ≤ 16 → length (to_field inner kind to) ≤ 16
  outer_to_width z h = rw (outermost_to inner kind to z) h

-- ---- the row

module _ (r : Record) (from : length (call_field r.header.from) ≤ 16) (to : length (to_field r.inner r.body.kind r.header.to) ≤ 16)
    (hops : width_of (digits r.header.path.count ∷ digits (heard_hops r.header.path) ∷ []) ≤ 42) (place : width_of (place_fields r.body.kind r.body.place) ≤ 24) where
  pub record_width : width_of (record_fields r) ≤ 100
  unfolding record_fields width_of
  record_width = omega arith

module _ (number : ℕ) (read : PacketRead) (n : length (digits number) ≤ 20) (k : length (digits read.refusal) ≤ 20) where
  row_width : width_of (cond (eqb read.refusal 0) (record_fields read.«record») refused_fields) ≤ 100 → length (row_of number read) ≤ 142
  unfolding row_of row_fields width_of
  row_width h =
      omega (
        arith,
        spaced_width (digits number ∷ digits read.refusal ∷ cond (eqb read.refusal 0) (record_fields read.«record») refused_fields),
      )

  pub refused_width : (read.refusal ≡ 0 → ⊥) → length (row_of number read) ≤ 142
  unfolding refused_fields width_of
  refused_width z = row_width (rw (ne_eqb read.refusal 0 z) (omega arith))

  pub accepted_width : read.refusal ≡ 0 → width_of (record_fields read.«record») ≤ 100 → length (row_of number read) ≤ 142
  accepted_width z h = row_width (rw (eq-eqb read.refusal 0 z) h)

-- what stands at the front of a buffer of 142 bytes
pub row_fits : (number : ℕ) (read : PacketRead) (text text' : List ℕ) (r : ℕ) → length (row_of number read) ≤ 142 → length text ≡ 142
    → filled text' r ≡ added_all (filled text 0) (spaced (row_fields number read)) → take r text' ≡ row_of number read
unfolding front_of row_of
row_fits number read text text' r w h e = ap front_of e ∙ all_front text (spaced (row_fields number read)) (omega arith)
