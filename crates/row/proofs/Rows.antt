-- Laws of a row: its fields put one behind the other, by their kind, and that a row of 142 bytes holds them all.
-- Assumes nothing.
use mathlib.Core.Path.{◌≡◌, refl, sym, ap, ◌∙◌}
use mathlib.Core.Bool.{Bool}
use mathlib.Core.List.{List, [], ◌∷◌}
use Prim.Native.Nat.{ℕ, ◌≤◌}
use borrow.Author.Tests.{eq-eqb, ne_eqb}
use lib.IntN.{ℤ}
use lib.ListN.{length, take}
use mir.Syntax.{w32}
use mir.Val.{SFits, to_z, of_z}
use Rattle.laws.specs.Bytes.{space, dash, line_feed, digit0}
use Rattle.buffer.specs.declared.Answer.{Answer}
use Rattle.buffer.specs.Wrote.{ends, wrote}
use Rattle.buffer.specs.Filled.{Filled, filled, added, added_all}
use Rattle.buffer.proofs.Filled.{two_added, all_then}
use Rattle.numbers.specs.Numbers.{digits, decimal}
use Rattle.numbers.proofs.Sign.{back}
use Rattle.callsign.specs.declared.Callsign.{Callsign}
use Rattle.position.specs.declared.Place.{Place}
use Rattle.header.specs.declared.Path.{Path}
use Rattle.body.specs.declared.Kind.{Kind}
use Rattle.body.specs.declared.Kind.TheVariants.{Unknown, Position, MicE, Message, Status}
use Rattle.packet.specs.declared.Record.{Record}
use Rattle.packet.specs.declared.PacketRead.{PacketRead}
use Rattle.packet.specs.Packet.{read_text_by}
use Rattle.row.proofs.Fits.{row_fits}
use Rattle.row.proofs.Theorems.{outermost_to, own_to}
use Rattle.row.specs.Row.{call_field, own_to_field, to_field, heard_among, heard_hops, angle_fields, absent_angles, place_fields, record_fields, refused_fields, row_fields, spaced, row_of, row_by}

-- ---- one field

-- a field by another name
pub same_field : (f g : Filled) (field other : List ℕ) (after : ℕ) → field ≡ other → g ≡ added_all f (field ∷ (after ∷ []) ∷ []) → g ≡ added_all f (other ∷ (after ∷ []) ∷ [])
same_field f g field other after e p = p ∙ ap (λ (l : List ℕ). added_all f (l ∷ (after ∷ []) ∷ [])) e

-- a signed number is put as the machine hands it on
pub number_put : (f g h : Filled) (z : ℤ) (after : ℕ) → SFits w32 z → g ≡ added f (decimal (to_z w32 (of_z w32 z))) → h ≡ added g (after ∷ []) → h ≡ added_all f (decimal z ∷ (after ∷ []) ∷ [])
number_put f g h z after s e k = two_added f g h (decimal z) (after ∷ []) (e ∙ ap (λ (y : ℤ). added f (decimal y)) (back z s)) k

-- the destination by the kind; k is what it is
pub own_to_put : (kind k : Kind) (to : Callsign) (f g : Filled) (after : ℕ) → kind ≡ k → g ≡ added_all f (own_to_field k to ∷ (after ∷ []) ∷ []) → g ≡ added_all f (own_to_field kind to ∷ (after ∷ []) ∷ [])
own_to_put kind k to f g after is p = rw is p

-- and by the number of packets inside
module _ (inner : ℕ) (kind : Kind) (to : Callsign) (f g : Filled) (after : ℕ) where
  pub to_put : inner ≡ 0 → g ≡ added_all f (own_to_field kind to ∷ (after ∷ []) ∷ []) → g ≡ added_all f (to_field inner kind to ∷ (after ∷ []) ∷ [])
  to_put z p = rw (own_to inner kind to z) p

  pub outer_to_put : (inner ≡ 0 → ⊥) → g ≡ added_all f (call_field to ∷ (after ∷ []) ∷ []) → g ≡ added_all f (to_field inner kind to ∷ (after ∷ []) ∷ [])
  outer_to_put z p = rw (outermost_to inner kind to z) p

-- ---- several

-- n is the number of heard hops
pub hops_put : (f g h : Filled) (path : Path) (n : ℕ) → n ≡ heard_among (take path.count path.hops)
    → g ≡ added_all f (digits path.count ∷ (space ∷ []) ∷ [])
    → h ≡ added_all g (digits n ∷ (space ∷ []) ∷ [])
    → h ≡ added_all f (digits path.count ∷ (space ∷ []) ∷ digits (heard_hops path) ∷ (space ∷ []) ∷ [])
unfolding heard_hops
hops_put f g h path n e p q =
    all_then f g h (digits path.count ∷ (space ∷ []) ∷ []) (digits n ∷ (space ∷ []) ∷ []) _
    (ap (λ (k : ℕ). digits path.count ∷ (space ∷ []) ∷ digits k ∷ (space ∷ []) ∷ []) e) p q

pub angles_put : (f g h : Filled) (place : Place) (y z : ℤ) → y ≡ place.latitude.0 → z ≡ place.longitude.0
    → g ≡ added_all f (decimal y ∷ (space ∷ []) ∷ [])
    → h ≡ added_all g (decimal z ∷ (line_feed ∷ []) ∷ [])
    → h ≡ added_all f (spaced (angle_fields place))
unfolding spaced angle_fields
angles_put f g h place y z d e p q =
    all_then f g h (decimal y ∷ (space ∷ []) ∷ []) (decimal z ∷ (line_feed ∷ []) ∷ []) _
    (ap (λ (u : ℤ). decimal u ∷ (space ∷ []) ∷ decimal z ∷ (line_feed ∷ []) ∷ []) d
    ∙ ap (λ (u : ℤ). decimal place.latitude.0 ∷ (space ∷ []) ∷ decimal u ∷ (line_feed ∷ []) ∷ []) e) p q

-- fields by another name
pub same_fields : (f g : Filled) (fields other : List (List ℕ)) → fields ≡ other → g ≡ added_all f (spaced fields) → g ≡ added_all f (spaced other)
same_fields f g fields other e p = p ∙ ap (λ (l : List (List ℕ)). added_all f (spaced l)) e

-- a field and a space in front of others
before_place : (kind : Kind) (place : Place) (field : List ℕ) → field ∷ (space ∷ []) ∷ spaced (place_fields kind place) ≡ spaced (field ∷ place_fields kind place)
unfolding spaced place_fields angle_fields absent_angles
before_place Unknown place field = refl
before_place Position place field = refl
before_place MicE place field = refl
before_place Message place field = refl
before_place Status place field = refl

pub record_put : (r : Record) (f g h k l : Filled)
    → g ≡ added_all f (call_field r.header.from ∷ (space ∷ []) ∷ [])
    → h ≡ added_all g (to_field r.inner r.body.kind r.header.to ∷ (space ∷ []) ∷ [])
    → k ≡ added_all h (digits r.header.path.count ∷ (space ∷ []) ∷ digits (heard_hops r.header.path) ∷ (space ∷ []) ∷ [])
    → l ≡ added_all k (spaced (place_fields r.body.kind r.body.place))
    → l ≡ added_all f (spaced (record_fields r))
unfolding spaced record_fields
record_put r f g h k l p q s t =
    let from = call_field r.header.from in
    let to = to_field r.inner r.body.kind r.header.to in
    let count = digits r.header.path.count in
    let heard = digits (heard_hops r.header.path) in
    let place = spaced (place_fields r.body.kind r.body.place) in
    let e : count ∷ (space ∷ []) ∷ heard ∷ (space ∷ []) ∷ place ≡ count ∷ (space ∷ []) ∷ spaced (heard ∷ place_fields r.body.kind r.body.place) =
    ap (λ (x : List (List ℕ)). count ∷ (space ∷ []) ∷ x) (before_place r.body.kind r.body.place heard) in
    let behind = all_then h k l (count ∷ (space ∷ []) ∷ heard ∷ (space ∷ []) ∷ []) place _ e s t in
    let second = all_then g h l (to ∷ (space ∷ []) ∷ []) (count ∷ (space ∷ []) ∷ spaced (heard ∷ place_fields r.body.kind r.body.place)) _ refl q behind in
    all_then f g l (from ∷ (space ∷ []) ∷ []) _ _ refl p second

-- ---- the row

module _ (number : ℕ) (read : PacketRead) (f g h k : Filled) (p : g ≡ added_all f (digits number ∷ (space ∷ []) ∷ [])) (q : h ≡ added_all g (digits read.refusal ∷ (space ∷ []) ∷ [])) where
  front : h ≡ added_all f (digits number ∷ (space ∷ []) ∷ digits read.refusal ∷ (space ∷ []) ∷ [])
  front = all_then f g h (digits number ∷ (space ∷ []) ∷ []) (digits read.refusal ∷ (space ∷ []) ∷ []) _ refl p q

  pub row_refused : (read.refusal ≡ 0 → ⊥) → k ≡ added_all h ((dash ∷ space ∷ dash ∷ space ∷ digit0 ∷ space ∷ digit0 ∷ space ∷ dash ∷ space ∷ dash ∷ []) ∷ (line_feed ∷ []) ∷ [])
      → k ≡ added_all f (spaced (row_fields number read))
  unfolding row_fields spaced refused_fields
  row_refused z e = all_then f h k _ _ _ (sym (rw (ne_eqb read.refusal 0 z))) front e

  pub row_accepted : read.refusal ≡ 0 → k ≡ added_all h (spaced (record_fields read.«record»)) → k ≡ added_all f (spaced (row_fields number read))
  unfolding row_fields spaced record_fields
  row_accepted z e = all_then f h k _ _ _ (sym (rw (eq-eqb read.refusal 0 z))) front e

-- a text of 142 bytes holds the fields, and the row is written from its front
pub row_written : (strict : Bool) (number n : ℕ) (line text text' front out out' : List ℕ) (read : PacketRead) (w : Answer)
    → read ≡ read_text_by strict line → length (row_of number read) ≤ 142 → length text ≡ 142
    → filled text' n ≡ added_all (filled text 0) (spaced (row_fields number read)) → front ≡ take n text'
    → ends w out' ≡ wrote 0 front out → ends w out' ≡ wrote 0 (row_by strict number line) out
unfolding row_by
row_written strict number n line text text' front out out' read w e h k p q s =
    s ∙ ap (λ (l : List ℕ). wrote 0 l out) (q ∙ row_fits number read text text' n h k p ∙ ap (row_of number) e)
