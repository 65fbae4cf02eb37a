-- How long a position is: read, at least 19 bytes; written, exactly 19.
-- Assumes nothing.
use Rattle.std.proofs.Common.{◌≡◌, ℕ, ◌≤◌, Bool, true, false, cond, ◌&&◌, ltb, List, [], ◌∷◌, length, take, nat_abs, refl, arith, length-append, ltb-false}
use Rattle.lonlat.specs.Angle.{most_latitude}
use Rattle.lonlat.specs.Latitude.{read_latitude, latitude_text}
use Rattle.lonlat.specs.Longitude.{longitude_text}
use Rattle.lonlat.proofs.Texts.{latitude_text_length, longitude_text_length}
use Rattle.position.specs.declared.Place.{Place}
use Rattle.position.specs.Position.{fixed_bytes, is_uncompressed, refused_position, with_latitude, read_position_by, place_in_range, letters_agree, symbols_in_range, position_fits, position_refusal, position_text}
use Rattle.position.proofs.Reach.{latitude_near, reach_few}

pub position_long : (strict : Bool) (s : List ℕ) → (read_position_by strict s).refusal ≡ 0 → fixed_bytes ≤ length s
unfolding read_position_by
position_long strict s e = go (is_uncompressed s) (ltb (length s) fixed_bytes) refl e
  where
    go : (p q : Bool) → ltb (length s) fixed_bytes ≡ q
        → (cond p (cond q (refused_position 10) (with_latitude strict s (read_latitude (take 8 s)))) (refused_position 7)).refusal ≡ 0
        → fixed_bytes ≤ length s
    go true true f z = absurd (omega arith)
    go true false f z = ltb-false (length s) fixed_bytes f
    go false q f z = absurd (omega arith)

in_range_lem : (p : Place) → position_refusal p ≡ 0 → place_in_range p ≡ true
unfolding position_refusal position_fits
in_range_lem p e = go (place_in_range p) (letters_agree p && symbols_in_range p) e
  where
    go : (a b : Bool) → ◌≡◌ {A = ℕ} (cond (a && b) 0 15) 0 → a ≡ true
    go true b z = refl
    go false b z = absurd (omega arith)

pub position_length : (p : Place) → position_refusal p ≡ 0 → length (position_text p) ≡ 19
unfolding position_text
position_length p e =
    let few = reach_few most_latitude (nat_abs p.latitude.0) p.blanks (latitude_near p (in_range_lem p e)) in
    let a = latitude_text_length p.latitude.0 p.blanks (omega arith) in
    let b = longitude_text_length p.longitude.0 in
    let c = length-append (longitude_text p.longitude.0) (p.code ∷ []) in
    rw (length-append (latitude_text p.latitude.0 p.blanks) _) (omega arith)
