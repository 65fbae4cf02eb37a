-- What each answer of the writers must show, and the text that they build.
-- Assumes nothing.
use Rattle.std.proofs.Common.{◌≡◌, ℕ, ◌/◌, ◌%◌, ◌<◌, ◌≤◌, cond, ◌⊎◌, inl, inr, List, [], ◌∷◌, length, get_or, ℤ, nat_abs, refl, ap, ◌∙◌, subst, arith, le-ltb, lt-ltb}
use Rattle.laws.specs.Bytes.{space, point, capital_n, capital_s, capital_e, capital_w}
use Rattle.buffer.specs.Wrote.{ends, refused_by, wrote}
use Rattle.buffer.specs.declared.Answer.{Answer}
use Rattle.laws.proofs.Lists.{elements_all}
use Rattle.buffer.proofs.Wrote.{refuses}
use Rattle.numbers.specs.declared.Sides.{Sides}
use Rattle.lonlat.specs.Angle.{most_latitude, most_longitude}
use Rattle.numbers.specs.Sign.{sides_of}
use Rattle.lonlat.specs.Digits.{last_as, places_of, text_of}
use Rattle.numbers.specs.Numbers.{digit_of, digits_of}
use Rattle.lonlat.specs.Latitude.{north_or_south, blanked_places, latitude_text, latitude_refusal}
use Rattle.lonlat.specs.Longitude.{east_or_west, longitude_text, longitude_refusal}
use Rattle.numbers.proofs.Sign.{parts_size, parts_minus}
use Rattle.lonlat.proofs.Digits.{last_length}

-- ---- texts

six_text : (t : List ℕ) (letter : ℕ) → length t ≡ 6 → get_or t 0 0 ∷ get_or t 1 0 ∷ get_or t 2 0 ∷ get_or t 3 0 ∷ point ∷ get_or t 4 0 ∷ get_or t 5 0 ∷ letter ∷ [] ≡ text_of t letter
unfolding text_of
six_text t letter h =
    subst (λ (u : List ℕ). get_or t 0 0 ∷ get_or t 1 0 ∷ get_or t 2 0 ∷ get_or t 3 0 ∷ point ∷ get_or t 4 0 ∷ get_or t 5 0 ∷ letter ∷ [] ≡ text_of u letter) (elements_all 0 t 6 h) refl

-- the six places of a latitude: a to f are the digits as computed
module _ (size blanks letter a b c d e f : ℕ) (few : blanks ≤ 6)
    (pa : a ≡ digit_of (size / 6000 / 10)) (pb : b ≡ digit_of (size / 6000))
    (pc : c ≡ digit_of (size / 100 % 60 / 10)) (pd : d ≡ digit_of (size / 100 % 60))
    (pe : e ≡ digit_of (size % 100 / 10)) (pf : f ≡ digit_of (size % 100))
    (t : List ℕ) (last : t ≡ last_as space blanks (a ∷ b ∷ c ∷ d ∷ e ∷ f ∷ [])) where
  six_places : t ≡ blanked_places blanks size
  unfolding blanked_places places_of digits_of
  six_places = last ∙ rw (pa, pb, pc, pd, pe, pf)

  pub latitude_made : get_or t 0 0 ∷ get_or t 1 0 ∷ get_or t 2 0 ∷ get_or t 3 0 ∷ point ∷ get_or t 4 0 ∷ get_or t 5 0 ∷ letter ∷ [] ≡ text_of (blanked_places blanks size) letter
  latitude_made =
      six_text t letter (ap length last ∙ last_length space blanks (a ∷ b ∷ c ∷ d ∷ e ∷ f ∷ []) few)
      ∙ ap (λ (u : List ℕ). text_of u letter) six_places

hundreds : (v : ℕ) → v / 10 / 10 ≡ v / 100
hundreds v = omega arith

module _ (size letter a b c d e f g : ℕ)
    (pa : a ≡ digit_of (size / 6000 / 100)) (pb : b ≡ digit_of (size / 6000 / 10)) (pc : c ≡ digit_of (size / 6000))
    (pd : d ≡ digit_of (size / 100 % 60 / 10)) (pe : e ≡ digit_of (size / 100 % 60))
    (pf : f ≡ digit_of (size % 100 / 10)) (pg : g ≡ digit_of (size % 100)) where
  pub longitude_made : a ∷ b ∷ c ∷ d ∷ e ∷ point ∷ f ∷ g ∷ letter ∷ [] ≡ text_of (places_of 3 size) letter
  unfolding text_of places_of digits_of
  longitude_made = rw (pa, pb, pc, pd, pe, pf, pg, hundreds (size / 6000))

-- ---- answers: p is the angle taken apart, as the code has it

module _ (angle z : ℤ) (back : z ≡ angle) (p : Sides) (e : p ≡ sides_of z) where
  sized : p.size ≡ nat_abs angle
  sized = parts_size angle z back p e

  module _ (blanks : ℕ) (r : Answer) (out : List ℕ) where
    latitude_far : most_latitude < p.size → r ≡ refused_by 15 → ends r out ≡ wrote (latitude_refusal angle blanks) (latitude_text angle blanks) out
    unfolding latitude_refusal
    latitude_far h f =
        let k : most_latitude < nat_abs angle = omega (arith, sized) in
        rw f (refuses 15 _ (latitude_text angle blanks) out (rw (lt-ltb most_latitude (nat_abs angle) k)) (λ q. omega arith))

    module _ (near : p.size ≤ most_latitude) where
      near' : nat_abs angle ≤ most_latitude
      near' = omega (arith, sized)

      latitude_many : 5 < blanks → r ≡ refused_by 15 → ends r out ≡ wrote (latitude_refusal angle blanks) (latitude_text angle blanks) out
      unfolding latitude_refusal
      latitude_many h f = rw f (refuses 15 _ (latitude_text angle blanks) out (rw (le-ltb most_latitude (nat_abs angle) near', lt-ltb 5 blanks h)) (λ q. omega arith))

      pub latitude_wrote : blanks ≤ 5 → (letter : ℕ) → letter ≡ cond p.minus capital_s capital_n → (text : List ℕ) → text ≡ text_of (blanked_places blanks p.size) letter
          → (out' : List ℕ) → ends r out' ≡ wrote 0 text out → ends r out' ≡ wrote (latitude_refusal angle blanks) (latitude_text angle blanks) out
      unfolding latitude_refusal latitude_text north_or_south
      latitude_wrote few letter l text f out' g = rw (le-ltb most_latitude (nat_abs angle) near', le-ltb 5 blanks few, ← sized, ← parts_minus angle z back p e, ← l, ← f) g

    pub latitude_out : (most_latitude < p.size) ⊎ ((p.size ≤ most_latitude) × (5 < blanks)) → r ≡ refused_by 15
        → ends r out ≡ wrote (latitude_refusal angle blanks) (latitude_text angle blanks) out
    latitude_out (inl far) f = latitude_far far f
    latitude_out (inr (near, many)) f = latitude_many near many f

  module _ (r : Answer) (out : List ℕ) where
    pub longitude_far : most_longitude < p.size → r ≡ refused_by 15 → ends r out ≡ wrote (longitude_refusal angle) (longitude_text angle) out
    unfolding longitude_refusal
    longitude_far h f =
        let k : most_longitude < nat_abs angle = omega (arith, sized) in
        rw f (refuses 15 _ (longitude_text angle) out (rw (lt-ltb most_longitude (nat_abs angle) k)) (λ q. omega arith))

    pub longitude_wrote : p.size ≤ most_longitude → (letter : ℕ) → letter ≡ cond p.minus capital_w capital_e → (text : List ℕ) → text ≡ text_of (places_of 3 p.size) letter
        → (out' : List ℕ) → ends r out' ≡ wrote 0 text out → ends r out' ≡ wrote (longitude_refusal angle) (longitude_text angle) out
    unfolding longitude_refusal longitude_text east_or_west
    longitude_wrote near letter l text f out' g =
        let k : nat_abs angle ≤ most_longitude = omega (arith, sized) in
        rw (le-ltb most_longitude (nat_abs angle) k, ← sized, ← parts_minus angle z back p e, ← l, ← f) g
