-- What it takes for three bytes to read as a longitude, in plain arithmetic, both ways; and that the bytes as written,
-- under the offset and side that go with them, do.
-- Assumes nothing.
use Rattle.std.proofs.Common.{◌≡◌, ℕ, ◌+◌, ◌-◌, ◌/◌, ◌%◌, ◌<◌, ◌≤◌, Bool, ltb, get_or, Some, None, refl, ap, ◌∙◌, ⊎_elim, arith, ltb-false, ltb-true, le-ltb}
use Rattle.laws.proofs.Tests.{bool_cases, guard}
use Rattle.lonlat.specs.Angle.{most_longitude}
use Rattle.numbers.specs.Sign.{signed_of}
use Rattle.lonlat.specs.declared.Longitude.{Longitude}
use Rattle.mic_e.specs.Turn.{less_if}
use Rattle.mic_e.specs.Longitude.{offset_of, wrapped, size_of, read_longitude, degrees_byte, hundred_for, minutes_byte, longitude_field}
use Rattle.mic_e.proofs.Turn.{less_if_split, wrapped_plain, wrapped_mid, wrapped_high}
use Rattle.mic_e.proofs.MotionFacts.{Bytes}

pub record Lies (size offset a b c : ℕ) : Type 0 where
  pub a_from : 28 ≤ a
  pub b_from : 28 ≤ b
  pub c_from : 28 ≤ c
  pub degrees_to : a - 28 + offset ≤ 255
  pub size_is : size_of offset a b c ≡ size
  pub size_to : size ≤ most_longitude

apart : (l : Longitude) → None ≡ Some l → ⊥
apart l e = cc

module _ (hundred west : Bool) (a b c : ℕ) where
  -- what is read has the bytes' size, on that side
  pub reads_lies : (l : Longitude) → read_longitude hundred west a b c ≡ Some l
      → Lies (size_of (offset_of hundred) a b c) (offset_of hundred) a b c × (l.0 ≡ signed_of west (size_of (offset_of hundred) a b c))
  unfolding read_longitude
  reads_lies l e =
      let n = apart l in
      let g₁ = guard (ltb a 28) None _ (Some l) n e in
      let g₂ = guard (ltb b 28) None _ (Some l) n g₁.1 in
      let g₃ = guard (ltb c 28) None _ (Some l) n g₂.1 in
      let g₄ = guard (ltb 255 (a - 28 + offset_of hundred)) None _ (Some l) n g₃.1 in
      let g₅ = guard (ltb most_longitude (size_of (offset_of hundred) a b c)) None _ (Some l) n g₄.1 in (
        record {
          a_from = ltb-false _ _ g₁.0;
          b_from = ltb-false _ _ g₂.0;
          c_from = ltb-false _ _ g₃.0;
          degrees_to = ltb-false _ _ g₄.0;
          size_is = refl;
          size_to = ltb-false _ _ g₅.0;
        },
        same g₅.1,
      )
    where
      same : Some (record { 0 = signed_of west (size_of (offset_of hundred) a b c) }) ≡ Some l → l.0 ≡ signed_of west (size_of (offset_of hundred) a b c)
      same q = let r : l ≡ record { 0 = signed_of west (size_of (offset_of hundred) a b c) } = cc in ap (λ (x : Longitude). x.0) r

  pub lies_reads : (size : ℕ) → Lies size (offset_of hundred) a b c → read_longitude hundred west a b c ≡ Some (record { 0 = signed_of west size })
  unfolding read_longitude
  lies_reads size h =
      rw (le-ltb a 28 h.a_from, le-ltb b 28 h.b_from, le-ltb c 28 h.c_from, le-ltb 255 (a - 28 + offset_of hundred) h.degrees_to, h.size_is, le-ltb most_longitude size h.size_to)

-- ---- as written

-- the degrees' byte, and the room that its offset leaves
record Degrees (d : ℕ) : Type 0 where
  right : wrapped (degrees_byte d + 28 - 28 + offset_of (hundred_for d)) ≡ d
  room : degrees_byte d + 28 - 28 + offset_of (hundred_for d) ≤ 255
  byte : degrees_byte d + 28 < 256

written_degrees : (d : ℕ) → d < 180 → Degrees d
unfolding degrees_byte hundred_for offset_of
written_degrees d h =
    ⊎_elim
    (λ e. let q : d < 10 = ltb-true _ _ e in record { right = rw e (wrapped_high (d + 90 + 28 - 28 + 100) (omega arith) (omega arith) ∙ omega arith); room = rw e (omega arith); byte = rw e (omega arith) })
    (λ e. let q : 10 ≤ d = ltb-false _ _ e in ⊎_elim
    (λ u. let w : d < 100 = ltb-true _ _ u in record { right = rw (e, u) (wrapped_plain (d + 28 - 28 + 0) (omega arith) ∙ omega arith); room = rw (e, u) (omega arith); byte = rw (e, u) (omega arith) })
    (λ u. let w : 100 ≤ d = ltb-false _ _ u in ⊎_elim
    (λ x. let y : d < 110 = ltb-true _ _ x in record { right = rw (e, u, x) (wrapped_mid (d - 20 + 28 - 28 + 100) (omega arith) (omega arith) ∙ omega arith); room = rw (e, u, x) (omega arith); byte = rw (e, u, x) (omega arith) })
    (λ x. let y : 110 ≤ d = ltb-false _ _ x in record { right = rw (e, u, x) (wrapped_plain (d - 100 + 28 - 28 + 100) (omega arith) ∙ omega arith); room = rw (e, u, x) (omega arith); byte = rw (e, u, x) (omega arith) })
    (bool_cases (ltb d 110)))
    (bool_cases (ltb d 100)))
    (bool_cases (ltb d 10))

written_minutes : (m : ℕ) → m < 60 → (less_if 60 (minutes_byte m + 28 - 28) ≡ m) × (minutes_byte m + 28 < 256)
unfolding minutes_byte
written_minutes m h =
    ⊎_elim
    (λ e. let q : m < 10 = ltb-true _ _ e in rw e (⊎_elim (λ z. omega arith) (λ z. omega arith) (less_if_split 60 (m + 60 + 28 - 28)), omega arith))
    (λ e. rw e (⊎_elim (λ z. omega arith) (λ z. omega arith) (less_if_split 60 (m + 28 - 28)), omega arith))
    (bool_cases (ltb m 10))

module _ (size : ℕ) (h : size < most_longitude) where
  pub written_lies : Lies size (offset_of (hundred_for (size / 6000))) (get_or (longitude_field size) 0 0) (get_or (longitude_field size) 1 0) (get_or (longitude_field size) 2 0)
  unfolding longitude_field size_of
  written_lies =
      let d = written_degrees (size / 6000) (omega arith) in
      let m = written_minutes (size / 100 % 60) (omega arith) in
      record {
        a_from = omega arith;
        b_from = omega arith;
        c_from = omega arith;
        degrees_to = d.room;
        size_is = omega (arith, d.right, m.0);
        size_to = omega arith;
      }

  pub longitude_bytes : Bytes (longitude_field size)
  unfolding longitude_field
  longitude_bytes =
      record {
        first_byte = (written_degrees (size / 6000) (omega arith)).byte;
        second_byte = (written_minutes (size / 100 % 60) (omega arith)).1;
        third_byte = omega arith;
      }
