-- `write_destination`: the refusal is the longitude's or the latitude's; else the text stands in the buffer whole, and the
-- characters are made of it. Assumes nothing.
use Rattle.std.proofs.Common.{◌≡◌, ℕ, ◌/◌, ◌<◌, ◌≤◌, Bool, List, length, replicate, ℤ, nat_abs, sym, ap, ◌∙◌, append-nil, arith, rules, ne_eqb, le-leb}
use borrow.Author.Tests.{lt-leb}
use Rattle.buffer.specs.Wrote.{ends, wrote}
use Rattle.buffer.specs.declared.Answer.{Answer}
use Rattle.lonlat.specs.Angle.{most_longitude}
use Rattle.numbers.specs.Sign.{sides_of}
use Rattle.lonlat.specs.Latitude.{latitude_text, latitude_refusal}
use Rattle.numbers.specs.declared.Sides.{Sides}
use Rattle.mic_e.specs.Longitude.{longitude_out, hundred_for, hundred_of}
use Rattle.mic_e.specs.Message.{bits_of}
use Rattle.mic_e.specs.Destination.{characters_of, destination_bytes, destination_refusal, write_destination}
use Rattle.mic_e.specs.declared.Bit.{Bit}
use Rattle.mic_e.specs.declared.Message.{Message}
use Rattle.buffer.proofs.Answers.{refusal_is, bytes_are}
use Rattle.lonlat.proofs.Texts.{latitude_text_length}
use Rattle.mic_e.proofs.Range.{few_blanks}
use Rattle.mic_e.proofs.write_destination.Goals as goal

module _ (lat lon : ℤ) (blanks : ℕ) (m : Message) (s : Sides) (es : s ≡ sides_of lon) where
  far : most_longitude ≤ s.size → record { refusal = 15; bytes = replicate 6 0 } ≡ write_destination lat blanks m lon
  unfolding write_destination destination_refusal longitude_out sides_of
  far h =
      let k : most_longitude ≤ nat_abs lon = omega (arith, ap (λ (x : Sides). x.size) es) in
      rw (le-leb most_longitude (nat_abs lon) k)

  module _ (near : s.size < most_longitude) (r : Answer) (o : List ℕ) (e : ends r o ≡ wrote (latitude_refusal lat blanks) (latitude_text lat blanks) (replicate 8 0)) where
    room : latitude_refusal lat blanks ≡ 0 → length (latitude_text lat blanks) ≡ 8
    room z = latitude_text_length lat blanks (omega (arith, few_blanks lat blanks z))

    same : r.refusal ≡ latitude_refusal lat blanks
    same = refusal_is r o (latitude_text lat blanks) (replicate 8 0) (latitude_refusal lat blanks) e (λ z. omega (arith, room z))

    whole : destination_refusal lat blanks lon ≡ r.refusal
    unfolding destination_refusal longitude_out sides_of
    whole =
        let k : nat_abs lon < most_longitude = omega (arith, ap (λ (x : Sides). x.size) es) in
        rw (lt-leb most_longitude (nat_abs lon) k) (sym same)

    refused : (r.refusal ≡ 0 → ⊥) → record { refusal = r.refusal; bytes = replicate 6 0 } ≡ write_destination lat blanks m lon
    unfolding write_destination
    refused n = rw (whole, ne_eqb r.refusal 0 n)

    text : r.refusal ≡ 0 → o ≡ latitude_text lat blanks
    text z =
        let k : latitude_refusal lat blanks ≡ 0 = sym same ∙ z in
        let l : length (latitude_text lat blanks) ≡ 8 = room k in
        bytes_are r o (latitude_text lat blanks) (replicate 8 0) (latitude_refusal lat blanks) e k (omega arith)
        ∙ rw (l, append-nil)

    done : (bits : List Bit) (hundred : Bool) (bytes : List ℕ) → r.refusal ≡ 0 → bits ≡ bits_of m → hundred ≡ hundred_for (s.size / 6000)
        → bytes ≡ characters_of o bits hundred s.minus → record { refusal = 0; bytes = bytes } ≡ write_destination lat blanks m lon
    unfolding write_destination destination_bytes hundred_of sides_of
    done bits hundred bytes z p q w = rw (whole, z, w, q, p, text z, es)

pub returns-then-sides-ge1080000 : goal.returns-then-sides-ge1080000
returns-then-sides-ge1080000 c = search (rules, far)

pub returns-then-answer-ne0 : goal.returns-then-answer-ne0
returns-then-answer-ne0 c = search (rules, refused)

pub returns : goal.returns
returns c = search (rules, done)
