-- A list of longitudes on one side is a list of sizes, or empty.
-- Assumes nothing.
use Rattle.std.proofs.Common.{◌≡◌, ℕ, Bool, true, false, [], ℤ, nat_abs, sym, refl, ap, ◌∙◌}
use mathlib.Core.Path.{fun_ext}
use mathlib.Core.Bool.{false≢true}
use Rattle.numbers.specs.Sign.{is_on}
use Rattle.numbers.proofs.Sign.{size_signed, on_signed, on_rejoined}
use Rattle.mic_e.specs.Longitude.{offset_of, size_of, read_longitude}
use Rattle.mic_e.proofs.LongitudeFacts.{Lies, reads_lies, lies_reads}
use Rattle.fields.specs.Each.{all_fields}
use Rattle.fields.specs.Lists.{is_longitude, longitude_fields}
use Rattle.fields.specs.Search.{size_hits}
use Rattle.fields.proofs.Each.{fields_none}
use Rattle.fields.proofs.Hits.{is_longitude_lem, longitude_is, longitude_hit, hit_longitude}

both_ways : (a b : Bool) → (a ≡ true → b ≡ true) → (b ≡ true → a ≡ true) → a ≡ b
both_ways true b h k = sym (h refl)
both_ways false true h k = k refl
both_ways false false h k = refl

module _ (hundred west : Bool) (z : ℤ) where
  lies_to : (a b c : ℕ) → is_longitude z (read_longitude hundred west a b c) ≡ true → Lies (nat_abs z) (offset_of hundred) a b c × (is_on west z ≡ true)
  lies_to a b c e =
      let h = reads_lies hundred west a b c (record { 0 = z }) (is_longitude_lem z (read_longitude hundred west a b c) e) in
      let n : nat_abs z ≡ size_of (offset_of hundred) a b c = ap nat_abs h.1 ∙ size_signed west (size_of (offset_of hundred) a b c) in
      (rw n h.0, rw h.1 (on_signed west (size_of (offset_of hundred) a b c)))

  pub on_side_lem : is_on west z ≡ true → longitude_fields hundred west z ≡ all_fields (size_hits (nat_abs z) hundred)
  unfolding longitude_fields
  on_side_lem e =
      ap all_fields (fun_ext (λ a. fun_ext (λ b. fun_ext (λ c.
      both_ways _ _
      (λ p. hit_longitude (nat_abs z) hundred a b c (lies_to a b c p).0)
      (λ p. longitude_is z _ (lies_reads hundred west a b c (nat_abs z) (longitude_hit (nat_abs z) hundred a b c p) ∙ rw (on_rejoined west z e)))))))

  pub off_side : is_on west z ≡ false → longitude_fields hundred west z ≡ []
  unfolding longitude_fields
  off_side e = fields_none _ (λ a b c p. false≢true (sym e ∙ (lies_to a b c p).1))
