-- `third` of a longitude: what is left to the hundredths is the third byte, if it is one. Assumes nothing.
use Rattle.std.proofs.Common.{◌≡◌, ℕ, ◌+◌, ◌-◌, ◌<◌, ◌≤◌, Bool, Some, None, sym, arith}
use Rattle.lonlat.specs.Angle.{most_longitude}
use Rattle.mic_e.specs.Longitude.{offset_of, size_of}
use Rattle.mic_e.proofs.LongitudeFacts.{Lies}
use Rattle.fields.specs.Each.{cell}
use Rattle.fields.specs.Search.{size_hits, fields_of, base_of}
use Rattle.fields.proofs.Each.{cell_none, cell_one}
use Rattle.fields.proofs.Hits.{Based, based_by, base_two, longitude_hit, hit_longitude}
use Rattle.fields.proofs.LyingTarget.third.Goals as goal

module _ (m : ℕ) (hundred : Bool) (a b : ℕ) where
  nowhere : ((c : ℕ) → c < 256 → Lies m (offset_of hundred) a b c → ⊥) → fields_of a b None ≡ cell (size_hits m hundred) a b
  unfolding fields_of
  nowhere h = sym (cell_none _ a b (λ c l t. h c l (longitude_hit m hundred a b c t)))

  over : most_longitude < m → fields_of a b None ≡ cell (size_hits m hundred) a b
  over k = nowhere (λ c l h. omega arith)

  nothing : None ≡ base_of hundred a b → fields_of a b None ≡ cell (size_hits m hundred) a b
  nothing e = nowhere (λ c l h. let f : base_of hundred a b ≡ Some _ = base_two m hundred a b c h in cc)

  module _ (low : ℕ) (e : Some low ≡ base_of hundred a b) where
    base : Based hundred a b low
    base = based_by hundred a b low (sym e)

    -- the size is the base and the hundredths
    sum : (c : ℕ) → Lies m (offset_of hundred) a b c → low + (c - 28) ≡ m
    unfolding size_of
    sum c h = omega (arith, base.base_is, h.size_is)

    past : (low ≤ m → ⊥) → fields_of a b None ≡ cell (size_hits m hundred) a b
    past k = nowhere (λ c l h. k (omega (arith, sum c h)))

    far : 227 < m - low → fields_of a b None ≡ cell (size_hits m hundred) a b
    far k = nowhere (λ c l h. omega (arith, sum c h))

    lies : m ≤ most_longitude → low ≤ m → Lies m (offset_of hundred) a b (m - low + 28)
    unfolding size_of
    lies k l = record { a_from = base.a_from; b_from = base.b_from; c_from = omega arith; degrees_to = base.degrees_to; size_is = omega (arith, base.base_is); size_to = k }

    there : m ≤ most_longitude → low ≤ m → m - low ≤ 227 → fields_of a b (Some (m - low + 28)) ≡ cell (size_hits m hundred) a b
    unfolding fields_of
    there k l n =
        sym (cell_one _ a b (m - low + 28) (omega arith) (hit_longitude m hundred a b _ (lies k l))
        (λ c u t. let h = longitude_hit m hundred a b c t in omega (arith, sum c h, h.c_from)))

pub returns-then-self-gt1080000 : goal.returns-then-self-gt1080000
returns-then-self-gt1080000 c = over _ _ _ _ c.if-self-gt1080000.true

pub returns-in_err-low : goal.returns-in_err-low
returns-in_err-low c = rw c.from_residual.ensures (nothing _ _ _ _ c.in_err-low.ensures)

pub returns-in_err-rest : goal.returns-in_err-rest
returns-in_err-rest c = rw c.from_residual-in_err-rest.ensures (past _ _ _ _ _ c.in_ok-low.ensures c.in_err-rest.ensures)

pub returns-then-rest-gt227 : goal.returns-then-rest-gt227
returns-then-rest-gt227 c = far _ _ _ _ _ c.in_ok-low.ensures (omega (arith, c.in_ok-rest.ensures.1))

pub returns : goal.returns
returns c =
    rw c.in_ok-rest.ensures.1
    (there _ _ _ _ _ c.in_ok-low.ensures c.if-self-gt1080000.false c.in_ok-rest.ensures.0 (omega (arith, c.in_ok-rest.ensures.1)))
