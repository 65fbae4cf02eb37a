-- `read_longitude`: what the bytes stand for, and the tests that lead to each `return`, pick that case of `read_longitude`; what lonlat
-- makes of the size and the side is the rest. Assumes nothing.
-- x, y and z are what the bytes stand for, and o is the offset
use Rattle.std.proofs.Common.{◌≡◌, ℕ, ◌+◌, ◌*◌, ◌<◌, ◌≤◌, Bool, Option, Some, None, ◌∙◌, arith, rules, le-ltb, lt-ltb}
use Rattle.lonlat.specs.Angle.{longitude_of}
use Rattle.lonlat.specs.declared.Longitude.{Longitude}
use Rattle.mic_e.specs.Turn.{less_if}
use Rattle.mic_e.specs.Longitude.{offset_of, wrapped, size_of, read_longitude}
use Rattle.mic_e.specs.Private.{reading}
use Rattle.mic_e.proofs.Offset.{taken, stood_for, most, stands_for_nothing}
use Rattle.mic_e.proofs.Turn.{less_if_top, wrapped_top, offset_top}
use Rattle.mic_e.proofs.read_longitude.Goals as goal

module _ (hundred west : Bool) (a b c : ℕ) (r : Option Longitude) (none : r ≡ None) where
  no_degrees : None ≡ reading a → r ≡ read_longitude hundred west a b c
  unfolding read_longitude
  no_degrees e = none ∙ rw (stands_for_nothing a e)

  no_minutes : (x : ℕ) → Some x ≡ reading a → None ≡ reading b → r ≡ read_longitude hundred west a b c
  unfolding read_longitude
  no_minutes x ex e = none ∙ rw (taken a x ex, stands_for_nothing b e)

  no_hundredths : (x y : ℕ) → Some x ≡ reading a → Some y ≡ reading b → None ≡ reading c → r ≡ read_longitude hundred west a b c
  unfolding read_longitude
  no_hundredths x y ex ey e = none ∙ rw (taken a x ex, taken b y ey, stands_for_nothing c e)

module _ (hundred west : Bool) (a b c x y z o : ℕ) (ex : Some x ≡ reading a) (ey : Some y ≡ reading b) (ez : Some z ≡ reading c) (eo : o ≡ offset_of hundred) where
  far : 255 < x + o → None ≡ read_longitude hundred west a b c
  unfolding read_longitude
  far h = simp (← eo, ← stood_for a x ex, taken a x ex, taken b y ey, taken c z ez, lt-ltb 255 (x + o) h)

  lies : (d m : ℕ) (made : Option Longitude) → x + o ≤ 255 → d ≡ wrapped (x + o) → m ≡ less_if 60 y → made ≡ longitude_of (6000 * d + 100 * m + z) west
      → made ≡ read_longitude hundred west a b c
  unfolding read_longitude size_of longitude_of
  lies d m made near ed em e =
      e
      ∙ simp (← eo, ed, em, ← stood_for a x ex, ← stood_for b y ey, ← stood_for c z ez, taken a x ex, taken b y ey, taken c z ez, le-ltb 255 (x + o) near)

pub returns-in_err-degrees : goal.returns-in_err-degrees
returns-in_err-degrees c = search (rules, no_degrees)

pub returns-in_err-minutes : goal.returns-in_err-minutes
returns-in_err-minutes c = search (rules, no_minutes)

pub returns-in_err-hundredths : goal.returns-in_err-hundredths
returns-in_err-hundredths c = search (rules, no_hundredths)

pub overflow_add-with_offset : goal.overflow_add-with_offset
overflow_add-with_offset c =
    let x : c.in_ok-degrees.degrees ≤ 227 = search (rules, most) in
    let o : c.offset_of.result ≤ 100 = search (rules, offset_top) in
    record { fits = omega arith }

pub returns-then-with_offset-gt255 : goal.returns-then-with_offset-gt255
returns-then-with_offset-gt255 c = far _ _ _ _ _ _ _ _ _ c.in_ok-degrees.ensures c.in_ok-minutes.ensures c.in_ok-hundredths.ensures c.offset_of.ensures c.if-with_offset-gt255.true

pub overflow_mul-size : goal.overflow_mul-size
overflow_mul-size c = let d : c.wrap.result ≤ 255 = search (rules, wrapped_top) in record { fits = omega arith }

pub overflow_mul-size-2 : goal.overflow_mul-size-2
overflow_mul-size-2 c =
    let y : c.in_ok-minutes.minutes ≤ 227 = search (rules, most) in
    let m : c.less_if.result ≤ 227 = search (rules, less_if_top) in
    record { fits = omega arith }

pub overflow_add-size : goal.overflow_add-size
overflow_add-size c =
    let d : c.wrap.result ≤ 255 = search (rules, wrapped_top) in
    let y : c.in_ok-minutes.minutes ≤ 227 = search (rules, most) in
    let m : c.less_if.result ≤ 227 = search (rules, less_if_top) in
    record { fits = omega arith }

pub overflow_add-size-2 : goal.overflow_add-size-2
overflow_add-size-2 c =
    let d : c.wrap.result ≤ 255 = search (rules, wrapped_top) in
    let y : c.in_ok-minutes.minutes ≤ 227 = search (rules, most) in
    let z : c.in_ok-hundredths.hundredths ≤ 227 = search (rules, most) in
    let m : c.less_if.result ≤ 227 = search (rules, less_if_top) in
    record { fits = omega arith }

pub returns : goal.returns
returns c = lies _ _ _ _ _ _ _ _ _ c.in_ok-degrees.ensures c.in_ok-minutes.ensures c.in_ok-hundredths.ensures c.offset_of.ensures _ _ _ c.if-with_offset-gt255.false c.wrap.ensures c.less_if.ensures c.longitude_of.ensures
