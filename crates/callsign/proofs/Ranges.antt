-- Laws of the range: a callsign by its parts, the tests that the code makes, and what being in range gives.
-- Assumes nothing.
use Rattle.std.proofs.Common.{◌≡◌, ℕ, ◌+◌, ◌<◌, ◌≤◌, Bool, true, false, cond, not, ◌&&◌, eqb, leb, List, [], ◌∷◌, ◌++◌, length, get_or, take, drop, sym, refl, ap, ◌∙◌, add-zero, add-one, arith, length-append, length-drop, length-take, length-take-le, get_or-drop, get_or-take, take-suc, take-add, eq-eqb, ne_eqb, eqb-true, le-leb, leb-true}
use mathlib.Core.Bool.{and-true, and-false, and_assoc}
use borrow.Author.Tests.{eqb-false, lt-leb, not-true, not-false}
use lib.Seq.{append_snoc}
use Rattle.laws.specs.Bytes.{star, dash, digit0}
use Rattle.laws.specs.Lists.{zeros}
use Rattle.laws.proofs.Tests.{and_both}
use Rattle.callsign.specs.declared.Callsign.{Callsign}
use Rattle.callsign.specs.Utf8.{utf8, characters}
use Rattle.callsign.specs.Text.{joined, is_zero}
use Rattle.callsign.specs.Range.{call_part, ssid_part, text_len, is_dashed, in_range, is_blank_call, range_refusal, text_of, with_star, sound}
use Rattle.callsign.proofs.Unicode.{utf8_split}

-- ---- an SSID that is `0` alone

pub zero_one : (l : List ℕ) → length l ≡ 1 → is_zero l ≡ eqb (get_or l 0 0) digit0
unfolding is_zero
zero_one [] h = absurd (omega arith)
zero_one (x ∷ []) h = refl
zero_one (x ∷ y ∷ l) h = absurd (omega arith)

pub zero_other : (l : List ℕ) → (length l ≡ 1 → ⊥) → is_zero l ≡ false
unfolding is_zero
zero_other [] h = refl
zero_other (x ∷ []) h = absurd (h refl)
zero_other (x ∷ y ∷ l) h = refl

pub utf8_none : utf8 [] ≡ true
unfolding utf8 characters
utf8_none = refl

pub zero_none : is_zero [] ≡ false
unfolding is_zero
zero_none = refl

-- ---- a callsign without an SSID

module _ (c : Callsign) (k : c.ssid_len ≡ 0) where
  pub bare_length : text_len c ≡ c.call_len
  unfolding text_len
  bare_length = rw (eq-eqb c.ssid_len 0 k)

  pub bare_ssid : ssid_part c ≡ []
  unfolding ssid_part
  bare_ssid = rw k

  pub bare_dashed : is_dashed c ≡ true
  unfolding is_dashed
  bare_dashed = rw (eq-eqb c.ssid_len 0 k)

  bare_range : in_range c ≡ (leb c.call_len 16 && sound c.text c.call_len)
  unfolding in_range call_part sound
  bare_range = simp (bare_length, bare_ssid, bare_dashed, utf8_none, zero_none, and-true) (and_assoc (leb c.call_len 16) _ _)

  pub bare_text : text_of c ≡ take (text_len c) c.text
  unfolding text_of joined call_part
  bare_text = rw (bare_ssid, bare_length)

-- ---- a callsign with one

module _ (c : Callsign) (k : c.ssid_len ≡ 0 → ⊥) where
  abbrev N : ℕ
  N = c.call_len

  abbrev K : ℕ
  K = c.ssid_len

  pub full_length : text_len c ≡ c.call_len + 1 + c.ssid_len
  unfolding text_len
  full_length = rw (ne_eqb c.ssid_len 0 k)

  pub full_dashed : is_dashed c ≡ eqb (get_or c.text c.call_len 0) dash
  unfolding is_dashed
  full_dashed = rw (ne_eqb c.ssid_len 0 k)

  module _ (w : length c.text ≡ 16) (h : c.call_len + 1 + c.ssid_len ≤ 16) where
    ssid_length : length (ssid_part c) ≡ c.ssid_len
    unfolding ssid_part
    ssid_length = length-take-le K (drop (N + 1) c.text) (simp length-drop (omega arith))

    ssid_first : get_or (ssid_part c) 0 0 ≡ get_or c.text (c.call_len + 1) 0
    unfolding ssid_part
    ssid_first = get_or-take K (drop (N + 1) c.text) 0 0 (omega arith) ∙ get_or-drop (N + 1) c.text 0 0 ∙ ap (λ (j : ℕ). get_or c.text j 0) (add-zero (N + 1))

    module _ (d : get_or c.text c.call_len 0 ≡ dash) where
      pub full_split : take (c.call_len + 1 + c.ssid_len) c.text ≡ call_part c ++ dash ∷ ssid_part c
      unfolding call_part ssid_part
      full_split =
          let t = c.text in
          let s : List ℕ = take K (drop (N + 1) t) in
          let front : take (N + 1) t ≡ take N t ++ (dash ∷ []) =
          ap (λ (m : ℕ). take m t) (add-one N) ∙ take-suc t N 0 (omega arith) ∙ ap (λ (v : ℕ). take N t ++ (v ∷ [])) d in
          let whole : take (N + 1 + K) t ≡ take (N + 1) t ++ s = take-add (N + 1) K t in
          whole ∙ ap (λ (l : List ℕ). l ++ s) front ∙ append_snoc (take N t) dash s

      full_utf8 : utf8 (take (c.call_len + 1 + c.ssid_len) c.text) ≡ (utf8 (call_part c) && utf8 (ssid_part c))
      full_utf8 = ap utf8 full_split ∙ utf8_split dash (omega arith) (call_part c) (ssid_part c)

-- ---- the range, by the code's tests

module _ (c : Callsign) where
  pub out_of : 16 < text_len c → false ≡ in_range c
  unfolding in_range
  out_of h = rw (lt-leb (text_len c) 16 h)

  pub length_over : c.call_len ≤ text_len c
  unfolding text_len
  length_over = go (eqb c.ssid_len 0)
    where
      go : (b : Bool) → c.call_len ≤ cond b c.call_len (c.call_len + 1 + c.ssid_len)
      go true = omega arith
      go false = omega arith

  -- what stands behind the call
  abbrev pub parted : Bool
  parted = not (is_zero (ssid_part c)) && is_dashed c

  module _ (h : text_len c ≤ 16) where
    pub none_parted : c.ssid_len ≡ 0 → true ≡ parted
    none_parted k = rw (bare_ssid c k, zero_none, bare_dashed c k)

    module _ (k : c.ssid_len ≡ 0 → ⊥) where
      fits : c.call_len + 1 + c.ssid_len ≤ 16
      fits = rw (full_length c k) at h

      pub dash_inside : c.call_len < 16
      dash_inside = omega (arith, fits)

      pub ssid_inside : c.call_len + 1 < 16
      ssid_inside = omega (arith, fits)

      pub undashed : (get_or c.text c.call_len 0 ≡ dash → ⊥) → false ≡ parted
      undashed d = rw (full_dashed c k, ne_eqb (get_or c.text c.call_len 0) dash d, and-false)

      module _ (long : length c.text ≡ 16) where
        pub one_parted : c.ssid_len ≡ 1 → get_or c.text c.call_len 0 ≡ dash → not (eqb (get_or c.text (c.call_len + 1) 0) digit0) ≡ parted
        one_parted o d =
            rw (full_dashed c k, eq-eqb (get_or c.text c.call_len 0) dash d, and-true, zero_one (ssid_part c) (ssid_length c k long fits ∙ o), ssid_first c k long fits)

        pub more_parted : (c.ssid_len ≡ 1 → ⊥) → eqb (get_or c.text c.call_len 0) dash ≡ parted
        more_parted o = rw (zero_other (ssid_part c) (λ e. o (sym (ssid_length c k long fits) ∙ e)), full_dashed c k)

    -- call and SSID are judged as one text
    module _ (long : length c.text ≡ 16) where
      bare_judged : c.ssid_len ≡ 0 → in_range c ≡ (parted && sound c.text (text_len c))
      bare_judged k =
          let m : c.call_len ≤ 16 = omega (arith, length_over) in
          bare_range c k ∙ rw (le-leb c.call_len 16 m, bare_ssid c k, zero_none, bare_dashed c k, bare_length c k)

      mix : (u v z s : Bool) → ((((u && v) && not z) && true) && s) ≡ ((not z && true) && ((u && v) && s))
      mix u v true s = rw (and-false (u && v))
      mix u v false s = simp (and-true)

      full_judged : (c.ssid_len ≡ 0 → ⊥) → in_range c ≡ (parted && sound c.text (text_len c))
      unfolding in_range sound
      full_judged k = go (is_dashed c) refl
        where
          go : (b : Bool) → is_dashed c ≡ b → in_range c ≡ (parted && sound c.text (text_len c))
          go false e = simp (e, and-false)
          go true e =
              let d : get_or c.text c.call_len 0 ≡ dash = eqb-true (get_or c.text c.call_len 0) dash (sym (full_dashed c k) ∙ e) in
              rw (e, le-leb (text_len c) 16 h, full_length c k, full_utf8 c k long (fits k) d) (mix (utf8 (call_part c)) (utf8 (ssid_part c)) (is_zero (ssid_part c)) (zeros (drop (c.call_len + 1 + c.ssid_len) c.text)))

      pub judged : in_range c ≡ (parted && sound c.text (text_len c))
      judged = go (eqb c.ssid_len 0) refl
        where
          go : (b : Bool) → eqb c.ssid_len 0 ≡ b → in_range c ≡ (parted && sound c.text (text_len c))
          go true q = bare_judged (eqb-true c.ssid_len 0 q)
          go false q = full_judged (eqb-false c.ssid_len 0 q)

-- as the code's tests leave it: n is the length, p what is_parted answered
module _ (c : Callsign) (n : ℕ) (m : n ≡ text_len c) where
  pub too_long : 16 < n → false ≡ in_range c
  too_long h = out_of c (omega arith)

  module _ (h : n ≤ 16) (long : length c.text ≡ 16) (p : Bool) (e : p ≡ parted c) where
    pub unparted : p ≡ false → false ≡ in_range c
    unparted t = let k : text_len c ≤ 16 = omega arith in sym (judged c k long ∙ rw (← e, t))

    pub sounded : (r : Bool) → p ≡ true → r ≡ sound c.text n → r ≡ in_range c
    sounded r t q = let k : text_len c ≤ 16 = omega arith in q ∙ sym (judged c k long ∙ rw (← e, t, ← m))

-- ---- what being in range gives, and what gives it

pub record Ranged (c : Callsign) : Type 0 where
  pub size : text_len c ≤ 16
  pub call : utf8 (call_part c) ≡ true
  pub ssid : utf8 (ssid_part c) ≡ true
  pub nonzero : is_zero (ssid_part c) ≡ false
  pub dashed : is_dashed c ≡ true
  pub spare : zeros (drop (text_len c) c.text) ≡ true

pub to_range : (c : Callsign) → Ranged c → in_range c ≡ true
unfolding in_range
to_range c r = rw (le-leb (text_len c) 16 r.size, r.call, r.ssid, r.nonzero, r.dashed, r.spare)

pub from_range : (c : Callsign) → in_range c ≡ true → Ranged c
unfolding in_range
from_range c e =
    let t₅ = and_both _ (zeros (drop (text_len c) c.text)) e in
    let t₄ = and_both _ (is_dashed c) t₅.0 in
    let t₃ = and_both _ (not (is_zero (ssid_part c))) t₄.0 in
    let t₂ = and_both _ (utf8 (ssid_part c)) t₃.0 in
    let t₁ = and_both (leb (text_len c) 16) (utf8 (call_part c)) t₂.0 in
    record {
      size = leb-true (text_len c) 16 t₁.0;
      call = t₁.1;
      ssid = t₂.1;
      nonzero = not-true (is_zero (ssid_part c)) t₃.1;
      dashed = t₄.1;
      spare = t₅.1;
    }

pub accepted : (c : Callsign) → in_range c ≡ true → range_refusal c ≡ 0
unfolding range_refusal
accepted c e = rw e

pub rejected : (c : Callsign) → in_range c ≡ false → range_refusal c ≡ 15
unfolding range_refusal
rejected c e = rw e

-- the text in use is what is written
pub joined_full : (a b : List ℕ) → (length b ≡ 0 → ⊥) → joined a b ≡ a ++ dash ∷ b
unfolding joined
joined_full a [] h = absurd (h refl)
joined_full a (x ∷ b) h = refl

module _ (c : Callsign) (e : in_range c ≡ true) where
  pub full_fits : (c.ssid_len ≡ 0 → ⊥) → c.call_len + 1 + c.ssid_len ≤ 16
  full_fits k = rw (full_length c k) at (from_range c e).size

  pub full_dash : (c.ssid_len ≡ 0 → ⊥) → get_or c.text c.call_len 0 ≡ dash
  full_dash k = eqb-true (get_or c.text c.call_len 0) dash (sym (full_dashed c k) ∙ (from_range c e).dashed)

  module _ (long : length c.text ≡ 16) where
    full_text : (c.ssid_len ≡ 0 → ⊥) → text_of c ≡ take (text_len c) c.text
    unfolding text_of
    full_text k =
        joined_full (call_part c) (ssid_part c) (λ z. k (sym (ssid_length c k long (full_fits k)) ∙ z))
        ∙ sym (ap (λ (n : ℕ). take n c.text) (full_length c k) ∙ full_split c k long (full_fits k) (full_dash k))

    pub text_in_use : text_of c ≡ take (text_len c) c.text
    text_in_use = go (eqb c.ssid_len 0) refl
      where
        go : (b : Bool) → eqb c.ssid_len 0 ≡ b → text_of c ≡ take (text_len c) c.text
        go true q = bare_text c (eqb-true c.ssid_len 0 q)
        go false q = full_text (eqb-false c.ssid_len 0 q)

-- ---- how long the text of a callsign in range is

take_le : (n : ℕ) (l : List ℕ) → length (take n l) ≤ n
take_le n l = rw length-take (omega arith)

joined_le : (a b : List ℕ) → length (joined a b) ≤ length a + 1 + length b
unfolding joined
joined_le a [] = omega arith
joined_le a (x ∷ b) = rw (length-append a (dash ∷ x ∷ b)) (omega arith)

text_le : (c : Callsign) → length (text_of c) ≤ c.call_len + 1 + c.ssid_len
unfolding text_of call_part ssid_part
text_le c =
    let a = take_le c.call_len c.text in
    let b = take_le c.ssid_len (drop (c.call_len + 1) c.text) in
    let j = joined_le (call_part c) (ssid_part c) in
    omega arith

pub text_short : (c : Callsign) → in_range c ≡ true → length (text_of c) ≤ 16
text_short c e = go (eqb c.ssid_len 0) refl (from_range c e).size
  where
    go : (b : Bool) → eqb c.ssid_len 0 ≡ b → text_len c ≤ 16 → length (text_of c) ≤ 16
    go true q m = let k = take_le (text_len c) c.text in rw (bare_text c (eqb-true c.ssid_len 0 q)) (omega arith)
    go false q m = let k = full_length c (eqb-false c.ssid_len 0 q) in let x = text_le c in omega arith

-- with its star
pub star_short : (c : Callsign) (starred : Bool) → in_range c ≡ true → length (with_star (text_of c) starred) ≤ 17
unfolding with_star
star_short c true e = let m = text_short c e in rw (length-append (text_of c) (star ∷ [])) (omega arith)
star_short c false e = let m = text_short c e in omega arith

-- ---- nothing in it

pub blank_is_in_range : (c : Callsign) → is_blank_call c ≡ true → in_range c ≡ true
unfolding is_blank_call sound utf8 characters
blank_is_in_range c e =
    let b = and_both (eqb c.call_len 0) (eqb c.ssid_len 0 && zeros c.text) e in
    let d = and_both (eqb c.ssid_len 0) (zeros c.text) b.1 in
    let n = eqb-true c.call_len 0 b.0 in
    bare_range c (eqb-true c.ssid_len 0 d.0) ∙ rw (n, d.1)

-- ---- the same where the code has made the test

module _ (c : Callsign) (u : Bool) (e : u ≡ in_range c) (n : not u ≡ false) where
  pub found_in_range : in_range c ≡ true
  found_in_range = sym e ∙ not-false u n

  pub room_full : (c.ssid_len ≡ 0 → ⊥) → c.call_len + 1 + c.ssid_len ≤ 16
  room_full = full_fits c found_in_range
