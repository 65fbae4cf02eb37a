-- Laws of a callsign made of an address's characters and an SSID's number: its bytes go in one after the other.
-- Assumes nothing.
use Rattle.std.proofs.Common.{◌≡◌, ℕ, ◌+◌, ◌-◌, ◌/◌, ◌%◌, ◌<◌, ◌≤◌, min, false, List, [], ◌∷◌, ◌++◌, length, take, set, sym, refl, ap, ◌∙◌, append_assoc, arith, length-append, le-ltb, lt-ltb, ne_eqb}
use Rattle.std.proofs.lemmas.List.{take_min}
use Rattle.laws.specs.Bytes.{dash, digit0}
use Rattle.laws.specs.Lists.{pad_to}
use Rattle.laws.proofs.Lists.{pad_set}
use Rattle.callsign.specs.declared.Callsign.{Callsign}
use Rattle.callsign.specs.Text.{joined, call_as, made}
use Rattle.callsign.specs.Address.{ssid_of, ssid_text}

module _ (r : Callsign) (call text : List ℕ) (ssid : ℕ) (h : length call ≤ 6) (e : text ≡ pad_to 16 0 call) where
  abbrev n : ℕ
  n = length call

  more : (p : List ℕ) (v k : ℕ) → length p ≡ k → length (p ++ v ∷ []) ≡ k + 1
  more p v k q = length-append p (v ∷ []) ∙ ap (λ (m : ℕ). m + 1) q

  pub no_number : ssid ≡ 0 → r ≡ call_as text n 0 false → r ≡ made call (ssid_text ssid)
  unfolding made joined ssid_text
  no_number z w = w ∙ rw (z, e)

  module _ (z : ssid ≡ 0 → ⊥) where
    dashed : set text n dash ≡ pad_to 16 0 (call ++ dash ∷ [])
    dashed = ap (λ (l : List ℕ). set l n dash) e ∙ pad_set 16 0 call n dash refl (omega arith)

    digit_more : (v : ℕ) → set (set text n dash) (n + 1) v ≡ pad_to 16 0 ((call ++ dash ∷ []) ++ v ∷ [])
    digit_more v = ap (λ (l : List ℕ). set l (n + 1) v) dashed ∙ pad_set 16 0 (call ++ dash ∷ []) (n + 1) v (more call dash n refl) (omega arith)

    pub one_digit : ssid < 10 → r ≡ call_as (set (set text n dash) (n + 1) (digit0 + ssid)) n 1 false → r ≡ made call (ssid_text ssid)
    unfolding made joined ssid_text
    one_digit l w =
        w ∙ rw (ne_eqb ssid 0 z, lt-ltb ssid 10 l)
        (ap (λ (t : List ℕ). call_as t n 1 false) (digit_more (digit0 + ssid) ∙ ap (λ (t : List ℕ). pad_to 16 0 t) (append_assoc call (dash ∷ []) ((digit0 + ssid) ∷ []))))

    pub two_digits : 10 ≤ ssid → ssid < 16
        → r ≡ call_as (set (set (set text n dash) (n + 1) 49) (n + 2) (digit0 + (ssid - 10))) n 2 false → r ≡ made call (ssid_text ssid)
    unfolding made joined ssid_text
    two_digits l m w =
        let tens : digit0 + ssid / 10 ≡ 49 = omega arith in
        let ones : digit0 + ssid % 10 ≡ digit0 + (ssid - 10) = omega arith in
        let p : List ℕ = (call ++ dash ∷ []) ++ 49 ∷ [] in
        let k : length p ≡ n + 2 = more (call ++ dash ∷ []) 49 (n + 1) (more call dash n refl) ∙ two in
        w ∙ rw (ne_eqb ssid 0 z, le-ltb ssid 10 l, tens, ones)
        (ap (λ (t : List ℕ). call_as t n 2 false)
        (ap (λ (t : List ℕ). set t (n + 2) (digit0 + (ssid - 10))) (digit_more 49) ∙ pad_set 16 0 p (n + 2) (digit0 + (ssid - 10)) k (omega arith)
        ∙ ap (λ (t : List ℕ). pad_to 16 0 t)
        (append_assoc (call ++ dash ∷ []) (49 ∷ []) ((digit0 + (ssid - 10)) ∷ []) ∙ append_assoc call (dash ∷ []) (49 ∷ (digit0 + (ssid - 10)) ∷ []))))
      where
        two : n + 1 + 1 ≡ n + 2
        two = omega arith

-- ---- a length past the six characters

module _ (call : List ℕ) (len m : ℕ) (six : length call ≡ 6) (e : m ≡ min len 6) where
  call_cut : take m call ≡ take len call
  call_cut = ap (λ (n : ℕ). take n call) (e ∙ ap (min len) (sym six)) ∙ take_min len call

  pub called : (r : Callsign) (b s : ℕ) → s ≡ ssid_of b → r ≡ made (take m call) (ssid_text s) → r ≡ made (take len call) (ssid_text (ssid_of b))
  called r b s f q = q ∙ rw (call_cut, f)

pub four_bits : (b ssid : ℕ) → ssid ≡ ssid_of b → ssid < 16
unfolding ssid_of
four_bits b ssid s = omega arith
