-- Laws of an address read, for any loop over its six characters: what is left of `unpacked` after those passed.
-- Assumes nothing.
use Rattle.std.proofs.Common.{◌≡◌, ℕ, suc, ◌+◌, ◌/◌, ◌%◌, ◌<◌, ◌≤◌, Bool, true, false, cond, ◌&&◌, List, [], ◌∷◌, ◌++◌, length, get_or, take, drop, set, sym, refl, ap, ◌∙◌, append_assoc, append-nil, add-one, arith, length-set, drop_of_length-le, length-take, length-take-le, drop-cons, get_or-take, take-suc-set, eq-eqb, ne_eqb, eqb-true, Option, Some, None}
use borrow.Author.Tests.{eqb-false}
use Rattle.std.specs.Option.{option_map}
use Rattle.laws.specs.Bytes.{space, is_letter_or_digit, raised}
use Rattle.callsign.specs.declared.Callsign.{Callsign}
use Rattle.callsign.specs.declared.AddressRead.{AddressRead}
use Rattle.callsign.specs.Text.{made}
use Rattle.callsign.specs.Address.{ssid_of, heard_of, last_of, onto, are_spaces, unpacked, ssid_text, address_refused, address_of, read_address}

-- ---- one character

-- what the bytes that are left hold, after a space or not
pub rest : Bool → List ℕ → Option (List ℕ)
rest true l = cond (are_spaces l) (Some []) None
rest false l = unpacked l

pub behind : List ℕ → Option (List ℕ) → Option (List ℕ)
behind xs u = option_map (λ cs. xs ++ cs) u

none_yet : (l : List ℕ) → unpacked l ≡ behind [] (rest false l)
unfolding rest behind
none_yet l = sym (go (unpacked l))
  where
    go : (k : Option (List ℕ)) → behind [] k ≡ k
    go None = refl
    go (Some cs) = refl

at_end : (sp : Bool) (xs : List ℕ) → behind xs (rest sp []) ≡ Some xs
unfolding rest behind unpacked are_spaces
at_end true xs = ap Some (append-nil xs)
at_end false xs = ap Some (append-nil xs)

first_not_space : (d : ℕ) (l : List ℕ) → (d ≡ 64 → ⊥) → rest true (d ∷ l) ≡ None
unfolding rest are_spaces
first_not_space d l h = ap (λ (t : Bool). cond (t && are_spaces l) (Some []) None) (ne_eqb d 64 h)

odd : (sp : Bool) (d : ℕ) (l : List ℕ) → last_of d ≡ true → rest sp (d ∷ l) ≡ None
unfolding rest last_of unpacked
odd true d l h = first_not_space d l (λ e. let o : d % 2 ≡ 1 = eqb-true (d % 2) 1 h in omega arith)
odd false d l h = rw h

blank : (sp : Bool) (d : ℕ) (l : List ℕ) → last_of d ≡ false → d / 2 ≡ space → rest sp (d ∷ l) ≡ rest true l
unfolding rest last_of unpacked are_spaces
blank true d l h e = ap (λ (t : Bool). cond (t && are_spaces l) (Some []) None) (eq-eqb d 64 (let o : d % 2 ≡ 1 → ⊥ = eqb-false (d % 2) 1 h in omega arith))
blank false d l h e = rw (h, eq-eqb (d / 2) space e)

late : (d : ℕ) (l : List ℕ) → (d / 2 ≡ space → ⊥) → rest true (d ∷ l) ≡ None
late d l h = first_not_space d l (λ e. h (omega arith))

other : (d : ℕ) (l : List ℕ) → last_of d ≡ false → (d / 2 ≡ space → ⊥) → is_letter_or_digit (d / 2) ≡ false → rest false (d ∷ l) ≡ None
unfolding rest unpacked
other d l h e k = rw (h, ne_eqb (d / 2) space e, k)

character : (xs : List ℕ) (d : ℕ) (l : List ℕ) → last_of d ≡ false → (d / 2 ≡ space → ⊥) → is_letter_or_digit (d / 2) ≡ true
    → behind xs (rest false (d ∷ l)) ≡ behind (xs ++ raised (d / 2) ∷ []) (rest false l)
unfolding rest behind unpacked onto
character xs d l h e k = rw (h, ne_eqb (d / 2) space e, k) (go (unpacked l))
  where
    go : (c : Option (List ℕ)) → behind xs (onto (raised (d / 2)) c) ≡ behind (xs ++ raised (d / 2) ∷ []) c
    go None = refl
    go (Some cs) = ap Some (sym (append_assoc xs (raised (d / 2) ∷ []) cs))

-- ---- a loop's state: of the seven bytes s, i characters are read, n of them stand in cs, a space was met or not

pub record Sofar (s cs : List ℕ) (n : ℕ) (sp : Bool) (i : ℕ) : Type 0 where
  pub seven : length s ≡ 7
  pub inside : i ≤ 6
  pub few : n ≤ i
  pub places : length cs ≡ 6
  pub agrees : unpacked (take 6 s) ≡ behind (take n cs) (rest sp (drop i (take 6 s)))

pub start : (s cs : List ℕ) → length s ≡ 7 → length cs ≡ 6 → Sofar s cs 0 false 0
start s cs h k = record { seven = h; inside = omega arith; few = omega arith; places = k; agrees = none_yet (take 6 s) }

-- a place among the first six of seven bytes, or behind them
module _ (s : List ℕ) (i : ℕ) (seven : length s ≡ 7) where
  six : length (take 6 s) ≡ 6
  six = length-take-le 6 s (omega arith)

  pub place : i < length (take 6 s) → i < 6
  place h = rw six at h

  pub behind_six : length (take 6 s) ≤ i → 6 ≤ i
  behind_six h = rw six at h

  pub byte : i < length (take 6 s) → get_or s i 0 ≡ get_or (take 6 s) i 0
  byte h = sym (get_or-take 6 s i 0 (place h))

pub not_seven : (s : List ℕ) → (length s ≡ 7 → ⊥) → read_address s ≡ address_refused 3
unfolding read_address
not_seven s h = rw (ne_eqb (length s) 7 h)

refuses : (s : List ℕ) → length s ≡ 7 → unpacked (take 6 s) ≡ None → read_address s ≡ address_refused 3
unfolding read_address address_of
refuses s h e = rw (eq-eqb (length s) 7 h, e)

-- a turn, at the byte d
module _ (s cs : List ℕ) (n : ℕ) (sp : Bool) (i : ℕ) (so : Sofar s cs n sp i) (more : i < 6) (d : ℕ) (is : get_or s i 0 ≡ d) where
  next : drop i (take 6 s) ≡ d ∷ drop (i + 1) (take 6 s)
  next =
      let h : i < length (take 6 s) = simp length-take (omega (arith, so.seven)) in
      rw add-one (drop-cons (take 6 s) i 0 h ∙ ap (λ (x : ℕ). x ∷ drop (suc i) (take 6 s)) (get_or-take 6 s i 0 more ∙ is))

  now_is : unpacked (take 6 s) ≡ behind (take n cs) (rest sp (d ∷ drop (i + 1) (take 6 s)))
  now_is = so.agrees ∙ ap (λ (l : List ℕ). behind (take n cs) (rest sp l)) next

  stops : rest sp (d ∷ drop (i + 1) (take 6 s)) ≡ None → read_address s ≡ address_refused 3
  unfolding behind
  stops e = refuses s so.seven (now_is ∙ ap (behind (take n cs)) e)

  pub stops_odd : last_of d ≡ true → read_address s ≡ address_refused 3
  stops_odd h = stops (odd sp d _ h)

  pub goes_space : last_of d ≡ false → d / 2 ≡ space → Sofar s cs n true (i + 1)
  goes_space h e = record {
    seven = so.seven;
    inside = omega arith;
    few = omega (arith, so.few);
    places = so.places;
    agrees = now_is ∙ ap (behind (take n cs)) (blank sp d _ h e);
  }

  pub stops_late : sp ≡ true → (d / 2 ≡ space → ⊥) → read_address s ≡ address_refused 3
  stops_late t e = stops (ap (λ (b : Bool). rest b (d ∷ drop (i + 1) (take 6 s))) t ∙ late d _ e)

  pub stops_other : sp ≡ false → last_of d ≡ false → (d / 2 ≡ space → ⊥) → is_letter_or_digit (d / 2) ≡ false → read_address s ≡ address_refused 3
  stops_other t h e k = stops (ap (λ (b : Bool). rest b (d ∷ drop (i + 1) (take 6 s))) t ∙ other d _ h e k)

  pub goes_character : sp ≡ false → last_of d ≡ false → (d / 2 ≡ space → ⊥) → is_letter_or_digit (d / 2) ≡ true
      → (u : ℕ) → u ≡ raised (d / 2) → Sofar s (set cs n u) (n + 1) sp (i + 1)
  goes_character t h e k u v =
      let p : n < length cs = omega (arith, so.places, so.few) in
      let l : List ℕ = drop (i + 1) (take 6 s) in
      record {
        seven = so.seven;
        inside = omega arith;
        few = omega (arith, so.few);
        places = length-set cs n u ∙ so.places;
        agrees = now_is ∙ ap (λ (b : Bool). behind (take n cs) (rest b (d ∷ l))) t
            ∙ character (take n cs) d l h e k
            ∙ ap (λ (xs : List ℕ). behind xs (rest false l)) (ap (λ (w : ℕ). take n cs ++ w ∷ []) (sym v) ∙ sym (take-suc-set cs n u p) ∙ ap (λ (m : ℕ). take m (set cs n u)) (sym (add-one n)))
            ∙ ap (λ (b : Bool). behind (take (n + 1) (set cs n u)) (rest b l)) (sym t);
      }

-- ---- six characters are read, and the seventh byte is b

abbrev pub address_as : Callsign → Bool → Bool → AddressRead
address_as c heard last = record { refusal = 0; call = c; heard = heard; last = last }

pub reads : (s cs : List ℕ) (n : ℕ) (sp : Bool) (i : ℕ) → Sofar s cs n sp i → 6 ≤ i → (b : ℕ) → get_or s 6 0 ≡ b
    → (c : Callsign) (h l : Bool) → c ≡ made (take n cs) (ssid_text (ssid_of b)) → h ≡ heard_of b → l ≡ last_of b → address_as c h l ≡ read_address s
unfolding read_address address_of
reads s cs n sp i so over b is c h l ec eh el =
    let g : length (take 6 s) ≤ i = simp length-take (omega arith) in
    let all : unpacked (take 6 s) ≡ Some (take n cs) =
    so.agrees ∙ ap (λ (x : List ℕ). behind (take n cs) (rest sp x)) (drop_of_length-le (take 6 s) g) ∙ at_end sp (take n cs) in
    rw (eq-eqb (length s) 7 so.seven, all, is, ec, eh, el)
