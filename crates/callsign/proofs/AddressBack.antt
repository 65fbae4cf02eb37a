-- An address that is written reads back, and what is read from an address is in range.
-- Assumes nothing.
use Rattle.std.proofs.Common.{◌≡◌, ℕ, zero, suc, ◌+◌, ◌-◌, ◌*◌, ◌/◌, ◌%◌, ◌<◌, ◌≤◌, Bool, true, false, cond, not, ◌&&◌, T, eqb, ltb, leb, ◌⊎◌, List, [], ◌∷◌, ◌++◌, map, length, get_or, take, replicate, refl, ap, ◌∙◌, inl, inr, arith, length-append, length-take-le, take_at, ltb-false, lt-ltb, eq-eqb, ne_eqb, eqb-true, leb-true, Option, Some, None, Result, Ok, Err}
use lib.Seq.{get_or_at}
use Rattle.laws.specs.Bytes.{space, dash, is_letter_or_digit, raised}
use Rattle.laws.specs.Lists.{every}
use Rattle.laws.proofs.Each.{every_first, every_rest}
use Rattle.laws.proofs.Every.{all, all_at}
use Rattle.callsign.specs.declared.Callsign.{Callsign}
use Rattle.callsign.specs.declared.AddressRead.{AddressRead}
use Rattle.callsign.specs.declared.Field.{Field}
use Rattle.numbers.specs.declared.CountError.{CountError}
use Rattle.callsign.specs.Utf8.{ascii}
use Rattle.callsign.specs.Text.{joined, made, is_zero}
use Rattle.callsign.specs.Range.{in_range, call_part, ssid_part}
use Rattle.callsign.specs.Address.{ssid_of, heard_of, last_of, onto, are_spaces, unpacked, ssid_text, address_refused, address_of, read_address}
use Rattle.callsign.specs.Packed.{ssid_number, seventh_of, sent, unwritten_by, packed_as, packed_by, write_address}
use Rattle.callsign.proofs.Unicode.{ascii_utf8}
use Rattle.callsign.proofs.Numbers.{ssid_small}
use Rattle.callsign.proofs.Bits.{heard_in, ssid_back, heard_back, last_back}
use Rattle.callsign.proofs.Sends.{raises, six_sent}
use Rattle.callsign.proofs.Characters.{address_as}
use Rattle.callsign.proofs.Made.{made_range, blank_range}

-- ---- written and read

spaces : (k : ℕ) → are_spaces (replicate k 64) ≡ true
unfolding are_spaces
spaces zero = refl
spaces (suc k) = spaces k

call_back : (cs : List ℕ) (k : ℕ) → every is_letter_or_digit cs ≡ true → unpacked (map sent cs ++ replicate k 64) ≡ Some (map raised cs)
unfolding unpacked onto last_of sent
call_back [] zero e = refl
call_back [] (suc k) e = rw (spaces k)
call_back (c ∷ cs) k e =
    let f = raises c (every_first is_letter_or_digit c cs e) in
    let half : raised c * 2 / 2 ≡ raised c = omega arith in
    let low : raised c * 2 % 2 ≡ 1 → ⊥ = omega arith in
    rw (half, ne_eqb _ _ low, f.no_space, f.again, f.settled, call_back cs k (every_rest is_letter_or_digit c cs e))

module _ (cs : List ℕ) (s : ℕ) (short : length cs ≤ 6) (good : every is_letter_or_digit cs ≡ true) where
  bytes_back : read_address (map sent cs ++ replicate (6 - length cs) 64 ++ s ∷ []) ≡ address_as (made (map raised cs) (ssid_text (ssid_of s))) (heard_of s) (last_of s)
  unfolding read_address address_of
  bytes_back =
      let x : List ℕ = map sent cs ++ replicate (6 - length cs) 64 in
      let m : length (x ++ s ∷ []) ≡ 7 = length-append x (s ∷ []) ∙ ap (λ (k : ℕ). k + 1) (six_sent cs short) in
      rw (eq-eqb (length (x ++ s ∷ [])) 7 m, take_at x (s ∷ []) 6 (six_sent cs short), get_or_at x s [] 0 6 (six_sent cs short), call_back cs (6 - length cs) good)

packed_back : (cs : List ℕ) (s : ℕ) → (packed_as cs s).refusal ≡ 0 → read_address (packed_as cs s).bytes ≡ address_as (made (map raised cs) (ssid_text (ssid_of s))) (heard_of s) (last_of s)
unfolding packed_as unwritten_by
packed_back cs s e = go (ltb 6 (length cs)) (every is_letter_or_digit cs) refl refl e
  where
    go : (p q : Bool) → ltb 6 (length cs) ≡ p → every is_letter_or_digit cs ≡ q
        → (cond p (unwritten_by 13) (cond (not q) (unwritten_by 13) (record { refusal = 0; bytes = map sent cs ++ replicate (6 - length cs) 64 ++ s ∷ [] }))).refusal ≡ 0
        → read_address (cond p (unwritten_by 13) (cond (not q) (unwritten_by 13) (record { refusal = 0; bytes = map sent cs ++ replicate (6 - length cs) 64 ++ s ∷ [] }))).bytes
        ≡ address_as (made (map raised cs) (ssid_text (ssid_of s))) (heard_of s) (last_of s)
    go true q h k e = absurd (omega arith)
    go false false h k e = absurd (omega arith)
    go false true h k e = bytes_back cs s (ltb-false 6 (length cs) h) k

-- the SSID's number, where it has one
unfoldable pub number_in : Result ℕ CountError → ℕ
number_in (Ok n) = n
number_in (Err e) = 0

-- the callsign as an address holds it
unfoldable pub in_address : Callsign → Callsign
in_address c = made (map raised (call_part c)) (ssid_text (number_in (ssid_number (ssid_part c))))

number_back : (cs : List ℕ) (m : Result ℕ CountError) (field : Field) (last : Bool) → ((n : ℕ) → m ≡ Ok n → n ≤ 15) → (packed_by cs m field last).refusal ≡ 0
    → read_address (packed_by cs m field last).bytes ≡ address_as (made (map raised cs) (ssid_text (number_in m))) (heard_in field) last
unfolding packed_by unwritten_by number_in
number_back cs (Err f) field last h e = absurd (omega arith)
number_back cs (Ok n) field last h e =
    let k : n ≤ 15 = h n refl in
    packed_back cs (seventh_of field n last) e
    ∙ rw (ssid_back field n last k, heard_back field n last k, last_back field n last k)

pub address_back : (c : Callsign) (field : Field) (last : Bool) → (write_address c field last).refusal ≡ 0
    → read_address (write_address c field last).bytes ≡ address_as (in_address c) (heard_in field) last
unfolding write_address unwritten_by in_address
address_back c field last e = go (in_range c) e
  where
    go : (p : Bool) → (cond (not p) (unwritten_by 15) (packed_by (call_part c) (ssid_number (ssid_part c)) field last)).refusal ≡ 0
        → read_address (cond (not p) (unwritten_by 15) (packed_by (call_part c) (ssid_number (ssid_part c)) field last)).bytes ≡ address_as (made (map raised (call_part c)) (ssid_text (number_in (ssid_number (ssid_part c))))) (heard_in field) last
    go true e = number_back (call_part c) (ssid_number (ssid_part c)) field last (λ n q. ssid_small n (ssid_part c) q) e
    go false e = absurd (omega arith)

-- an address that was written is seven bytes, since it reads back
pub address_seven : (c : Callsign) (field : Field) (last : Bool) → (write_address c field last).refusal ≡ 0 → length (write_address c field last).bytes ≡ 7
unfolding read_address address_refused
address_seven c field last z = go (eqb (length b) 7) refl (ap (λ (a : AddressRead). a.refusal) (address_back c field last z))
  where
    b : List ℕ
    b = (write_address c field last).bytes

    go : (k : Bool) → eqb (length b) 7 ≡ k → (cond k (address_of (unpacked (take 6 b)) (get_or b 6 0)) (address_refused 3)).refusal ≡ 0 → length b ≡ 7
    go true e r = eqb-true (length b) 7 e
    go false e r = absurd (omega arith)

-- ---- refusals

-- written: 15 where the callsign is out of range, and else 13 or nothing
pub out_of_range : (c : Callsign) (field : Field) (last : Bool) → in_range c ≡ false → (write_address c field last).refusal ≡ 15
unfolding write_address unwritten_by
out_of_range c field last e = rw e

packed_refusal : (cs : List ℕ) (s : ℕ) → ((packed_as cs s).refusal ≡ 0) ⊎ ((packed_as cs s).refusal ≡ 13)
unfolding packed_as unwritten_by
packed_refusal cs s = go (ltb 6 (length cs)) (every is_letter_or_digit cs)
  where
    go : (p q : Bool)
        → ((cond p (unwritten_by 13) (cond (not q) (unwritten_by 13) (record { refusal = 0; bytes = map sent cs ++ replicate (6 - length cs) 64 ++ s ∷ [] }))).refusal ≡ 0)
        ⊎ ((cond p (unwritten_by 13) (cond (not q) (unwritten_by 13) (record { refusal = 0; bytes = map sent cs ++ replicate (6 - length cs) 64 ++ s ∷ [] }))).refusal ≡ 13)
    go true q = inr refl
    go false true = inl refl
    go false false = inr refl

number_refusal : (cs : List ℕ) (m : Result ℕ CountError) (field : Field) (last : Bool) → ((packed_by cs m field last).refusal ≡ 0) ⊎ ((packed_by cs m field last).refusal ≡ 13)
unfolding packed_by unwritten_by
number_refusal cs (Ok n) field last = packed_refusal cs (seventh_of field n last)
number_refusal cs (Err e) field last = inr refl

pub within_range : (c : Callsign) (field : Field) (last : Bool) → in_range c ≡ true → ((write_address c field last).refusal ≡ 0) ⊎ ((write_address c field last).refusal ≡ 13)
unfolding write_address
within_range c field last e = rw e (number_refusal (call_part c) (ssid_number (ssid_part c)) field last)

-- read: 3 or nothing
pub address_refusal : (s : List ℕ) → ((read_address s).refusal ≡ 0 → ⊥) → (read_address s).refusal ≡ 3
unfolding read_address address_refused address_of
address_refusal s = go (eqb (length s) 7) (unpacked (take 6 s))
  where
    go : (b : Bool) (u : Option (List ℕ)) → ((cond b (address_of u (get_or s 6 0)) (address_refused 3)).refusal ≡ 0 → ⊥) → (cond b (address_of u (get_or s 6 0)) (address_refused 3)).refusal ≡ 3
    go true None z = refl
    go true (Some cs) z = absurd (z refl)
    go false u z = refl

-- ---- what is read is in range

-- a call that is unpacked is short and ASCII
Plain : ℕ → Option (List ℕ) → Type 0
Plain n None = T true
Plain n (Some cs) = (length cs ≤ n) × (every ascii cs ≡ true)

plain : (bs : List ℕ) → Plain (length bs) (unpacked bs)
unfolding Plain unpacked onto every
plain [] = (omega arith, refl)
plain (b ∷ bs) = go (last_of b) (eqb (b / 2) space) (are_spaces bs) (is_letter_or_digit (b / 2)) refl (unpacked bs) (plain bs)
  where
    go : (p q s r : Bool) → is_letter_or_digit (b / 2) ≡ r → (u : Option (List ℕ)) → Plain (length bs) u
        → Plain (suc (length bs)) (cond p None (cond q (cond s (Some []) None) (cond r (onto (raised (b / 2)) u) None)))
    go true q s r e u h = tt
    go false true true r e u h = (omega arith, refl)
    go false true false r e u h = tt
    go false false s true e None h = tt
    go false false s true e (Some cs) h = (omega (arith, h.0), rw (lt-ltb (raised (b / 2)) 0x80 (raises (b / 2) e).ascii) h.1)
    go false false s false e u h = tt

-- an SSID's text: computed at each number
fit : ℕ → Bool
unfolding ssid_text
fit n = every ascii (ssid_text n) && not (is_zero (ssid_text n)) && leb (length (ssid_text n)) 2

fits : T (all 16 fit)
unfolding fit ssid_text every is_zero
fits = tt

record Fit (n : ℕ) : Type 0 where
  plain_text : every ascii (ssid_text n) ≡ true
  nonzero : is_zero (ssid_text n) ≡ false
  short : length (ssid_text n) ≤ 2

fit_at : (n : ℕ) → n < 16 → Fit n
unfolding fit
fit_at n h = go (every ascii (ssid_text n)) (is_zero (ssid_text n)) (leb (length (ssid_text n)) 2) refl refl refl (all_at 16 fit fits n h)
  where
    go : (x y z : Bool) → every ascii (ssid_text n) ≡ x → is_zero (ssid_text n) ≡ y → leb (length (ssid_text n)) 2 ≡ z → T (x && not y && z) → Fit n
    go true false true a b c t = record { plain_text = a; nonzero = b; short = leb-true (length (ssid_text n)) 2 c }
    go true false false a b c t = absurd t
    go true true z a b c t = absurd t
    go false y z a b c t = absurd t

joined_short : (a b : List ℕ) → length a ≤ 6 → length b ≤ 2 → length (joined a b) ≤ 16
unfolding joined
joined_short a [] h k = omega arith
joined_short a (x ∷ b) h k = omega (arith, length-append a (dash ∷ x ∷ b))

unpacked_range : (u : Option (List ℕ)) (s : ℕ) → Plain 6 u → in_range (address_of u s).call ≡ true
unfolding Plain address_of address_refused ssid_of
unpacked_range None s h = blank_range
unpacked_range (Some cs) s h =
    let f = fit_at (s / 2 % 16) (omega arith) in
    made_range cs (ssid_text (s / 2 % 16)) (joined_short cs _ h.0 f.short) (ascii_utf8 cs h.1) (ascii_utf8 _ f.plain_text) f.nonzero

plain_six : (b : List ℕ) → length b ≡ 7 → Plain 6 (unpacked (take 6 b))
plain_six b h = rw (sixth) at (plain (take 6 b))
  where
    sixth : length (take 6 b) ≡ 6
    sixth = length-take-le 6 b (omega arith)

-- whatever read_address gives
pub address_range : (b : List ℕ) → in_range (read_address b).call ≡ true
unfolding read_address address_refused
address_range b = go (eqb (length b) 7) refl
  where
    go : (p : Bool) → eqb (length b) 7 ≡ p → in_range (cond p (address_of (unpacked (take 6 b)) (get_or b 6 0)) (address_refused 3)).call ≡ true
    go true e = unpacked_range (unpacked (take 6 b)) (get_or b 6 0) (plain_six b (eqb-true (length b) 7 e))
    go false e = blank_range
