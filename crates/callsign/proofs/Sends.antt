-- Laws of an address written: one character more, the seventh byte, and the range in front.
-- Assumes nothing.
use Rattle.std.proofs.Common.{◌≡◌, ℕ, suc, ◌+◌, ◌-◌, ◌*◌, ◌%◌, ◌<◌, ◌≤◌, Bool, true, false, not, ◌&&◌, ◌||◌, T, eqb, ltb, List, [], ◌∷◌, ◌++◌, map, length, get_or, take, drop, set, replicate, sym, refl, ap, ◌∙◌, append_assoc, add-one, arith, length-append, length-set, length-take-le, take_all, take-suc, w8, Fits, ltb-false, ltb-true, le-ltb, lt-ltb, eqb-true, Result, Ok, Err}
use mathlib.Core.Bool.{and-false, false≢true}
use mathlib.Core.List.{map-append}
use borrow.Author.Tests.{lt-leb, not-true, not-false}
use lib.ListN.{length-map, length-replicate, replicate-append-replicate}
use lib.Seq.{split_at, append_snoc, set_at}
use Rattle.laws.specs.Bytes.{space, within, is_letter_or_digit, raised}
use Rattle.laws.specs.Lists.{every}
use Rattle.laws.proofs.Lists.{part_length}
use Rattle.laws.proofs.Each.{every_snoc, every_fails}
use Rattle.laws.proofs.Every.{all, all_at}
use Rattle.callsign.specs.declared.AddressWritten.{AddressWritten}
use Rattle.callsign.specs.declared.Callsign.{Callsign}
use Rattle.callsign.specs.declared.Field.{Field}
use Rattle.numbers.specs.declared.CountError.{CountError}
use Rattle.callsign.specs.Range.{in_range, call_part, ssid_part}
use Rattle.callsign.specs.Packed.{sent, ssid_number, seventh_of, unwritten_by, packed_as, packed_by, write_address}
use Rattle.callsign.proofs.Ranges.{bare_ssid, length_over, from_range, found_in_range}
use Rattle.callsign.proofs.Numbers.{ssid_small}

-- ---- a letter or digit, raised: computed at each byte

is_byte : (c : ℕ) → is_letter_or_digit c ≡ true → c < 256
unfolding within
is_byte c e = go (ltb c 256) refl
  where
    go : (b : Bool) → ltb c 256 ≡ b → c < 256
    go true h = ltb-true c 256 h
    go false h =
        let p : 256 ≤ c = ltb-false c 256 h in
        let z : is_letter_or_digit c ≡ false = simp (lt-leb c 57 (omega arith), lt-leb c 90 (omega arith), lt-leb c 122 (omega arith), and-false) in
        absurd (false≢true (sym z ∙ e))

pub record Raised (c : ℕ) : Type 0 where
  pub again : is_letter_or_digit (raised c) ≡ true
  pub no_space : eqb (raised c) space ≡ false
  pub settled : raised (raised c) ≡ raised c
  pub ascii : raised c < 0x80

fine : ℕ → Bool
unfolding raised within
fine c = not (is_letter_or_digit c) || (is_letter_or_digit (raised c) && not (eqb (raised c) space) && eqb (raised (raised c)) (raised c) && ltb (raised c) 0x80)

tested : T (all 256 fine)
unfolding fine raised within
tested = tt

pub raises : (c : ℕ) → is_letter_or_digit c ≡ true → Raised c
unfolding fine
raises c e =
    go (is_letter_or_digit c) (is_letter_or_digit (raised c)) (eqb (raised c) space) (eqb (raised (raised c)) (raised c)) (ltb (raised c) 0x80)
    (all_at 256 fine tested c (is_byte c e)) e refl refl refl refl
  where
    go : (x y z w v : Bool) → T (not x || (y && not z && w && v)) → x ≡ true → is_letter_or_digit (raised c) ≡ y → eqb (raised c) space ≡ z → eqb (raised (raised c)) (raised c) ≡ w
        → ltb (raised c) 0x80 ≡ v → Raised c
    go true true false true true t h a b d f = record { again = a; no_space = b; settled = eqb-true _ _ d; ascii = ltb-true _ _ f }
    go true true false true false t h a b d f = absurd t
    go true true false false v t h a b d f = absurd t
    go true true true w v t h a b d f = absurd t
    go true false z w v t h a b d f = absurd t
    go false y z w v t h a b d f = absurd (false≢true h)

shifted : (d u : ℕ) → is_letter_or_digit d ≡ true → u ≡ raised d → u * 2 % 256 ≡ sent d
unfolding sent
shifted d u e q = let n = (raises d e).ascii in omega arith

-- ---- a loop's state: i characters are sent, and spaces stand behind them

-- the characters of a call and the spaces behind them are six bytes
pub six_sent : (cs : List ℕ) → length cs ≤ 6 → length (map sent cs ++ replicate (6 - length cs) 64) ≡ 6
six_sent cs h = rw (length-append, length-map, length-replicate) (omega arith)

pub record Sent (cs bytes : List ℕ) (i : ℕ) : Type 0 where
  pub short : length cs ≤ 6
  pub inside : i ≤ length cs
  pub seven : length bytes ≡ 7
  pub good : every is_letter_or_digit (take i cs) ≡ true
  pub is : bytes ≡ map sent (take i cs) ++ replicate (7 - i) 64

pub start : (cs : List ℕ) → length cs ≤ 6 → Sent cs (replicate 7 64) 0
unfolding every
start cs h = record { short = h; inside = omega arith; seven = refl; good = refl; is = refl }

module _ (cs bytes : List ℕ) (i : ℕ) (so : Sent cs bytes i) where
  front : length (map sent (take i cs)) ≡ i
  front = length-map (take i cs) sent ∙ length-take-le i cs so.inside

  module _ (more : i < length cs) where
    pub goes : (v : ℕ) → is_letter_or_digit (get_or cs i 0) ≡ true → v ≡ sent (get_or cs i 0) → Sent cs (set bytes i v) (i + 1)
    goes v e ev =
        let d = get_or cs i 0 in
        let n : take (i + 1) cs ≡ take i cs ++ (d ∷ []) = ap (λ (k : ℕ). take k cs) (add-one i) ∙ take-suc cs i 0 more in
        let q : 7 - i ≡ suc (7 - (i + 1)) = omega (arith, so.short) in
        let rest : List ℕ = replicate (7 - (i + 1)) 64 in
        let p : List ℕ = map sent (take i cs) in
        let b : bytes ≡ p ++ 64 ∷ rest = so.is ∙ ap (λ (k : ℕ). p ++ replicate k 64) q in
        record {
          short = so.short;
          inside = omega arith;
          seven = length-set bytes i v ∙ so.seven;
          good = ap (every is_letter_or_digit) n ∙ every_snoc is_letter_or_digit (take i cs) d so.good e;
          is = ap (λ (l : List ℕ). set l i v) b ∙ set_at p 64 rest v i front ∙ ap (λ (w : ℕ). p ++ w ∷ rest) ev
              ∙ sym (append_snoc p (sent d) rest) ∙ ap (λ (l : List ℕ). l ++ rest) (sym (ap (map sent) n ∙ map-append sent (take i cs) (d ∷ [])));
        }

    bad : is_letter_or_digit (get_or cs i 0) ≡ false → every is_letter_or_digit cs ≡ false
    bad e = ap (every is_letter_or_digit) (split_at cs i 0 more) ∙ every_fails is_letter_or_digit (take i cs) (get_or cs i 0) (drop (suc i) cs) e

    -- as the code's tests leave it
    pub sends : (l : Bool) (u : ℕ) → l ≡ is_letter_or_digit (get_or cs i 0) → not l ≡ false → u ≡ raised (get_or cs i 0) → Sent cs (set bytes i (u * 2 % 256)) (i + 1)
    sends l u q n r =
        let e : is_letter_or_digit (get_or cs i 0) ≡ true = sym q ∙ not-false l n in
        goes (u * 2 % 256) e (shifted (get_or cs i 0) u e r)

    pub not_sent : (r : AddressWritten) (s : ℕ) (l : Bool) → l ≡ is_letter_or_digit (get_or cs i 0) → not l ≡ true → r ≡ unwritten_by 13 → r ≡ packed_as cs s
    unfolding packed_as
    not_sent r s l q n w = w ∙ sym (rw (le-ltb 6 (length cs) so.short, bad (sym q ∙ not-true l n)))

  module _ (over : length cs ≤ i) where
    all_good : every is_letter_or_digit cs ≡ true
    all_good = ap (every is_letter_or_digit) (sym (take_all i cs over)) ∙ so.good

    closed : (v : ℕ) → set bytes 6 v ≡ map sent cs ++ replicate (6 - length cs) 64 ++ v ∷ []
    closed v =
        let p : List ℕ = map sent cs in
        let r : List ℕ = replicate (6 - length cs) 64 in
        let q : 7 - i ≡ (6 - length cs) + 1 = omega (arith, so.short, so.inside) in
        let z : bytes ≡ (p ++ r) ++ 64 ∷ [] = so.is ∙ ap (λ (l : List ℕ). map sent l ++ replicate (7 - i) 64) (take_all i cs over)
        ∙ ap (λ (k : ℕ). p ++ replicate k 64) q ∙ ap (λ (l : List ℕ). p ++ l) (sym (replicate-append-replicate (6 - length cs) 1 64)) ∙ sym (append_assoc p r (64 ∷ [])) in
        ap (λ (l : List ℕ). set l 6 v) z ∙ set_at (p ++ r) 64 [] v 6 (six_sent cs so.short)

    pub all_sent : (s : ℕ) → record { refusal = 0; bytes = set bytes 6 s } ≡ packed_as cs s
    unfolding packed_as
    all_sent s = ap (λ (l : List ℕ). record { refusal = 0; bytes = l }) (closed s) ∙ sym (rw (le-ltb 6 (length cs) so.short, all_good))

pub too_long : (r : AddressWritten) (cs : List ℕ) (s : ℕ) → 6 < length cs → r ≡ unwritten_by 13 → r ≡ packed_as cs s
unfolding packed_as
too_long r cs s h e = e ∙ sym (rw (lt-ltb 6 (length cs) h))

-- ---- the range in front, and the SSID's number

module _ (c : Callsign) (u : Bool) (e : u ≡ in_range c) where
  pub range_refuses : (r : AddressWritten) (field : Field) (last : Bool) → not u ≡ true → r ≡ unwritten_by 15 → r ≡ write_address c field last
  unfolding write_address
  range_refuses r field last n q = q ∙ sym (rw (← e, n))

  module _ (n : not u ≡ false) (long : length c.text ≡ 16) where
    in_range_lem : in_range c ≡ true
    in_range_lem = found_in_range c u e n

    pub call_room : c.call_len ≤ length c.text
    call_room = omega (arith, length_over c, (from_range c in_range_lem).size)

    pub call_fits : c.call_len ≤ 16
    call_fits = omega (arith, length_over c, (from_range c in_range_lem).size)

    pub call_size : c.call_len ≡ length (take c.call_len c.text)
    call_size = part_length c.text c.call_len call_room

    module _ (r : AddressWritten) (field : Field) (last : Bool) where
      by_number : (m : Result ℕ CountError) → m ≡ ssid_number (ssid_part c) → r ≡ packed_by (call_part c) m field last → r ≡ write_address c field last
      unfolding write_address
      by_number m f q = q ∙ sym (rw (in_range_lem, ← f))

      pub bare_sent : (s : ℕ) → c.ssid_len ≡ 0 → s ≡ seventh_of field 0 last → r ≡ packed_as (take c.call_len c.text) s → r ≡ write_address c field last
      unfolding packed_by call_part ssid_number
      bare_sent s k f q = by_number (Ok 0) (sym (ap ssid_number (bare_ssid c k))) (q ∙ ap (packed_as (take c.call_len c.text)) f)

      module _ (m : Result ℕ CountError) (f : m ≡ ssid_number (take (c.call_len + 1 + c.ssid_len - (c.call_len + 1)) (drop (c.call_len + 1) c.text))) where
        number_is : m ≡ ssid_number (ssid_part c)
        unfolding ssid_part
        number_is =
            let n = c.call_len in
            let k = c.ssid_len in
            let w : n + 1 + k - (n + 1) ≡ k = omega arith in
            f ∙ ap (λ (j : ℕ). ssid_number (take j (drop (n + 1) c.text))) w

        pub none_sent : (e : CountError) → m ≡ Err e → r ≡ unwritten_by 13 → r ≡ write_address c field last
        unfolding packed_by
        none_sent e g q = by_number m number_is (rw g q)

        pub fit_small : (v : ℕ) → m ≡ Ok v → v < 16
        fit_small v g = let h : v ≤ 15 = ssid_small v (ssid_part c) (sym number_is ∙ g) in omega arith

        pub fit_byte : (v : ℕ) → m ≡ Ok v → Fits w8 v
        fit_byte v g = let h = fit_small v g in record { fits = omega arith }

        pub fit_sent : (v s : ℕ) → m ≡ Ok v → s ≡ seventh_of field v last → r ≡ packed_as (take c.call_len c.text) s → r ≡ write_address c field last
        unfolding packed_by call_part
        fit_sent v s g h q = by_number m number_is (rw g (q ∙ ap (packed_as (take c.call_len c.text)) h))
