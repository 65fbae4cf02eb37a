-- The mark of a dropped `0` (document 02, R-2): a text sets it exactly where its SSID is `0`, nothing that judges or writes a callsign
-- looks at it ("Writers ignore it"), and no address sets it ("In frames it is never set").
-- Assumes nothing.
use Rattle.std.proofs.Common.{◌≡◌, ℕ, suc, ◌-◌, Bool, true, false, cond, not, eqb, ltb, List, [], length, get_or, take, drop, refl, arith, drop_of_length-le, eqb-true, Option, Some, None}
use Rattle.laws.specs.Bytes.{star, dash}
use Rattle.laws.specs.Lists.{index_of}
use Rattle.callsign.specs.declared.Callsign.{Callsign}
use Rattle.callsign.specs.declared.Field.{Field}
use Rattle.callsign.specs.Utf8.{utf8}
use Rattle.callsign.specs.Text.{made, marked_as, blank_call, is_zero, call_refused, call_accepted, parted, read_unstarred, read_text}
use Rattle.callsign.specs.Range.{call_part, ssid_part, text_len, is_dashed, in_range, is_blank_call, text_of}
use Rattle.callsign.specs.Address.{ssid_of, unpacked, ssid_text, address_refused, address_of, read_address}
use Rattle.callsign.specs.Packed.{write_address}

module _ (zero : Bool) (c : Callsign) where
  pub mark_in_range : in_range (marked_as zero c) ≡ in_range c
  unfolding marked_as in_range call_part ssid_part text_len is_dashed
  mark_in_range = refl

  pub mark_of_blank : is_blank_call (marked_as zero c) ≡ is_blank_call c
  unfolding marked_as is_blank_call
  mark_of_blank = refl

  pub mark_in_text : text_of (marked_as zero c) ≡ text_of c
  unfolding marked_as text_of call_part ssid_part
  mark_in_text = refl

  pub mark_in_address : (field : Field) (last : Bool) → write_address (marked_as zero c) field last ≡ write_address c field last
  unfolding marked_as write_address in_range call_part ssid_part text_len is_dashed
  mark_in_address field last = refl

-- a callsign without its mark
abbrev pub unmarked_call : Callsign → Callsign
unmarked_call c = marked_as false c

pub unmarked_made : (a b : List ℕ) → unmarked_call (made a b) ≡ made a b
unfolding marked_as made
unmarked_made a b = refl

pub unmarked_address : (b : List ℕ) → unmarked_call (read_address b).call ≡ (read_address b).call
unfolding read_address address_refused address_of blank_call
unmarked_address b = go (eqb (length b) 7) (unpacked (take 6 b))
  where
    go : (p : Bool) (u : Option (List ℕ)) → unmarked_call (cond p (address_of u (get_or b 6 0)) (address_refused 3)).call ≡ (cond p (address_of u (get_or b 6 0)) (address_refused 3)).call
    go true (Some cs) = unmarked_made cs (ssid_text (ssid_of (get_or b 6 0)))
    go true None = unmarked_made [] []
    go false u = unmarked_made [] []

-- ---- a text

-- what stands behind the first dash of a text, its star off; nothing where there is none
unfoldable pub typed_ssid : List ℕ → List ℕ
typed_ssid t = drop (suc (index_of dash t)) t

-- a text without its star
unfoldable pub star_off : List ℕ → List ℕ
star_off s = cond (eqb (get_or s (length s - 1) 0) star) (take (length s - 1) s) s

parted_mark : (a b : List ℕ) (starred : Bool) → (parted a b starred).refusal ≡ 0 → (parted a b starred).call.had_zero_ssid ≡ is_zero b
unfolding parted call_refused call_accepted made marked_as
parted_mark a b starred = go (eqb (length a) 0) (eqb (length b) 0) (is_zero b)
  where
    go : (p q z : Bool) → (cond p (call_refused 3) (cond q (call_refused 3) (cond z (call_accepted (marked_as true (made a [])) starred) (call_accepted (made a b) starred)))).refusal ≡ 0
        → (cond p (call_refused 3) (cond q (call_refused 3) (cond z (call_accepted (marked_as true (made a [])) starred) (call_accepted (made a b) starred)))).call.had_zero_ssid ≡ z
    go true q z e = absurd (omega arith)
    go false true z e = absurd (omega arith)
    go false false true e = refl
    go false false false e = refl

unstarred_mark : (t : List ℕ) (starred : Bool) → (read_unstarred t starred).refusal ≡ 0 → (read_unstarred t starred).call.had_zero_ssid ≡ is_zero (typed_ssid t)
unfolding read_unstarred call_refused call_accepted made typed_ssid is_zero
unstarred_mark t starred = go (ltb 16 (length t)) (utf8 t) (eqb (index_of dash t) (length t)) refl
  where
    go : (p q d : Bool) → eqb (index_of dash t) (length t) ≡ d
        → (cond p (call_refused 4) (cond (not q) (call_refused 3) (cond d (call_accepted (made t []) starred) (parted (take (index_of dash t) t) (drop (suc (index_of dash t)) t) starred)))).refusal ≡ 0
        → (cond p (call_refused 4) (cond (not q) (call_refused 3) (cond d (call_accepted (made t []) starred) (parted (take (index_of dash t) t) (drop (suc (index_of dash t)) t) starred)))).call.had_zero_ssid
        ≡ is_zero (drop (suc (index_of dash t)) t)
    go true q d f e = absurd (omega arith)
    go false false d f e = absurd (omega arith)
    go false true true f e = let n = eqb-true (index_of dash t) (length t) f in rw (drop_of_length-le t {i = suc (index_of dash t)} (omega arith))
    go false true false f e = parted_mark (take (index_of dash t) t) (drop (suc (index_of dash t)) t) starred e

pub text_mark : (s : List ℕ) → (read_text s).refusal ≡ 0 → (read_text s).call.had_zero_ssid ≡ is_zero (typed_ssid (star_off s))
unfolding read_text star_off
text_mark s = go (eqb (get_or s (length s - 1) 0) star)
  where
    go : (p : Bool) → (cond p (read_unstarred (take (length s - 1) s) true) (read_unstarred s false)).refusal ≡ 0
        → (cond p (read_unstarred (take (length s - 1) s) true) (read_unstarred s false)).call.had_zero_ssid ≡ is_zero (typed_ssid (cond p (take (length s - 1) s) s))
    go true e = unstarred_mark (take (length s - 1) s) true e
    go false e = unstarred_mark s false e
