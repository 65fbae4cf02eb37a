-- A callsign that was read, written and read again: the same one, but for its mark, if its text does not end in a star (`X**` is read
-- as `X*`, starred).
-- Assumes nothing.
use Rattle.std.proofs.Common.{◌≡◌, ℕ, suc, ◌-◌, ◌≤◌, Bool, true, false, cond, not, eqb, ltb, List, [], ◌∷◌, ◌++◌, length, get_or, take, drop, sym, refl, ap, ◌∙◌, arith, length-append, take_at, le-ltb, eq-eqb}
use lib.Seq.{get_or_at}
use Rattle.laws.specs.Bytes.{star, dash, digit0}
use Rattle.laws.specs.Lists.{index_of}
use Rattle.callsign.specs.declared.CallRead.{CallRead}
use Rattle.callsign.specs.Utf8.{utf8}
use Rattle.callsign.specs.Text.{made, marked_as, is_zero, call_refused, call_accepted, parted, read_unstarred, read_text}
use Rattle.callsign.specs.Range.{text_of, with_star}
use Rattle.callsign.proofs.Ranges.{joined_full}
use Rattle.callsign.proofs.Made.{made_written}
use Rattle.callsign.proofs.Marks.{mark_in_text, unmarked_call, unmarked_made}
use Rattle.callsign.proofs.TextBack.{Seen, refused, bare, zeroed, full, seen, sides, bare_written}

-- ---- a text without its star

-- the star is reported, and changes nothing else
star_apart : (t : List ℕ) (starred b : Bool) → (read_unstarred t starred).refusal ≡ 0 → read_unstarred t b ≡ call_accepted (read_unstarred t starred).call b
unfolding read_unstarred parted call_refused call_accepted
star_apart t starred b = go (ltb 16 (length t)) (utf8 t) (eqb (index_of dash t) (length t)) (eqb (length call) 0) (eqb (length ssid) 0) (is_zero ssid)
  where
    call : List ℕ
    call = take (index_of dash t) t

    ssid : List ℕ
    ssid = drop (suc (index_of dash t)) t

    read : Bool → Bool → Bool → Bool → Bool → Bool → Bool → CallRead
    read p q d x y z b =
        cond p (call_refused 4)
        (cond (not q) (call_refused 3)
        (cond d (call_accepted (made t []) b)
        (cond x (call_refused 3) (cond y (call_refused 3) (cond z (call_accepted (marked_as true (made call [])) b) (call_accepted (made call ssid) b))))))

    go : (p q d x y z : Bool) → (read p q d x y z starred).refusal ≡ 0 → read p q d x y z b ≡ call_accepted (read p q d x y z starred).call b
    go true q d x y z e = absurd (omega arith)
    go false false d x y z e = absurd (omega arith)
    go false true true x y z e = refl
    go false true false true y z e = absurd (omega arith)
    go false true false false true z e = absurd (omega arith)
    go false true false false false true e = refl
    go false true false false false false e = refl

-- a text without a dash
all_call : (t : List ℕ) (b : Bool) → index_of dash t ≡ length t → length t ≤ 16 → utf8 t ≡ true → read_unstarred t b ≡ call_accepted (made t []) b
unfolding read_unstarred
all_call t b d h v = rw (le-ltb 16 (length t) h, v, eq-eqb (index_of dash t) (length t) d)

seen_again : (t : List ℕ) (starred : Bool) (r : CallRead) → Seen t starred r → r ≡ read_unstarred t starred → r.refusal ≡ 0 → (b : Bool)
    → read_unstarred (text_of r.call) b ≡ call_accepted (unmarked_call r.call) b
unfolding call_refused call_accepted
seen_again t starred r (refused n h m) e z b = absurd (omega arith)
seen_again t starred r (bare h v) e z b = rw (bare_written t, unmarked_made t []) (star_apart t starred b (sym (ap (λ (x : CallRead). x.refusal) e)) ∙ ap (λ (x : CallRead). call_accepted x.call b) (sym e))
seen_again t starred r (zeroed a e first h v) q z b =
    rw (mark_in_text true (made a []), bare_written a) (all_call a b first (omega (arith, ap length e, length-append a (dash ∷ digit0 ∷ []))) (sides t a (digit0 ∷ []) e v).0 ∙ unfold marked_as made in refl)
seen_again t starred r (full a c e k n h v) q z b =
    let w : text_of (made a c) ≡ t = made_written a c ∙ joined_full a c k ∙ sym e in
    rw (w, unmarked_made a c) (star_apart t starred b (sym (ap (λ (x : CallRead). x.refusal) q)) ∙ ap (λ (x : CallRead). call_accepted x.call b) (sym q))

-- ---- a text

unfoldable pub ends_in_star : List ℕ → Bool
ends_in_star t = eqb (get_or t (length t - 1) 0) star

read_starred : (t : List ℕ) → read_text (t ++ star ∷ []) ≡ read_unstarred t true
unfolding read_text
read_starred t =
    let n : length (t ++ star ∷ []) - 1 ≡ length t = omega (arith, length-append t (star ∷ [])) in
    rw (n, get_or_at t star [] 0 (length t) refl, take_at t (star ∷ []) (length t) refl)

read_unstarred_lem : (t : List ℕ) → ends_in_star t ≡ false → read_text t ≡ read_unstarred t false
unfolding read_text ends_in_star
read_unstarred_lem t e = rw e

read_again : (t : List ℕ) (b : Bool) → ends_in_star t ≡ false → read_text (with_star t b) ≡ read_unstarred t b
unfolding with_star
read_again t true e = read_starred t
read_again t false e = read_unstarred_lem t e

pub text_again : (s : List ℕ) → (read_text s).refusal ≡ 0 → ends_in_star (text_of (read_text s).call) ≡ false → (b : Bool)
    → read_text (with_star (text_of (read_text s).call) b) ≡ call_accepted (unmarked_call (read_text s).call) b
unfolding read_text
text_again s = go (eqb (get_or s (length s - 1) 0) star)
  where
    one : (t : List ℕ) (starred : Bool) → (read_unstarred t starred).refusal ≡ 0 → ends_in_star (text_of (read_unstarred t starred).call) ≡ false → (b : Bool)
        → read_text (with_star (text_of (read_unstarred t starred).call) b) ≡ call_accepted (unmarked_call (read_unstarred t starred).call) b
    one t starred z e b = read_again (text_of (read_unstarred t starred).call) b e ∙ seen_again t starred _ (seen t starred) refl z b

    go : (p : Bool) → (cond p (read_unstarred (take (length s - 1) s) true) (read_unstarred s false)).refusal ≡ 0
        → ends_in_star (text_of (cond p (read_unstarred (take (length s - 1) s) true) (read_unstarred s false)).call) ≡ false → (b : Bool)
        → read_text (with_star (text_of (cond p (read_unstarred (take (length s - 1) s) true) (read_unstarred s false)).call) b)
        ≡ call_accepted (unmarked_call (cond p (read_unstarred (take (length s - 1) s) true) (read_unstarred s false)).call) b
    go true = one (take (length s - 1) s) true
    go false = one s false
