-- Laws of a callsign made of a call and an SSID: its parts come out again, and when it is in range.
-- Assumes nothing.
use Rattle.std.proofs.Common.{◌≡◌, ℕ, zero, suc, ◌+◌, ◌-◌, ◌≤◌, true, false, List, [], ◌∷◌, ◌++◌, length, get_or, take, drop, replicate, sym, refl, ap, ◌∙◌, append_assoc, arith, length-append, eq-eqb}
use lib.Seq.{take-append_seam, drop-append_seam, get_or-append_seam}
use Rattle.laws.specs.Bytes.{dash}
use Rattle.laws.specs.Lists.{pad_to, zeros}
use Rattle.callsign.specs.Utf8.{utf8}
use Rattle.callsign.specs.Text.{joined, made, blank_call, is_zero}
use Rattle.callsign.specs.Range.{call_part, ssid_part, text_len, is_dashed, in_range, text_of}
use Rattle.callsign.proofs.Ranges.{bare_length, full_length, full_dashed, bare_dashed, to_range, utf8_none, zero_none}

zeros_replicate : (n : ℕ) → zeros (replicate n 0) ≡ true
unfolding zeros
zeros_replicate zero = refl
zeros_replicate (suc n) = zeros_replicate n

padded_spare : (l : List ℕ) → zeros (drop (length l) (pad_to 16 0 l)) ≡ true
unfolding pad_to
padded_spare l = ap zeros (drop-append_seam l (replicate (16 - length l) 0)) ∙ zeros_replicate (16 - length l)

pub made_call : (a b : List ℕ) → call_part (made a b) ≡ a
unfolding call_part made joined pad_to
made_call a [] = take-append_seam a (replicate (16 - length a) 0)
made_call a (x ∷ b) =
    ap (take (length a)) (append_assoc a (dash ∷ x ∷ b) (replicate (16 - length (a ++ dash ∷ x ∷ b)) 0)) ∙ take-append_seam a _

pub made_ssid : (a b : List ℕ) → ssid_part (made a b) ≡ b
unfolding ssid_part made joined pad_to
made_ssid a [] = refl
made_ssid a (x ∷ b) =
    let z : List ℕ = replicate (16 - length (a ++ dash ∷ x ∷ b)) 0 in
    ap (take (length (x ∷ b))) (ap (λ (n : ℕ). drop n ((a ++ dash ∷ x ∷ b) ++ z)) (sym (one_more a)) ∙ ap (drop (length (a ++ dash ∷ []))) (regroup a (x ∷ b) z) ∙ drop-append_seam (a ++ dash ∷ []) ((x ∷ b) ++ z))
    ∙ take-append_seam (x ∷ b) z
  where
    one_more : (a : List ℕ) → length (a ++ dash ∷ []) ≡ length a + 1
    one_more a = length-append a (dash ∷ [])

    regroup : (a b z : List ℕ) → (a ++ dash ∷ b) ++ z ≡ (a ++ dash ∷ []) ++ (b ++ z)
    regroup a b z = append_assoc a (dash ∷ b) z ∙ sym (append_assoc a (dash ∷ []) (b ++ z))

pub made_written : (a b : List ℕ) → text_of (made a b) ≡ joined a b
unfolding text_of
made_written a b = ap (λ (l : List ℕ). joined l (ssid_part (made a b))) (made_call a b) ∙ ap (joined a) (made_ssid a b)

pub made_length : (a b : List ℕ) → text_len (made a b) ≡ length (joined a b)
unfolding made joined
made_length a [] = bare_length (made a []) refl
made_length a (x ∷ b) = full_length (made a (x ∷ b)) (λ e. omega arith) ∙ sum ∙ sym (length-append a (dash ∷ x ∷ b))
  where
    sum : length a + 1 + length (x ∷ b) ≡ length a + length (dash ∷ x ∷ b)
    sum = omega arith

at_dash : (a b : List ℕ) → get_or (pad_to 16 0 (a ++ dash ∷ b)) (length a) 0 ≡ dash
unfolding pad_to
at_dash a b =
    let z : List ℕ = replicate (16 - length (a ++ dash ∷ b)) 0 in
    ap (λ (l : List ℕ). get_or l (length a) 0) (append_assoc a (dash ∷ b) z) ∙ get_or-append_seam a dash (b ++ z) 0

made_dashed : (a b : List ℕ) → is_dashed (made a b) ≡ true
unfolding made joined
made_dashed a [] = bare_dashed (made a []) refl
made_dashed a (x ∷ b) = full_dashed (made a (x ∷ b)) (λ e. omega arith) ∙ eq-eqb _ dash (at_dash a (x ∷ b))

made_spare : (a b : List ℕ) → zeros (drop (text_len (made a b)) (pad_to 16 0 (joined a b))) ≡ true
made_spare a b = ap (λ (n : ℕ). zeros (drop n (pad_to 16 0 (joined a b)))) (made_length a b) ∙ padded_spare (joined a b)

-- what is made of a call and an SSID that may be there is in range
pub made_range : (a b : List ℕ) → length (joined a b) ≤ 16 → utf8 a ≡ true → utf8 b ≡ true → is_zero b ≡ false → in_range (made a b) ≡ true
unfolding made
made_range a b h u v z = to_range (made a b) (record {
  size = omega (arith, made_length a b);
  call = ap utf8 (made_call a b) ∙ u;
  ssid = ap utf8 (made_ssid a b) ∙ v;
  nonzero = ap is_zero (made_ssid a b) ∙ z;
  dashed = made_dashed a b;
  spare = made_spare a b;
})

pub blank_range : in_range blank_call ≡ true
unfolding blank_call joined
blank_range = made_range [] [] (omega arith) utf8_none utf8_none zero_none
