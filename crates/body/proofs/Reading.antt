-- Where the parts of a body that is read stand in the input, for the sums and the slices of the code.
-- Assumes nothing.
use mathlib.Core.Path.{◌≡◌, refl, sym, ap, ◌∙◌}
use mathlib.Core.Logic.{◌⊎◌, ⊎_elim}
use mathlib.Core.Bool.{Bool, true, false, cond}
use mathlib.Core.List.{List}
use Rattle.std.specs.Prelude.{Option, Some, None, Result, Ok, Err}
use Prim.Native.Nat.{ℕ, ◌+◌, ◌-◌, ◌^◌, ◌<◌, ◌≤◌}
use mir.Val.{Fits}
use mir.Syntax.{w64}
use native.Mathlib.Omega.{arith}
use lib.Dec.{eqb, ltb}
use borrow.Author.Tests.{ltb-false}
use borrow.Author.Rules.{part_to_end}
use lib.ListN.{length, take, drop, length-take, length-drop}
use Rattle.callsign.specs.declared.Callsign.{Callsign}
use Rattle.callsign.specs.Range.{call_part}
use Rattle.time.specs.declared.Time.{Time}
use Rattle.time.specs.Time.{no_time, is_present, time_bytes, read_time, time_text}
use Rattle.time.proofs.Theorems.{present_seven_bytes}
use Rattle.position.specs.declared.PositionRead.{PositionRead}
use Rattle.position.specs.Position.{read_position_by}
use Rattle.position.proofs.Lengths.{position_long}
use Rattle.mic_e.specs.declared.Destination.{Destination}
use Rattle.mic_e.specs.declared.Information.{Information}
use Rattle.mic_e.specs.Destination.{read_destination}
use Rattle.mic_e.specs.Information.{read_information}
use Rattle.mic_e.proofs.Theorems.{information_long, not_six}
use Rattle.message.specs.declared.MessageRead.{MessageRead}
use Rattle.message.specs.Message.{read_message}
use Rattle.message.specs.Status.{read_status}
use Rattle.message.proofs.Theorems.{message_length, status_time_within}
use Rattle.body.specs.declared.TimeAt.{TimeAt}
use Rattle.body.specs.declared.TimeError.{TimeError}
use Rattle.body.specs.declared.TimeError.TheVariants.{Missing}
use Rattle.body.specs.Body.{time_behind, time_at}

-- ---- a position, behind what was found of its time

ok_within : (at n : ℕ) → at ≤ n → (t : Time) (x : TimeAt) → ◌≡◌ {A = Result TimeAt TimeError} (Ok (record { time = t; behind = at })) (Ok x) → x.behind ≤ n
ok_within at n h t x e = let f : record { time = t; behind = at } ≡ x = cc in rw (← f) h

-- a time that was found leaves a place in the input
behind_within : (s : List ℕ) (at : ℕ) (timed : Bool) → at ≤ length s → (x : TimeAt) → time_at s at timed ≡ Ok x → x.behind ≤ length s
unfolding time_at time_behind
behind_within s at false h x e = ok_within at (length s) h no_time x e
behind_within s at true h x e = go (ltb (length s - at) time_bytes) refl (read_time (take time_bytes (drop at s))) e
  where
    go : (b : Bool) → ltb (length s - at) time_bytes ≡ b → (r : Option Time) → cond b (Err Missing) (time_behind r (at + time_bytes)) ≡ Ok x → x.behind ≤ length s
    go true f r e = cc
    go false f (Some t) e = ok_within (at + time_bytes) (length s) (omega (arith, ltb-false (length s - at) time_bytes f)) t x e
    go false f None e = cc

module _ (s : List ℕ) (at : ℕ) (timed : Bool) (found : Result TimeAt TimeError) (q : found ≡ time_at s at timed) (x : TimeAt) (y : found ≡ Ok x) where
  pub start_within : at ≤ length s → x.behind ≤ length s
  start_within h = behind_within s at timed h x (sym q ∙ y)

  -- p is the place that stands behind it
  module _ (strict : Bool) (p : PositionRead) (o : p ≡ read_position_by strict (take (length s - x.behind) (drop x.behind s))) where
    position_is : p ≡ read_position_by strict (drop x.behind s)
    position_is = o ∙ ap (read_position_by strict) (part_to_end s x.behind)

    pub position_fits_lem : at ≤ length s → p.refusal ≡ 0 → x.behind + 19 ≤ length s
    position_fits_lem h z = omega (arith, start_within h, length-drop x.behind s, position_long strict (drop x.behind s) (ap (λ (v : PositionRead). v.refusal) (sym position_is) ∙ z))

    pub end_fits : at ≤ length s → p.refusal ≡ 0 → length s < 2 ^ 64 → Fits w64 (x.behind + 19)
    end_fits h z m = record { fits = omega (arith, position_fits_lem h z) }

-- ---- a Mic-E report

module _ (d : Destination) (s : List ℕ) (at : ℕ) (x : Option Information) (q : x ≡ read_information (take (length s - at) (drop at s)) d.hundred d.west) where
  information_is : x ≡ read_information (drop at s) d.hundred d.west
  information_is = q ∙ ap (λ (l : List ℕ). read_information l d.hundred d.west) (part_to_end s at)

  pub information_fits : (i : Information) → x ≡ Some i → at ≤ length s → at + 8 ≤ length s
  information_fits i z h = omega (arith, length-drop at s, information_long (drop at s) d.hundred d.west i (sym information_is ∙ z))

-- a call that is not six bytes long is refused
pub call_other : (to : Callsign) → length to.text ≡ 16 → (to.call_len ≡ 6 → ⊥) → None ≡ read_destination (call_part to)
unfolding call_part
call_other to f h = sym (not_six (take to.call_len to.text) (λ e. other e))
  where
    other : length (take to.call_len to.text) ≡ 6 → ⊥
    other e = omega (arith, length-take to.call_len to.text)

-- ---- a message

module _ (s : List ℕ) (at : ℕ) (m : MessageRead) (q : m ≡ read_message (take (length s - at) (drop at s))) (z : m.refusal ≡ 0) where
  message_is : m ≡ read_message (drop at s)
  message_is = q ∙ ap read_message (part_to_end s at)

  message_long : at ≤ length s → at + 10 + m.text + m.identifier ≤ length s
  message_long h =
      let l : (10 + m.text ≤ length (drop at s)) × ((m.identifier ≡ 0) ⊎ (10 + m.text + 1 + m.identifier ≤ length (drop at s))) =
      rw message_is (message_length (drop at s) (ap (λ (v : MessageRead). v.refusal) (sym message_is) ∙ z)) in
      ⊎_elim (λ none. omega (arith, l.0, length-drop at s)) (λ some. omega (arith, length-drop at s)) l.1

  pub text_ends : at ≤ length s → length s < 2 ^ 64 → Fits w64 (at + 10 + m.text)
  text_ends h n = record { fits = omega (arith, message_long h) }

  pub identifier_ends : at ≤ length s → length s < 2 ^ 64 → at + 10 + m.text + m.identifier < 2 ^ 64
  identifier_ends h n = omega (arith, message_long h)

-- ---- a status

pub text_length : (t : Time) → length (time_text t) ≡ cond (eqb t.form 0) 0 7
unfolding time_text is_present
text_length t = go (eqb t.form 0) refl
  where
    go : (none : Bool) → eqb t.form 0 ≡ none → length (time_text t) ≡ cond none 0 7
    go true e = rw e
    go false e = present_seven_bytes t (rw e)

module _ (s : List ℕ) (at : ℕ) (x : Option Time) (q : x ≡ read_status (take (length s - at) (drop at s))) (t : Time) (z : x ≡ Some t) where
  time_within : at ≤ length s → at + length (time_text t) ≤ length s
  time_within h =
      let read : read_status (drop at s) ≡ Some t = sym (q ∙ ap read_status (part_to_end s at)) ∙ z in
      omega (arith, length-drop at s, status_time_within (drop at s) t read)

  pub time_ends : at ≤ length s → length s < 2 ^ 64 → at + length (time_text t) < 2 ^ 64
  time_ends h n = omega (arith, time_within h)

  pub start_within_input : (start : ℕ) → start ≡ at + length (time_text t) → at ≤ length s → start ≤ length s
  start_within_input start e h = omega (arith, time_within h)

pub ruleset behind_a_time = (start_within, position_fits_lem, end_fits)

pub ruleset of_a_message = (text_ends, identifier_ends)
