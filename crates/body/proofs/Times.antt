-- The time of a body that was read: none, or the one that the seven bytes behind its type byte say.
-- Assumes nothing.
use mathlib.Core.Path.{◌≡◌, refl, sym, ap, ◌∙◌}
use mathlib.Core.Logic.{◌⊎◌, inl, inr, ⊎_elim}
use mathlib.Core.Bool.{Bool, true, false, cond, false≢true}
use Rattle.std.specs.Prelude.{Option, Some, None, Err}
use Rattle.mic_e.specs.declared.Information.{Information}
use Rattle.body.specs.declared.TimeError.TheVariants.{Missing, Bad}
use mathlib.Core.List.{List}
use Prim.Native.Nat.{ℕ, ◌+◌, ◌-◌}
use lib.Dec.{eqb, ltb}
use lib.ListN.{length, take, drop, get_or}
use Rattle.laws.proofs.Tests.{picked}
use Rattle.callsign.specs.declared.Callsign.{Callsign}
use Rattle.callsign.specs.Range.{call_part}
use Rattle.time.specs.declared.Time.{Time}
use Rattle.time.specs.Time.{no_time, is_present, time_bytes, read_time, time_text}
use Rattle.time.proofs.Theorems.{time_is_kept}
use Rattle.position.specs.declared.PositionRead.{PositionRead}
use Rattle.position.specs.Position.{fixed_bytes, usually, read_position}
use Rattle.mic_e.specs.declared.Destination.{Destination}
use Rattle.mic_e.specs.Destination.{read_destination, destination_number}
use Rattle.mic_e.specs.Information.{read_information, information_number}
use Rattle.message.specs.declared.MessageRead.{MessageRead}
use Rattle.message.specs.Message.{no_addressee, addressee_bytes, read_message}
use Rattle.message.specs.Status.{read_status, status_number}
use Rattle.message.proofs.Theorems.{read_status_time_of}
use Rattle.body.specs.declared.Kind.TheVariants.{Position, Message}
use Rattle.body.specs.declared.Span.{Span}
use Rattle.body.specs.declared.Opening.{Opening}
use Rattle.body.specs.declared.Opening.TheVariants.{Positioned, Mic, Addressed, Stated, Other}
use Rattle.body.specs.declared.BodyRead.{BodyRead}
use Rattle.body.specs.Body.{no_span, no_report, body_with, blank_body, body_accepted, body_refused, opening_of, span_from, position_body, position_from, error_number, time_behind, time_at, behind_time, positioned_from, report_body, mic_e_body, identifier_span, message_body, status_body, body_after, read_body_by, read_body}

-- behind the type byte stand the bytes from the place `at` on
module _ (s : List ℕ) (at : ℕ) where
  abbrev pub TimeOf : BodyRead → Type 0
  TimeOf r = (r.body.time ≡ no_time) ⊎ (read_time (take time_bytes (drop at s)) ≡ Some r.body.time)

  blank_time : (n : ℕ) → TimeOf (body_refused n)
  unfolding blank_body
  blank_time n = inl refl

  position_time : (p : PositionRead) (messaging : Bool) (t : Time) (comment : Span)
      → (t ≡ no_time) ⊎ (read_time (take time_bytes (drop at s)) ≡ Some t) → TimeOf (position_body p messaging t comment)
  unfolding position_body
  position_time p messaging t comment h = go (eqb p.refusal 0)
    where
      go : (b : Bool) → TimeOf (cond b (body_accepted (record { kind = Position; place = p.place; time = t; messaging = messaging; report = no_report; comment = comment; identifier = no_span; addressee = no_addressee })) (body_refused p.refusal))
      go true = h
      go false = blank_time p.refusal

  behind_time_lem : (messaging : Bool) (x : Option Time) → read_time (take time_bytes (drop at s)) ≡ x → TimeOf (behind_time usually (time_behind x (at + time_bytes)) s messaging)
  unfolding time_behind behind_time position_from
  behind_time_lem messaging (Some t) e = position_time (read_position (drop (at + time_bytes) s)) messaging t (span_from s (at + time_bytes + fixed_bytes)) (inr e)
  behind_time_lem messaging None e = blank_time (error_number Bad)

  positioned_time : (messaging timed : Bool) → TimeOf (positioned_from usually s at messaging timed)
  unfolding positioned_from time_at behind_time position_from
  positioned_time messaging false = position_time (read_position (drop at s)) messaging no_time (span_from s (at + fixed_bytes)) (inl refl)
  positioned_time messaging true = go (ltb (length s - at) time_bytes)
    where
      go : (b : Bool) → TimeOf (behind_time usually (cond b (Err Missing) (time_behind (read_time (take time_bytes (drop at s))) (at + time_bytes))) s messaging)
      go true = blank_time (error_number Missing)
      go false = behind_time_lem messaging (read_time (take time_bytes (drop at s))) refl

  report_time : (d : Destination) (x : Option Information) (current : Bool) (comment : Span) → TimeOf (report_body usually d x current comment)
  unfolding report_body information_number
  report_time d (Some i) current comment = inl refl
  report_time d None current comment = blank_time 12

  mic_e_time : (x : Option Destination) (info : List ℕ) (current : Bool) (comment : Span) → TimeOf (mic_e_body usually x info current comment)
  unfolding mic_e_body destination_number
  mic_e_time (Some d) info current comment = report_time d (read_information info d.hundred d.west) current comment
  mic_e_time None info current comment = blank_time 11

  message_time : (m : MessageRead) → TimeOf (message_body m at)
  unfolding message_body
  message_time m =
      let text = at + (addressee_bytes + 1) in
      picked (λ (r : BodyRead) b. TimeOf r) (body_accepted (body_with Message (record { at = text; len = m.text }) (identifier_span (text + m.text) m.identifier) no_time m.addressee)) (body_refused m.refusal)
      (inl refl)
      (blank_time m.refusal)
      (eqb m.refusal 0)

  status_time : (x : Option Time) → read_status (drop at s) ≡ x → TimeOf (status_body x s at)
  unfolding status_body status_number
  status_time (Some t) e = read_status_time_of (drop at s) t e
  status_time None e = blank_time 18

  after_time : (o : Opening) (to : Callsign) → TimeOf (body_after usually o to s at)
  unfolding body_after
  after_time (Positioned messaging timed) to = positioned_time messaging timed
  after_time (Mic current) to = mic_e_time (read_destination (call_part to)) (drop at s) current (span_from s (at + 8))
  after_time Addressed to = message_time (read_message (drop at s))
  after_time Stated to = status_time (read_status (drop at s)) refl
  after_time Other to = blank_time 0

absent : is_present no_time ≡ false
unfolding is_present no_time
absent = refl

module _ (to : Callsign) (s : List ℕ) (from : ℕ) where
  pub read_time_lem : TimeOf s (from + 1) (read_body to s from)
  unfolding read_body_by
  read_time_lem = go (ltb from (length s))
    where
      go : (b : Bool) → TimeOf s (from + 1) (cond b (body_after usually (opening_of (get_or s from 0)) to s (from + 1)) (body_accepted blank_body))
      go true = after_time s (from + 1) (opening_of (get_or s from 0)) to
      go false = blank_time s (from + 1) 0

  pub read_time_kept : is_present (read_body to s from).body.time ≡ true → take time_bytes (drop (from + 1) s) ≡ time_text (read_body to s from).body.time
  read_time_kept h =
      ⊎_elim
      (λ n. absurd (false≢true (sym absent ∙ sym (ap is_present n) ∙ h)))
      (λ e. sym (time_is_kept (take time_bytes (drop (from + 1) s)) (read_body to s from).body.time e))
      read_time_lem
