-- What reading a body gives: the blank body at a refusal, a body in range but for two cases, a place that is always in range and on
-- the sides of its letters, and a comment within the input.
-- Assumes nothing.
use mathlib.Core.Path.{◌≡◌, refl}
use mathlib.Core.Logic.{◌⊎◌, inl, inr, ⊎_elim}
use mathlib.Core.Bool.{Bool, true, false, not, cond, and-true, not-not}
use Rattle.std.specs.Prelude.{Option, Some, None, Err}
use Rattle.mic_e.specs.declared.Information.{Information}
use Rattle.body.specs.declared.TimeError.TheVariants.{Missing}
use mathlib.Core.List.{List}
use Prim.Native.Nat.{ℕ, ◌+◌, ◌-◌, ◌%◌, ◌≤◌}
use native.Mathlib.Omega.{arith}
use borrow.Author.Tests.{le-leb, ltb-true, ltb-false, eqb-true, eqb-false}
use lib.Dec.{eqb, ltb}
use lib.IntN.{nat_abs}
use lib.ListN.{length, take, drop, get_or, length-drop}
use Rattle.laws.specs.Lists.{pad_to, zeros}
use Rattle.callsign.specs.declared.Callsign.{Callsign}
use Rattle.callsign.specs.Range.{call_part, is_blank_call}
use Rattle.numbers.specs.Sign.{is_on}
use Rattle.time.specs.declared.Time.{Time}
use Rattle.time.specs.Time.{no_time, is_no_time, time_bytes, read_time, time_text, time_in_range}
use Rattle.time.proofs.Theorems.{read_in_range, no_time_in_range}
use Rattle.lonlat.specs.Angle.{most_latitude, most_longitude, width_of}
use Rattle.position.specs.Reach.{in_reach}
use Rattle.position.specs.Position.{fixed_bytes, usually, read_position, place_in_range, letters_agree, symbols_in_range, position_fits}
use Rattle.position.proofs.Lengths.{position_long}
use Rattle.position.proofs.Theorems.{read_position_answered}
use Rattle.mic_e.specs.declared.Destination.{Destination}
use Rattle.mic_e.specs.Message.{message_number}
use Rattle.mic_e.specs.Motion.{most_speed, most_course}
use Rattle.mic_e.specs.Destination.{read_destination}
use Rattle.mic_e.specs.Information.{read_information}
use Rattle.mic_e.proofs.Theorems.{read_destination_found, read_information_found, information_long}
use Rattle.message.specs.Message.{addressee_bytes, no_addressee, read_message}
use Rattle.message.specs.Status.{read_status}
use Rattle.message.proofs.Theorems.{message_length, addressee_nine, read_status_time, status_time_within}
use Rattle.body.specs.declared.Kind.TheVariants.{Position, MicE, Message}
use Rattle.body.specs.declared.Opening.{Opening}
use Rattle.body.specs.declared.Opening.TheVariants.{Positioned, Mic, Addressed, Stated, Other}
use Rattle.body.specs.declared.BodyRead.{BodyRead}
use Rattle.body.specs.Body.{no_span, no_report, body_with, blank_body, body_accepted, body_refused, opening_of, span_from, position_body, position_from, time_behind, time_at, behind_time, positioned_from, report_body, mic_e_body, identifier_span, message_body, status_body, body_after, read_body_by, read_body}
use Rattle.body.proofs.Strict.{by_mode}
use Rattle.body.specs.Range.{is_no_letter, is_no_place, is_no_report, is_place_alone, is_report_alone, is_bare, is_short, motion_in_range, unknown_in_range, position_in_range, mic_e_in_range, message_in_range, status_in_range, in_range_as, body_in_range, excepted_as, is_excepted}

no_report_lem : is_no_report no_report ≡ true
unfolding is_no_report no_report message_number
no_report_lem = refl

no_addressee_lem : zeros no_addressee ≡ true
unfolding zeros no_addressee pad_to
no_addressee_lem = refl

blank_nine : length no_addressee ≡ addressee_bytes
unfolding no_addressee pad_to
blank_nine = refl

-- an identifier of no bytes, or one that ends in the input behind its `{`
identifier_in_lem : (at len size : ℕ) → (len ≡ 0) ⊎ (at + 1 + len ≤ size) → (identifier_span at len).at + (identifier_span at len).len ≤ size
unfolding identifier_span no_span
identifier_in_lem at len size h = go (eqb len 0) refl
  where
    go : (b : Bool) → eqb len 0 ≡ b → (cond b no_span (record { at = at + 1; len = len })).at + (cond b no_span (record { at = at + 1; len = len })).len ≤ size
    go true e = omega arith
    go false e = ⊎_elim (λ z. absurd (eqb-false len 0 e z)) (λ l. l) h

nowhere : (size : ℕ) → no_span.at + no_span.len ≤ size
unfolding no_span
nowhere size = omega arith

-- ---- what a body read from an input of so many bytes comes to, beside a destination that its record may have

pub record Found (size : ℕ) (r : BodyRead) : Type 0 where
  pub blank : (r.refusal ≡ 0 → ⊥) → r ≡ body_refused r.refusal
  pub range : (to : Callsign) → (r.body.kind ≡ MicE → is_blank_call to ≡ true) → body_in_range r.body to ≡ not (is_excepted r.body)
  pub near : place_in_range r.body.place ≡ true
  pub agree : letters_agree r.body.place ≡ true
  pub latitude_whole : nat_abs r.body.place.latitude.0 % width_of r.body.place.blanks ≡ 0
  pub longitude_whole : (r.body.kind ≡ MicE → ⊥) → nat_abs r.body.place.longitude.0 % width_of r.body.place.blanks ≡ 0
  pub within : r.body.comment.at + r.body.comment.len ≤ size
  pub identifier_within : r.body.identifier.at + r.body.identifier.len ≤ size
  pub nine : length r.body.addressee ≡ addressee_bytes

blank_found : (n size : ℕ) → Found size (record { refusal = n; body = blank_body })
unfolding
    blank_body no_span no_report no_addressee pad_to zeros body_in_range in_range_as is_excepted excepted_as unknown_in_range is_bare is_no_place is_no_letter is_no_report message_number
    no_time is_no_time place_in_range in_reach letters_agree is_on width_of
blank_found n size =
    record {
      blank = λ z. refl;
      range = λ to h. refl;
      near = refl;
      agree = refl;
      latitude_whole = refl;
      longitude_whole = λ k. refl;
      within = omega arith;
      identifier_within = omega arith;
      nine = refl;
    }

module _ (s : List ℕ) (at : ℕ) (start : at ≤ length s) where
  comment_within : (n : ℕ) → n ≤ length (drop at s) → (span_from s (at + n)).at + (span_from s (at + n)).len ≤ length s
  unfolding span_from
  comment_within n h = omega (arith, length-drop at s)

  -- ---- a position, with a time in range or none

  module _ (messaging : Bool) (t : Time) (fits : time_in_range t ≡ true) where
    position_found : Found (length s) (position_from usually s at messaging t)
    unfolding position_from position_body body_in_range in_range_as is_excepted excepted_as position_in_range is_place_alone position_fits
    position_found = go (eqb (read_position (drop at s)).refusal 0) refl
      where
        go : (b : Bool) → eqb (read_position (drop at s)).refusal 0 ≡ b
            → Found (length s)
            (cond b
            (body_accepted (record { kind = Position; place = (read_position (drop at s)).place; time = t; messaging = messaging; report = no_report; comment = span_from s (at + fixed_bytes); identifier = no_span; addressee = no_addressee }))
            (body_refused (read_position (drop at s)).refusal))
        go true e =
            let z = eqb-true (read_position (drop at s)).refusal 0 e in
            let a = read_position_answered (drop at s) in
            record {
              blank = λ n. absurd (n refl);
              range = λ to h. rw (no_report_lem, no_addressee_lem, fits, a.near z, a.agree, not-not (symbols_in_range (read_position (drop at s)).place));
              near = a.near z;
              agree = a.agree;
              latitude_whole = a.latitude_whole;
              longitude_whole = λ k. a.longitude_whole;
              within = comment_within fixed_bytes (position_long usually (drop at s) z);
              identifier_within = nowhere (length s);
              nine = blank_nine;
            }
        go false e = blank_found _ (length s)

-- ---- a time before it

module _ (s : List ℕ) (at : ℕ) (messaging : Bool) where
  behind_found : (x : Option Time) → read_time (take time_bytes (drop at s)) ≡ x → at + time_bytes ≤ length s → Found (length s) (behind_time usually (time_behind x (at + time_bytes)) s messaging)
  unfolding time_behind behind_time
  behind_found (Some t) e h = position_found s (at + time_bytes) h messaging t (read_in_range (take time_bytes (drop at s)) t e)
  behind_found None e h = blank_found _ (length s)

  positioned_found : (timed : Bool) → at ≤ length s → Found (length s) (positioned_from usually s at messaging timed)
  unfolding positioned_from time_at behind_time
  positioned_found false start = position_found s at start messaging no_time no_time_in_range
  positioned_found true start = go (ltb (length s - at) time_bytes) refl
    where
      go : (b : Bool) → ltb (length s - at) time_bytes ≡ b
          → Found (length s) (behind_time usually (cond b (Err Missing) (time_behind (read_time (take time_bytes (drop at s))) (at + time_bytes))) s messaging)
      go true e = blank_found _ (length s)
      go false e = behind_found (read_time (take time_bytes (drop at s))) refl (omega (arith, ltb-false (length s - at) time_bytes e))

module _ (s : List ℕ) (at : ℕ) (start : at ≤ length s) where
  -- ---- a Mic-E report

  module _ (current : Bool) (call : List ℕ) (d : Destination) (q : read_destination call ≡ Some d) where
    report_found : (x : Option Information) → read_information (drop at s) d.hundred d.west ≡ x → Found (length s) (report_body usually d x current (span_from s (at + 8)))
    unfolding report_body body_in_range in_range_as is_excepted excepted_as mic_e_in_range is_report_alone no_time is_no_time letters_agree place_in_range in_reach motion_in_range is_short
    report_found (Some i) e =
        let a = read_destination_found call d q in
        let b = read_information_found (drop at s) d.hundred d.west i e in
        record {
          blank = λ n. absurd (n refl);
          range = λ to h. rw (
            h refl,
            no_addressee_lem,
            a.angle.side,
            b.side,
            le-leb (nat_abs d.latitude.0) most_latitude a.angle.near,
            le-leb d.blanks 5 a.few,
            le-leb (nat_abs i.longitude.0) most_longitude b.near,
            le-leb i.speed.0 most_speed b.slow,
            le-leb i.course.0 most_course b.turned,
            and-true,
            not-not,
          );
          near = rw (le-leb (nat_abs d.latitude.0) most_latitude a.angle.near, le-leb d.blanks 5 a.few, le-leb (nat_abs i.longitude.0) most_longitude b.near);
          agree = rw (a.angle.side, b.side);
          latitude_whole = a.angle.whole;
          longitude_whole = λ k. absurd (k refl);
          within = comment_within s at start 8 (information_long (drop at s) d.hundred d.west i e);
          identifier_within = nowhere (length s);
          nine = blank_nine;
        }
    report_found None e = blank_found _ (length s)

  mic_e_found : (current : Bool) (call : List ℕ) (x : Option Destination) → read_destination call ≡ x → Found (length s) (mic_e_body usually x (drop at s) current (span_from s (at + 8)))
  unfolding mic_e_body
  mic_e_found current call (Some d) e = report_found current call d e (read_information (drop at s) d.hundred d.west) refl
  mic_e_found current call None e = blank_found _ (length s)

  -- ---- a message, and a status

  message_found : Found (length s) (message_body (read_message (drop at s)) at)
  unfolding
      message_body no_report body_in_range in_range_as is_excepted excepted_as message_in_range is_bare is_no_place is_no_letter is_no_report message_number
      no_time is_no_time place_in_range in_reach letters_agree is_on width_of
  message_found = go (eqb (read_message (drop at s)).refusal 0) refl
    where
      go : (b : Bool) → eqb (read_message (drop at s)).refusal 0 ≡ b
          → Found (length s)
          (cond b
          (body_accepted (body_with Message (record { at = at + (addressee_bytes + 1); len = (read_message (drop at s)).text })
          (identifier_span (at + (addressee_bytes + 1) + (read_message (drop at s)).text) (read_message (drop at s)).identifier) no_time (read_message (drop at s)).addressee))
          (body_refused (read_message (drop at s)).refusal))
      go true e =
          let z = eqb-true (read_message (drop at s)).refusal 0 e in
          let n = message_length (drop at s) z in
          record {
            blank = λ n. absurd (n refl);
            range = λ to h. refl;
            near = refl;
            agree = refl;
            latitude_whole = refl;
            longitude_whole = λ k. refl;
            within = omega (arith, n.0, length-drop at s);
            identifier_within = identifier_in_lem (at + (addressee_bytes + 1) + (read_message (drop at s)).text) (read_message (drop at s)).identifier (length s)
                (⊎_elim (λ none. inl none) (λ some. inr (omega (arith, length-drop at s))) n.1);
            nine = addressee_nine (drop at s);
          }
      go false e = blank_found _ (length s)

  status_found : (x : Option Time) → read_status (drop at s) ≡ x → Found (length s) (status_body x s at)
  unfolding
      status_body no_report body_in_range in_range_as is_excepted excepted_as status_in_range is_bare is_no_place is_no_letter is_no_report message_number
      place_in_range in_reach letters_agree is_on width_of
  status_found (Some t) e =
      record {
        blank = λ n. absurd (n refl);
        range = λ to h. rw (no_addressee_lem, read_status_time (drop at s) t e);
        near = refl;
        agree = refl;
        latitude_whole = refl;
        longitude_whole = λ k. refl;
        within = comment_within s at start (length (time_text t)) (status_time_within (drop at s) t e);
        identifier_within = nowhere (length s);
        nine = blank_nine;
      }
  status_found None e = blank_found _ (length s)

  -- ---- any body

  after_found : (o : Opening) (to : Callsign) → Found (length s) (body_after usually o to s at)
  unfolding body_after
  after_found (Positioned messaging timed) to = positioned_found s at messaging timed start
  after_found (Mic current) to = mic_e_found current (call_part to) (read_destination (call_part to)) refl
  after_found Addressed to = message_found
  after_found Stated to = status_found (read_status (drop at s)) refl
  after_found Other to = blank_found _ (length s)

usually_found : (to : Callsign) (s : List ℕ) (from : ℕ) → Found (length s) (read_body to s from)
unfolding read_body_by
usually_found to s from = go (ltb from (length s)) refl
  where
    go : (t : Bool) → ltb from (length s) ≡ t → Found (length s) (cond t (body_after usually (opening_of (get_or s from 0)) to s (from + 1)) (body_accepted blank_body))
    go true e = after_found s (from + 1) (omega (arith, ltb-true from (length s) e)) (opening_of (get_or s from 0)) to
    go false e = blank_found _ (length s)

-- however it is read
pub body_found : (strict : Bool) (to : Callsign) (s : List ℕ) (from : ℕ) → Found (length s) (read_body_by strict to s from)
body_found strict to s from = by_mode to s from (Found (length s)) (λ n. blank_found n (length s)) (usually_found to s from) strict
