-- A position as written, with its time or without one, reads back: cut to the width that its blanks leave, and as itself where both
-- angles are multiples of that width.
-- Assumes nothing.
use mathlib.Core.Path.{◌≡◌, refl, sym, ap, ◌∙◌}
use mathlib.Core.Logic.{⊎_elim}
use mathlib.Core.Bool.{Bool, true, false, cond, ◌&&◌}
use mathlib.Core.List.{List, [], ◌++◌, append_assoc}
use Prim.Native.Nat.{ℕ, ◌+◌, ◌-◌}
use native.Mathlib.Omega.{arith}
use borrow.Author.Tests.{lt-ltb, le-ltb, eqb-true, not-true}
use lib.Dec.{eqb}
use lib.ListN.{length, drop, get_or, length-append}
use lib.Seq.{take_at, drop_at, drop-drop, drop-append-add, get_or_at}
use Rattle.laws.specs.Bytes.{bang, equals, slash, at_sign}
use Rattle.laws.proofs.Tests.{and_first, and_second, or_either}
use Rattle.callsign.specs.declared.Callsign.{Callsign}
use Rattle.time.specs.declared.Time.{Time}
use Rattle.time.specs.Time.{no_time, is_no_time, is_time, time_bytes, time_text, time_in_range}
use Rattle.time.proofs.Tests.{no_letter, time_present}
use Rattle.time.proofs.Theorems.{time_reads_back, no_time_is, no_time_no_bytes, a_time_seven_bytes}
use Rattle.position.specs.declared.Place.{Place}
use Rattle.position.specs.Position.{usually, place_in_range, letters_agree, symbols_in_range, position_fits, position_refusal, position_text}
use Rattle.position.proofs.Lengths.{position_length}
use Rattle.position.proofs.Theorems.{cut_place, position_reads_cut}
use Rattle.mic_e.specs.declared.Message.{Message}
use Rattle.mic_e.specs.Message.{message_number, message_at}
use Rattle.mic_e.proofs.Messages.{number_back}
use Rattle.message.specs.Message.{no_addressee}
use Rattle.body.specs.declared.Kind.{Kind}
use Rattle.body.specs.declared.Kind.TheVariants.{Position}
use Rattle.body.specs.declared.Opening.TheVariants.{Positioned}
use Rattle.body.specs.declared.Report.{Report}
use Rattle.body.specs.declared.Body.{Body}
use Rattle.body.specs.Body.{no_span, no_report, body_accepted, opening_of, span_from, position_body, position_from, time_behind, time_at, behind_time, positioned_from, body_after, read_body_by, read_body}
use Rattle.body.specs.Range.{is_no_report, is_no_addressee, is_place_alone, position_in_range, in_range_as, body_in_range}
use Rattle.body.specs.Written.{position_type, position_bytes, bytes_as, body_bytes}
use Rattle.body.proofs.ReadsBack.{back_with}

-- a body as it comes back, its angles cut: with the letters that are written
abbrev pub cut_back : Body → ℕ → ℕ → Body
cut_back b at size = back_with b (cut_place b.place) at size

-- a position, its comment at that place and of that length
abbrev positioned : Place → Bool → Time → Report → ℕ → ℕ → Body
positioned place messaging time report at size =
    record { kind = Position; place = place; time = time; messaging = messaging; report = report; comment = record { at = at; len = size }; identifier = no_span; addressee = no_addressee }

-- ---- no report is the blank one

no_report_is : (m : Report) → is_no_report m ≡ true → m ≡ no_report
unfolding is_no_report no_report message_at
no_report_is m e =
    let f = and_second (eqb (message_number m.message) 0) _ e in
    let g = and_second (eqb m.speed.0 0) _ f in
    let number = eqb-true (message_number m.message) 0 (and_first (eqb (message_number m.message) 0) _ e) in
    let speed = eqb-true m.speed.0 0 (and_first (eqb m.speed.0 0) _ f) in
    let course = eqb-true m.course.0 0 (and_first (eqb m.course.0 0) _ g) in
    let current = not-true m.current (and_second (eqb m.course.0 0) _ g) in
    ap (λ (v : Message). record { message = v; speed = m.speed; course = m.course; current = m.current }) (sym (number_back m.message) ∙ ap message_at number)
    ∙ ap (λ (v : ℕ). record { message = message_at 0; speed = record { 0 = v }; course = m.course; current = m.current }) speed
    ∙ ap (λ (v : ℕ). record { message = message_at 0; speed = record { 0 = 0 }; course = record { 0 = v }; current = m.current }) course
    ∙ ap (λ (v : Bool). record { message = message_at 0; speed = record { 0 = 0 }; course = record { 0 = 0 }; current = v }) current

-- ---- the type byte again

opens_untimed : (messaging : Bool) → opening_of (cond messaging equals bang) ≡ Positioned messaging false
unfolding opening_of
opens_untimed true = refl
opens_untimed false = refl

opens_timed : (messaging : Bool) → opening_of (cond messaging at_sign slash) ≡ Positioned messaging true
unfolding opening_of
opens_timed true = refl
opens_timed false = refl

-- ---- a place and a comment from a place on

module _ (p : Place) (near : place_in_range p ≡ true) (comment s : List ℕ) (at : ℕ) (rest : drop at s ≡ position_text p ++ comment) (sized : length s ≡ at + 19 + length comment)
    (messaging : Bool) (t : Time) where
  place_back : position_from usually s at messaging t
      ≡ body_accepted (positioned (cut_place p) messaging t no_report (at + 19) (length comment))
  unfolding position_from position_body span_from
  place_back =
      let len : length s - (at + 19) ≡ length comment = omega (arith, sized) in
      rw (rest, position_reads_cut p near comment, len)

-- ---- a body's bytes behind others

module _ (b : Body) (to : Callsign) (e : position_in_range b ≡ true) (before comment : List ℕ) where
  abbrev its_time : List ℕ
  its_time = time_text b.time

  abbrev its_place : List ℕ
  its_place = position_text b.place

  abbrev input : List ℕ
  input = before ++ (position_bytes b.place b.messaging b.time ++ comment)

  behind_report : (time_in_range b.time && position_fits b.place) ≡ true
  unfolding position_in_range
  behind_report = and_second (is_place_alone b) _ e

  report_is : b.report ≡ no_report
  unfolding position_in_range is_place_alone
  report_is = no_report_is b.report (and_first (is_no_report b.report) (is_no_addressee b) (and_first (is_place_alone b) _ e))

  fits : position_fits b.place ≡ true
  fits = and_second (time_in_range b.time) _ behind_report

  near : place_in_range b.place ≡ true
  unfolding position_fits
  near = and_first (place_in_range b.place) (letters_agree b.place && symbols_in_range b.place) fits

  nineteen : length its_place ≡ 19
  unfolding position_refusal
  nineteen = position_length b.place (rw fits)

  first : get_or input (length before) 0 ≡ position_type b.messaging b.time
  unfolding position_bytes
  first = get_or_at before (position_type b.messaging b.time) ((its_time ++ its_place) ++ comment) 0 (length before) refl

  rest : drop (length before + 1) input ≡ its_time ++ (its_place ++ comment)
  unfolding position_bytes
  rest = drop-append-add before (position_bytes b.place b.messaging b.time ++ comment) 1 ∙ append_assoc its_time its_place comment

  sized : length input ≡ length before + 1 + length its_time + 19 + length comment
  unfolding position_bytes
  sized =
      omega (
        arith,
        length-append before (position_bytes b.place b.messaging b.time ++ comment),
        length-append (its_time ++ its_place) comment,
        length-append its_time its_place,
        nineteen,
      )

  -- what comes back, with the comment behind all of the body's bytes
  abbrev back : Body
  back = positioned (cut_place b.place) b.messaging b.time no_report (length before + (20 + length its_time)) (length comment)

  untimed_back : is_no_time b.time ≡ true → read_body to input (length before) ≡ body_accepted back
  unfolding read_body_by body_after positioned_from time_at behind_time position_type
  untimed_back n =
      let none : its_time ≡ [] = no_time_no_bytes b.time n in
      let short : length its_time ≡ 0 = ap length none in
      let at : length before + 1 + 19 ≡ length before + (20 + length its_time) = omega (arith, short) in
      rw (
        lt-ltb (length before) (length input) (omega (arith, sized)),
        first,
        no_letter b.time n,
        opens_untimed b.messaging,
        place_back b.place near comment input (length before + 1) (rest ∙ ap (λ (l : List ℕ). l ++ (its_place ++ comment)) none) (omega (arith, sized, short)) b.messaging no_time,
        at,
        no_time_is b.time n,
      )

  timed_back : is_time b.time ≡ true → read_body to input (length before) ≡ body_accepted back
  unfolding read_body_by body_after positioned_from time_at time_behind behind_time position_type
  timed_back i =
      let seven : length its_time ≡ time_bytes = a_time_seven_bytes b.time i in
      let at : length before + 1 + time_bytes + 19 ≡ length before + (20 + length its_time) = omega (arith, seven) in
      let behind : drop (length before + 1 + time_bytes) input ≡ its_place ++ comment =
      sym (drop-drop time_bytes (length before + 1) input) ∙ ap (drop time_bytes) rest ∙ drop_at its_time (its_place ++ comment) time_bytes seven in
      rw (
        lt-ltb (length before) (length input) (omega (arith, sized)),
        first,
        time_present b.time i,
        opens_timed b.messaging,
        le-ltb (length input - (length before + 1)) time_bytes (omega (arith, sized, seven)),
        rest,
        take_at its_time (its_place ++ comment) time_bytes seven,
        time_reads_back b.time i,
        place_back b.place near comment input (length before + 1 + time_bytes) behind (omega (arith, sized, seven)) b.messaging b.time,
        at,
      )

  pub either_back : read_body to input (length before) ≡ body_accepted back
  unfolding time_in_range
  either_back = ⊎_elim untimed_back timed_back (or_either (is_no_time b.time) (is_time b.time) (and_first (time_in_range b.time) _ behind_report))

-- ---- of a body by its kind

module _ (b : Body) (to : Callsign) (k : b.kind ≡ Position) (e : body_in_range b to ≡ true) where
  in_range_lem : position_in_range b ≡ true
  unfolding body_in_range in_range_as
  in_range_lem = ap (λ (x : Kind). in_range_as x b to) (sym k) ∙ e

  its_bytes : body_bytes b ≡ position_bytes b.place b.messaging b.time
  unfolding body_bytes bytes_as
  its_bytes = ap (λ (x : Kind). bytes_as x b) k

  pub its_length : length (body_bytes b) ≡ 20 + length (time_text b.time)
  unfolding position_bytes
  its_length = rw its_bytes (omega (arith, length-append (time_text b.time) (position_text b.place), nineteen b to in_range_lem [] []))

  pub cut_back_lem : (beside : Callsign) (before comment : List ℕ)
      → read_body beside (before ++ (body_bytes b ++ comment)) (length before) ≡ body_accepted (cut_back b (length before + length (body_bytes b)) (length comment))
  cut_back_lem beside before comment =
      rw (its_length, its_bytes, k)
      (either_back b beside in_range_lem before comment
      ∙ ap
      (λ (m : Report). body_accepted (positioned (cut_place b.place) b.messaging b.time m (length before + (20 + length (time_text b.time))) (length comment)))
      (sym (report_is b to in_range_lem before comment)))

  pub behind_comment : (before comment : List ℕ) → drop (length before + length (body_bytes b)) (before ++ (body_bytes b ++ comment)) ≡ comment
  behind_comment before comment = drop-append-add before (body_bytes b ++ comment) (length (body_bytes b)) ∙ drop_at (body_bytes b) comment (length (body_bytes b)) refl
