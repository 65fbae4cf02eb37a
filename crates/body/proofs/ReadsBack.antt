-- A Mic-E body as written reads back. Document 01: "A Mic-E body and destination as written, read by themselves, give back the
-- Mic-E part of the record and the comment bytes, if latitude is a multiple of the width its blanks leave." Document 02, R-1: "its
-- Mic-E read-back rule excepts the letter at 0".
-- Assumes nothing.
use Rattle.std.specs.Prelude.{Some}
use mathlib.Core.Path.{◌≡◌, refl, sym, ap, ◌∙◌}
use mathlib.Core.Bool.{Bool, true, false, cond}
use mathlib.Core.List.{List, [], ◌++◌}
use Prim.Native.Nat.{ℕ, ◌+◌, ◌-◌, ◌%◌, ◌≤◌}
use native.Mathlib.Omega.{arith}
use borrow.Author.Tests.{lt-ltb}
use lib.IntN.{nat_abs}
use lib.ListN.{length, drop, get_or, length-append}
use lib.Seq.{drop_at, drop-append-add, get_or_at}
use Rattle.laws.specs.Bytes.{backquote, apostrophe}
use Rattle.callsign.specs.declared.Callsign.{Callsign}
use Rattle.callsign.specs.Range.{call_part}
use Rattle.callsign.proofs.Made.{made_call}
use Rattle.lonlat.specs.Angle.{most_latitude, width_of}
use Rattle.time.specs.Time.{no_time}
use Rattle.position.specs.declared.Place.{Place}
use Rattle.position.specs.Position.{as_written}
use Rattle.position.proofs.Reach.{latitude_near, reach_near, reach_few}
use Rattle.mic_e.specs.Destination.{read_destination, destination_bytes}
use Rattle.mic_e.specs.Information.{information_bytes}
use Rattle.mic_e.proofs.Range.{in_all}
use Rattle.mic_e.proofs.DestinationFacts.{destination_reads_back}
use Rattle.mic_e.proofs.Theorems.{destination_for, ReadsBack, report_reads_back, information_length}
use Rattle.message.specs.Message.{no_addressee}
use Rattle.body.specs.declared.Kind.{Kind}
use Rattle.body.specs.declared.Kind.TheVariants.{MicE}
use Rattle.body.specs.declared.Opening.TheVariants.{Mic}
use Rattle.body.specs.declared.Body.{Body}
use Rattle.body.specs.Body.{no_span, body_accepted, opening_of, span_from, report_body, mic_e_body, body_after, read_body_by, read_body}
use Rattle.body.specs.Range.{in_range_as, body_in_range}
use Rattle.body.specs.Written.{mic_e_call, to_as, written_to, information_of, mic_e_bytes, bytes_as, body_bytes}
use Rattle.body.proofs.Judged.{Reported, mic_e_held}

-- a body with another place, and with its comment at that place and of that length
abbrev pub back_with : Body → Place → ℕ → ℕ → Body
back_with b place at size =
    record {
      kind = b.kind;
      place = place;
      time = b.time;
      messaging = b.messaging;
      report = b.report;
      comment = record { at = at; len = size };
      identifier = no_span;
      addressee = no_addressee;
    }

-- as it comes back: with the letters that are written
abbrev pub comes_back : Body → ℕ → ℕ → Body
comes_back b at size = back_with b (as_written b.place) at size

opens_again : (current : Bool) → opening_of (cond current backquote apostrophe) ≡ Mic current
unfolding opening_of
opens_again true = refl
opens_again false = refl

module _ (b : Body) (to : Callsign) (h : Reported b to) (width : nat_abs b.place.latitude.0 % width_of b.place.blanks ≡ 0) (before comment : List ℕ) where
  abbrev info : List ℕ
  info = information_bytes (information_of b.place b.report)

  abbrev input : List ℕ
  input = before ++ (mic_e_bytes b.place b.report ++ comment)

  near : nat_abs b.place.latitude.0 ≤ most_latitude
  near = reach_near most_latitude (nat_abs b.place.latitude.0) b.place.blanks (latitude_near b.place h.near)

  few : b.place.blanks ≤ 5
  few = reach_few most_latitude (nat_abs b.place.latitude.0) b.place.blanks (latitude_near b.place h.near)

  back : ReadsBack b.place.latitude.0 b.place.blanks b.report.message (information_of b.place b.report) comment
  unfolding information_of
  back =
      report_reads_back b.place.latitude.0 b.place.blanks b.report.message (information_of b.place b.report) comment
      near few width
      (in_all (information_of b.place b.report) h.short h.slow h.turned)

  called : read_destination (call_part (mic_e_call b.place b.report))
      ≡ Some (destination_for b.place.latitude.0 b.place.blanks b.report.message b.place.longitude.0)
  unfolding mic_e_call destination_for
  called =
      let bytes = destination_bytes b.place.latitude.0 b.place.blanks b.report.message b.place.longitude.0 in
      ap read_destination (made_call bytes []) ∙ destination_reads_back b.place.latitude.0 b.place.blanks b.report.message b.place.longitude.0 near few width

  sized : length input ≡ length before + 9 + length comment
  unfolding mic_e_bytes
  sized = omega (arith, length-append before (mic_e_bytes b.place b.report ++ comment), length-append info comment, information_length (information_of b.place b.report))

  first : get_or input (length before) 0 ≡ cond b.report.current backquote apostrophe
  unfolding mic_e_bytes
  first = get_or_at before (cond b.report.current backquote apostrophe) (info ++ comment) 0 (length before) refl

  rest : drop (length before + 1) input ≡ info ++ comment
  unfolding mic_e_bytes
  rest = drop-append-add before (mic_e_bytes b.place b.report ++ comment) 1

  behind : span_from input (length before + 1 + 8) ≡ record { at = length before + 9; len = length comment }
  unfolding span_from
  behind =
      let at : length before + 1 + 8 ≡ length before + 9 = omega arith in
      let len : length input - (length before + 9) ≡ length comment = omega (arith, sized) in
      rw (at, len)

  pub report_back : read_body (mic_e_call b.place b.report) input (length before)
      ≡ body_accepted (record {
        kind = MicE;
        place = as_written b.place;
        time = no_time;
        messaging = false;
        report = b.report;
        comment = record { at = length before + 9; len = length comment };
        identifier = no_span;
        addressee = no_addressee;
      })
  unfolding read_body_by body_after mic_e_body report_body destination_for information_of as_written
  report_back =
      rw (
        lt-ltb (length before) (length input) (omega (arith, sized)),
        first,
        opens_again b.report.current,
        rest,
        behind,
        called,
        back.information,
      )

-- ---- of a body by its kind

fixed_nine : (b : Body) → length (mic_e_bytes b.place b.report) ≡ 9
unfolding mic_e_bytes
fixed_nine b = omega (arith, information_length (information_of b.place b.report))

module _ (b : Body) (to : Callsign) (k : b.kind ≡ MicE) (e : body_in_range b to ≡ true) where
  pub held : Reported b to
  unfolding body_in_range in_range_as
  held = mic_e_held b to (ap (λ (x : Kind). in_range_as x b to) (sym k) ∙ e)

  its_call : written_to b to ≡ mic_e_call b.place b.report
  unfolding written_to to_as
  its_call = ap (λ (x : Kind). to_as x b to) k

  its_bytes : body_bytes b ≡ mic_e_bytes b.place b.report
  unfolding body_bytes bytes_as
  its_bytes = ap (λ (x : Kind). bytes_as x b) k

  pub body_back : nat_abs b.place.latitude.0 % width_of b.place.blanks ≡ 0 → (before comment : List ℕ)
      → read_body (written_to b to) (before ++ (body_bytes b ++ comment)) (length before) ≡ body_accepted (comes_back b (length before + 9) (length comment))
  body_back width before comment = rw (its_call, its_bytes) (report_back b to held width before comment ∙ rw (k, held.no_messaging, held.no_time_case))

  pub comment_back : (before comment : List ℕ) → drop (length before + 9) (before ++ (body_bytes b ++ comment)) ≡ comment
  comment_back before comment =
      rw its_bytes
      (drop-append-add before (mic_e_bytes b.place b.report ++ comment) 9 ∙ drop_at (mic_e_bytes b.place b.report) comment 9 (fixed_nine b))
