-- The crate's theorems: what is read, what of it is not written, the time and the boxes of what is read, what is written, and that a
-- position, timed or not, a message, a status and a Mic-E body as written read back.
-- Assumes nothing.
use mathlib.Core.Path.{◌≡◌, refl, ap, ◌∙◌}
use mathlib.Core.Bool.{Bool, true, false, not, cond}
use mathlib.Core.List.{List, [], ◌++◌, append-nil}
use Prim.Native.Nat.{ℕ, ◌+◌, ◌%◌, ◌<◌, ◌≤◌}
use native.Mathlib.Omega.{arith}
use lib.IntN.{ℤ, pos, nat_abs}
use lib.ListN.{length, take, drop, get_or}
use lib.Seq.{take_at}
use Rattle.laws.specs.Lists.{pad_to, zeros}
use Rattle.laws.specs.Bytes.{colon, greater}
use Rattle.laws.proofs.Tests.{passed, picked}
use Rattle.callsign.specs.declared.Callsign.{Callsign}
use Rattle.callsign.specs.Text.{blank_call}
use Rattle.callsign.specs.Range.{in_range, is_blank_call}
use Rattle.lonlat.specs.Angle.{most_latitude, most_longitude, width_of}
use Rattle.lonlat.proofs.Theorems.{cut_whole}
use Rattle.time.specs.Time.{no_time, is_no_time, is_time, is_present, time_bytes, time_text}
use Rattle.time.proofs.Theorems.{no_time_no_bytes, a_time_seven_bytes}
use Rattle.position.specs.Position.{usually, as_written}
use Rattle.position.specs.Page.{box_of}
use Rattle.position.proofs.InnerEdge.{InnerEdge}
use Rattle.position.proofs.Theorems.{latitude_is_inner_edge, longitude_is_inner_edge, zero_is_north, zero_is_east, latitude_letter_kept, longitude_letter_kept, letters_kept}
use Rattle.mic_e.specs.Message.{message_number}
use Rattle.message.specs.Message.{addressee_bytes, no_addressee}
use Rattle.message.specs.Status.{is_status_text, status_text_refusal}
use Rattle.body.specs.declared.Kind.{Kind}
use Rattle.body.specs.declared.Kind.TheVariants.{Position, MicE, Message, Status}
use Rattle.body.specs.declared.Body.{Body}
use Rattle.body.specs.declared.BodyWritten.{BodyWritten}
use Rattle.body.specs.Body.{no_span, no_report, body_with, blank_body, body_accepted, body_refused, identifier_span, read_body_by, read_body}
use Rattle.body.specs.Range.{is_no_letter, is_no_place, is_no_report, is_bare, unknown_in_range, status_in_range, in_range_as, body_in_range, is_excepted}
use Rattle.body.specs.Written.{written_to, status_bytes, bytes_as, body_bytes, tail_as, tail_bytes, refusal_as, body_refusal, unwritten, written_as, written_or, write_body}
use Rattle.body.proofs.Answered.{or_first, or_within, nothing_within, or_len, or_tail, or_written, nothing_before, nothing_behind, not_unwritten}
use Rattle.body.proofs.Writing.{status_timed, fixed_short, tail_short}
use Rattle.body.proofs.Built as built
use Rattle.body.proofs.Found.{body_found}
use Rattle.body.proofs.Times.{TimeOf, read_time_lem, read_time_kept}
use Rattle.body.proofs.ReadsBack.{comes_back, held, body_back, comment_back}
use Rattle.body.proofs.TextBack.{TextOr18, spanned, message_front_long, message_back, status_back, message_short, status_short, text_shown_back, identifier_shown_back, message_tail, message_read_or_18, status_read_or_18}
use Rattle.body.proofs.PositionBack.{cut_back, its_length, cut_back_lem, behind_comment}

-- ---- what is read, accepted or not, as usually or strictly

module _ (strict : Bool) (to : Callsign) (s : List ℕ) (from : ℕ) where
  -- "A refused decode returns the blank record"
  pub read_refused_blank : ((read_body_by strict to s from).refusal ≡ 0 → ⊥) → read_body_by strict to s from ≡ body_refused (read_body_by strict to s from).refusal
  read_refused_blank = (body_found strict to s from).blank

  -- a comment or a text is a place in the input, and so is an identifier
  pub read_comment_within : (read_body_by strict to s from).body.comment.at + (read_body_by strict to s from).body.comment.len ≤ length s
  read_comment_within = (body_found strict to s from).within

  pub read_identifier_within : (read_body_by strict to s from).body.identifier.at + (read_body_by strict to s from).body.identifier.len ≤ length s
  read_identifier_within = (body_found strict to s from).identifier_within

  module _ (kept : Callsign) (no_call : (read_body_by strict to s from).body.kind ≡ MicE → is_blank_call kept ≡ true) where
    -- beside any destination, a Mic-E body beside none, it is in range but for a Mic-E angle of 180 degrees and a position symbol
    -- byte of 128 or more
    pub read_range : body_in_range (read_body_by strict to s from).body kept ≡ not (is_excepted (read_body_by strict to s from).body)
    read_range = (body_found strict to s from).range kept no_call

    -- so it is written but for those two, 15, an Unknown kind, 14, and what is handed over with a message or a status, 18
    pub read_unwritten : (text identifier : List ℕ)
        → (write_body (read_body_by strict to s from).body kept text identifier).refusal ≡ cond (is_excepted (read_body_by strict to s from).body) 15 (body_refusal (read_body_by strict to s from).body text identifier)
    unfolding write_body
    read_unwritten text identifier =
        let b = (read_body_by strict to s from).body in
        rw read_range (or_first (is_excepted b) (body_refusal b text identifier) (written_to b kept) (body_bytes b) (tail_bytes b identifier))

-- ---- the time of what was read (document 02, R-3)

module _ (to : Callsign) (s : List ℕ) (from : ℕ) where
  -- none, or the one that the seven bytes behind the type byte say
  pub read_time_of_bytes : TimeOf s (from + 1) (read_body to s from)
  read_time_of_bytes = read_time_lem to s from

  -- a time's seven bytes are those that are written of it: "zeros kept"
  pub read_time_is_kept : is_present (read_body to s from).body.time ≡ true → take time_bytes (drop (from + 1) s) ≡ time_text (read_body to s from).body.time
  read_time_is_kept = read_time_kept to s from

-- ---- the boxes of what was read, from its digits on outward (document 02, R-1)

-- each angle is the inner edge of its box; a Mic-E longitude keeps the digits that its latitude's blanks leave open, so it is one
-- where these are 0, as without blanks
pub record InnerEdges (b : Body) : Type 0 where
  pub latitude : InnerEdge b.place.south b.place.blanks b.place.latitude.0 (box_of most_latitude b.place.latitude.0 b.place.blanks b.place.south)
  pub longitude : nat_abs b.place.longitude.0 % width_of b.place.blanks ≡ 0
      → InnerEdge b.place.west b.place.blanks b.place.longitude.0 (box_of most_longitude b.place.longitude.0 b.place.blanks b.place.west)
  pub longitude_whole : (b.kind ≡ MicE → ⊥) → nat_abs b.place.longitude.0 % width_of b.place.blanks ≡ 0
  pub without_blanks : b.place.blanks ≡ 0 → nat_abs b.place.longitude.0 % width_of b.place.blanks ≡ 0

pub read_inner_edges : (strict : Bool) (to : Callsign) (s : List ℕ) (from : ℕ) → InnerEdges (read_body_by strict to s from).body
unfolding width_of
read_inner_edges strict to s from =
    let f = body_found strict to s from in
    let place = (read_body_by strict to s from).body.place in
    record {
      latitude = latitude_is_inner_edge place f.near f.agree f.latitude_whole;
      longitude = longitude_is_inner_edge place f.near f.agree;
      longitude_whole = f.longitude_whole;
      without_blanks = λ e. rw e (omega arith);
    }

-- of the blank body too, which an empty body reads as
pub blank_inner_edges : InnerEdges blank_body
unfolding read_body_by
blank_inner_edges = read_inner_edges usually blank_call [] 0

-- the blank body is in range, beside any destination
pub blank_range : (to : Callsign) → body_in_range blank_body to ≡ true
unfolding blank_body no_report no_addressee pad_to zeros body_in_range in_range_as unknown_in_range is_bare is_no_place is_no_letter is_no_report message_number no_time is_no_time
blank_range to = refl

-- ---- what is written

module _ (b : Body) (to : Callsign) where
  -- the destination is in range where the record's own is
  pub destination_range : body_in_range b to ≡ true → in_range (written_to b to) ≡ in_range to
  destination_range = built.to_same b to

  module _ (text identifier : List ℕ) where
    -- at most 27 bytes before the comment or text: those of a position with a time
    pub fixed_at_most_27 : length b.addressee ≡ addressee_bytes → (write_body b to text identifier).len ≤ 27
    unfolding write_body
    fixed_at_most_27 nine = go (body_in_range b to) refl
      where
        go : (t : Bool) → body_in_range b to ≡ t → (cond t (written_or (body_refusal b text identifier) (written_to b to) (body_bytes b) (tail_bytes b identifier)) unwritten).len ≤ 27
        go true e = or_len (body_refusal b text identifier) (written_to b to) (body_bytes b) (tail_bytes b identifier) 27 (fixed_short b to nine e)
        go false e = nothing_before

    -- at most 6 behind it: `{` and an identifier
    pub tail_at_most_6 : (write_body b to text identifier).tail_len ≤ 6
    unfolding write_body body_refusal tail_bytes
    tail_at_most_6 = go (body_in_range b to) b.kind
      where
        go : (t : Bool) (k : Kind) → (cond t (written_or (refusal_as k b text identifier) (written_to b to) (body_bytes b) (tail_as k identifier)) unwritten).tail_len ≤ 6
        go true k = or_tail (refusal_as k b text identifier) (written_to b to) (body_bytes b) (tail_as k identifier) 6 (tail_short k b text identifier)
        go false k = nothing_behind

    -- what is in use lies within the arrays, whatever the record is
    pub fixed_within : (write_body b to text identifier).len ≤ length (write_body b to text identifier).bytes
    unfolding write_body
    fixed_within = picked (λ (w : BodyWritten) t. w.len ≤ length w.bytes) _ unwritten (or_within (body_refusal b text identifier) (written_to b to) (body_bytes b) (tail_bytes b identifier)).0 nothing_within.0 (body_in_range b to)

    pub behind_within : (write_body b to text identifier).tail_len ≤ length (write_body b to text identifier).tail
    unfolding write_body
    behind_within = picked (λ (w : BodyWritten) t. w.tail_len ≤ length w.tail) _ unwritten (or_within (body_refusal b text identifier) (written_to b to) (body_bytes b) (tail_bytes b identifier)).1 nothing_within.1 (body_in_range b to)

    module _ (z : (write_body b to text identifier).refusal ≡ 0) where
      as_written_lem : write_body b to text identifier ≡ written_as 0 (written_to b to) (body_bytes b) (tail_bytes b identifier)
      unfolding write_body
      as_written_lem = go (body_in_range b to) z
        where
          go : (t : Bool) → (cond t (written_or (body_refusal b text identifier) (written_to b to) (body_bytes b) (tail_bytes b identifier)) unwritten).refusal ≡ 0
              → cond t (written_or (body_refusal b text identifier) (written_to b to) (body_bytes b) (tail_bytes b identifier)) unwritten ≡ written_as 0 (written_to b to) (body_bytes b) (tail_bytes b identifier)
          go true e = or_written (body_refusal b text identifier) (written_to b to) (body_bytes b) (tail_bytes b identifier) e
          go false e = absurd (not_unwritten e)

      -- the first `len` bytes are those before the comment or text
      pub fixed_bytes_lem : take (write_body b to text identifier).len (write_body b to text identifier).bytes ≡ body_bytes b
      unfolding written_as pad_to
      fixed_bytes_lem = rw as_written_lem (take_at (body_bytes b) _ (length (body_bytes b)) refl)

      -- and the first `tail_len` bytes of the tail those behind it
      pub tail_bytes_lem : take (write_body b to text identifier).tail_len (write_body b to text identifier).tail ≡ tail_bytes b identifier
      unfolding written_as pad_to
      tail_bytes_lem = rw as_written_lem (take_at (tail_bytes b identifier) _ (length (tail_bytes b identifier)) refl)

-- ---- a position as written reads back, with its time or without one, behind other bytes and beside any destination

module _ (b : Body) (to : Callsign) (k : b.kind ≡ Position) (e : body_in_range b to ≡ true) (beside : Callsign) (before comment : List ℕ) where
  -- its angles cut to the width that its blanks leave; messaging, time and comment as they are
  pub position_reads_cut : read_body beside (before ++ (body_bytes b ++ comment)) (length before) ≡ body_accepted (cut_back b (length before + length (body_bytes b)) (length comment))
  position_reads_cut = cut_back_lem b to k e beside before comment

  -- its latitude as it is, where that is a multiple of the width
  pub position_latitude_back : nat_abs b.place.latitude.0 % width_of b.place.blanks ≡ 0 → (cut_back b (length before + length (body_bytes b)) (length comment)).place.latitude ≡ b.place.latitude
  position_latitude_back h = ap (λ (z : ℤ). record { 0 = z }) (cut_whole b.place.latitude.0 b.place.blanks h)

  -- all of it, but for the letter at 0, where both angles are
  pub position_reads_back : nat_abs b.place.latitude.0 % width_of b.place.blanks ≡ 0 → nat_abs b.place.longitude.0 % width_of b.place.blanks ≡ 0
      → read_body beside (before ++ (body_bytes b ++ comment)) (length before) ≡ body_accepted (comes_back b (length before + length (body_bytes b)) (length comment))
  unfolding as_written
  position_reads_back h l = position_reads_cut ∙ rw (cut_whole b.place.latitude.0 b.place.blanks h, cut_whole b.place.longitude.0 b.place.blanks l)

  -- the bytes at the comment's place
  pub position_comment_back : drop (length before + length (body_bytes b)) (before ++ (body_bytes b ++ comment)) ≡ comment
  position_comment_back = behind_comment b to k e before comment

  -- the comment is 27 bytes from the type byte where there is a time, else 20
  pub timed_comment_place : is_time b.time ≡ true → length (body_bytes b) ≡ 27
  timed_comment_place h = its_length b to k e ∙ ap (λ (n : ℕ). 20 + n) (a_time_seven_bytes b.time h)

  pub untimed_comment_place : is_no_time b.time ≡ true → length (body_bytes b) ≡ 20
  untimed_comment_place h = its_length b to k e ∙ ap (λ (l : List ℕ). 20 + length l) (no_time_no_bytes b.time h)

-- ---- a message and a status as written read back, behind other bytes and beside any destination (document 02, R-5)

module _ (b : Body) (to : Callsign) (text identifier : List ℕ) (e : body_in_range b to ≡ true) (fits : body_refusal b text identifier ≡ 0) (beside : Callsign) (before : List ℕ) where
  -- addressee, text and identifier, which is nowhere where there is none
  pub message_reads_back : b.kind ≡ Message → length b.addressee ≡ addressee_bytes
      → read_body beside (before ++ (body_bytes b ++ (text ++ tail_bytes b identifier))) (length before)
      ≡ body_accepted (body_with Message (record { at = length before + length (body_bytes b); len = length text })
      (identifier_span (length before + length (body_bytes b) + length text) (length identifier)) no_time b.addressee)
  unfolding body_bytes bytes_as tail_bytes tail_as body_refusal refusal_as
  message_reads_back k nine = rw k (message_back b.addressee text identifier nine (rw k at fits) beside before)

  -- time and text
  pub status_reads_back : b.kind ≡ Status
      → read_body beside (before ++ (body_bytes b ++ (text ++ tail_bytes b identifier))) (length before)
      ≡ body_accepted (body_with Status (record { at = length before + length (body_bytes b); len = length text }) no_span b.time no_addressee)
  unfolding body_bytes bytes_as tail_bytes tail_as body_refusal refusal_as body_in_range in_range_as status_in_range is_bare status_text_refusal
  status_reads_back k =
      let timed = status_timed b (rw k at e) in
      let fine = passed (is_status_text b.time text) 0 18 0 (λ q. omega arith) (rw k at fits) in
      rw (k, append-nil text) (status_back b.time text timed fine.0 beside before)

module _ (b : Body) (text identifier before : List ℕ) where
  -- the bytes at the text's place
  pub text_back : spanned (record { at = length before + length (body_bytes b); len = length text }) (before ++ (body_bytes b ++ (text ++ tail_bytes b identifier))) ≡ text
  text_back = text_shown_back before (body_bytes b) text (tail_bytes b identifier)

  -- and at the identifier's
  pub identifier_back : b.kind ≡ Message
      → spanned (identifier_span (length before + length (body_bytes b) + length text) (length identifier)) (before ++ (body_bytes b ++ (text ++ tail_bytes b identifier))) ≡ identifier
  identifier_back k = rw (message_tail b identifier k) (identifier_shown_back before (body_bytes b) text identifier)

-- the text is 11 bytes from the type byte of a message
pub message_text_place : (b : Body) → b.kind ≡ Message → length b.addressee ≡ addressee_bytes → length (body_bytes b) ≡ 11
unfolding body_bytes bytes_as
message_text_place b k nine = rw k (message_front_long b.addressee nine)

-- 8 from that of a status with a time, and 1 without
pub status_text_place : (b : Body) → b.kind ≡ Status → length (body_bytes b) ≡ 1 + length (time_text b.time)
unfolding body_bytes bytes_as status_bytes
status_text_place b k = rw k (omega arith)

-- all of it, type byte and identifier too, has at most 84 bytes
pub message_at_most_84 : (b : Body) (text identifier : List ℕ) → b.kind ≡ Message → length b.addressee ≡ addressee_bytes → body_refusal b text identifier ≡ 0
    → length (body_bytes b ++ (text ++ tail_bytes b identifier)) ≤ 84
unfolding body_bytes bytes_as tail_bytes tail_as body_refusal refusal_as
message_at_most_84 b text identifier k nine fits = rw k (message_short b.addressee text identifier nine (rw k at fits))

pub status_at_most_63 : (b : Body) (to : Callsign) (text identifier : List ℕ) → b.kind ≡ Status → body_in_range b to ≡ true → body_refusal b text identifier ≡ 0
    → length (body_bytes b ++ (text ++ tail_bytes b identifier)) ≤ 63
unfolding body_bytes bytes_as tail_bytes tail_as body_refusal refusal_as body_in_range in_range_as status_in_range is_bare status_text_refusal
status_at_most_63 b to text identifier k e fits =
    let fine = passed (is_status_text b.time text) 0 18 0 (λ q. omega arith) (rw k at fits) in
    rw (k, append-nil text) (status_short b.time text (status_timed b (rw k at e)) fine.0)

-- ---- every body that starts `:` or `>`: a message or a status, whose bytes are its parts joined and which is written again, or 18

module _ (to : Callsign) (s : List ℕ) (from : ℕ) (h : from < length s) where
  pub read_message_or_18 : get_or s from 0 ≡ colon → TextOr18 s from h Message (read_body to s from)
  read_message_or_18 = message_read_or_18 s from h to

  pub read_status_or_18 : get_or s from 0 ≡ greater → TextOr18 s from h Status (read_body to s from)
  read_status_or_18 = status_read_or_18 s from h to

-- ---- "A Mic-E body and destination as written, read by themselves, give back the Mic-E part of the record and the comment
-- bytes, if latitude is a multiple of the width its blanks leave." They may stand behind other bytes. Document 02, R-1, "excepts
-- the letter at 0".

module _ (b : Body) (to : Callsign) (k : b.kind ≡ MicE) (e : body_in_range b to ≡ true) (before comment : List ℕ) where
  pub mic_e_reads_back : nat_abs b.place.latitude.0 % width_of b.place.blanks ≡ 0
      → read_body (written_to b to) (before ++ (body_bytes b ++ comment)) (length before) ≡ body_accepted (comes_back b (length before + 9) (length comment))
  mic_e_reads_back width = body_back b to k e width before comment

  -- its place is the record's, where neither angle is 0
  pub mic_e_letters_back : (b.place.latitude.0 ≡ pos 0 → ⊥) → (b.place.longitude.0 ≡ pos 0 → ⊥) → (comes_back b (length before + 9) (length comment)).place ≡ b.place
  mic_e_letters_back = letters_kept b.place (held b to k e).agree

  -- one that is 0 comes back N or E, and the other letter is the record's
  pub mic_e_north_at_zero : b.place.latitude.0 ≡ pos 0 → (comes_back b (length before + 9) (length comment)).place.south ≡ false
  mic_e_north_at_zero = zero_is_north b.place

  pub mic_e_east_at_zero : b.place.longitude.0 ≡ pos 0 → (comes_back b (length before + 9) (length comment)).place.west ≡ false
  mic_e_east_at_zero = zero_is_east b.place

  pub mic_e_latitude_letter_back : (b.place.latitude.0 ≡ pos 0 → ⊥) → (comes_back b (length before + 9) (length comment)).place.south ≡ b.place.south
  mic_e_latitude_letter_back = latitude_letter_kept b.place (held b to k e).agree

  pub mic_e_longitude_letter_back : (b.place.longitude.0 ≡ pos 0 → ⊥) → (comes_back b (length before + 9) (length comment)).place.west ≡ b.place.west
  mic_e_longitude_letter_back = longitude_letter_kept b.place (held b to k e).agree

  -- the bytes at the comment's place
  pub mic_e_comment_back : drop (length before + 9) (before ++ (body_bytes b ++ comment)) ≡ comment
  mic_e_comment_back = comment_back b to k e before comment
