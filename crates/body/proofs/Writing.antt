-- Laws of a body that is written, one for each answer of the code, by the facts that its tests leave.
-- Assumes nothing.
use mathlib.Core.Path.{◌≡◌, refl, sym, ap, ap₂, ◌∙◌}
use mathlib.Core.Logic.{⊎_elim}
use mathlib.Core.Bool.{Bool, true, false, not, cond, ◌&&◌}
use mathlib.Core.List.{List, [], ◌∷◌, ◌++◌, append-nil, append_assoc}
use Prim.Native.Nat.{ℕ, ◌+◌, ◌-◌, ◌≤◌}
use native.Mathlib.Nat.{add_comm}
use native.Mathlib.Numerals.{add-one}
use native.Mathlib.Omega.{arith}
use borrow.Rule.Slice.PartMut.{put_mid}
use mir.Val.{Fits}
use mir.Syntax.{w64}
use borrow.Author.Tests.{not-true, not-false, eq-eqb, ne_eqb}
use lib.Dec.{eqb}
use lib.IntN.{ℤ}
use lib.ListN.{length, take, drop, replicate, length-append, length-replicate, drop_of_length-le}
use lib.Seq.{take-length, take_at, take_all, drop_at}
use Rattle.laws.specs.Bytes.{backquote, apostrophe, colon}
use Rattle.laws.specs.Lists.{pad_to}
use Rattle.laws.proofs.Lists.{drop_replicate}
use Rattle.laws.proofs.Tests.{and_first, and_second, or_either}
use Rattle.buffer.specs.declared.Answer.{Answer}
use Rattle.buffer.specs.Wrote.{ends, wrote}
use Rattle.buffer.proofs.Answers.{refusal_is, bytes_are, reported_is}
use Rattle.callsign.specs.declared.Callsign.{Callsign}
use Rattle.callsign.specs.Text.{made}
use Rattle.callsign.specs.Range.{is_blank_call}
use Rattle.callsign.specs.Address.{ssid_of, ssid_text}
use Rattle.time.specs.declared.Time.{Time}
use Rattle.time.specs.Time.{is_no_time, is_time, time_text, time_in_range, time_refusal}
use Rattle.time.proofs.Theorems.{no_time_no_bytes, a_time_seven_bytes}
use Rattle.position.specs.declared.Place.{Place}
use Rattle.position.specs.Position.{place_in_range, letters_agree, position_fits, position_text, position_refusal}
use Rattle.position.proofs.Lengths.{position_length}
use Rattle.mic_e.specs.declared.Message as mic-e
use Rattle.mic_e.specs.declared.DestinationWritten.{DestinationWritten}
use Rattle.mic_e.specs.Destination.{destination_bytes, destination_refusal, write_destination}
use Rattle.mic_e.specs.Information.{information_bytes, information_out, information_refusal}
use Rattle.mic_e.proofs.DestinationFacts.{destination_length}
use Rattle.mic_e.proofs.Theorems.{information_length}
use Rattle.message.specs.Message.{addressee_bytes, addressee_text, is_text, identifier_text, identifier_refusal, message_refusal}
use Rattle.message.specs.Status.{is_status_time, status_text_refusal}
use Rattle.message.proofs.Theorems.{identifier_at_most_6, status_time_in_range}
use Rattle.body.specs.declared.Kind.{Kind}
use Rattle.body.specs.declared.Kind.TheVariants.{Unknown, Position, MicE, Message, Status}
use Rattle.body.specs.declared.Report.{Report}
use Rattle.body.specs.declared.Body.{Body}
use Rattle.body.specs.declared.BodyWritten.{BodyWritten}
use Rattle.body.specs.Range.{is_no_addressee, is_place_alone, is_report_alone, is_bare, is_short, motion_in_range, unknown_in_range, position_in_range, mic_e_in_range, message_in_range, status_in_range, in_range_as, body_in_range}
use Rattle.body.specs.Written.{mic_e_call, to_as, written_to, information_of, position_type, position_bytes, mic_e_bytes, message_bytes, status_bytes, bytes_as, body_bytes, tail_as, tail_bytes, refusal_as, body_refusal, most_fixed, without_tail, unwritten, written_as, written_or, write_body}
use Rattle.body.proofs.Judged.{destination_judges, information_judges}

-- ---- out of range, from a test that failed

out_of_range : (t : Bool) (r x y : BodyWritten) → false ≡ t → r ≡ y → r ≡ cond t x y
out_of_range t r x y e w = rw (← e) w

-- a refusal of 15 told from its number
module _ (t : Bool) (k : ℕ) where
  pub refused_is : k ≡ cond t 0 15 → (k ≡ 0 → ⊥) → t ≡ false
  refused_is e z = go t e
    where
      go : (t : Bool) → k ≡ cond t 0 15 → t ≡ false
      go true e = absurd (z e)
      go false e = refl

  pub accepted_is : k ≡ cond t 0 15 → k ≡ 0 → t ≡ true
  accepted_is e z = go t e
    where
      go : (t : Bool) → k ≡ cond t 0 15 → t ≡ true
      go true e = refl
      go false e = absurd (omega arith)

-- ---- a position: the refusals of its time's and its place's writer are the judgement

-- no bytes, or seven
pub time_short : (t : Time) → time_in_range t ≡ true → length (time_text t) ≤ 7
unfolding time_in_range
time_short t e =
    ⊎_elim
    (λ n. omega (arith, ap length (no_time_no_bytes t n)))
    (λ i. omega (arith, a_time_seven_bytes t i))
    (or_either (is_no_time t) (is_time t) e)

abbrev pub behind_type : List ℕ
behind_type = replicate 26 0

-- the zeros that are left behind the type byte and a time
abbrev zeros_behind : List ℕ → List ℕ
zeros_behind x = replicate (26 - length x) 0

-- a type byte k, and behind it x of n bytes, at most seven
module _ (k : ℕ) (x left : List ℕ) (n : ℕ) (sized : n ≡ length x) (seven : n ≤ 7) (starts : left ≡ x ++ zeros_behind x) where
  in_front : take (1 + n) (k ∷ (left ++ [])) ≡ k ∷ x
  in_front = rw (add_comm 1 n, add-one, append-nil left, starts) (ap {B = List ℕ} (λ l. k ∷ l) (take_at x (zeros_behind x) n (sym sized)))

  rest_whole : drop (1 + n) (k ∷ (left ++ [])) ≡ zeros_behind x
  rest_whole = rw (add_comm 1 n, add-one, append-nil left, starts) (drop_at x (zeros_behind x) n (sym sized))

  rest_lent : take (27 - (1 + n)) (drop (1 + n) (k ∷ (left ++ []))) ≡ zeros_behind x
  rest_lent = rw rest_whole (take_all (27 - (1 + n)) (zeros_behind x) (omega (arith, length-replicate {A = ℕ} (26 - length x) 0)))

  rest_gone : drop (27 - (1 + n)) (drop (1 + n) (k ∷ (left ++ []))) ≡ []
  rest_gone = rw rest_whole (drop_of_length-le (zeros_behind x) {i = 27 - (1 + n)} (omega (arith, length-replicate {A = ℕ} (26 - length x) 0)))

-- and 19 bytes y behind that
module _ (k : ℕ) (x y left last : List ℕ) (n : ℕ) (sized : n ≡ length x) (seven : n ≤ 7) (nineteen : length y ≡ 19)
    (starts : left ≡ x ++ zeros_behind x) (goes_on : last ≡ y ++ drop 19 (zeros_behind x)) where
  all_together : put_mid (1 + n) (27 - (1 + n)) (k ∷ (left ++ [])) last ≡ pad_to most_fixed 0 (k ∷ (x ++ y))
  unfolding pad_to
  all_together =
      let m : 26 - length x - 19 ≡ 27 - length (k ∷ (x ++ y)) = omega (arith, length-append x y) in
      rw (in_front k x left n sized seven starts, rest_gone k x left n sized seven starts, append-nil, goes_on, drop_replicate {A = ℕ} (26 - length x) 19 0, m)
      (sym (append_assoc (k ∷ x) y (replicate (27 - length (k ∷ (x ++ y))) 0)))

-- k is the type byte, and t what the time's writer answers
module _ (b : Body) (u : Bool) (e : u ≡ is_place_alone b) (f : not u ≡ false) (k : ℕ) (t : Answer) (left : List ℕ)
    (w : ends t left ≡ wrote (time_refusal b.time) (time_text b.time) behind_type) where
  time_says : t.refusal ≡ cond (time_in_range b.time) 0 15
  unfolding time_refusal
  time_says = refusal_is t left (time_text b.time) behind_type (time_refusal b.time) w (λ z. omega (arith, time_short b.time (accepted_is (time_in_range b.time) 0 (sym z) refl)))

  pub time_out : (r y : BodyWritten) → (t.refusal ≡ 0 → ⊥) → r ≡ unwritten → r ≡ cond (position_in_range b) y unwritten
  unfolding position_in_range
  time_out r y z q = rw (← e, not-false u f, refused_is (time_in_range b.time) t.refusal time_says z) q

  module _ (z : t.refusal ≡ 0) where
    timed : time_in_range b.time ≡ true
    timed = accepted_is (time_in_range b.time) t.refusal time_says z

    taken : time_refusal b.time ≡ 0
    unfolding time_refusal
    taken = rw timed

    time_room : length (time_text b.time) ≤ length behind_type
    time_room = omega (arith, time_short b.time timed)

    reported : t.reported ≡ length (time_text b.time)
    reported = reported_is t left (time_text b.time) behind_type (time_refusal b.time) w taken time_room

    pub few : t.reported ≤ 7
    few = omega (arith, reported, time_short b.time timed)

    pub behind_fits : Fits w64 (1 + t.reported)
    behind_fits = record { fits = omega (arith, few) }

    pub behind_within : 1 + t.reported ≤ 27
    behind_within = omega (arith, few)

    time_left : left ≡ time_text b.time ++ replicate (26 - length (time_text b.time)) 0
    time_left = bytes_are t left (time_text b.time) behind_type (time_refusal b.time) w taken time_room ∙ ap (λ (l : List ℕ). time_text b.time ++ l) (drop_replicate 26 (length (time_text b.time)) 0)

    pub left_long : 27 ≤ length (k ∷ (left ++ []))
    left_long =
        rw (append-nil left, time_left)
        (omega (arith, length-append (time_text b.time) (zeros_behind (time_text b.time)), length-replicate {A = ℕ} (26 - length (time_text b.time)) 0, time_short b.time timed))

    pub end_fits : Fits w64 (1 + t.reported + 19)
    end_fits = record { fits = omega (arith, few) }

    -- p is what the place's writer answers, behind the time
    module _ (p : Answer) (last : List ℕ)
        (v : ends p last ≡ wrote (position_refusal b.place) (position_text b.place) (take (27 - (1 + t.reported)) (drop (1 + t.reported) (k ∷ (left ++ []))))) where
      abbrev fine : Bool
      fine = position_fits b.place

      lent : take (27 - (1 + t.reported)) (drop (1 + t.reported) (k ∷ (left ++ []))) ≡ zeros_behind (time_text b.time)
      lent = rest_lent k (time_text b.time) left t.reported reported few time_left

      lent_long : length (take (27 - (1 + t.reported)) (drop (1 + t.reported) (k ∷ (left ++ [])))) ≡ 26 - length (time_text b.time)
      lent_long = ap length lent ∙ length-replicate {A = ℕ} (26 - length (time_text b.time)) 0

      position_room : position_refusal b.place ≡ 0 → length (position_text b.place) ≤ length (take (27 - (1 + t.reported)) (drop (1 + t.reported) (k ∷ (left ++ []))))
      position_room z = omega (arith, lent_long, position_length b.place z, time_short b.time timed)

      position_says : p.refusal ≡ cond fine 0 15
      unfolding position_refusal
      position_says = refusal_is p last (position_text b.place) _ (position_refusal b.place) v position_room

      judged_by : (y : Bool) → fine ≡ y → position_in_range b ≡ y
      unfolding position_in_range
      judged_by y j = rw (← e, not-false u f, timed) j

      pub position_out : (r y : BodyWritten) → (p.refusal ≡ 0 → ⊥) → r ≡ unwritten → r ≡ cond (position_in_range b) y unwritten
      position_out r y z q = out_of_range (position_in_range b) r y unwritten (sym (judged_by false (refused_is fine p.refusal position_says z))) q

      module _ (yes : p.refusal ≡ 0) where
        accepts : position_refusal b.place ≡ 0
        unfolding position_refusal
        accepts = sym position_says ∙ yes

        position_last : last ≡ position_text b.place ++ drop 19 (zeros_behind (time_text b.time))
        position_last =
            bytes_are p last (position_text b.place) _ (position_refusal b.place) v accepts (position_room accepts)
            ∙ ap₂ (λ (n : ℕ) (l : List ℕ). position_text b.place ++ drop n l) (position_length b.place accepts) lent

        pub position_written : (to : Callsign) (r : BodyWritten) → k ≡ position_type b.messaging b.time
            → r ≡ without_tail to (put_mid (1 + t.reported) (27 - (1 + t.reported)) (k ∷ (left ++ [])) last) (1 + t.reported + 19)
            → r ≡ cond (position_in_range b) (written_as 0 to (position_bytes b.place b.messaging b.time) []) unwritten
        unfolding written_as without_tail position_bytes
        position_written to r q w =
            let long : length (k ∷ (time_text b.time ++ position_text b.place)) ≡ 1 + t.reported + 19 =
            omega (arith, reported, length-append (time_text b.time) (position_text b.place), position_length b.place accepts) in
            rw (
              w,
              judged_by true (accepted_is fine p.refusal position_says yes),
              ← q,
              long,
              all_together k (time_text b.time) (position_text b.place) left last t.reported reported few (position_length b.place accepts) time_left position_last,
            )

-- ---- a Mic-E report: so are the refusals of its destination's and its information's writer

module _ (place : Place) (report : Report) (w : Answer) (last : List ℕ)
    (e : ends w last ≡ wrote (information_refusal (information_of place report)) (information_bytes (information_of place report)) behind_type) where
  abbrev info : List ℕ
  info = information_bytes (information_of place report)

  abbrev out : Bool
  out = information_out (information_of place report)

  room : length info ≤ length behind_type
  room = omega (arith, information_length (information_of place report))

  told : w.refusal ≡ cond (not out) 0 15
  unfolding information_refusal
  told = refusal_is w last info behind_type (information_refusal (information_of place report)) e (λ z. room) ∙ turned out
    where
      turned : (t : Bool) → ◌≡◌ {A = ℕ} (cond t 15 0) (cond (not t) 0 15)
      turned true = refl
      turned false = refl

  pub report_out : (r x : BodyWritten) → (w.refusal ≡ 0 → ⊥) → r ≡ unwritten → r ≡ cond out unwritten x
  report_out r x z q = rw (not-false out (refused_is (not out) w.refusal told z)) q

  module _ (z : w.refusal ≡ 0) where
    inside : out ≡ false
    inside = not-true out (accepted_is (not out) w.refusal told z)

    takes : information_refusal (information_of place report) ≡ 0
    unfolding information_refusal
    takes = rw inside

    after : last ++ [] ≡ info ++ replicate 18 0
    after =
        append-nil last ∙ bytes_are w last info behind_type (information_refusal (information_of place report)) e takes room
        ∙ ap (λ (n : ℕ). info ++ drop n behind_type) (information_length (information_of place report))

    pub report_written : (call : List ℕ) (to : Callsign) (k : ℕ) (r : BodyWritten)
        → call ≡ destination_bytes place.latitude.0 place.blanks report.message place.longitude.0
        → to ≡ made (take 6 call) (ssid_text (ssid_of 0))
        → k ≡ cond report.current backquote apostrophe
        → r ≡ without_tail to (k ∷ (last ++ [])) 9
        → r ≡ cond out unwritten (written_as 0 (mic_e_call place report) (mic_e_bytes place report) [])
    unfolding written_as without_tail mic_e_call mic_e_bytes pad_to ssid_text ssid_of
    report_written call to k r c t q w =
        let six = destination_length place.latitude.0 place.blanks report.message place.longitude.0 in
        let whole : take 6 call ≡ call = ap (λ (n : ℕ). take n call) (sym (ap length c ∙ six)) ∙ take-length call in
        rw (w, inside, t, whole, c, ← q, after, information_length (information_of place report))

-- the destination's refusal, and its bytes without one
module _ (latitude : ℤ) (blanks : ℕ) (message : mic-e.Message) (longitude : ℤ) (d : DestinationWritten) (q : d ≡ write_destination latitude blanks message longitude) where
  destination_says : eqb d.refusal 0 ≡ eqb (destination_refusal latitude blanks longitude) 0
  unfolding write_destination
  destination_says = rw q (go (eqb (destination_refusal latitude blanks longitude) 0) refl)
    where
      go : (t : Bool) → eqb (destination_refusal latitude blanks longitude) 0 ≡ t
          → eqb
          (cond {A = DestinationWritten} t (record { refusal = 0; bytes = destination_bytes latitude blanks message longitude })
          (record { refusal = destination_refusal latitude blanks longitude; bytes = replicate 6 0 })).refusal
          0
          ≡ t
      go true e = refl
      go false e = e

  pub destination_is : d.refusal ≡ 0 → d.bytes ≡ destination_bytes latitude blanks message longitude
  unfolding write_destination
  destination_is z = rw (q, sym destination_says ∙ eq-eqb d.refusal 0 z)

module _ (b : Body) (to : Callsign) (u : Bool) (e : u ≡ is_blank_call to) (f : not u ≡ false) (x : Bool) (k : x ≡ is_report_alone b) (l : not x ≡ false)
    (v : Bool) (i : v ≡ letters_agree b.place) (j : not v ≡ false) (d : DestinationWritten)
    (q : d ≡ write_destination b.place.latitude.0 b.place.blanks b.report.message b.place.longitude.0) where
  left : mic_e_in_range b to ≡ ((place_in_range b.place && is_short b.place) && motion_in_range b.report)
  unfolding mic_e_in_range
  left = rw (← e, not-false u f, ← k, not-false x l, ← i, not-false v j) (apart (place_in_range b.place) (is_short b.place) (motion_in_range b.report))
    where
      apart : (x y z : Bool) → (x && (y && z)) ≡ ((x && y) && z)
      apart true y z = refl
      apart false y z = refl

  placed : eqb d.refusal 0 ≡ (place_in_range b.place && is_short b.place)
  placed = destination_says b.place.latitude.0 b.place.blanks b.report.message b.place.longitude.0 d q ∙ destination_judges b.place

  pub mic_e_out : (r x : BodyWritten) → (d.refusal ≡ 0 → ⊥) → r ≡ unwritten → r ≡ cond (mic_e_in_range b to) x unwritten
  mic_e_out r x z w = rw (left, ← placed, ne_eqb d.refusal 0 z) w

  pub mic_e_written : (r x : BodyWritten) → d.refusal ≡ 0 → r ≡ cond (information_out (information_of b.place b.report)) unwritten x → r ≡ cond (mic_e_in_range b to) x unwritten
  mic_e_written r x z w =
      let fine = sym placed ∙ eq-eqb d.refusal 0 z in
      let judges = information_judges b.place b.report (and_second (place_in_range b.place) (is_short b.place) fine) in
      w ∙ rw (judges, left, fine) (turned (motion_in_range b.report))
    where
      turned : (t : Bool) → cond (not t) unwritten x ≡ cond t x unwritten
      turned true = refl
      turned false = refl

-- ---- by the kind

module _ (b : Body) (to : Callsign) (text identifier : List ℕ) where
  written_by : (k : Kind) → b.kind ≡ k → write_body b to text identifier ≡ cond (in_range_as k b to) (written_or (refusal_as k b text identifier) (to_as k b to) (bytes_as k b) (tail_as k identifier)) unwritten
  unfolding write_body body_in_range body_refusal written_to body_bytes tail_bytes
  written_by k e = ap (λ (x : Kind). cond (in_range_as x b to) (written_or (refusal_as x b text identifier) (to_as x b to) (bytes_as x b) (tail_as x identifier)) unwritten) e

  module _ (r : BodyWritten) where
    pub write_unknown : b.kind ≡ Unknown → r ≡ cond (unknown_in_range b) (written_as 14 to [] []) unwritten → r ≡ write_body b to text identifier
    unfolding in_range_as to_as bytes_as tail_as refusal_as written_or
    write_unknown k w = w ∙ sym (written_by Unknown k)

    pub write_position : b.kind ≡ Position → r ≡ cond (position_in_range b) (written_as 0 to (position_bytes b.place b.messaging b.time) []) unwritten → r ≡ write_body b to text identifier
    unfolding in_range_as to_as bytes_as tail_as refusal_as written_or
    write_position k w = w ∙ sym (written_by Position k)

    pub write_mic_e : b.kind ≡ MicE → r ≡ cond (mic_e_in_range b to) (written_as 0 (mic_e_call b.place b.report) (mic_e_bytes b.place b.report) []) unwritten → r ≡ write_body b to text identifier
    unfolding in_range_as to_as bytes_as tail_as refusal_as written_or
    write_mic_e k w = w ∙ sym (written_by MicE k)

    pub write_message : b.kind ≡ Message → r ≡ cond (message_in_range b) (written_or (message_refusal text identifier) to (message_bytes b.addressee) (identifier_text identifier)) unwritten → r ≡ write_body b to text identifier
    unfolding in_range_as to_as bytes_as tail_as refusal_as
    write_message k w = w ∙ sym (written_by Message k)

    pub write_status : b.kind ≡ Status → r ≡ cond (status_in_range b) (written_or (status_text_refusal b.time text) to (status_bytes b.time) []) unwritten → r ≡ write_body b to text identifier
    unfolding in_range_as to_as bytes_as tail_as refusal_as
    write_status k w = w ∙ sym (written_by Status k)

pub ruleset by_kind = (write_unknown, write_position, write_mic_e, write_message, write_status)

pub ruleset of_mic_e = (destination_is, mic_e_out, mic_e_written)

-- ---- how many bytes: at most 27 before the comment or text, those of a position with a time, and 6 behind it

position_time_and_place : (b : Body) → position_in_range b ≡ true → (time_in_range b.time && position_fits b.place) ≡ true
unfolding position_in_range
position_time_and_place b e = and_second (is_place_alone b) _ e

position_accepts : (b : Body) → position_in_range b ≡ true → position_refusal b.place ≡ 0
unfolding position_refusal
position_accepts b e = rw (and_second (time_in_range b.time) (position_fits b.place) (position_time_and_place b e))

position_timed : (b : Body) → position_in_range b ≡ true → time_in_range b.time ≡ true
position_timed b e = and_first (time_in_range b.time) (position_fits b.place) (position_time_and_place b e)

pub status_timed : (b : Body) → status_in_range b ≡ true → is_status_time b.time ≡ true
unfolding status_in_range
status_timed b e = and_second (is_no_addressee b) _ (and_second (is_bare b) _ e)

pub fixed_short : (b : Body) (to : Callsign) → length b.addressee ≡ addressee_bytes → body_in_range b to ≡ true → length (body_bytes b) ≤ 27
unfolding body_in_range body_bytes in_range_as bytes_as position_bytes mic_e_bytes message_bytes status_bytes addressee_text
fixed_short b to nine = go b.kind
  where
    go : (k : Kind) → in_range_as k b to ≡ true → length (bytes_as k b) ≤ 27
    go Unknown e = omega arith
    go Position e = omega (arith, length-append (time_text b.time) (position_text b.place), position_length b.place (position_accepts b e), time_short b.time (position_timed b e))
    go MicE e = omega (arith, information_length (information_of b.place b.report))
    go Message e = omega (arith, length-append b.addressee (colon ∷ []))
    go Status e = omega (arith, time_short b.time (status_time_in_range b.time (status_timed b e)))

pub tail_short : (k : Kind) (b : Body) (text identifier : List ℕ) → refusal_as k b text identifier ≡ 0 → length (tail_as k identifier) ≤ 6
unfolding refusal_as tail_as message_refusal
tail_short Unknown b text identifier e = omega arith
tail_short Position b text identifier e = omega arith
tail_short MicE b text identifier e = omega arith
tail_short Message b text identifier e = go (is_text text) e
  where
    go : (t : Bool) → cond t (identifier_refusal identifier) 18 ≡ 0 → length (identifier_text identifier) ≤ 6
    go true z = identifier_at_most_6 identifier z
    go false z = absurd (omega arith)
tail_short Status b text identifier e = omega arith
