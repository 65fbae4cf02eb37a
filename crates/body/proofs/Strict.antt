-- Reading a body strictly and as usually (document 02, R-8): the one is the other, but where a fault is found that only the strict reader
-- looks for.
-- Assumes nothing.
use mathlib.Core.Path.{◌≡◌, refl, sym, ap, ◌∙◌}
use mathlib.Core.Logic.{◌⊎◌, inl, inr, ⊎_elim}
use mathlib.Core.Bool.{Bool, true, false, not, cond, ◌&&◌}
use mathlib.Core.List.{List}
use Prim.Native.Nat.{ℕ, ◌+◌}
use native.Mathlib.Omega.{arith}
use lib.Dec.{eqb, ltb}
use lib.ListN.{length, drop, get_or}
use Rattle.callsign.specs.declared.Callsign.{Callsign}
use Rattle.callsign.specs.Range.{call_part}
use Rattle.std.specs.Prelude.{Option, Some, None, Result, Ok, Err}
use Rattle.time.specs.declared.Time.{Time}
use Rattle.time.specs.Time.{time_number}
use Rattle.position.specs.declared.PositionRead.{PositionRead}
use Rattle.position.specs.Position.{fixed_bytes, usually, strictly, is_table, refused_position, read_position}
use Rattle.position.proofs.Strict.{unless, through_unless, table_unless, number_of, table_fault, position_fault, is_fault, either_fault, table_fault_lem, position_fault_lem, position_strictly, position_refused_too, is_sound, position_sound, none_where, table_none}
use Rattle.mic_e.specs.declared.Destination.{Destination}
use Rattle.mic_e.specs.Destination.{read_destination, destination_number}
use Rattle.mic_e.specs.Information.{read_information, information_number}
use Rattle.mic_e.specs.declared.Information.{Information}
use Rattle.body.specs.declared.Opening.{Opening}
use Rattle.body.specs.declared.Opening.TheVariants.{Positioned, Mic, Addressed, Stated, Other}
use Rattle.body.specs.declared.Span.{Span}
use Rattle.body.specs.declared.TimeAt.{TimeAt}
use Rattle.body.specs.declared.TimeError.{TimeError}
use Rattle.body.specs.declared.TimeError.TheVariants.{Missing, Bad}
use Rattle.body.specs.declared.BodyRead.{BodyRead}
use Rattle.body.specs.Body.{blank_body, body_accepted, body_refused, opening_of, span_from, position_body, position_from, error_number, time_at, behind_time, positioned_from, report_body, mic_e_body, body_after, read_body_by, read_body}

-- ---- the fault that only the strict reader finds; 0 is none

unfoldable pub information_fault : Option Information → ℕ
information_fault (Some i) = table_fault i.table
information_fault None = 0

-- a destination's is found whatever the information is
unfoldable pub destination_fault : Option Destination → List ℕ → ℕ
destination_fault (Some d) info = cond d.sixty (destination_number None) (information_fault (read_information info d.hundred d.west))
destination_fault None info = 0

-- of the position behind what was found of its time
unfoldable pub behind_time_fault : Result TimeAt TimeError → List ℕ → ℕ
behind_time_fault (Ok x) s = position_fault (drop x.behind s)
behind_time_fault (Err e) s = 0

-- "Times, messages, status and Unknown have no strict rule"
unfoldable pub fault_after : Opening → Callsign → List ℕ → ℕ → ℕ
fault_after (Positioned messaging timed) to s at = behind_time_fault (time_at s at timed) s
fault_after (Mic current) to s at = destination_fault (read_destination (call_part to)) (drop at s)
fault_after Addressed to s at = 0
fault_after Stated to s at = 0
fault_after Other to s at = 0

unfoldable pub body_fault : Callsign → List ℕ → ℕ → ℕ
body_fault to s from = cond (ltb from (length s)) (fault_after (opening_of (get_or s from 0)) to s (from + 1)) 0

-- ---- the strict reader is the usual one, but for its faults

behind_time_strictly : (x : Result TimeAt TimeError) (s : List ℕ) (messaging : Bool)
    → behind_time strictly x s messaging ≡ unless body_refused (behind_time_fault x s) (behind_time usually x s messaging)
unfolding behind_time behind_time_fault position_from
behind_time_strictly (Ok x) s messaging =
    let behind = drop x.behind s in
    let body : PositionRead → BodyRead = λ p. position_body p messaging x.time (span_from s (x.behind + fixed_bytes)) in
    ap body (position_strictly behind) ∙ through_unless refused_position body_refused body (λ n e. unfold position_body in rw e) (position_fault behind) (read_position behind)
behind_time_strictly (Err e) s messaging = refl

report_strictly : (d : Destination) (q : Option Information) (current : Bool) (comment : Span) → report_body strictly d q current comment ≡ unless body_refused (information_fault q) (report_body usually d q current comment)
unfolding report_body information_fault
report_strictly d (Some i) current comment = table_unless body_refused (is_table i.table) _
report_strictly d None current comment = refl

mic_e_strictly : (q : Option Destination) (info : List ℕ) (current : Bool) (comment : Span)
    → mic_e_body strictly q info current comment ≡ unless body_refused (destination_fault q info) (mic_e_body usually q info current comment)
unfolding mic_e_body destination_fault destination_number
mic_e_strictly (Some d) info current comment = go d.sixty
  where
    go : (over : Bool)
        → cond over (body_refused 11) (report_body strictly d (read_information info d.hundred d.west) current comment)
        ≡ unless body_refused (cond over 11 (information_fault (read_information info d.hundred d.west))) (report_body usually d (read_information info d.hundred d.west) current comment)
    go true = refl
    go false = report_strictly d (read_information info d.hundred d.west) current comment
mic_e_strictly None info current comment = refl

after_strictly : (o : Opening) (to : Callsign) (s : List ℕ) (at : ℕ) → body_after strictly o to s at ≡ unless body_refused (fault_after o to s at) (body_after usually o to s at)
unfolding body_after fault_after positioned_from
after_strictly (Positioned messaging timed) to s at = behind_time_strictly (time_at s at timed) s messaging
after_strictly (Mic current) to s at = mic_e_strictly (read_destination (call_part to)) (drop at s) current (span_from s (at + 8))
after_strictly Addressed to s at = refl
after_strictly Stated to s at = refl
after_strictly Other to s at = refl

module _ (to : Callsign) (s : List ℕ) (from : ℕ) where
  pub body_strictly : read_body_by strictly to s from ≡ unless body_refused (body_fault to s from) (read_body to s from)
  unfolding read_body_by body_fault
  body_strictly = go (ltb from (length s))
    where
      go : (t : Bool)
          → cond t (body_after strictly (opening_of (get_or s from 0)) to s (from + 1)) (body_accepted blank_body)
          ≡ unless body_refused (cond t (fault_after (opening_of (get_or s from 0)) to s (from + 1)) 0) (cond t (body_after usually (opening_of (get_or s from 0)) to s (from + 1)) (body_accepted blank_body))
      go true = after_strictly (opening_of (get_or s from 0)) to s (from + 1)
      go false = refl

  -- what holds of the usual answer and of every refusal holds of the strict one too
  pub by_mode : (P : BodyRead → Type 0) → ((n : ℕ) → P (body_refused n)) → P (read_body to s from) → (strict : Bool) → P (read_body_by strict to s from)
  by_mode P refused p true = rw body_strictly (go (eqb (body_fault to s from) 0))
    where
      go : (none : Bool) → P (cond none (read_body to s from) (body_refused (body_fault to s from)))
      go true = p
      go false = refused (body_fault to s from)
  by_mode P refused p false = p

-- ---- which numbers a fault has

mic_e_fault : (q : Option Destination) (info : List ℕ) → is_fault (destination_fault q info) ≡ true
unfolding destination_fault destination_number
mic_e_fault (Some d) info = either_fault 11 _ refl (go (read_information info d.hundred d.west)) d.sixty
  where
    go : (q : Option Information) → is_fault (information_fault q) ≡ true
    go (Some i) = unfold information_fault in table_fault_lem i.table
    go None = unfold information_fault in refl
mic_e_fault None info = refl

behind_fault : (x : Result TimeAt TimeError) (s : List ℕ) → is_fault (behind_time_fault x s) ≡ true
unfolding behind_time_fault
behind_fault (Ok x) s = position_fault_lem (drop x.behind s)
behind_fault (Err e) s = refl

after_fault : (o : Opening) (to : Callsign) (s : List ℕ) (at : ℕ) → is_fault (fault_after o to s at) ≡ true
unfolding fault_after
after_fault (Positioned messaging timed) to s at = behind_fault (time_at s at timed) s
after_fault (Mic current) to s at = mic_e_fault (read_destination (call_part to)) (drop at s)
after_fault Addressed to s at = refl
after_fault Stated to s at = refl
after_fault Other to s at = refl

pub body_fault_lem : (to : Callsign) (s : List ℕ) (from : ℕ) → is_fault (body_fault to s from) ≡ true
unfolding body_fault
body_fault_lem to s from = either_fault _ 0 (after_fault (opening_of (get_or s from 0)) to s (from + 1)) refl (ltb from (length s))

-- ---- what the fault is beside the usual answer

-- what is refused usually is refused strictly with the same number, but with 8 for 9 where the latitude's minutes are 60 or more, and with
-- 11 for 12 where the destination's are
abbrev pub IsBeside : ℕ → ℕ → Type 0
IsBeside n fault = (fault ≡ 0) ⊎ (((n ≡ 9) × (fault ≡ 8)) ⊎ ((n ≡ 12) × (fault ≡ 11)))

error_refuses : (e : TimeError) → error_number e ≡ 0 → ⊥
unfolding error_number time_number
error_refuses Missing z = omega arith
error_refuses Bad z = omega arith

position_number : (p : PositionRead) (messaging : Bool) (t : Time) (comment : Span) → (position_body p messaging t comment).refusal ≡ p.refusal
unfolding position_body
position_number p messaging t comment = number_of (λ (b : BodyRead). b.refusal) p.refusal _ _ refl refl

behind_time_beside : (x : Result TimeAt TimeError) (s : List ℕ) (messaging : Bool) → ((behind_time usually x s messaging).refusal ≡ 0 → ⊥)
    → IsBeside (behind_time usually x s messaging).refusal (behind_time_fault x s)
unfolding behind_time behind_time_fault position_from
behind_time_beside (Ok x) s messaging n =
    let same = position_number (read_position (drop x.behind s)) messaging x.time (span_from s (x.behind + fixed_bytes)) in
    ⊎_elim inl (λ b. inr (inl (same ∙ b.0, b.1))) (position_refused_too (drop x.behind s) (λ z. n (same ∙ z)))
behind_time_beside (Err e) s messaging n = inl refl

mic_e_beside : (q : Option Destination) (info : List ℕ) (current : Bool) (comment : Span) → ((mic_e_body usually q info current comment).refusal ≡ 0 → ⊥)
    → IsBeside (mic_e_body usually q info current comment).refusal (destination_fault q info)
unfolding mic_e_body destination_fault destination_number
mic_e_beside (Some d) info current comment = go d.sixty (read_information info d.hundred d.west)
  where
    go : (over : Bool) (q : Option Information) → ((report_body usually d q current comment).refusal ≡ 0 → ⊥)
        → IsBeside (report_body usually d q current comment).refusal (cond over 11 (information_fault q))
    go over (Some i) n = absurd (n (unfold report_body in refl))
    go true None n = inr (inr (unfold report_body information_number in refl, refl))
    go false None n = inl (unfold information_fault in refl)
mic_e_beside None info current comment = λ n. inl refl

after_beside : (o : Opening) (to : Callsign) (s : List ℕ) (at : ℕ) → ((body_after usually o to s at).refusal ≡ 0 → ⊥) → IsBeside (body_after usually o to s at).refusal (fault_after o to s at)
unfolding body_after fault_after positioned_from
after_beside (Positioned messaging timed) to s at = behind_time_beside (time_at s at timed) s messaging
after_beside (Mic current) to s at = mic_e_beside (read_destination (call_part to)) (drop at s) current (span_from s (at + 8))
after_beside Addressed to s at = λ n. inl refl
after_beside Stated to s at = λ n. inl refl
after_beside Other to s at = λ n. inl refl

pub body_beside : (to : Callsign) (s : List ℕ) (from : ℕ) → ((read_body to s from).refusal ≡ 0 → ⊥) → IsBeside (read_body to s from).refusal (body_fault to s from)
unfolding read_body_by body_fault
body_beside to s from = go (ltb from (length s))
  where
    go : (t : Bool) → ((cond t (body_after usually (opening_of (get_or s from 0)) to s (from + 1)) (body_accepted blank_body)).refusal ≡ 0 → ⊥)
        → IsBeside (cond t (body_after usually (opening_of (get_or s from 0)) to s (from + 1)) (body_accepted blank_body)).refusal (cond t (fault_after (opening_of (get_or s from 0)) to s (from + 1)) 0)
    go true n = after_beside (opening_of (get_or s from 0)) to s (from + 1) n
    go false n = inl refl

-- ---- what is accepted strictly: minutes below 60, and a table byte of the class

unfoldable pub is_on_table : Option Information → Bool
is_on_table (Some i) = is_table i.table
is_on_table None = false

unfoldable pub is_sound_report : Option Destination → List ℕ → Bool
is_sound_report (Some d) info = not d.sixty && is_on_table (read_information info d.hundred d.west)
is_sound_report None info = false

unfoldable pub is_sound_behind : Result TimeAt TimeError → List ℕ → Bool
is_sound_behind (Ok x) s = is_sound (read_position (drop x.behind s))
is_sound_behind (Err e) s = false

unfoldable pub is_sound_after : Opening → Callsign → List ℕ → ℕ → Bool
is_sound_after (Positioned messaging timed) to s at = is_sound_behind (time_at s at timed) s
is_sound_after (Mic current) to s at = is_sound_report (read_destination (call_part to)) (drop at s)
is_sound_after Addressed to s at = true
is_sound_after Stated to s at = true
is_sound_after Other to s at = true

-- of a body that was accepted
unfoldable pub is_sound_body : Callsign → List ℕ → ℕ → Bool
is_sound_body to s from = cond (ltb from (length s)) (is_sound_after (opening_of (get_or s from 0)) to s (from + 1)) true

behind_time_sound : (x : Result TimeAt TimeError) (s : List ℕ) (messaging : Bool) → (behind_time usually x s messaging).refusal ≡ 0 → eqb (behind_time_fault x s) 0 ≡ is_sound_behind x s
unfolding behind_time behind_time_fault is_sound_behind position_from
behind_time_sound (Ok x) s messaging z =
    position_sound (drop x.behind s) (sym (position_number (read_position (drop x.behind s)) messaging x.time (span_from s (x.behind + fixed_bytes))) ∙ z)
behind_time_sound (Err e) s messaging z = absurd (error_refuses e z)

mic_e_sound : (q : Option Destination) (info : List ℕ) (current : Bool) (comment : Span) → (mic_e_body usually q info current comment).refusal ≡ 0 → eqb (destination_fault q info) 0 ≡ is_sound_report q info
unfolding mic_e_body destination_fault destination_number is_sound_report
mic_e_sound (Some d) info current comment = go (read_information info d.hundred d.west)
  where
    go : (q : Option Information) → (report_body usually d q current comment).refusal ≡ 0 → eqb (cond d.sixty 11 (information_fault q)) 0 ≡ (not d.sixty && is_on_table q)
    go (Some i) z = none_where d.sixty 10 _ _ refl (unfold information_fault is_on_table in table_none i.table)
    go None z = absurd (unfold report_body information_number in omega arith)
mic_e_sound None info current comment = λ z. absurd (omega arith)

after_sound : (o : Opening) (to : Callsign) (s : List ℕ) (at : ℕ) → (body_after usually o to s at).refusal ≡ 0 → eqb (fault_after o to s at) 0 ≡ is_sound_after o to s at
unfolding body_after fault_after is_sound_after positioned_from
after_sound (Positioned messaging timed) to s at = behind_time_sound (time_at s at timed) s messaging
after_sound (Mic current) to s at = mic_e_sound (read_destination (call_part to)) (drop at s) current (span_from s (at + 8))
after_sound Addressed to s at = λ z. refl
after_sound Stated to s at = λ z. refl
after_sound Other to s at = λ z. refl

pub body_sound : (to : Callsign) (s : List ℕ) (from : ℕ) → (read_body to s from).refusal ≡ 0 → eqb (body_fault to s from) 0 ≡ is_sound_body to s from
unfolding read_body_by body_fault is_sound_body
body_sound to s from = go (ltb from (length s))
  where
    go : (t : Bool) → (cond t (body_after usually (opening_of (get_or s from 0)) to s (from + 1)) (body_accepted blank_body)).refusal ≡ 0
        → eqb (cond t (fault_after (opening_of (get_or s from 0)) to s (from + 1)) 0) 0 ≡ cond t (is_sound_after (opening_of (get_or s from 0)) to s (from + 1)) true
    go true z = after_sound (opening_of (get_or s from 0)) to s (from + 1) z
    go false z = refl
