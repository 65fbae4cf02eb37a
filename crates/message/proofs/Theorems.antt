-- What the definitions amount to: a message and a status as written read back; each that was read is its parts joined, at the places
-- that are shown, and can be written again; how long they are; and every other input is refused with 18.
-- Assumes nothing.
use mathlib.Core.Path.{◌≡◌, refl, sym, ap, subst, ◌∙◌}
use mathlib.Core.Logic.{◌⊎◌, inl, inr, ⊎_elim}
use mathlib.Core.Bool.{Bool, true, false, not, cond, ◌&&◌, ◌||◌, or-true, true≢false}
use mathlib.Core.List.{List, [], ◌∷◌, ◌++◌}
use Prim.Native.Nat.{ℕ, ◌+◌, ◌<◌, ◌≤◌}
use native.Mathlib.Omega.{arith}
use lib.Dec.{eqb, leb, ltb}
use lib.ListN.{length, take, drop, get_or, length-append, take-append-drop}
use lib.Seq.{length-take-le, take_all, take_at, drop_at, get_or_at, append_snoc, drop-append_seam, drop-drop}
use borrow.Author.Tests.{leb-true, le-leb, ltb-true, lt-ltb, eqb-true, eq-eqb, ne_eqb, not-true}
use Rattle.laws.specs.Bytes.{colon, brace, small_z}
use Rattle.laws.specs.Lists.{index_of, every, pad_to}
use Rattle.laws.proofs.Tests.{and_first, and_second, or_either, passed, picked}
use Rattle.time.specs.declared.Time.{Time}
use Rattle.time.specs.Time.{no_time, is_no_time, is_time, is_present, time_bytes, read_time, time_text, time_in_range}
use Rattle.time.proofs.Tests.{no_letter, time_present}
use Rattle.time.proofs.Theorems.{time_reads_back, no_time_is, no_time_no_bytes, a_time_seven_bytes}
use Rattle.message.specs.declared.MessageRead.{MessageRead}
use Rattle.std.specs.Prelude.{Option, Some, None}
use Rattle.message.specs.Message.{addressee_bytes, is_text_byte, is_text, behind_colon, text_in, identifier_in, is_addressed, is_message, no_addressee, message_accepted, message_refused, read_message, addressee_text, identifier_text, message_text, identifier_refusal, message_refusal}
use Rattle.message.specs.Status.{zulu_of, time_before, most_text, text_behind, status_of, read_status, status_number, status_text, is_status_time, is_status_text, status_text_refusal, status_refusal}
use Rattle.message.proofs.Reading.{text_size}
use Rattle.message.proofs.Parts.{text_behind_lem, identifier_behind, joined, text_is, identifier_few, apart, colon_splits}
use Rattle.message.proofs.Status.{Zulu, none_or_zulu, status_read}

-- ---- how many bytes

pub text_at_most_67 : (text : List ℕ) → is_text text ≡ true → length text ≤ 67
unfolding is_text
text_at_most_67 text e = leb-true (length text) 67 (and_first (leb (length text) 67) (every is_text_byte text) e)

pub identifier_at_most_5 : (identifier : List ℕ) → identifier_refusal identifier ≡ 0 → length identifier ≤ 5
unfolding identifier_refusal
identifier_at_most_5 identifier e = leb-true (length identifier) 5 (passed (leb (length identifier) 5) 0 18 0 (λ q. omega arith) e).0

-- with its `{`
pub identifier_at_most_6 : (identifier : List ℕ) → identifier_refusal identifier ≡ 0 → length (identifier_text identifier) ≤ 6
unfolding identifier_text
identifier_at_most_6 [] e = omega arith
identifier_at_most_6 (b ∷ l) e = omega (arith, identifier_at_most_5 (b ∷ l) e)

identifier_with_brace : (identifier : List ℕ) → length (identifier_text identifier) ≡ cond (eqb (length identifier) 0) 0 (1 + length identifier)
unfolding identifier_text
identifier_with_brace [] = refl
identifier_with_brace (b ∷ l) = rw (ne_eqb (length (b ∷ l)) 0 (λ q. omega arith)) (omega arith)

-- with its `:`
pub addressee_10 : (addressee : List ℕ) → length addressee ≡ addressee_bytes → length (addressee_text addressee) ≡ 10
unfolding addressee_text
addressee_10 addressee nine = omega (arith, length-append addressee (colon ∷ []))

message_joined : (addressee text identifier : List ℕ) → length addressee ≡ addressee_bytes → length (message_text addressee text identifier) ≡ 10 + length text + length (identifier_text identifier)
unfolding message_text
message_joined addressee text identifier nine =
    omega (arith, length-append (addressee_text addressee) (text ++ identifier_text identifier), length-append text (identifier_text identifier), addressee_10 addressee nine)

-- what a writer takes
module _ (text identifier : List ℕ) (e : message_refusal text identifier ≡ 0) where
  judged : (is_text text ≡ true) × (identifier_refusal identifier ≡ 0)
  unfolding message_refusal
  judged = passed (is_text text) (identifier_refusal identifier) 18 0 (λ q. omega arith) e

  pub writable_text : is_text text ≡ true
  writable_text = judged.0

  pub writable_identifier : identifier_refusal identifier ≡ 0
  writable_identifier = judged.1

-- a message behind its type byte
pub message_at_most_83 : (addressee text identifier : List ℕ) → length addressee ≡ addressee_bytes → message_refusal text identifier ≡ 0
    → length (message_text addressee text identifier) ≤ 83
message_at_most_83 addressee text identifier nine e =
    omega (arith, message_joined addressee text identifier nine, text_at_most_67 text (writable_text text identifier e), identifier_at_most_6 identifier (writable_identifier text identifier e))

-- ---- a message as written reads back

module _ (addressee text identifier : List ℕ) (nine : length addressee ≡ addressee_bytes) where
  abbrev behind : List ℕ
  behind = text ++ identifier_text identifier

  abbrev whole : List ℕ
  whole = message_text addressee text identifier

  in_line : whole ≡ addressee ++ colon ∷ behind
  unfolding message_text addressee_text
  in_line = append_snoc addressee colon behind

  behind_is : behind_colon whole ≡ behind
  unfolding message_text
  behind_is = drop_at (addressee_text addressee) behind 10 (addressee_10 addressee nine)

  addressee_is : take addressee_bytes whole ≡ addressee
  addressee_is = ap (take addressee_bytes) in_line ∙ take_at addressee (colon ∷ behind) addressee_bytes nine

  colon_is : get_or whole addressee_bytes 0 ≡ colon
  colon_is = ap (λ (l : List ℕ). get_or l addressee_bytes 0) in_line ∙ get_or_at addressee colon behind 0 addressee_bytes nine

  more_than_nine : addressee_bytes < length whole
  unfolding message_text
  more_than_nine = omega (arith, length-append (addressee_text addressee) behind, addressee_10 addressee nine)

  module _ (is : is_text text ≡ true) where
    -- its text is the one written
    pub message_text_back : text_in (behind_colon whole) ≡ text
    message_text_back = ap text_in behind_is ∙ text_behind_lem text identifier is

    -- and so is its identifier, of any bytes or of none
    pub message_identifier_back : identifier_in (behind_colon whole) ≡ identifier
    message_identifier_back = ap identifier_in behind_is ∙ identifier_behind text identifier is

    -- the addressee, and the lengths of the two
    pub message_reads_back : length identifier ≤ 5 → read_message whole ≡ message_accepted addressee (length text) (length identifier)
    unfolding read_message is_message
    message_reads_back few =
        rw (lt-ltb addressee_bytes (length whole) more_than_nine, eq-eqb (get_or whole addressee_bytes 0) colon colon_is, ap is_addressed behind_is ∙ joined text identifier is few, addressee_is, message_text_back, message_identifier_back)

-- ---- a message that was read is its parts

-- the bytes at the places that a record shows
abbrev pub text_at : List ℕ → List ℕ
text_at s = take (read_message s).text (drop 10 s)

abbrev pub identifier_at : List ℕ → List ℕ
identifier_at s = take (read_message s).identifier (drop (10 + (read_message s).text + 1) s)

longer_than_nine : (s : List ℕ) → is_message s ≡ true → 9 < length s
unfolding is_message
longer_than_nine s e = ltb-true 9 (length s) (and_first (ltb 9 (length s)) _ e)

abbrev accepted : List ℕ → MessageRead
accepted s = message_accepted (take 9 s) (length (text_in (behind_colon s))) (length (identifier_in (behind_colon s)))

-- an addressee of nine bytes, which are zeros at a refusal
pub addressee_nine : (s : List ℕ) → length (read_message s).addressee ≡ addressee_bytes
unfolding read_message message_refused no_addressee pad_to
addressee_nine s =
    picked (λ (m : MessageRead) b. is_message s ≡ b → length m.addressee ≡ addressee_bytes) (accepted s) message_refused
    (λ e. length-take-le 9 s (omega (arith, longer_than_nine s e)))
    (λ e. refl)
    (is_message s) refl

-- every input is read, or refused with 18
pub message_or_18 : (s : List ℕ) → ((read_message s).refusal ≡ 0) ⊎ ((read_message s).refusal ≡ 18)
unfolding read_message message_refused
message_or_18 s = picked (λ (m : MessageRead) b. (m.refusal ≡ 0) ⊎ (m.refusal ≡ 18)) (accepted s) message_refused (inl refl) (inr refl) (is_message s)

module _ (s : List ℕ) (taken : (read_message s).refusal ≡ 0) where
  is_message_lem : is_message s ≡ true
  unfolding read_message message_refused
  is_message_lem = picked (λ (m : MessageRead) b. m.refusal ≡ 0 → b ≡ true) (accepted s) message_refused (λ e. refl) (λ e. absurd (omega arith)) (is_message s) taken

  read_as : read_message s ≡ accepted s
  unfolding read_message
  read_as = rw is_message_lem

  at_nine : get_or s 9 0 ≡ colon
  unfolding is_message
  at_nine = eqb-true (get_or s 9 0) colon (and_first (eqb (get_or s 9 0) colon) _ (and_second (ltb 9 (length s)) _ is_message_lem))

  addressed : is_addressed (behind_colon s) ≡ true
  unfolding is_message
  addressed = and_second (eqb (get_or s 9 0) colon) _ (and_second (ltb 9 (length s)) _ is_message_lem)

  text_ends : (read_message s).text ≡ index_of brace (behind_colon s)
  text_ends = ap (λ (m : MessageRead). m.text) read_as ∙ text_size (behind_colon s) (index_of brace (behind_colon s)) refl

  identifier_size : (read_message s).identifier ≡ length (identifier_in (behind_colon s))
  identifier_size = ap (λ (m : MessageRead). m.identifier) read_as

  -- the text stands behind the `:`, up to the first `{`
  pub message_text_at : text_at s ≡ text_in (behind_colon s)
  unfolding text_in
  message_text_at = rw text_ends

  identifier_from : drop (10 + (read_message s).text + 1) s ≡ identifier_in (behind_colon s)
  unfolding identifier_in
  identifier_from =
      let q : 10 + (read_message s).text + 1 ≡ 10 + (index_of brace (behind_colon s) + 1) = omega (arith, text_ends) in
      ap (λ (k : ℕ). drop k s) q ∙ sym (drop-drop (index_of brace (behind_colon s) + 1) 10 s)

  -- the identifier stands behind that, one further, to the end
  pub message_identifier_at : identifier_at s ≡ identifier_in (behind_colon s)
  message_identifier_at = ap (take (read_message s).identifier) identifier_from ∙ take_all (read_message s).identifier (identifier_in (behind_colon s)) (omega (arith, identifier_size))

  -- both are as long as the record says
  pub message_text_long : length (text_at s) ≡ (read_message s).text
  message_text_long = ap length message_text_at ∙ sym (ap (λ (m : MessageRead). m.text) read_as)

  pub message_identifier_long : length (identifier_at s) ≡ (read_message s).identifier
  message_identifier_long = ap length message_identifier_at ∙ sym identifier_size

  -- a text that a message may have
  pub message_text_is : is_text (text_at s) ≡ true
  message_text_is = ap is_text message_text_at ∙ text_is (behind_colon s) addressed

  -- an identifier of at most five bytes
  pub message_identifier_few : length (identifier_at s) ≤ 5
  message_identifier_few = omega (arith, ap length message_identifier_at, identifier_few (behind_colon s) addressed)

  -- every byte of it is one of these
  pub message_is_its_parts : s ≡ message_text (read_message s).addressee (text_at s) (identifier_at s)
  unfolding message_text
  message_is_its_parts =
      colon_splits s (longer_than_nine s is_message_lem) at_nine
      ∙ ap (λ (l : List ℕ). addressee_text (take 9 s) ++ l) (apart (behind_colon s) addressed)
      ∙ rw (message_text_at, message_identifier_at, read_as)

  -- so what was read can be written again
  pub message_writes_again : message_refusal (text_at s) (identifier_at s) ≡ 0
  unfolding message_refusal identifier_refusal
  message_writes_again = rw (message_text_is, le-leb (length (identifier_at s)) 5 message_identifier_few)

  -- the lengths add up, with the `{` where there is an identifier
  pub message_adds_up : length s ≡ 10 + (read_message s).text + cond (eqb (read_message s).identifier 0) 0 (1 + (read_message s).identifier)
  message_adds_up =
      ap length message_is_its_parts
      ∙ message_joined (read_message s).addressee (text_at s) (identifier_at s) (addressee_nine s)
      ∙ rw (message_text_long, identifier_with_brace (identifier_at s), message_identifier_long)

  -- so the text lies within the input, and so does an identifier
  pub message_length : (10 + (read_message s).text ≤ length s) × (((read_message s).identifier ≡ 0) ⊎ (10 + (read_message s).text + 1 + (read_message s).identifier ≤ length s))
  message_length = go (eqb (read_message s).identifier 0) refl message_adds_up
    where
      go : (b : Bool) → eqb (read_message s).identifier 0 ≡ b → length s ≡ 10 + (read_message s).text + cond b 0 (1 + (read_message s).identifier)
          → (10 + (read_message s).text ≤ length s) × (((read_message s).identifier ≡ 0) ⊎ (10 + (read_message s).text + 1 + (read_message s).identifier ≤ length s))
      go true e h = (omega arith, inl (eqb-true (read_message s).identifier 0 e))
      go false e h = (omega arith, inr (omega arith))

-- ---- the time of a status

-- no time, or one with `z`
none_or_timed : (t : Time) → is_status_time t ≡ true → (is_no_time t ≡ true) ⊎ ((is_time t ≡ true) × (eqb t.form small_z ≡ true))
unfolding is_status_time
none_or_timed t e =
    ⊎_elim
    (λ n. inl n)
    (λ z. inr (and_first (is_time t) (eqb t.form small_z) z, and_second (is_time t) (eqb t.form small_z) z))
    (or_either (is_no_time t) (is_time t && eqb t.form small_z) e)

pub status_time_in_range : (t : Time) → is_status_time t ≡ true → time_in_range t ≡ true
unfolding time_in_range
status_time_in_range t e = ⊎_elim (λ n. rw n) (λ z. rw z.0 (or-true (is_no_time t))) (none_or_timed t e)

-- its bytes, and the most that its text may have
time_and_most : (t : Time) → is_status_time t ≡ true → length (time_text t) + most_text t ≡ 62
unfolding most_text
time_and_most t e =
    ⊎_elim
    (λ n. rw (no_time_no_bytes t n, no_letter t n))
    (λ z. rw (time_present t z.0, a_time_seven_bytes t z.0))
    (none_or_timed t e)

pub status_time_at_most_7 : (t : Time) → is_status_time t ≡ true → length (time_text t) ≤ time_bytes
status_time_at_most_7 t e = ⊎_elim (λ n. rw (no_time_no_bytes t n) (omega arith)) (λ z. omega (arith, a_time_seven_bytes t z.0)) (none_or_timed t e)

-- ---- a status as written reads back

module _ (t : Time) (text : List ℕ) where
  -- its text is the one written
  pub status_text_back : text_behind t (status_text t text) ≡ text
  unfolding text_behind status_text
  status_text_back = drop-append_seam (time_text t) text

  module _ (timed : is_status_time t ≡ true) (is : is_status_text t text ≡ true) where
    -- a status behind its type byte
    pub status_at_most_62 : length (status_text t text) ≤ 62
    unfolding status_text is_status_text
    status_at_most_62 =
        omega (arith, length-append (time_text t) text, time_and_most t timed, leb-true (length text) (most_text t) (and_first (leb (length text) (most_text t)) _ is))

    -- a text behind no time starts with none
    none_before : is_no_time t ≡ true → time_before (status_text t text) ≡ t
    unfolding status_text is_status_text
    none_before n =
        let free = not-true (is_present (time_before text)) (rw (no_letter t n) at (and_second (leb (length text) (most_text t)) _ is)) in
        rw (no_time_no_bytes t n)
        (⊎_elim (λ q. q) (λ z. absurd (true≢false (sym (time_present (time_before text) z.is) ∙ free))) (none_or_zulu text)
        ∙ sym (no_time_is t n))

    zulu_before : is_time t ≡ true → eqb t.form small_z ≡ true → time_before (status_text t text) ≡ t
    unfolding time_before zulu_of status_text
    zulu_before p q = rw (take_at (time_text t) text time_bytes (a_time_seven_bytes t p), time_reads_back t p, q)

    -- its time is the one written
    pub status_reads_back : read_status (status_text t text) ≡ Some t
    status_reads_back = sym (status_read (status_text t text) t status_at_most_62 (sym (⊎_elim none_before (λ z. zulu_before z.0 z.1) (none_or_timed t timed))))

-- ---- a status that was read is its parts

module _ (s : List ℕ) (t : Time) (read : read_status s ≡ Some t) where
  said : (leb (length (text_behind (time_before s) s)) (most_text (time_before s)) ≡ true) × (Some (time_before s) ≡ Some t)
  unfolding read_status status_of
  said = passed (leb (length (text_behind (time_before s) s)) (most_text (time_before s))) (Some (time_before s)) None (Some t) (λ q. cc) read

  time_is : time_before s ≡ t
  time_is = inside said.1
    where
      inside : Some (time_before s) ≡ Some t → time_before s ≡ t
      inside q = cc

  none_or_found : (t ≡ no_time) ⊎ Zulu s t
  none_or_found = subst (λ (u : Time). (u ≡ no_time) ⊎ Zulu s u) time_is (none_or_zulu s)

  -- a time that was read is that of the first seven bytes
  pub read_status_time_of : (t ≡ no_time) ⊎ (read_time (take time_bytes s) ≡ Some t)
  read_status_time_of = ⊎_elim (λ n. inl n) (λ z. inr (sym (ap read_time z.kept) ∙ time_reads_back t z.is)) none_or_found

  -- it has `z` and is in range, or is none
  pub read_status_time : is_status_time t ≡ true
  unfolding is_status_time is_no_time no_time
  read_status_time = ⊎_elim (λ n. rw n) (λ z. rw (z.is, z.letter) (or-true (is_no_time t))) none_or_found

  -- every byte of it is one of the time's or of the text's
  pub status_is_its_parts : s ≡ status_text t (text_behind t s)
  unfolding status_text text_behind time_text is_present no_time
  status_is_its_parts = ⊎_elim (λ n. rw n) (λ z. rw (a_time_seven_bytes t z.is, z.kept) (sym (take-append-drop time_bytes s))) none_or_found

  starts_with_none : (is_present t || not (is_present (time_before (text_behind t s)))) ≡ true
  unfolding text_behind time_text is_present no_time
  starts_with_none = ⊎_elim (λ n. let none : time_before s ≡ no_time = time_is ∙ n in rw (n, none)) (λ z. rw (time_present t z.is)) none_or_found

  -- a text that may stand behind that time
  pub status_text_is : is_status_text t (text_behind t s) ≡ true
  unfolding is_status_text
  status_text_is = rw (subst (λ (u : Time). leb (length (text_behind u s)) (most_text u) ≡ true) time_is said.0) starts_with_none

  -- so what was read can be written again
  pub status_writes_again : status_refusal t (text_behind t s) ≡ 0
  unfolding status_refusal status_text_refusal
  status_writes_again = rw (read_status_time, status_text_is)

  -- the time lies within the input
  pub status_time_within : length (time_text t) ≤ length s
  unfolding status_text
  status_time_within = omega (arith, ap length status_is_its_parts, length-append (time_text t) (text_behind t s))

-- every input is read, or refused with 18
pub status_or_18 : (s : List ℕ) → (status_number (read_status s) ≡ 0) ⊎ (status_number (read_status s) ≡ 18)
unfolding status_number
status_or_18 s = go (read_status s)
  where
    go : (r : Option Time) → (status_number r ≡ 0) ⊎ (status_number r ≡ 18)
    go (Some t) = inl refl
    go None = inr refl
