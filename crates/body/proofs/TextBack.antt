-- A message and a status as written read back; and one that was read is its parts joined, and can be written again (document 02, R-5).
-- Assumes nothing.
use Rattle.std.specs.Prelude.{Option, Some, None}
use mathlib.Core.Path.{◌≡◌, refl, sym, ap, ◌∙◌}
use mathlib.Core.Logic.{◌⊎◌, inl, inr, ⊎_elim}
use mathlib.Core.Bool.{Bool, true, false, cond}
use mathlib.Core.List.{List, [], ◌∷◌, ◌++◌, append-nil}
use Prim.Native.Nat.{ℕ, ◌+◌, ◌-◌, ◌<◌, ◌≤◌}
use native.Mathlib.Omega.{arith}
use borrow.Author.Tests.{lt-ltb, eq-eqb, eqb-true}
use lib.Dec.{eqb}
use lib.ListN.{length, take, drop, get_or, length-append, length-drop}
use lib.Seq.{take_at, take_all, take-length, drop_at, drop-drop, drop-append-add, get_or_at}
use Rattle.laws.specs.Bytes.{colon, greater}
use Rattle.laws.proofs.Lists.{next}
use Rattle.laws.proofs.Tests.{passed}
use Rattle.callsign.specs.declared.Callsign.{Callsign}
use Rattle.time.specs.declared.Time.{Time}
use Rattle.time.specs.Time.{no_time, time_text}
use Rattle.message.specs.declared.MessageRead.{MessageRead}
use Rattle.message.specs.Message.{addressee_bytes, no_addressee, is_text, read_message, identifier_text, message_text, identifier_refusal, message_refusal}
use Rattle.message.specs.Status.{text_behind, read_status, status_number, status_text, is_status_time, is_status_text, status_text_refusal}
use Rattle.message.proofs.Theorems.{identifier_at_most_5, addressee_10, message_at_most_83, status_at_most_62, message_reads_back, text_at, identifier_at, message_is_its_parts, message_writes_again, message_or_18, status_reads_back, status_is_its_parts, status_text_is}
use Rattle.body.specs.declared.Kind.{Kind}
use Rattle.body.specs.declared.Kind.TheVariants.{Message, Status}
use Rattle.body.specs.declared.Opening.TheVariants.{Addressed, Stated}
use Rattle.body.specs.declared.Span.{Span}
use Rattle.body.specs.declared.Body.{Body}
use Rattle.body.specs.declared.BodyRead.{BodyRead}
use Rattle.body.specs.Body.{no_span, body_with, body_accepted, body_refused, opening_of, span_from, identifier_span, message_body, status_body, body_after, read_body_by, read_body}
use Rattle.body.specs.Written.{message_bytes, status_bytes, bytes_as, body_bytes, tail_as, tail_bytes, refusal_as, body_refusal}

-- ---- the type byte leads to the reader

opens_message : opening_of colon ≡ Addressed
unfolding opening_of
opens_message = refl

opens_status : opening_of greater ≡ Stated
unfolding opening_of
opens_status = refl

module _ (to : Callsign) (s : List ℕ) (from : ℕ) (h : from < length s) where
  colon_reads : get_or s from 0 ≡ colon → read_body to s from ≡ message_body (read_message (drop (from + 1) s)) (from + 1)
  unfolding read_body_by body_after
  colon_reads e = rw (lt-ltb from (length s) h, e, opens_message)

  greater_reads : get_or s from 0 ≡ greater → read_body to s from ≡ status_body (read_status (drop (from + 1) s)) s (from + 1)
  unfolding read_body_by body_after
  greater_reads e = rw (lt-ltb from (length s) h, e, opens_status)

-- ---- as written, behind other bytes

-- x stands behind a type byte k
module _ (k : ℕ) (before x : List ℕ) where
  abbrev input : List ℕ
  input = before ++ k ∷ x

  starts : length before < length input
  starts = omega (arith, length-append before (k ∷ x))

  its_type : get_or input (length before) 0 ≡ k
  its_type = get_or_at before k x 0 (length before) refl

  rest : drop (length before + 1) input ≡ x
  rest = drop-append-add before (k ∷ x) 1

pub message_front_long : (addressee : List ℕ) → length addressee ≡ addressee_bytes → length (message_bytes addressee) ≡ 11
unfolding message_bytes
message_front_long addressee nine = omega (arith, addressee_10 addressee nine)

module _ (addressee text identifier : List ℕ) (nine : length addressee ≡ addressee_bytes) (fits : message_refusal text identifier ≡ 0) (beside : Callsign) (before : List ℕ) where
  abbrev whole : List ℕ
  whole = message_text addressee text identifier

  fine : (is_text text ≡ true) × (identifier_refusal identifier ≡ 0)
  unfolding message_refusal
  fine = passed (is_text text) (identifier_refusal identifier) 18 0 (λ q. omega arith) fits

  pub message_back : read_body beside (before ++ (message_bytes addressee ++ (text ++ identifier_text identifier))) (length before)
      ≡ body_accepted (body_with Message (record { at = length before + length (message_bytes addressee); len = length text })
      (identifier_span (length before + length (message_bytes addressee) + length text) (length identifier)) no_time addressee)
  unfolding message_bytes message_text message_body
  message_back =
      let at : length before + 1 + 10 ≡ length before + length (message_bytes addressee) = omega (arith, message_front_long addressee nine) in
      colon_reads beside (input colon before whole) (length before) (starts colon before whole) (its_type colon before whole)
      ∙ rw (rest colon before whole, message_reads_back addressee text identifier nine fine.0 (identifier_at_most_5 identifier fine.1), at)

module _ (t : Time) (text : List ℕ) (timed : is_status_time t ≡ true) (fits : is_status_text t text ≡ true) (beside : Callsign) (before : List ℕ) where
  abbrev stated : List ℕ
  stated = status_text t text

  pub status_back : read_body beside (before ++ (status_bytes t ++ text)) (length before)
      ≡ body_accepted (body_with Status (record { at = length before + length (status_bytes t); len = length text }) no_span t no_addressee)
  unfolding status_bytes status_text status_body span_from
  status_back =
      let at : length before + 1 + length (time_text t) ≡ length before + length (status_bytes t) = omega arith in
      let len : length (input greater before stated) - (length before + length (status_bytes t)) ≡ length text = omega (arith, length-append before (greater ∷ stated), length-append (time_text t) text) in
      greater_reads beside (input greater before stated) (length before) (starts greater before stated) (its_type greater before stated)
      ∙ rw (rest greater before stated, status_reads_back t text timed fits, at, len)

-- ---- how many bytes

pub message_short : (addressee text identifier : List ℕ) → length addressee ≡ addressee_bytes → message_refusal text identifier ≡ 0
    → length (message_bytes addressee ++ (text ++ identifier_text identifier)) ≤ 84
unfolding message_bytes message_text
message_short addressee text identifier nine fits = omega (arith, message_at_most_83 addressee text identifier nine fits)

pub status_short : (t : Time) (text : List ℕ) → is_status_time t ≡ true → is_status_text t text ≡ true → length (status_bytes t ++ text) ≤ 63
unfolding status_bytes status_text
status_short t text timed fits = omega (arith, status_at_most_62 t text timed fits)

-- ---- as read

-- the bytes at a place of the input
abbrev pub spanned : Span → List ℕ → List ℕ
spanned p s = take p.len (drop p.at s)

-- a body of that kind, whose bytes from the place `from` on are those of its parts joined, and which is written again with its text
-- and its identifier
pub record TextIs (kind : Kind) (s : List ℕ) (from : ℕ) (b : Body) : Type 0 where
  pub kind_is : b.kind ≡ kind
  pub joined : drop from s ≡ body_bytes b ++ (spanned b.comment s ++ tail_bytes b (spanned b.identifier s))
  pub again : body_refusal b (spanned b.comment s) (spanned b.identifier s) ≡ 0

-- an identifier that is shown is the bytes at its place; one of no bytes is none
identifier_shown : (s : List ℕ) (at len : ℕ) → spanned (identifier_span at len) s ≡ take len (drop (at + 1) s)
unfolding identifier_span no_span
identifier_shown s at len = go (eqb len 0) refl
  where
    go : (b : Bool) → eqb len 0 ≡ b → spanned (cond b no_span (record { at = at + 1; len = len })) s ≡ take len (drop (at + 1) s)
    go true e = rw (eqb-true len 0 e)
    go false e = refl

-- a text that stands behind others, and an identifier behind that
module _ (before front text tail : List ℕ) where
  from_text : drop (length before + length front) (before ++ (front ++ (text ++ tail))) ≡ text ++ tail
  from_text = drop-append-add before (front ++ (text ++ tail)) (length front) ∙ drop_at front (text ++ tail) (length front) refl

  pub text_shown_back : spanned (record { at = length before + length front; len = length text }) (before ++ (front ++ (text ++ tail))) ≡ text
  text_shown_back = ap (take (length text)) from_text ∙ take_at text tail (length text) refl

  from_tail : drop (length before + length front + length text) (before ++ (front ++ (text ++ tail))) ≡ tail
  from_tail = sym (drop-drop (length text) (length before + length front) _) ∙ ap (drop (length text)) from_text ∙ drop_at text tail (length text) refl

pub message_tail : (b : Body) (identifier : List ℕ) → b.kind ≡ Message → tail_bytes b identifier ≡ identifier_text identifier
unfolding tail_bytes tail_as
message_tail b identifier k = ap (λ (x : Kind). tail_as x identifier) k

past_brace : (identifier : List ℕ) → drop 1 (identifier_text identifier) ≡ identifier
unfolding identifier_text
past_brace [] = refl
past_brace (b ∷ l) = refl

pub identifier_shown_back : (before front text identifier : List ℕ)
    → spanned (identifier_span (length before + length front + length text) (length identifier)) (before ++ (front ++ (text ++ identifier_text identifier))) ≡ identifier
identifier_shown_back before front text identifier =
    let s = before ++ (front ++ (text ++ identifier_text identifier)) in
    let at = length before + length front + length text in
    identifier_shown s at (length identifier)
    ∙ ap (take (length identifier)) (sym (drop-drop 1 at s) ∙ ap (drop 1) (from_tail before front text (identifier_text identifier)) ∙ past_brace identifier)
    ∙ take-length identifier

module _ (s : List ℕ) (from : ℕ) (h : from < length s) where
  abbrev behind : List ℕ
  behind = drop (from + 1) s

  module _ (first : get_or s from 0 ≡ colon) (z : (read_message behind).refusal ≡ 0) where
    abbrev m : MessageRead
    m = read_message behind

    abbrev made : Body
    made = body_with Message (record { at = from + 1 + 10; len = m.text }) (identifier_span (from + 1 + 10 + m.text) m.identifier) no_time m.addressee

    text_shown : spanned made.comment s ≡ text_at behind
    text_shown = ap (take m.text) (sym (drop-drop 10 (from + 1) s))

    number_shown : spanned made.identifier s ≡ identifier_at behind
    number_shown =
        let at : from + 1 + 10 + m.text + 1 ≡ from + 1 + (10 + m.text + 1) = omega arith in
        identifier_shown s (from + 1 + 10 + m.text) m.identifier
        ∙ ap (λ (n : ℕ). take m.identifier (drop n s)) at
        ∙ ap (take m.identifier) (sym (drop-drop (10 + m.text + 1) (from + 1) s))

    message_whole : TextIs Message s from made
    unfolding body_bytes bytes_as message_bytes tail_bytes tail_as body_refusal refusal_as message_text
    message_whole =
        record {
          kind_is = refl;
          joined = next 0 s from h ∙ rw (first, text_shown, number_shown) (ap {B = List ℕ} (λ l. colon ∷ l) (message_is_its_parts behind z));
          again = rw (text_shown, number_shown) (message_writes_again behind z);
        }

  module _ (first : get_or s from 0 ≡ greater) (t : Time) (e : read_status behind ≡ Some t) where
    abbrev said : Body
    said = body_with Status (span_from s (from + 1 + length (time_text t))) no_span t no_addressee

    status_shown : spanned said.comment s ≡ text_behind t behind
    unfolding span_from text_behind
    status_shown =
        let n = from + 1 + length (time_text t) in
        take_all (length s - n) (drop n s) (omega (arith, length-drop n s)) ∙ sym (drop-drop (length (time_text t)) (from + 1) s)

    status_whole : TextIs Status s from said
    unfolding body_bytes bytes_as status_bytes tail_bytes tail_as body_refusal refusal_as status_text status_text_refusal
    status_whole =
        record {
          kind_is = refl;
          joined = next 0 s from h ∙ rw (first, status_shown, append-nil) (ap {B = List ℕ} (λ l. greater ∷ l) (status_is_its_parts behind t e));
          again = rw (status_shown, status_text_is behind t e);
        }

  -- ---- every body that starts so

  -- what one that starts with the type byte of a kind comes to
  abbrev pub TextOr18 : Kind → BodyRead → Type 0
  TextOr18 kind r = ((r.refusal ≡ 0) × TextIs kind s from r.body) ⊎ (r ≡ body_refused 18)

  message_taken : (first : get_or s from 0 ≡ colon) (z : (read_message behind).refusal ≡ 0) → message_body (read_message behind) (from + 1) ≡ body_accepted (made first z)
  unfolding message_body
  message_taken first z = rw (eq-eqb (read_message behind).refusal 0 z)

  message_malformed : (read_message behind).refusal ≡ 18 → message_body (read_message behind) (from + 1) ≡ body_refused 18
  unfolding message_body
  message_malformed e = rw e

  pub message_read_or_18 : (to : Callsign) → get_or s from 0 ≡ colon → TextOr18 Message (read_body to s from)
  message_read_or_18 to first =
      rw (colon_reads to s from h first)
      (⊎_elim (λ z. rw (message_taken first z) (inl (refl, message_whole first z))) (λ e. inr (message_malformed e)) (message_or_18 behind))

  pub status_read_or_18 : (to : Callsign) → get_or s from 0 ≡ greater → TextOr18 Status (read_body to s from)
  unfolding status_body status_number
  status_read_or_18 to first = rw (greater_reads to s from h first) (go (read_status behind) refl)
    where
      go : (x : Option Time) → read_status behind ≡ x → TextOr18 Status (status_body x s (from + 1))
      go (Some t) e = inl (refl, status_whole first t e)
      go None e = inr refl
