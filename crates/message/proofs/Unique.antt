-- What each public function promises fixes its result: two results that meet one promise are equal.
-- Assumes nothing.
use mathlib.Core.Path.{◌≡◌}
use mathlib.Core.Bool.{Bool}
use mathlib.Core.List.{List}
use Rattle.std.specs.Prelude.{Option}
use Prim.Native.Nat.{ℕ}
use Rattle.laws.specs.Lists.{zeros}
use Rattle.laws.proofs.Unique.{one_value}
use Rattle.buffer.specs.declared.Answer.{Answer}
use Rattle.buffer.specs.Wrote.{ends, wrote}
use Rattle.buffer.proofs.Wrote.{one_end}
use Rattle.time.specs.declared.Time.{Time}
use Rattle.time.specs.Time.{time_text}
use Rattle.message.specs.declared.MessageRead.{MessageRead}
use Rattle.message.specs.Message.{is_text, read_message, addressee_text, identifier_text, message_text, identifier_refusal, message_refusal}
use Rattle.message.specs.Status.{read_status, status_text, status_time_refusal, is_status_text, status_refusal}

pub unique_is_blank : (addressee : List ℕ) (r r' : Bool) → r ≡ zeros addressee → r' ≡ zeros addressee → r ≡ r'
unique_is_blank addressee r r' = one_value r r' (zeros addressee)

pub unique_is_text : (s : List ℕ) (r r' : Bool) → r ≡ is_text s → r' ≡ is_text s → r ≡ r'
unique_is_text s r r' = one_value r r' (is_text s)

pub unique_read_message : (s : List ℕ) (r r' : MessageRead) → r ≡ read_message s → r' ≡ read_message s → r ≡ r'
unique_read_message s r r' = one_value r r' (read_message s)

pub unique_front : (addressee r r' : List ℕ) → r ≡ addressee_text addressee → r' ≡ addressee_text addressee → r ≡ r'
unique_front addressee r r' = one_value r r' (addressee_text addressee)

pub unique_read_status : (s : List ℕ) (r r' : Option Time) → r ≡ read_status s → r' ≡ read_status s → r ≡ r'
unique_read_status s r r' = one_value r r' (read_status s)

pub unique_is_status_text : (t : Time) (text : List ℕ) (r r' : Bool) → r ≡ is_status_text t text → r' ≡ is_status_text t text → r ≡ r'
unique_is_status_text t text r r' = one_value r r' (is_status_text t text)

module _ (r r' : Answer) (o o' out : List ℕ) where
  pub unique_write_identifier : (identifier : List ℕ)
      → ends r o ≡ wrote (identifier_refusal identifier) (identifier_text identifier) out
      → ends r' o' ≡ wrote (identifier_refusal identifier) (identifier_text identifier) out
      → (r ≡ r') × (o ≡ o')
  unique_write_identifier identifier = one_end r r' o o' (wrote (identifier_refusal identifier) (identifier_text identifier) out)

  pub unique_write_message : (addressee text identifier : List ℕ)
      → ends r o ≡ wrote (message_refusal text identifier) (message_text addressee text identifier) out
      → ends r' o' ≡ wrote (message_refusal text identifier) (message_text addressee text identifier) out
      → (r ≡ r') × (o ≡ o')
  unique_write_message addressee text identifier = one_end r r' o o' (wrote (message_refusal text identifier) (message_text addressee text identifier) out)

  pub unique_write_status_time : (t : Time)
      → ends r o ≡ wrote (status_time_refusal t) (time_text t) out
      → ends r' o' ≡ wrote (status_time_refusal t) (time_text t) out
      → (r ≡ r') × (o ≡ o')
  unique_write_status_time t = one_end r r' o o' (wrote (status_time_refusal t) (time_text t) out)

  pub unique_write_status : (t : Time) (text : List ℕ)
      → ends r o ≡ wrote (status_refusal t text) (status_text t text) out
      → ends r' o' ≡ wrote (status_refusal t text) (status_text t text) out
      → (r ≡ r') × (o ≡ o')
  unique_write_status t text = one_end r r' o o' (wrote (status_refusal t text) (status_text t text) out)
