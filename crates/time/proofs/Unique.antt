-- What each public function promises fixes its result: two results that meet one promise are equal.
-- Assumes nothing.
use Rattle.std.proofs.Common.{◌≡◌, ℕ, Bool, List, Option}
use Rattle.buffer.specs.declared.Answer.{Answer}
use Rattle.buffer.specs.Wrote.{ends, wrote}
use Rattle.laws.proofs.Unique.{one_value}
use Rattle.buffer.proofs.Wrote.{one_end}
use Rattle.time.specs.declared.Time.{Time}
use Rattle.time.specs.Time.{no_time, is_no_time, time_of, read_time, time_text, time_refusal}

pub unique_blank : (r r' : Time) → r ≡ no_time → r' ≡ no_time → r ≡ r'
unique_blank r r' = one_value r r' no_time

pub unique_is_blank : (t : Time) (r r' : Bool) → r ≡ is_no_time t → r' ≡ is_no_time t → r ≡ r'
unique_is_blank t r r' = one_value r r' (is_no_time t)

pub unique_time_of : (first second third form : ℕ) (r r' : Time) → r ≡ time_of first second third form → r' ≡ time_of first second third form → r ≡ r'
unique_time_of first second third form r r' = one_value r r' (time_of first second third form)

pub unique_read_time : (s : List ℕ) (r r' : Option Time) → r ≡ read_time s → r' ≡ read_time s → r ≡ r'
unique_read_time s r r' = one_value r r' (read_time s)

pub unique_write_time : (r r' : Answer) (o o' out : List ℕ) (t : Time)
    → ends r o ≡ wrote (time_refusal t) (time_text t) out
    → ends r' o' ≡ wrote (time_refusal t) (time_text t) out
    → (r ≡ r') × (o ≡ o')
unique_write_time r r' o o' out t e e' = one_end r r' o o' (wrote (time_refusal t) (time_text t) out) e e'
