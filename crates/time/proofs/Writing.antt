-- What each answer of the writer must show.
-- Assumes nothing.
use Rattle.std.proofs.Common.{◌≡◌, ℕ, Bool, true, false, not, List, [], sym, refl, ◌∙◌, arith}
use borrow.Author.Tests.{not-true, not-false}
use Rattle.buffer.specs.Wrote.{ends, refused_by, done_by, wrote}
use Rattle.buffer.specs.declared.Answer.{Answer}
use Rattle.buffer.proofs.Wrote.{refuses, writes}
use Rattle.time.specs.declared.Time.{Time}
use Rattle.time.specs.Time.{is_no_time, is_time, present_text, time_text, time_in_range, time_refusal}
use Rattle.time.proofs.Tests.{no_letter, time_present}

-- u says whether there is no time
module _ (t : Time) (u : Bool) (none : u ≡ is_no_time t) (r : Answer) (out : List ℕ) where
  pub none_wrote : u ≡ true → r ≡ done_by 0 → ends r out ≡ wrote (time_refusal t) (time_text t) out
  unfolding time_refusal time_in_range time_text
  none_wrote e f = rw (f, ← none, e, no_letter t (sym none ∙ e)) (writes 0 0 [] out out refl refl (omega arith) refl)

  -- v says whether there is one
  module _ (some : u ≡ false) (v : Bool) (told : v ≡ is_time t) where
    pub time_out : not v ≡ true → r ≡ refused_by 15 → ends r out ≡ wrote (time_refusal t) (time_text t) out
    unfolding time_refusal time_in_range
    time_out e f = rw f (refuses 15 _ (time_text t) out (rw (← none, some, ← told, not-true v e)) (λ q. omega arith))

    pub time_wrote : not v ≡ false → (text : List ℕ) → text ≡ present_text t → (out' : List ℕ) → ends r out' ≡ wrote 0 text out → ends r out' ≡ wrote (time_refusal t) (time_text t) out
    unfolding time_refusal time_in_range time_text
    time_wrote e text f out' g = rw (← none, some, ← told, not-false v e, time_present t (sym told ∙ not-false v e), ← f) g
