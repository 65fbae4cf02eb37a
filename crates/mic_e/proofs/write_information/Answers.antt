-- `write_information` refuses what is out of range, and else hands the eight bytes to `buffer::write`. Assumes nothing.
use Rattle.std.proofs.Common.{◌≡◌, ℕ, Bool, true, false, List, sym, refl, ◌∙◌, arith, rules}
use Rattle.buffer.specs.Wrote.{Wrote, ends, refused_by, wrote}
use Rattle.buffer.specs.declared.Answer.{Answer}
use Rattle.buffer.proofs.Wrote.{refuses}
use Rattle.mic_e.specs.Information.{information_out, information_refusal, information_bytes}
use Rattle.mic_e.specs.declared.Information.{Information}
use Rattle.mic_e.proofs.write_information.Goals as goal

module _ (i : Information) (out : List ℕ) (t : Bool) (e : t ≡ information_out i) where
  refused : (r : Answer) → t ≡ true → r ≡ refused_by 15 → ends r out ≡ wrote (information_refusal i) (information_bytes i) out
  unfolding information_refusal
  refused r p q = rw (q, ← e, p) (refuses 15 15 (information_bytes i) out refl (λ z. omega arith))

  inside : t ≡ false → information_out i ≡ false
  inside p = sym e ∙ p

  written : (bytes : List ℕ) (w : Wrote) → t ≡ false → bytes ≡ information_bytes i → w ≡ wrote 0 bytes out → w ≡ wrote (information_refusal i) (information_bytes i) out
  unfolding information_refusal
  written bytes w p q h = h ∙ rw (q, ← e, p)

pub returns-then-is_out : goal.returns-then-is_out
returns-then-is_out c = search (rules, refused)

pub information_bytes-requires : goal.information_bytes-requires
information_bytes-requires c = search (rules, inside)

pub returns : goal.returns
returns c = search (rules, written)
