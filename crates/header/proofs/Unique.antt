-- What each public function promises fixes its result: two results that meet one promise are equal.
-- Assumes nothing.
use mathlib.Core.Path.{◌≡◌}
use mathlib.Core.Bool.{Bool}
use mathlib.Core.List.{List}
use Prim.Native.Nat.{ℕ}
use Rattle.buffer.specs.declared.Answer.{Answer}
use Rattle.buffer.specs.Wrote.{ends, wrote}
use Rattle.laws.proofs.Unique.{one_value}
use Rattle.buffer.proofs.Wrote.{one_end}
use Rattle.header.specs.declared.Header.{Header}
use Rattle.header.specs.declared.HeaderRead.{HeaderRead}
use Rattle.header.specs.Hop.{is_q_name}
use Rattle.header.specs.Header.{blank_header}
use Rattle.header.specs.Text.{read_header_text, read_text_header, header_text}
use Rattle.header.specs.Frame.{read_frame_header, header_frame}
use Rattle.header.specs.Range.{is_blank_header, text_refusal, frame_refusal}

pub unique_blank : (r r' : Header) → r ≡ blank_header → r' ≡ blank_header → r ≡ r'
unique_blank r r' = one_value r r' blank_header

pub unique_is_q_name : (t : List ℕ) (r r' : Bool) → r ≡ is_q_name t → r' ≡ is_q_name t → r ≡ r'
unique_is_q_name t r r' = one_value r r' (is_q_name t)

pub unique_read_any_length : (s : List ℕ) (r r' : HeaderRead) → r ≡ read_header_text s → r' ≡ read_header_text s → r ≡ r'
unique_read_any_length s r r' = one_value r r' (read_header_text s)

pub unique_read_text : (s : List ℕ) (r r' : HeaderRead) → r ≡ read_text_header s → r' ≡ read_text_header s → r ≡ r'
unique_read_text s r r' = one_value r r' (read_text_header s)

pub unique_read_frame : (s : List ℕ) (r r' : HeaderRead) → r ≡ read_frame_header s → r' ≡ read_frame_header s → r ≡ r'
unique_read_frame s r r' = one_value r r' (read_frame_header s)

pub unique_is_blank : (h : Header) (r r' : Bool) → r ≡ is_blank_header h → r' ≡ is_blank_header h → r ≡ r'
unique_is_blank h r r' = one_value r r' (is_blank_header h)

module _ (h : Header) (r r' : Answer) (o o' out : List ℕ) where
  pub unique_write_text : ends r o ≡ wrote (text_refusal h) (header_text h) out → ends r' o' ≡ wrote (text_refusal h) (header_text h) out → (r ≡ r') × (o ≡ o')
  unique_write_text = one_end r r' o o' (wrote (text_refusal h) (header_text h) out)

  pub unique_write_frame : ends r o ≡ wrote (frame_refusal h) (header_frame h) out → ends r' o' ≡ wrote (frame_refusal h) (header_frame h) out → (r ≡ r') × (o ≡ o')
  unique_write_frame = one_end r r' o o' (wrote (frame_refusal h) (header_frame h) out)
