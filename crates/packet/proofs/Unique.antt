-- What each public function promises fixes its result: two results that meet one promise are equal.
-- Assumes nothing.
use mathlib.Core.Path.{◌≡◌}
use mathlib.Core.Bool.{Bool, cond}
use mathlib.Core.List.{List}
use Prim.Native.Nat.{ℕ}
use Rattle.buffer.specs.declared.Answer.{Answer}
use Rattle.buffer.specs.Wrote.{ends, wrote}
use Rattle.laws.proofs.Unique.{one_value}
use Rattle.buffer.proofs.Wrote.{one_end}
use Rattle.packet.specs.declared.Record.{Record}
use Rattle.packet.specs.declared.PacketRead.{PacketRead}
use Rattle.packet.specs.Record.{blank_record}
use Rattle.packet.specs.declared.Outer.{Outer}
use Rattle.packet.specs.Outer.{outer_within, packet_from}
use Rattle.packet.specs.Packet.{most_inner, holds_packet, read_any_text, read_text_by, read_text, strict_text, read_frame_by, read_frame, strict_frame}
use Rattle.packet.specs.Written.{text_bytes, frame_bytes, text_refusal, frame_refusal}

pub unique_blank : (r r' : Record) → r ≡ blank_record → r' ≡ blank_record → r ≡ r'
unique_blank r r' = one_value r r' blank_record

pub unique_read_outer : (strict : Bool) (most : ℕ) (framed : Bool) (s : List ℕ) (r r' : Outer) → r ≡ outer_within strict most framed s → r' ≡ outer_within strict most framed s → r ≡ r'
unique_read_outer strict most framed s r r' = one_value r r' (outer_within strict most framed s)

pub unique_holds_packet : (s : List ℕ) (at : ℕ) (r r' : Bool) → r ≡ holds_packet s at → r' ≡ holds_packet s at → r ≡ r'
unique_holds_packet s at r r' = one_value r r' (holds_packet s at)

pub unique_read_inside : (strict : Bool) (o : Outer) (s : List ℕ) (r r' : PacketRead) → r ≡ packet_from strict most_inner o s → r' ≡ packet_from strict most_inner o s → r ≡ r'
unique_read_inside strict o s r r' = one_value r r' (packet_from strict most_inner o s)

pub unique_read_any_length : (s : List ℕ) (r r' : PacketRead) → r ≡ read_any_text s → r' ≡ read_any_text s → r ≡ r'
unique_read_any_length s r r' = one_value r r' (read_any_text s)

pub unique_read : (strict framed : Bool) (s : List ℕ) (r r' : PacketRead)
    → r ≡ cond framed (read_frame_by strict s) (read_text_by strict s)
    → r' ≡ cond framed (read_frame_by strict s) (read_text_by strict s)
    → r ≡ r'
unique_read strict framed s r r' = one_value r r' (cond framed (read_frame_by strict s) (read_text_by strict s))

pub unique_read_text : (s : List ℕ) (r r' : PacketRead) → r ≡ read_text s → r' ≡ read_text s → r ≡ r'
unique_read_text s r r' = one_value r r' (read_text s)

pub unique_read_frame : (s : List ℕ) (r r' : PacketRead) → r ≡ read_frame s → r' ≡ read_frame s → r ≡ r'
unique_read_frame s r r' = one_value r r' (read_frame s)

pub unique_read_text_strictly : (s : List ℕ) (r r' : PacketRead) → r ≡ strict_text s → r' ≡ strict_text s → r ≡ r'
unique_read_text_strictly s r r' = one_value r r' (strict_text s)

pub unique_read_frame_strictly : (s : List ℕ) (r r' : PacketRead) → r ≡ strict_frame s → r' ≡ strict_frame s → r ≡ r'
unique_read_frame_strictly s r r' = one_value r r' (strict_frame s)

module _ (r : Record) (text identifier out : List ℕ) (a a' : Answer) (o o' : List ℕ) where
  pub unique_write : (framed : Bool) → ends a o ≡ cond framed (wrote (frame_refusal r text identifier) (frame_bytes r text identifier) out) (wrote (text_refusal r text identifier) (text_bytes r text identifier) out)
      → ends a' o' ≡ cond framed (wrote (frame_refusal r text identifier) (frame_bytes r text identifier) out) (wrote (text_refusal r text identifier) (text_bytes r text identifier) out)
      → (a ≡ a') × (o ≡ o')
  unique_write framed e e' =
      one_end a a' o o' (cond framed (wrote (frame_refusal r text identifier) (frame_bytes r text identifier) out) (wrote (text_refusal r text identifier) (text_bytes r text identifier) out)) e e'

  pub unique_write_text : ends a o ≡ wrote (text_refusal r text identifier) (text_bytes r text identifier) out
      → ends a' o' ≡ wrote (text_refusal r text identifier) (text_bytes r text identifier) out
      → (a ≡ a') × (o ≡ o')
  unique_write_text e e' = one_end a a' o o' (wrote (text_refusal r text identifier) (text_bytes r text identifier) out) e e'

  pub unique_write_frame : ends a o ≡ wrote (frame_refusal r text identifier) (frame_bytes r text identifier) out
      → ends a' o' ≡ wrote (frame_refusal r text identifier) (frame_bytes r text identifier) out
      → (a ≡ a') × (o ≡ o')
  unique_write_frame e e' = one_end a a' o o' (wrote (frame_refusal r text identifier) (frame_bytes r text identifier) out) e e'
