-- The time of a record that was read, with no packet inside: its seven bytes stood behind the body's type byte as they are written.
-- Assumes nothing.
use mathlib.Core.Path.{◌≡◌}
use mathlib.Core.Bool.{Bool, true, false, cond, false≢true}
use mathlib.Core.List.{List}
use Prim.Native.Nat.{ℕ, ◌+◌}
use native.Mathlib.Omega.{arith}
use lib.Dec.{ltb}
use lib.ListN.{length, take, drop}
use Rattle.header.specs.declared.HeaderRead.{HeaderRead}
use Rattle.header.specs.Header.{most_bytes, header_refused}
use Rattle.header.specs.Text.{read_header_text, read_text_header}
use Rattle.header.specs.Frame.{read_frame_header}
use Rattle.time.specs.Time.{no_time, is_present, time_bytes, time_text}
use Rattle.position.specs.Position.{usually}
use Rattle.body.specs.Body.{blank_body}
use Rattle.body.proofs.Theorems.{read_time_is_kept}
use Rattle.packet.specs.declared.Record.{Record}
use Rattle.packet.specs.Record.{blank_record, packet_refused}
use Rattle.packet.specs.Packet.{most_inner, record_of, record_around, packet_after, read_any_text_by, read_any_text, read_text_by, read_text, read_frame_by, read_frame}
use Rattle.packet.proofs.Ways.{by_way}

-- a record whose time, if it has one and is its own, stood in the input behind the type byte of its body
abbrev pub TimeKept : List ℕ → HeaderRead → Record → Type 0
TimeKept s h r = r.inner ≡ 0 → is_present r.body.time ≡ true → take time_bytes (drop (h.body + 1) s) ≡ time_text r.body.time

blank_kept : (s : List ℕ) (h : HeaderRead) → TimeKept s h blank_record
unfolding blank_record blank_body no_time is_present
blank_kept s h z e = absurd (false≢true e)

after_kept : (left : ℕ) (s : List ℕ) (h : HeaderRead) → TimeKept s h (packet_after usually left h s).«record»
unfolding packet_refused record_of record_around
after_kept left s h =
    by_way usually left h s (λ p. TimeKept s h p.«record») (λ n y. blank_kept s h) (λ o z. read_time_is_kept h.header.to s h.body) (λ a z. absurd (omega (arith, z)))

module _ (s : List ℕ) where
  pub any_text_time_kept : TimeKept s (read_header_text s) (read_any_text s).«record»
  unfolding read_any_text_by
  any_text_time_kept = after_kept most_inner s (read_header_text s)

  pub text_time_kept : TimeKept s (read_text_header s) (read_text s).«record»
  unfolding read_text_by read_text_header packet_refused
  text_time_kept = go (ltb most_bytes (length s))
    where
      go : (t : Bool) → TimeKept s (cond t (header_refused 1) (read_header_text s)) (cond t (packet_refused 1) (read_any_text s)).«record»
      go true = blank_kept s (header_refused 1)
      go false = any_text_time_kept

  pub frame_time_kept : TimeKept s (read_frame_header s) (read_frame s).«record»
  unfolding read_frame_by
  frame_time_kept = after_kept most_inner s (read_frame_header s)
