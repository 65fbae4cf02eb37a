-- Laws of a packet that is read.
-- Assumes nothing.
use mathlib.Core.Path.{◌≡◌, refl, sym, ◌∙◌}
use mathlib.Core.Bool.{Bool, true, false, cond}
use mathlib.Core.List.{List}
use Prim.Native.Nat.{ℕ, ◌+◌, ◌-◌, ◌<◌, ◌≤◌}
use borrow.Author.Tests.{le-ltb, ltb-true}
use lib.Dec.{eqb, ltb}
use lib.ListN.{length, take, drop, get_or}
use Rattle.laws.specs.Bytes.{closing_brace}
use Rattle.laws.proofs.Tests.{and_first}
use Rattle.header.specs.Header.{most_bytes, header_refused}
use Rattle.header.specs.Text.{read_header_text, read_text_header}
use Rattle.header.specs.Frame.{read_frame_header}
use Rattle.packet.specs.Record.{packet_refused}
use Rattle.packet.specs.Packet.{most_inner, holds_packet, unless_refused, packet_after, read_any_text_by, read_text_by, read_frame_by}

-- ---- a header, and the body behind it

abbrev pub behind_brace : List ℕ → ℕ → List ℕ
behind_brace s at = take (length s - (at + 1)) (drop (at + 1) s)

module _ (s : List ℕ) (at : ℕ) where
  -- there is a byte
  pub brace_within : (u : Bool) → u ≡ holds_packet s at → u ≡ true → at < length s
  unfolding holds_packet
  brace_within u q e = ltb-true at (length s) (and_first (ltb at (length s)) (eqb (get_or s at 0) closing_brace) (sym q ∙ e))

  pub nothing_there : length s ≤ at → false ≡ holds_packet s at
  unfolding holds_packet
  nothing_there l = rw (le-ltb at (length s) l)

-- ---- a text of any length; a frame or a line

pub any_is : (strict : Bool) (s : List ℕ) → read_any_text_by strict s ≡ packet_after strict most_inner (read_header_text s) s
unfolding read_any_text_by
any_is strict s = refl

pub frame_is : (strict : Bool) (s : List ℕ) → read_frame_by strict s ≡ packet_after strict most_inner (read_frame_header s) s
unfolding read_frame_by
frame_is strict s = refl

-- 1 is the header's
pub line_read : (strict : Bool) (s : List ℕ) → packet_after strict most_inner (read_text_header s) s ≡ read_text_by strict s
unfolding read_text_by read_any_text_by read_text_header header_refused
line_read strict s = go (ltb most_bytes (length s))
  where
    go : (t : Bool) → packet_after strict most_inner (cond t (header_refused 1) (read_header_text s)) s ≡ cond t (packet_refused 1) (packet_after strict most_inner (read_header_text s) s)
    go true = unfold packet_after unless_refused in refl
    go false = refl
