-- A record as C has it and the record that is meant, from what the functions of kind and message gave.
-- Assumes nothing.
use mathlib.Core.Path.{◌≡◌, refl, ap, ◌∙◌}
use mathlib.Core.Bool.{Bool, true, false, cond}
use mathlib.Core.List.{List}
use Prim.Native.Nat.{ℕ}
use Rattle.header.specs.Header.{most_bytes}
use Rattle.position.specs.Position.{usually}
use Rattle.packet.specs.declared.Outer.{Outer}
use Rattle.packet.specs.declared.PacketRead.{PacketRead}
use Rattle.packet.specs.Packet.{most_inner, holds_packet, read_text, read_frame}
use Rattle.packet.specs.Outer.{outer_within, alone_of, packet_from}
use Rattle.packet.proofs.ByItself.{from_alone, either_from}
use Rattle.boundary.specs.declared.CRead.{CRead}
use Rattle.boundary.specs.Record.{read_in_c}

-- ---- what a reader gives

-- ---- what a writer is given

-- ---- a packet by itself, and what it holds

module _ (s : List ℕ) (framed : Bool) (o : Outer) (e : o ≡ outer_within usually most_bytes framed s) (r : CRead) where
  held_in_c : (p : PacketRead) → p ≡ packet_from usually most_inner o s → r ≡ read_in_c p → r ≡ read_in_c (cond framed (read_frame s) (read_text s))
  held_in_c p q w = w ∙ ap (λ (x : PacketRead). read_in_c x) (either_from usually s framed o p e q)

  alone_in_c : (u : Bool) → u ≡ holds_packet s o.at → u ≡ false → r ≡ read_in_c (alone_of o) → r ≡ read_in_c (cond framed (read_frame s) (read_text s))
  alone_in_c u q n w = held_in_c (alone_of o) (from_alone usually most_inner o s u q (alone_of o) n refl) w

module _ (s : List ℕ) (o : Outer) (e : o ≡ outer_within usually most_bytes false s) (r : CRead) where
  pub held_text_in_c : (p : PacketRead) → p ≡ packet_from usually most_inner o s → r ≡ read_in_c p → r ≡ read_in_c (read_text s)
  held_text_in_c = held_in_c s false o e r

  pub alone_text_in_c : (u : Bool) → u ≡ holds_packet s o.at → u ≡ false → r ≡ read_in_c (alone_of o) → r ≡ read_in_c (read_text s)
  alone_text_in_c = alone_in_c s false o e r

module _ (s : List ℕ) (o : Outer) (e : o ≡ outer_within usually most_bytes true s) (r : CRead) where
  pub held_frame_in_c : (p : PacketRead) → p ≡ packet_from usually most_inner o s → r ≡ read_in_c p → r ≡ read_in_c (read_frame s)
  held_frame_in_c = held_in_c s true o e r

  pub alone_frame_in_c : (u : Bool) → u ≡ holds_packet s o.at → u ≡ false → r ≡ read_in_c (alone_of o) → r ≡ read_in_c (read_frame s)
  alone_frame_in_c = alone_in_c s true o e r
