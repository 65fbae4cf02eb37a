-- A record without the Q elements of its outermost header: its frame, and what that is refused with, are the record's own.
-- Assumes nothing.
use mathlib.Core.Path.{◌≡◌, refl}
use mathlib.Core.Bool.{Bool, true, false, cond, ◌&&◌}
use mathlib.Core.List.{List}
use Prim.Native.Nat.{ℕ, zero, suc}
use native.Mathlib.Omega.{arith}
use lib.Dec.{eqb}
use borrow.Author.Tests.{eq-eqb}
use Rattle.laws.proofs.Tests.{and_first, and_second}
use Rattle.buffer.specs.Wrote.{over_by}
use Rattle.header.specs.Header.{most_bytes, header_of}
use Rattle.header.specs.Range.{header_in_range, frame_refusal as header_frame_refusal}
use Rattle.header.proofs.WithoutQ.{without_q, same_frame, same_refusal, without_q_range}
use Rattle.body.specs.Range.{body_in_range}
use Rattle.body.proofs.Theorems.{destination_range}
use Rattle.packet.specs.declared.Record.{Record}
use Rattle.packet.specs.Range.{inner_in_range, record_in_range, range_refusal}
use Rattle.packet.specs.Packet.{innermost_of}
use Rattle.packet.specs.Written.{written_header, bytes_of, frame_bytes, or_else, content_refusal, record_refusal, frame_refusal}
use Rattle.packet.proofs.Order.{inside_refuses}

unfoldable pub record_without_q : Record → Record
record_without_q r = record { header = without_q r.header; body = r.body; innermost = r.innermost; inner = r.inner }

-- ---- the bytes

-- the destination that goes with the body does not depend on the path
same_written : (r : Record) → written_header (record_without_q r) ≡ without_q (written_header r)
unfolding written_header record_without_q without_q header_of
same_written r = refl

pub without_q_bytes : (r : Record) (text identifier : List ℕ) → frame_bytes (record_without_q r) text identifier ≡ frame_bytes r text identifier
unfolding frame_bytes bytes_of
without_q_bytes r text identifier = rw (same_written r, same_frame (written_header r)) (unfold record_without_q in refl)

-- ---- the range

same_to : (r : Record) → (innermost_of (record_without_q r)).to ≡ (innermost_of r).to
unfolding innermost_of record_without_q without_q header_of
same_to r = go (eqb r.inner 0)
  where
    go : (t : Bool) → (cond t (without_q r.header) r.innermost).to ≡ (cond t r.header r.innermost).to
    go true = refl
    go false = refl

module _ (r : Record) (e : record_in_range r ≡ true) where
  abbrev beside : Bool
  beside = inner_in_range r && body_in_range r.body (innermost_of r).to

  header_fine : header_in_range r.header ≡ true
  unfolding record_in_range
  header_fine = and_first (header_in_range r.header) beside e

  beside_fine : beside ≡ true
  unfolding record_in_range
  beside_fine = and_second (header_in_range r.header) beside e

  still_in_range : record_in_range (record_without_q r) ≡ true
  unfolding record_in_range
  still_in_range = rw (same_to r) (unfold record_without_q inner_in_range in rw (without_q_range r.header header_fine) beside_fine)

  -- without a packet inside, the header that is written is in range
  module _ (z : r.inner ≡ 0) where
    own_header : innermost_of r ≡ r.header
    unfolding innermost_of
    own_header = rw (eq-eqb r.inner 0 z)

    body_fine : body_in_range r.body r.header.to ≡ true
    body_fine = rw (← own_header) (and_second (inner_in_range r) (body_in_range r.body (innermost_of r).to) beside_fine)

    written_fine : header_in_range (written_header r) ≡ true
    unfolding header_in_range written_header
    written_fine = rw (destination_range r.body r.header.to body_fine) header_fine

  -- ---- the refusal

  module _ (text identifier : List ℕ) where
    same_record : record_refusal (record_without_q r) text identifier ≡ record_refusal r text identifier
    unfolding record_refusal range_refusal content_refusal
    same_record = rw (still_in_range, e) (unfold record_without_q in refl)

    pub without_q_refusal : frame_refusal (record_without_q r) text identifier ≡ frame_refusal r text identifier
    unfolding frame_refusal or_else range_refusal
    without_q_refusal = rw (same_record, same_written r, without_q_bytes r text identifier) (go r.inner refl)
      where
        go : (n : ℕ) → r.inner ≡ n → or_else (record_refusal r text identifier) (or_else (header_frame_refusal (without_q (written_header r))) (over_by most_bytes (frame_bytes r text identifier)))
            ≡ or_else (record_refusal r text identifier) (or_else (header_frame_refusal (written_header r)) (over_by most_bytes (frame_bytes r text identifier)))
        go zero z = rw (same_refusal (written_header r) (written_fine z))
        go (suc k) z = rw (inside_refuses r (λ y. omega (arith, y, z)) text identifier, e)
