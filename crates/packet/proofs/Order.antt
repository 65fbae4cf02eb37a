-- Which refusal comes first, of a record that is written: 15 of body or headers, 14 with a packet inside, the body's 14 or 18, the
-- header's 13.
-- Assumes nothing.
use mathlib.Core.Path.{◌≡◌, refl, sym, ap, ◌∙◌}
use mathlib.Core.Bool.{Bool, true, false, cond, ◌&&◌, and-true, and-false}
use mathlib.Core.List.{List, []}
use Prim.Native.Nat.{ℕ, zero, suc, ◌<◌, ◌≤◌}
use native.Mathlib.Omega.{arith}
use borrow.Author.Tests.{eq-eqb, ne_eqb, le-leb, lt-leb}
use lib.Dec.{leb}
use lib.ListN.{length}
use Rattle.message.specs.Message.{most_identifier, is_text, identifier_refusal, message_refusal}
use Rattle.message.specs.Status.{is_status_text, status_text_refusal}
use Rattle.buffer.specs.declared.Answer.{Answer}
use Rattle.buffer.specs.Wrote.{refused_by}
use Rattle.callsign.specs.declared.Callsign.{Callsign}
use Rattle.header.specs.declared.Header.{Header}
use Rattle.header.specs.Range.{header_in_range, is_blank_header, text_refusal as header_text_refusal, frame_refusal as header_frame_refusal}
use Rattle.header.specs.Frame.{addresses, first_refusal}
use Rattle.body.specs.declared.Kind.{Kind}
use Rattle.body.specs.declared.Kind.TheVariants.{Unknown, Position, MicE, Message, Status}
use Rattle.body.specs.declared.Body.{Body}
use Rattle.body.specs.declared.BodyWritten.{BodyWritten}
use Rattle.body.specs.Range.{body_in_range}
use Rattle.body.specs.Written.{written_to, body_bytes, tail_bytes, refusal_as, body_refusal, unwritten, written_as, written_or, write_body}
use Rattle.body.proofs.Theorems.{destination_range}
use Rattle.packet.specs.declared.Record.{Record}
use Rattle.packet.specs.Range.{inner_in_range, record_in_range, range_refusal}
use Rattle.packet.specs.Packet.{most_inner, header_to, innermost_of}
use Rattle.packet.specs.Written.{written_header, or_else, content_refusal, record_refusal}

-- ---- the first of two

pub or_first : (k n : ℕ) → (k ≡ 0 → ⊥) → or_else k n ≡ k
unfolding or_else
or_first zero n h = absurd (h refl)
or_first (suc k) n h = refl

pub or_none : (k n : ℕ) → k ≡ 0 → or_else k n ≡ n
unfolding or_else
or_none k n e = rw e

pub or_zero : (k : ℕ) → or_else k 0 ≡ k
unfolding or_else
or_zero zero = refl
or_zero (suc k) = refl

pub or_both : (a b : ℕ) → or_else a b ≡ 0 → (a ≡ 0) × (b ≡ 0)
unfolding or_else
or_both zero b e = (refl, e)
or_both (suc a) b e = absurd (omega arith)

pub or_or : (a b c : ℕ) → or_else (or_else a b) c ≡ or_else a (or_else b c)
unfolding or_else
or_or zero b c = refl
or_or (suc a) b c = refl

-- ---- a body that is written or not: its refusal, and the destination that goes with it

or_refusal : (n : ℕ) (to : Callsign) (bytes tail : List ℕ) → (written_or n to bytes tail).refusal ≡ n
unfolding written_or written_as
or_refusal zero to bytes tail = refl
or_refusal (suc n) to bytes tail = refl

or_to : (n : ℕ) (to : Callsign) (bytes tail : List ℕ) → (written_or n to bytes tail).to ≡ to
unfolding written_or written_as
or_to zero to bytes tail = refl
or_to (suc n) to bytes tail = refl

module _ (b : Body) (to : Callsign) (text identifier : List ℕ) where
  body_out : body_in_range b to ≡ false → (write_body b to text identifier).refusal ≡ 15
  unfolding write_body unwritten written_as
  body_out e = rw e

  body_in : body_in_range b to ≡ true → (write_body b to text identifier).refusal ≡ body_refusal b text identifier
  unfolding write_body
  body_in e = rw e (or_refusal (body_refusal b text identifier) (written_to b to) (body_bytes b) (tail_bytes b identifier))

-- a body by itself is never refused with 15 for what is handed over
not_15 : (b : Body) (text identifier : List ℕ) → body_refusal b text identifier ≡ 15 → ⊥
unfolding body_refusal refusal_as message_refusal identifier_refusal status_text_refusal
not_15 b text identifier = go b.kind
  where
    never : (t : Bool) → ◌≡◌ {A = ℕ} (cond t 0 18) 15 → ⊥
    never true e = omega arith
    never false e = omega arith

    twice : (t u : Bool) → ◌≡◌ {A = ℕ} (cond t (cond u 0 18) 18) 15 → ⊥
    twice true u e = never u e
    twice false u e = omega arith

    go : (k : Kind) → refusal_as k b text identifier ≡ 15 → ⊥
    go Unknown e = omega arith
    go Position e = omega arith
    go MicE e = omega arith
    go Message e = twice (is_text text) (leb (length identifier) most_identifier) e
    go Status e = never (is_status_text b.time text) e

-- ---- a record without a packet inside, and its body as written

module _ (r : Record) (z : r.inner ≡ 0) (text identifier : List ℕ) where
  abbrev fine : Bool
  fine = body_in_range r.body r.header.to

  abbrev its_body : BodyWritten
  its_body = write_body r.body r.header.to text identifier

  refusal_out : fine ≡ false → its_body.refusal ≡ 15
  refusal_out = body_out r.body r.header.to text identifier

  module _ (e : fine ≡ true) where
    refusal_in : its_body.refusal ≡ body_refusal r.body text identifier
    refusal_in = body_in r.body r.header.to text identifier e

    pub header_in : header_to r.header its_body.to ≡ written_header r
    unfolding write_body written_header
    header_in = rw e (ap (header_to r.header) (or_to (body_refusal r.body text identifier) (written_to r.body r.header.to) (body_bytes r.body) (tail_bytes r.body identifier)))

    -- the header that is written is in range where the record's own is
    header_same : header_in_range (written_header r) ≡ header_in_range r.header
    unfolding header_in_range written_header
    header_same = rw (destination_range r.body r.header.to e)

  -- without a packet inside, and with nothing in its header, a record's range is that of its header and body
  range_alone : is_blank_header r.innermost ≡ true → record_in_range r ≡ (header_in_range r.header && fine)
  unfolding record_in_range inner_in_range innermost_of
  range_alone b = rw (eq-eqb r.inner 0 z, b)

  refusal_alone : content_refusal r text identifier ≡ body_refusal r.body text identifier
  unfolding content_refusal
  refusal_alone = rw (eq-eqb r.inner 0 z)

  -- 15 of the body, 15 of the header, then 14 or 18
  module _ (b : is_blank_header r.innermost ≡ true) where
    pub record_refuses : record_refusal r text identifier ≡ or_else (header_text_refusal (header_to r.header its_body.to)) its_body.refusal
    unfolding record_refusal range_refusal header_text_refusal or_else
    record_refuses = rw (range_alone b, refusal_alone) (go fine refl)
      where
        out : (h x : Bool) (k : ℕ) → or_else (cond (h && false) 0 15) k ≡ or_else (cond x 0 15) 15
        out true true k = refl
        out true false k = refl
        out false true k = refl
        out false false k = refl

        go : (t : Bool) → fine ≡ t → or_else (cond (header_in_range r.header && fine) 0 15) (body_refusal r.body text identifier)
            ≡ or_else (cond (header_in_range (header_to r.header its_body.to)) 0 15) its_body.refusal
        go true e = rw (e, header_in e, refusal_in e, header_same e, and-true (header_in_range r.header))
        go false e = rw (e, refusal_out e) (out (header_in_range r.header) (header_in_range (header_to r.header its_body.to)) (body_refusal r.body text identifier))

    -- without a refusal of the body
    module _ (n : its_body.refusal ≡ 0) where
      pub body_fine : fine ≡ true
      body_fine = go fine refl
        where
          go : (t : Bool) → fine ≡ t → t ≡ true
          go true e = refl
          go false e = absurd (omega (arith, refusal_out e))

      pub header_left : record_refusal r text identifier ≡ header_text_refusal (written_header r)
      header_left = record_refuses ∙ rw (n, or_zero, header_in body_fine)

  -- something in its header is 15
  pub not_blank : is_blank_header r.innermost ≡ false → record_refusal r text identifier ≡ 15
  unfolding record_refusal range_refusal record_in_range inner_in_range or_else
  not_blank b = rw (eq-eqb r.inner 0 z, b, and-false (header_in_range r.header))

-- ---- a record with a packet inside

module _ (r : Record) (z : r.inner ≡ 0 → ⊥) where
  abbrev beside : Bool
  beside = body_in_range r.body r.innermost.to

  range_inside : record_in_range r ≡ (header_in_range r.header && ((leb r.inner most_inner && header_in_range r.innermost) && beside))
  unfolding record_in_range inner_in_range innermost_of
  range_inside = rw (ne_eqb r.inner 0 z)

  pub inside_refuses : (text identifier : List ℕ) → record_refusal r text identifier ≡ or_else (range_refusal r) 14
  unfolding record_refusal content_refusal
  inside_refuses text identifier = rw (ne_eqb r.inner 0 z)

  -- one of its parts out of range
  out_of_range : record_in_range r ≡ false → (a : Answer) → a ≡ refused_by 15 → a ≡ refused_by (or_else (range_refusal r) 14)
  unfolding range_refusal or_else
  out_of_range e a q = rw e q

  pub too_many : most_inner < r.inner → (a : Answer) → a ≡ refused_by 15 → a ≡ refused_by (or_else (range_refusal r) 14)
  too_many h = out_of_range (range_inside ∙ rw (lt-leb r.inner most_inner h, and-false (header_in_range r.header)))

  module _ (few : r.inner ≤ most_inner) (b : BodyWritten) (q : b ≡ write_body r.body r.innermost.to [] []) where
    pub body_is_out : b.refusal ≡ 15 → (a : Answer) → a ≡ refused_by 15 → a ≡ refused_by (or_else (range_refusal r) 14)
    body_is_out n = out_of_range (go beside refl)
      where
        go : (t : Bool) → beside ≡ t → record_in_range r ≡ false
        go true e = absurd (not_15 r.body [] [] (sym (body_in r.body r.innermost.to [] [] e) ∙ ap (λ (x : BodyWritten). x.refusal) (sym q) ∙ n))
        go false e = range_inside ∙ rw (e, and-false (leb r.inner most_inner && header_in_range r.innermost), and-false (header_in_range r.header))

    pub headers_judged : (b.refusal ≡ 15 → ⊥) → (w a : Answer) → w ≡ refused_by (or_else (header_text_refusal r.innermost) 14) → a ≡ refused_by (or_else (header_text_refusal r.header) w.refusal)
        → a ≡ refused_by (or_else (range_refusal r) 14)
    unfolding range_refusal header_text_refusal or_else
    headers_judged n w a f g = g ∙ ap refused_by (rw (f, range_inside, le-leb r.inner most_inner few) (go beside refl (header_in_range r.header) (header_in_range r.innermost)))
      where
        go : (t : Bool) → beside ≡ t → (x y : Bool) → or_else (cond x 0 15) (or_else (cond y 0 15) 14) ≡ or_else (cond (x && (y && beside)) 0 15) 14
        go false e x y = absurd (n (ap (λ (k : BodyWritten). k.refusal) q ∙ body_out r.body r.innermost.to [] [] e))
        go true e true true = rw e
        go true e true false = refl
        go true e false y = refl

-- the frame's writer gives the header's 15 first
pub frame_first : (h : Header) (n : ℕ) → or_else (header_text_refusal h) (or_else (header_frame_refusal h) n) ≡ or_else (header_frame_refusal h) n
unfolding header_text_refusal header_frame_refusal or_else
frame_first h n = go (header_in_range h)
  where
    go : (b : Bool) → or_else (cond b 0 15) (or_else (cond b (first_refusal (addresses h)) 15) n) ≡ or_else (cond b (first_refusal (addresses h)) 15) n
    go true = refl
    go false = refl

pub ruleset inside_refused = (too_many, body_is_out, headers_judged)
