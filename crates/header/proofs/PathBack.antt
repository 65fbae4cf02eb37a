-- A path that was read from a text, written and read again: the same hops, without their marks, if no callsign is spelt like a Q element
-- or ends in a star.
-- Assumes nothing.
use mathlib.Core.Path.{◌≡◌, refl, sym, ap, ◌∙◌}
use mathlib.Core.Bool.{Bool, true, false, not, cond, ◌||◌}
use mathlib.Core.List.{List, [], ◌∷◌, ◌++◌, map, append-nil, append_assoc}
use Prim.Native.Nat.{ℕ, zero, suc}
use native.Mathlib.Omega.{arith}
use lib.Dec.{eqb}
use borrow.Author.Tests.{eq-eqb, eqb-true, not-true}
use lib.ListN.{length, take, drop, length-append}
use lib.Seq.{take_at}
use Rattle.laws.specs.Bytes.{comma, star, dash, digit0}
use Rattle.laws.specs.Lists.{index_of, every}
use Rattle.laws.proofs.Places.{none_in_front, first_behind}
use Rattle.laws.proofs.Tests.{or_neither}
use Rattle.laws.proofs.Each.{every_first, every_rest}
use Rattle.callsign.specs.declared.Callsign.{Callsign}
use Rattle.callsign.specs.Text.{call_accepted, read_text}
use Rattle.callsign.specs.Range.{text_of, with_star}
use Rattle.callsign.proofs.Marks.{unmarked_made}
use Rattle.callsign.proofs.TextBack.{with_zero, typed_text, bare_written}
use Rattle.callsign.proofs.TextAgain.{ends_in_star}
use Rattle.callsign.proofs.Theorems.{text_reads_back}
use Rattle.header.specs.declared.Hop.{Hop}
use Rattle.header.specs.declared.Fault.{Fault}
use Rattle.std.specs.Prelude.{Result, Ok, Err}
use Rattle.header.specs.Hop.{is_q_name, call_hop, q_hop, is_heard, is_q_element, any_heard, heard_if}
use Rattle.header.specs.declared.Header.{Header}
use Rattle.header.specs.Header.{Hops, before, hops_of}
use Rattle.header.specs.Text.{on_first, fields, others_of, starts_q, hop_named, hop_of, read_hop, hop_then, text_hops, carried, hops_text}
use Rattle.header.proofs.Hops.{Part, name, call, part_read, name_starts, call_heard, call_is_call, if_twice, call_read}
use Rattle.header.proofs.Stars.{starred_last, each_text, written_stars, carried_starred, carried_twice}
use Rattle.header.proofs.TextHops.{fields_one, fields_two, fields_some, no_parts}
use Rattle.header.proofs.Kept.{hop_typed, PathTyped}
use Rattle.header.proofs.Marks.{unmarked_hop, heard_unmarked}

-- ---- one hop

-- a hop as it is written, with its star
unfoldable pub spelled : Hop → List ℕ
spelled h = with_star (text_of h.call) (is_heard h)

-- "of paths without a callsign so spelt": like a Q element; nor may a star be part of it
unfoldable pub reads_alike : Hop → Bool
reads_alike h = is_q_element h || not (starts_q (spelled h) || ends_in_star (text_of h.call))

-- a callsign with a star behind it or none
module _ (c : Callsign) (b : Bool) where
  spelled_call : spelled (call_hop c b) ≡ with_star (text_of c) b
  unfolding spelled
  spelled_call = rw (call_heard c b) (unfold call_hop in refl)

  apart : reads_alike (call_hop c b) ≡ true → (starts_q (with_star (text_of c) b) ≡ false) × (ends_in_star (text_of c) ≡ false)
  unfolding reads_alike call_hop
  apart e = or_neither (starts_q (with_star (text_of c) b)) (ends_in_star (text_of c)) (not-true (starts_q (with_star (text_of c) b) || ends_in_star (text_of c)) (rw (call_is_call c b, spelled_call) at e))

call_again : (t : List ℕ) (b : Bool) → (read_text t).refusal ≡ 0 → reads_alike (call_hop (read_text t).call b) ≡ true
    → read_hop (spelled (call_hop (read_text t).call b)) ≡ Ok (unmarked_hop (call_hop (read_text t).call b))
unfolding hop_of call_accepted unmarked_hop
call_again t b z e =
    let c = (read_text t).call in
    let a = apart c b e in
    ap read_hop (spelled_call c b) ∙ call_read (with_star (text_of c) b) a.0 ∙ ap hop_of (text_reads_back t z a.1 b) ∙ unfold call_hop in refl

name_again : (t : List ℕ) (b : Bool) → starts_q t ≡ true → is_q_name t ≡ true → read_hop (spelled (heard_if b (q_hop t))) ≡ Ok (unmarked_hop (heard_if b (q_hop t)))
unfolding spelled heard_if q_hop is_heard is_q_element with_star read_hop hop_named unmarked_hop
name_again t b s n = rw (bare_written t, s, n, unmarked_made t [])

heard_call : (c : Callsign) (a b : Bool) → heard_if b (call_hop c a) ≡ call_hop c b
unfolding heard_if
heard_call c a b = rw (call_is_call c a) (unfold call_hop in refl)

-- the hop of a part, with a star or without one
hop_again : (t : List ℕ) (b : Bool) (h : Hop) → Part t (Ok h) → reads_alike (heard_if b h) ≡ true → read_hop (spelled (heard_if b h)) ≡ Ok (unmarked_hop (heard_if b h))
hop_again t b h (name n) e = name_again t b (name_starts t n) n
hop_again t b h (call z) e =
    let k : heard_if b h ≡ call_hop (read_text t).call b = heard_call (read_text t).call (read_text t).starred b in
    rw k (call_again t b z (rw k at e))

-- ---- parts without a comma

unfoldable no_comma : List ℕ → Bool
no_comma t = eqb (index_of comma t) (length t)

comma_free : (t : List ℕ) → index_of comma t ≡ length t → no_comma t ≡ true
unfolding no_comma
comma_free t e = eq-eqb (index_of comma t) (length t) e

free_of_comma : (t : List ℕ) → no_comma t ≡ true → index_of comma t ≡ length t
unfolding no_comma
free_of_comma t e = eqb-true (index_of comma t) (length t) e

no_comma_first : (x : ℕ) (t : List ℕ) → eqb x comma ≡ false → no_comma t ≡ true → no_comma (x ∷ t) ≡ true
unfolding index_of
no_comma_first x t e n = comma_free (x ∷ t) (rw e (ap suc (free_of_comma t n)))

no_comma_none : no_comma [] ≡ true
unfolding index_of
no_comma_none = comma_free [] refl

parts_free : (t : List ℕ) → every no_comma (fields t) ≡ true
unfolding fields on_first every
parts_free [] = rw no_comma_none
parts_free (x ∷ l) = let p = fields_some l in go (eqb x comma) refl (take (index_of comma l) l) p.0 (fields l) p.1 (parts_free l)
  where
    go : (k : Bool) → eqb x comma ≡ k → (f : List ℕ) (fs w : List (List ℕ)) → w ≡ f ∷ fs → every no_comma w ≡ true → every no_comma (cond k ([] ∷ w) (on_first x w)) ≡ true
    go true e f fs w q r = rw no_comma_none r
    go false e f fs w q r =
        let r' : every no_comma (f ∷ fs) ≡ true = rw q at r in
        rw (q, no_comma_first x f e (every_first no_comma f fs r'), every_rest no_comma f fs r')

others_free : (t : List ℕ) → every no_comma (others_of (fields t)) ≡ true
others_free t = go (fields t) (parts_free t)
  where
    go : (fs : List (List ℕ)) → every no_comma fs ≡ true → every no_comma (others_of fs) ≡ true
    go [] e = unfold others_of every in refl
    go (f ∷ fs) e = unfold others_of in every_rest no_comma f fs e

-- ---- the texts of hops that were read have none

star_behind : (l : List ℕ) (b : Bool) → (r : List ℕ) × (with_star l b ≡ l ++ r)
unfolding with_star
star_behind l true = (star ∷ [], refl)
star_behind l false = ([], sym (append-nil l))

zero_behind : (l : List ℕ) (b : Bool) → (r : List ℕ) × (with_zero l b ≡ l ++ r)
unfolding with_zero
zero_behind l true = (dash ∷ digit0 ∷ [], refl)
zero_behind l false = ([], sym (append-nil l))

hop_free : (t : List ℕ) (h : Hop) → Part t (Ok h) → no_comma t ≡ true → no_comma (text_of h.call) ≡ true
unfolding typed_text
hop_free t h p n =
    let c = h.call in
    let s = star_behind (with_zero (text_of c) c.had_zero_ssid) (is_heard h) in
    let y = zero_behind (text_of c) c.had_zero_ssid in
    let whole : t ≡ text_of c ++ (y.0 ++ s.0) = sym (hop_typed t h p) ∙ s.1 ∙ ap (λ (l : List ℕ). l ++ s.0) y.1 ∙ append_assoc (text_of c) y.0 s.0 in
    comma_free (text_of c) (none_in_front comma (text_of c) (y.0 ++ s.0) (rw whole at (free_of_comma t n)))

none_starred : (k : List ℕ) → index_of comma k ≡ length k → index_of comma (k ++ star ∷ []) ≡ length (k ++ star ∷ [])
unfolding index_of
none_starred [] e = refl
none_starred (x ∷ k) e = go (eqb x comma) (λ r. none_starred k r) e
  where
    go : (t : Bool) → (index_of comma k ≡ length k → index_of comma (k ++ star ∷ []) ≡ length (k ++ star ∷ [])) → cond t 0 (suc (index_of comma k)) ≡ suc (length k)
        → cond t 0 (suc (index_of comma (k ++ star ∷ []))) ≡ suc (length (k ++ star ∷ []))
    go true r e = absurd (omega arith)
    go false r e = ap suc (r (omega arith))

star_free : (t : List ℕ) (b : Bool) → no_comma t ≡ true → no_comma (with_star t b) ≡ true
unfolding with_star
star_free t true n = comma_free (t ++ star ∷ []) (none_starred t (free_of_comma t n))
star_free t false n = n

-- ---- the parts of what is written

front_part : (k : List ℕ) (w : List Hop) → no_comma k ≡ true → fields (k ++ each_text text_of w) ≡ k ∷ others_of (fields (each_text text_of w))
unfolding each_text others_of
front_part k [] n = rw (append-nil k) (fields_one k (free_of_comma k n) ∙ unfold fields in refl)
front_part k (h ∷ w) n =
    let rest = with_star (text_of h.call) (is_heard h) ++ each_text text_of w in
    let i : index_of comma (k ++ comma ∷ rest) ≡ length k = first_behind comma k rest (free_of_comma k n) in
    fields_two (k ++ comma ∷ rest) (omega (arith, length-append k (comma ∷ rest)))
    ∙ rw (i, take_at k (comma ∷ rest) (length k) refl, drop_past k rest) (unfold fields in refl)
  where
    drop_past : (k l : List ℕ) → drop (suc (length k)) (k ++ comma ∷ l) ≡ l
    drop_past [] l = refl
    drop_past (x ∷ k) l = drop_past k l

-- a hop whose text has none
unfoldable is_free : Hop → Bool
is_free h = no_comma (text_of h.call)

each_parts : (w : List Hop) → every is_free w ≡ true → others_of (fields (each_text text_of w)) ≡ map spelled w
unfolding others_of each_text spelled fields is_free
each_parts [] e = refl
each_parts (h ∷ w) e =
    front_part (with_star (text_of h.call) (is_heard h)) w (star_free (text_of h.call) (is_heard h) (every_first is_free h w e))
    ∙ ap {B = List (List ℕ)} (λ r. with_star (text_of h.call) (is_heard h) ∷ r) (each_parts w (every_rest is_free h w e))

-- ---- the path

-- hops, and the same with other stars
data Restarred : List Hop → List Hop → Type 0 where
  none : Restarred [] []
  more : (b : Bool) (h : Hop) {l w : List Hop} → Restarred l w → Restarred (h ∷ l) (heard_if b h ∷ w)

restarred : (l : List Hop) → Restarred l (starred_last (carried l))
unfolding starred_last carried
restarred [] = none
restarred (h ∷ l) = rw (if_twice (is_heard h || any_heard l) h) (more _ h (restarred l))

free_if : (b : Bool) (h : Hop) → is_free (heard_if b h) ≡ is_free h
unfolding is_free heard_if
free_if b h = refl

restarred_free : {l w : List Hop} → Restarred l w → every is_free l ≡ true → every is_free w ≡ true
unfolding every
restarred_free none e = refl
restarred_free (more b h {l = l} r) e = rw (free_if b h, every_first is_free h l e, restarred_free r (every_rest is_free h l e))

-- hops that read back from what is written of them, whatever their stars
Back : ℕ → List Hop → Type 0
Back k l = (w : List Hop) → Restarred l w → every reads_alike w ≡ true → text_hops k (map spelled w) ≡ Ok (map unmarked_hop w)

-- of a refusal nothing is said
Again : ℕ → Hops → Type 0
Again k (Err f) = f ≡ f
Again k (Ok l) = (every is_free l ≡ true) × Back k l

none_back : (k : ℕ) → Back k []
unfolding Back
none_back k w none e = no_parts k

more_back : (k : ℕ) (t : List ℕ) (l : List Hop) (h : Hop) → Part t (Ok h) → Back k l → Back (suc k) (h ∷ l)
unfolding Back text_hops hop_then before
more_back k t l h p f w (more b _ {w = w'} r) e = rw (hop_again t b h p (every_first reads_alike (heard_if b h) w' e), f w' r (every_rest reads_alike (heard_if b h) w' e))

then_again : (k : ℕ) (t : List ℕ) → no_comma t ≡ true → (r : Result Hop Fault) → Part t r → (w : Hops) → Again k w → Again (suc k) (hop_then r w)
unfolding hop_then before every is_free Again
then_again k t n (Err f) p w a = refl
then_again k t n (Ok h) p (Err f) a = refl
then_again k t n (Ok h) p (Ok l) a = (rw (hop_free t h p n, a.0), more_back k t l h p a.1)

hops_again : (k : ℕ) (ts : List (List ℕ)) → every no_comma ts ≡ true → Again k (text_hops k ts)
unfolding text_hops every Again
hops_again zero [] n = (refl, none_back 0)
hops_again (suc k) [] n = (refl, none_back (suc k))
hops_again zero (t ∷ ts) n = refl
hops_again (suc k) (t ∷ ts) n = then_again k t (every_first no_comma t ts n) (read_hop t) (part_read t) (text_hops k ts) (hops_again k ts (every_rest no_comma t ts n))

-- of a path that was read
module _ (t : List ℕ) (l : List Hop) (e : text_hops 8 (others_of (fields t)) ≡ Ok l) (apart : every reads_alike (starred_last (carried l)) ≡ true) where
  path_again : text_hops 8 (others_of (fields (hops_text (carried l)))) ≡ Ok (map unmarked_hop (starred_last (carried l)))
  unfolding Again Back
  path_again =
      let a : (every is_free l ≡ true) × Back 8 l = rw e at (hops_again 8 (others_of (fields t)) (others_free t)) in
      rw (written_stars (carried l), each_parts (starred_last (carried l)) (restarred_free (restarred l) a.0)) (a.1 (starred_last (carried l)) (restarred l) apart)

-- marks and stars have nothing to do with each other
carried_unmarked : (l : List Hop) → carried (map unmarked_hop l) ≡ map unmarked_hop (carried l)
unfolding carried
carried_unmarked [] = refl
carried_unmarked (h ∷ l) = rw (heard_unmarked l, carried_unmarked l) (unfold heard_if is_heard is_q_element unmarked_hop in refl)

-- the hops' text, read as the hops of a line are, and its stars carried back
pub record ReadsBack (l : List Hop) : Type 0 where
  pub text : text_hops 8 (others_of (fields (hops_text l))) ≡ Ok (map unmarked_hop (starred_last l))
  pub heard : carried (map unmarked_hop (starred_last l)) ≡ map unmarked_hop l

pub path_back : (h : Header) → PathTyped h → every reads_alike (starred_last (hops_of h.path)) ≡ true → ReadsBack (hops_of h.path)
path_back h p apart =
    let l = carried p.typed in
    rw p.path (record {
      text = path_again p.text p.typed p.read (rw p.path at apart);
      heard = carried_unmarked (starred_last l) ∙ ap (map unmarked_hop) (carried_starred l ∙ carried_twice p.typed);
    })
