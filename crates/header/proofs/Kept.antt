-- A text that was read stands in its header, the stars as typed and the marks: each callsign with the `-0` that its mark tells of, each
-- hop with the star that its bit tells of, a Q element by its name, and behind source and destination a star or none.
-- Assumes nothing.
use mathlib.Core.Path.{◌≡◌, refl, sym, ap, ◌∙◌}
use mathlib.Core.Bool.{Bool, true, false, cond, ◌||◌, and-true}
use mathlib.Core.List.{List, [], ◌∷◌, ◌++◌}
use Prim.Native.Nat.{ℕ, zero, suc, ◌+◌, ◌/◌, ◌%◌, ◌<◌}
use native.Mathlib.Omega.{arith}
use lib.Dec.{eqb, ltb}
use borrow.Author.Tests.{eqb-true, eqb-false}
use lib.ListN.{length, take, drop, length-append}
use lib.Seq.{take_at, append_snoc, length-take-le}
use Rattle.std.specs.Prelude.{Result, Ok, Err}
use Rattle.laws.specs.Bytes.{comma, colon, greater}
use Rattle.laws.specs.Lists.{index_of}
use Rattle.laws.proofs.Places.{index_split, index_le}
use Rattle.callsign.specs.declared.Callsign.{Callsign}
use Rattle.callsign.specs.declared.CallRead.{CallRead}
use Rattle.callsign.specs.Text.{made, read_text}
use Rattle.callsign.specs.Range.{with_star}
use Rattle.callsign.proofs.TextBack.{with_zero, typed_text, as_read, bare_written}
use Rattle.callsign.proofs.Theorems.{text_is_kept}
use Rattle.header.specs.declared.Hop.{Hop}
use Rattle.header.specs.declared.Fault.{Fault}
use Rattle.header.specs.declared.Fault.TheVariants.{NinthHop}
use Rattle.header.specs.declared.Header.{Header}
use Rattle.header.specs.declared.HeaderRead.{HeaderRead}
use Rattle.header.specs.Hop.{call_hop, q_hop, is_heard, any_heard, heard_if}
use Rattle.header.specs.Header.{most_bytes, Hops, number_of, before, path_of, hops_of, header_of, header_refused, header_accepted, unless_refused, with_hops}
use Rattle.header.specs.Text.{on_first, fields, first_of, others_of, read_hop, hop_then, text_hops, stars_of, carried, read_route, read_before, read_header_text, read_text_header}
use Rattle.header.proofs.Hops.{Part, name, odd, call, bad, part_read, call_heard, heard_is_call, if_heard, if_twice}
use Rattle.header.proofs.Typed.{lowest, others}
use Rattle.header.proofs.Stars.{each_text}
use Rattle.header.proofs.Going.{path_hops}
use Rattle.header.proofs.TextHops.{fields_some}

-- ---- a header as it was typed

-- the hops with the stars of a number, bit j for hop j
unfoldable pub starred_by : ℕ → List Hop → List Hop
starred_by stars [] = []
starred_by stars (h ∷ l) = heard_if (eqb (stars % 2) 1) h ∷ starred_by (stars / 2) l

-- all but the colon: each callsign with its `-0`, each hop with its star
unfoldable pub route_typed : Bool → Bool → ℕ → Header → List ℕ
route_typed source destination stars h =
    with_star (typed_text h.from) source ++ greater ∷ (with_star (typed_text h.to) destination ++ each_text typed_text (starred_by stars (hops_of h.path)))

-- with the colon
unfoldable pub header_typed : Bool → Bool → ℕ → Header → List ℕ
header_typed source destination stars h = route_typed source destination stars h ++ colon ∷ []

-- ---- the stars

-- a hop that is heard as it is
same_heard : (h : Hop) → is_heard (heard_if (is_heard h) h) ≡ is_heard h
same_heard h = if_heard (is_heard h) h ∙ rw (← and-true (is_heard h)) (heard_is_call h true)

stars_back : (l : List Hop) → each_text typed_text (starred_by (stars_of l) (carried l)) ≡ each_text typed_text l
unfolding starred_by stars_of carried each_text
stars_back [] = refl
stars_back (h ∷ l) =
    rw (lowest (is_heard h) (stars_of l), others (is_heard h) (stars_of l), if_twice (is_heard h || any_heard l) h, same_heard h, stars_back l) (unfold heard_if in refl)

-- ---- the parts between commas

-- each after a comma
unfoldable after_commas : List (List ℕ) → List ℕ
after_commas [] = []
after_commas (f ∷ fs) = comma ∷ (f ++ after_commas fs)

-- the first, and the others after commas
unfoldable rejoined : List (List ℕ) → List ℕ
rejoined fs = first_of fs ++ after_commas (others_of fs)

fields_back : (t : List ℕ) → rejoined (fields t) ≡ t
unfolding fields on_first first_of others_of after_commas rejoined
fields_back [] = refl
fields_back (x ∷ l) = let p = fields_some l in go (eqb x comma) refl (fields l) (take (index_of comma l) l) p.0 p.1 (fields_back l)
  where
    go : (k : Bool) → eqb x comma ≡ k → (w : List (List ℕ)) (f : List ℕ) (fs : List (List ℕ)) → w ≡ f ∷ fs → rejoined w ≡ l → rejoined (cond k ([] ∷ w) (on_first x w)) ≡ x ∷ l
    go true e w f fs q r = rw q (ap {B = List ℕ} (λ v. v ∷ (f ++ after_commas fs)) (sym (eqb-true x comma e)) ∙ ap {B = List ℕ} (λ v. x ∷ v) (rw q at r))
    go false e w f fs q r = rw q (ap {B = List ℕ} (λ v. x ∷ v) (rw q at r))

-- ---- hops

name_typed : (t : List ℕ) → with_star (typed_text (q_hop t).call) (is_heard (q_hop t)) ≡ t
unfolding q_hop is_heard with_star typed_text with_zero made
name_typed t = bare_written t

pub hop_typed : (t : List ℕ) (h : Hop) → Part t (Ok h) → with_star (typed_text h.call) (is_heard h) ≡ t
hop_typed t h (name n) = name_typed t
hop_typed t h (call z) = rw (call_heard (read_text t).call (read_text t).starred) (unfold call_hop as_read in text_is_kept t z)

hop_fault : (t : List ℕ) (f : Fault) → Part t (Err f) → number_of f ≡ 0 → ⊥
hop_fault t f odd z = omega arith
hop_fault t f (bad y) z = y z

-- refused, or hops that are typed as the parts are
data Typed (fs : List (List ℕ)) : Hops → Type 0 where
  none : (f : Fault) → (number_of f ≡ 0 → ⊥) → Typed fs (Err f)
  some : (l : List Hop) → after_commas fs ≡ each_text typed_text l → Typed fs (Ok l)

then_typed : (t : List ℕ) (ts : List (List ℕ)) (r : Result Hop Fault) {w : Hops} → Part t r → Typed ts w → Typed (t ∷ ts) (hop_then r w)
unfolding hop_then before after_commas each_text
then_typed t ts (Err f) p w = none f (hop_fault t f p)
then_typed t ts (Ok h) p (none f z) = none f z
then_typed t ts (Ok h) p (some l q) =
    some (h ∷ l) (ap {B = List ℕ} (λ f. comma ∷ (f ++ after_commas ts)) (sym (hop_typed t h p)) ∙ ap {B = List ℕ} (λ v. comma ∷ (with_star (typed_text h.call) (is_heard h) ++ v)) q)

hops_typed : (k : ℕ) (fs : List (List ℕ)) → Typed fs (text_hops k fs)
unfolding text_hops after_commas each_text
hops_typed zero [] = some [] refl
hops_typed (suc k) [] = some [] refl
hops_typed zero (t ∷ ts) = none NinthHop (λ e. omega arith)
hops_typed (suc k) (t ∷ ts) = then_typed t ts (read_hop t) (part_read t) (hops_typed k ts)

-- ---- what stands before the colon

-- the text whose parts, but for the first, are the hops, and the hops with the stars that were typed
pub record PathTyped (h : Header) : Type 0 where
  pub text : List ℕ
  pub typed : List Hop
  pub read : text_hops 8 (others_of (fields text)) ≡ Ok typed
  pub path : hops_of h.path ≡ carried typed

-- the stars that were behind source and destination, the place of the body, the text, and its hops
record Route (t : List ℕ) (body : ℕ) (r : HeaderRead) : Type 0 where
  source : Bool
  destination : Bool
  place : r.body ≡ body
  text : t ≡ route_typed source destination r.stars r.header
  hops : PathTyped r.header

-- by source and destination, each as it was read
module _ (body : ℕ) (from : Callsign) (source : Bool) (f : List ℕ) (p : with_star (typed_text from) source ≡ f) where
  path_kept : (to : Callsign) (destination : Bool) (d : List ℕ) → with_star (typed_text to) destination ≡ d → (t : List ℕ) {w : Hops} → text_hops 8 (others_of (fields t)) ≡ w → Typed (others_of (fields t)) w
      → (with_hops w (λ l. header_accepted from to (path_of (carried l)) body (stars_of l))).refusal ≡ 0
      → Route (f ++ greater ∷ (d ++ after_commas (others_of (fields t)))) body (with_hops w (λ l. header_accepted from to (path_of (carried l)) body (stars_of l)))
  unfolding with_hops header_refused header_accepted header_of route_typed
  path_kept to destination d q t r (none n z) e = absurd (z e)
  path_kept to destination d q t r (some l s) e =
      record {
        source = source;
        destination = destination;
        place = refl;
        text = rw (path_hops (carried l), stars_back l, p, q, s);
        hops = record { text = t; typed = l; read = r; path = path_hops (carried l) };
      }

  route_kept : (t : List ℕ) → (read_route from t body).refusal ≡ 0 → Route (f ++ greater ∷ t) body (read_route from t body)
  unfolding read_route unless_refused header_refused as_read rejoined
  route_kept t = go (eqb to.refusal 0) refl
    where
      to : CallRead
      to = read_text (first_of (fields t))

      go : (b : Bool) → eqb to.refusal 0 ≡ b
          → (cond b (with_hops (text_hops 8 (others_of (fields t))) (λ l. header_accepted from to.call (path_of (carried l)) body (stars_of l))) (header_refused to.refusal)).refusal ≡ 0
          → Route (f ++ greater ∷ t) body (cond b (with_hops (text_hops 8 (others_of (fields t))) (λ l. header_accepted from to.call (path_of (carried l)) body (stars_of l))) (header_refused to.refusal))
      go true e z =
          rw (fields_back t) at
          (path_kept to.call to.starred (first_of (fields t)) (text_is_kept (first_of (fields t)) (eqb-true to.refusal 0 e)) t refl (hops_typed 8 (others_of (fields t))) z)
      go false e z = absurd (eqb-false to.refusal 0 e z)

before_kept : (t : List ℕ) (body : ℕ) → (read_before t body).refusal ≡ 0 → Route t body (read_before t body)
unfolding read_before unless_refused header_refused as_read
before_kept t body = go (eqb g (length t)) refl (eqb from.refusal 0) refl
  where
    g : ℕ
    g = index_of greater t

    from : CallRead
    from = read_text (take g t)

    go : (b : Bool) → eqb g (length t) ≡ b → (k : Bool) → eqb from.refusal 0 ≡ k
        → (cond b (header_refused 2) (cond k (read_route from.call (drop (suc g) t) body) (header_refused from.refusal))).refusal ≡ 0
        → Route t body (cond b (header_refused 2) (cond k (read_route from.call (drop (suc g) t) body) (header_refused from.refusal)))
    go true e k f z = absurd (omega arith)
    go false e false f z = absurd (eqb-false from.refusal 0 f z)
    go false e true f z =
        let n = eqb-false g (length t) e in
        let s : take g t ++ greater ∷ drop (suc g) t ≡ t = sym (index_split greater t (omega (arith, index_le greater t))) in
        rw s at (route_kept body from.call from.starred (take g t) (text_is_kept (take g t) (eqb-true from.refusal 0 f)) (drop (suc g) t) z)

-- ---- the text

-- the header's bytes are those that were typed
pub record Kept (s : List ℕ) (r : HeaderRead) : Type 0 where
  pub source : Bool
  pub destination : Bool
  pub text : take r.body s ≡ header_typed source destination r.stars r.header
  pub hops : PathTyped r.header

-- up to the first b, and with it
with_found : (b : ℕ) (s : List ℕ) → index_of b s < length s → take (index_of b s + 1) s ≡ take (index_of b s) s ++ b ∷ []
with_found b s h =
    let c : ℕ = index_of b s in
    let l : length (take c s ++ b ∷ []) ≡ c + 1 = length-append (take c s) (b ∷ []) ∙ ap (λ (n : ℕ). n + 1) (length-take-le c s (omega (arith, index_le b s))) in
    ap (take (c + 1)) (index_split b s h ∙ sym (append_snoc (take c s) b (drop (suc c) s))) ∙ take_at (take c s ++ b ∷ []) (drop (suc c) s) (c + 1) l

pub text_kept : (s : List ℕ) → (read_header_text s).refusal ≡ 0 → Kept s (read_header_text s)
unfolding read_header_text header_refused header_typed
text_kept s = go (eqb c (length s)) refl
  where
    c : ℕ
    c = index_of colon s

    go : (b : Bool) → eqb c (length s) ≡ b → (cond b (header_refused 2) (read_before (take c s) (c + 1))).refusal ≡ 0 → Kept s (cond b (header_refused 2) (read_before (take c s) (c + 1)))
    go true e z = absurd (omega arith)
    go false e z =
        let n = eqb-false c (length s) e in
        let r = before_kept (take c s) (c + 1) z in
        record {
          source = r.source;
          destination = r.destination;
          text = ap (λ (k : ℕ). take k s) r.place ∙ with_found colon s (omega (arith, index_le colon s)) ∙ ap (λ (t : List ℕ). t ++ colon ∷ []) r.text;
          hops = r.hops;
        }

pub line_kept : (s : List ℕ) → (read_text_header s).refusal ≡ 0 → Kept s (read_text_header s)
unfolding read_text_header header_refused
line_kept s = go (ltb most_bytes (length s))
  where
    go : (b : Bool) → (cond b (header_refused 1) (read_header_text s)).refusal ≡ 0 → Kept s (cond b (header_refused 1) (read_header_text s))
    go true z = absurd (omega arith)
    go false z = text_kept s z
