-- Stars: carried back over the callsigns before them in reading, and set on the last heard one alone in writing; Q elements are passed
-- over, so that the callsigns are heard and starred as if there were none.
-- Assumes nothing.
use mathlib.Core.Path.{◌≡◌, refl, sym, ap, ◌∙◌}
use mathlib.Core.Bool.{Bool, true, false, not, cond, ◌&&◌, ◌||◌}
use mathlib.Core.List.{List, [], ◌∷◌, ◌++◌}
use Prim.Native.Nat.{ℕ, zero, suc, ◌+◌, ◌-◌, ◌*◌, ◌^◌, ◌<◌, ◌≤◌}
use native.Mathlib.Nat.{not-suc-le-zero, le_of_suc-le-suc, pow-le-pow_right}
use native.Mathlib.Omega.{arith}
use lib.Dec.{eqb}
use borrow.Author.Tests.{eqb-true}
use mir.Val.{Fits, bool_byte}
use mir.Syntax.{w8}
use lib.ListN.{length, take, drop, get_or, set, take-append-drop}
use lib.Seq.{length-take-le, set_at, get_or_at, append_snoc, take-suc, slice, slice-cons, slice_empty, length-slice}
use Rattle.laws.specs.Bytes.{comma}
use Rattle.laws.specs.Lists.{any_of}
use Rattle.callsign.specs.declared.Callsign.{Callsign}
use Rattle.callsign.specs.Range.{text_of, with_star}
use Rattle.callsign.specs.Packed.{bit}
use Rattle.header.specs.declared.Hop.{Hop}
use Rattle.header.specs.declared.Path.{Path}
use Rattle.header.specs.declared.StarredPath.{StarredPath}
use Rattle.header.specs.Hop.{was_heard, q_element, is_heard, is_q_element, calls_of, heard_if, any_heard}
use Rattle.header.specs.Text.{stars_of, carried, hops_text}
use Rattle.header.specs.Private.{carried_kind, starred_read}
use Rattle.header.proofs.Hops.{heard_is_call, heard_among_calls, q_unheard, if_q, if_heard, if_twice, if_call}
use Rattle.header.proofs.Typed.{stars_below}

-- ---- reading: the hops from i to n are done

-- what the array holds then
unfoldable pub Back : List Hop → ℕ → ℕ → List Hop
Back l n i = take i l ++ (carried (slice i n l) ++ drop n l)

pub record Carrying (l : List Hop) (n : ℕ) (out : List Hop) (stars : ℕ) (heard : Bool) (i : ℕ) : Type 0 where
  pub few : n ≤ 8
  pub full : length l ≡ 8
  pub up : i ≤ n
  pub held : out ≡ Back l n i
  pub typed : stars ≡ stars_of (slice i n l)
  pub some : heard ≡ any_heard (slice i n l)

pub carrying_start : (l : List Hop) (n : ℕ) → n ≤ 8 → length l ≡ 8 → Carrying l n l 0 false n
unfolding carried Back stars_of any_of
carrying_start l n k f = record { few = k; full = f; up = omega arith; held = rw slice_empty (sym (take-append-drop n l)); typed = rw slice_empty; some = rw slice_empty }

-- the number has room for one star more
module _ (l : List Hop) (n : ℕ) (out : List Hop) (stars : ℕ) (heard : Bool) (i : ℕ) (g : Carrying l n out stars heard i) (p : 0 < i) where
  room : stars ≤ 127
  room =
      let k = g.few in
      let f = g.full in
      let u : length (slice i n l) ≤ 7 = omega (arith, length-slice i n l (omega arith)) in
      let b : 2 ^ length (slice i n l) ≤ 2 ^ 7 = pow-le-pow_right {n = 2} (omega arith) {i = length (slice i n l)} {j = 7} u in
      omega (arith, g.typed, stars_below (slice i n l))

  pub twice_fits : Fits w8 (2 * stars)
  twice_fits = let r = room in record { fits = omega arith }

  pub star_fits : (b : Bool) → Fits w8 (2 * stars + bool_byte b)
  star_fits true = let r = room in record { fits = omega arith }
  star_fits false = let r = room in record { fits = omega arith }

module _ (l : List Hop) (n j : ℕ) (d : Hop) (m : j < n) (h : n ≤ length l) where
  open_at : Back l n (suc j) ≡ take j l ++ get_or l j d ∷ (carried (slice (suc j) n l) ++ drop n l)
  unfolding Back
  open_at = rw (take-suc l j d (omega arith)) (append_snoc (take j l) (get_or l j d) _)

  long : length (take j l) ≡ j
  long = length-take-le j l (omega arith)

  back_get : get_or (Back l n (suc j)) j d ≡ get_or l j d
  back_get = rw open_at (get_or_at (take j l) (get_or l j d) _ d j long)

  back_set : (v : Hop) → v ≡ heard_if (is_heard (get_or l j d) || any_heard (slice (suc j) n l)) (get_or l j d) → set (Back l n (suc j)) j v ≡ Back l n j
  unfolding carried
  back_set v e = rw open_at (set_at (take j l) (get_or l j d) _ v j long ∙ unfold Back in rw (slice-cons j n l d m h, e))

  back_stars : stars_of (slice j n l) ≡ bit (is_heard (get_or l j d)) + 2 * stars_of (slice (suc j) n l)
  unfolding stars_of
  back_stars = rw (slice-cons j n l d m h)

  back_any : any_heard (slice j n l) ≡ (is_heard (get_or l j d) || any_heard (slice (suc j) n l))
  unfolding any_of
  back_any = rw (slice-cons j n l d m h)

flag_bit_lem : (b : Bool) → bool_byte b ≡ bit b
unfolding bit
flag_bit_lem true = refl
flag_bit_lem false = refl

-- kind is the number that the code sets at j
turn : (l : List Hop) (n : ℕ) (out : List Hop) (stars : ℕ) (heard : Bool) (j kind : ℕ) (d : Hop) → Carrying l n out stars heard (suc j)
    → kind ≡ carried_kind (get_or out j d).kind (eqb (get_or out j d).kind was_heard || heard)
    → Carrying l n (set out j (record { call = (get_or out j d).call; kind = kind })) (2 * stars + bool_byte (eqb (get_or out j d).kind was_heard)) (eqb (get_or out j d).kind was_heard || heard) j
unfolding is_heard
turn l n out stars heard j kind d g e =
    let k = g.few in
    let f = g.full in
    let u = g.up in
    let t = g.typed in
    let x : get_or out j d ≡ get_or l j d = rw g.held (back_get l n j d (omega arith) (omega arith)) in
    let b : bool_byte (eqb (get_or out j d).kind was_heard) ≡ bit (is_heard (get_or l j d)) = rw x (flag_bit_lem (is_heard (get_or l j d))) in
    record {
      few = k;
      full = f;
      up = omega arith;
      held = ap (λ (o : List Hop). set o j (record { call = (get_or out j d).call; kind = kind })) g.held ∙ back_set l n j d (omega arith) (omega arith) _ (rw (e, x, g.some) (unfold heard_if carried_kind is_q_element in refl));
      typed = omega (arith, back_stars l n j d (omega arith) (omega arith));
      some = rw (x, g.some) (sym (back_any l n j d (omega arith) (omega arith)));
    }

-- a turn, at the code's i - 1
pub carrying_more : (l : List Hop) (n : ℕ) (out : List Hop) (stars : ℕ) (heard : Bool) (i kind : ℕ) (d : Hop) → Carrying l n out stars heard i → 0 < i
    → kind ≡ carried_kind (get_or out (i - 1) d).kind (eqb (get_or out (i - 1) d).kind was_heard || heard)
    → Carrying l n (set out (i - 1) (record { call = (get_or out (i - 1) d).call; kind = kind })) (2 * stars + bool_byte (eqb (get_or out (i - 1) d).kind was_heard))
    (eqb (get_or out (i - 1) d).kind was_heard || heard) (i - 1)
carrying_more l n out stars heard zero kind d g p e = absurd (omega arith)
carrying_more l n out stars heard (suc j) kind d g p e = let q : suc j - 1 ≡ j = omega arith in rw q (turn l n out stars heard j kind d g (rw q at e))

pub carrying_done : (p : Path) (out : Path) (stars : ℕ) (heard : Bool) (i : ℕ) → Carrying p.hops p.count out.hops stars heard i → i ≤ 0 → out.count ≡ p.count
    → ◌≡◌ {A = StarredPath} (record { path = out; stars = stars }) (starred_read p)
unfolding Back
carrying_done p out stars heard zero g h e =
    let c : out.hops ≡ carried (take p.count p.hops) ++ drop p.count p.hops = g.held in
    let t : stars ≡ stars_of (take p.count p.hops) = g.typed in
    λ k. record { path = record { count = e k; hops = c k }; stars = t k }
carrying_done p out stars heard (suc i) g h e = absurd (omega arith)

-- ---- written and read again

-- the stars that are written: "the last heard one only"
unfoldable pub starred_last : List Hop → List Hop
starred_last [] = []
starred_last (h ∷ l) = heard_if (is_heard h && not (any_heard l)) h ∷ starred_last l

-- each hop after a comma, its callsign as the text of one is given, with a star where it is heard
unfoldable pub each_text : (Callsign → List ℕ) → List Hop → List ℕ
each_text text [] = []
each_text text (h ∷ l) = comma ∷ (with_star (text h.call) (is_heard h) ++ each_text text l)

-- of the hop that is starred, whether it is
starred_one : (h : Hop) (b : Bool) → is_heard (heard_if (is_heard h && b) h) ≡ (is_heard h && b)
starred_one h b = if_heard (is_heard h && b) h ∙ heard_is_call h b

pub written_stars : (l : List Hop) → hops_text l ≡ each_text text_of (starred_last l)
unfolding hops_text each_text starred_last
written_stars [] = refl
written_stars (h ∷ l) = rw (starred_one h (not (any_heard l)), written_stars l) (unfold heard_if in refl)

-- one star is enough to tell which were heard
one_or : (a b : Bool) → ((a && not b) || b) ≡ (a || b)
one_or true true = refl
one_or true false = refl
one_or false b = refl

any_starred : (l : List Hop) → any_heard (starred_last l) ≡ any_heard l
unfolding any_of starred_last
any_starred [] = refl
any_starred (h ∷ l) = rw (starred_one h (not (any_heard l)), any_starred l) (one_or (is_heard h) (any_heard l))

pub carried_starred : (l : List Hop) → carried (starred_last l) ≡ carried l
unfolding carried starred_last
carried_starred [] = refl
carried_starred (h ∷ l) =
    rw (if_twice (is_heard h && not (any_heard l)) h, starred_one h (not (any_heard l)), any_starred l, one_or (is_heard h) (any_heard l), carried_starred l)

or_twice : (a b : Bool) → ((a || b) || b) ≡ (a || b)
or_twice true b = refl
or_twice false true = refl
or_twice false false = refl

any_carried : (l : List Hop) → any_heard (carried l) ≡ any_heard l
unfolding any_of carried
any_carried [] = refl
any_carried (h ∷ l) = rw (if_heard (is_heard h || any_heard l) h, any_carried l) (go (is_q_element h) refl)
  where
    go : (k : Bool) → is_q_element h ≡ k → ((not k && (is_heard h || any_heard l)) || any_heard l) ≡ (is_heard h || any_heard l)
    go true e = rw (q_unheard h e)
    go false e = or_twice (is_heard h) (any_heard l)

pub carried_twice : (l : List Hop) → carried (carried l) ≡ carried l
unfolding carried
carried_twice [] = refl
carried_twice (h ∷ l) =
    rw (
      if_twice (is_heard h || any_heard l) h,
      if_heard (is_heard h || any_heard l) h,
      any_carried l,
      if_call h (is_heard h || any_heard l) (any_heard l),
      or_twice (is_heard h) (any_heard l),
      carried_twice l,
    )

-- ---- Q elements anywhere

-- hops of which each is heard as `by` says of it and of those behind it, where Q elements behind it do not count
module _ (f : List Hop → List Hop) (by : Hop → List Hop → Bool) (none : f [] ≡ []) (one : (h : Hop) (l : List Hop) → f (h ∷ l) ≡ heard_if (by h l) h ∷ f l)
    (over : (h : Hop) (l : List Hop) → by h (calls_of l) ≡ by h l) where
  calls_by : (l : List Hop) → calls_of (f l) ≡ f (calls_of l)
  unfolding calls_of
  calls_by [] = ap calls_of none ∙ sym none
  calls_by (h ∷ l) = rw (one h l, if_q (by h l) h) (go (is_q_element h) (calls_by l))
    where
      go : (k : Bool) → calls_of (f l) ≡ f (calls_of l) → cond k (calls_of (f l)) (heard_if (by h l) h ∷ calls_of (f l)) ≡ f (cond k (calls_of l) (h ∷ calls_of l))
      go true r = r
      go false r = rw (one h (calls_of l), over h l, r)

-- a Q element stays as it is
pub q_stays : (b : Bool) (h : Hop) → is_q_element h ≡ true → heard_if b h ≡ h
unfolding heard_if is_q_element
q_stays b h e =
    let q : q_element ≡ h.kind = sym (eqb-true h.kind q_element e) in
    rw e (λ i. record { call = h.call; kind = q i })

pub carried_stays : (l : List Hop) (i : ℕ) (d : Hop) → i < length l → is_q_element (get_or l i d) ≡ true → get_or (carried l) i d ≡ get_or l i d
unfolding carried
carried_stays [] i d h e = absurd (not-suc-le-zero h)
carried_stays (x ∷ l) zero d h e = q_stays (is_heard x || any_heard l) x e
carried_stays (x ∷ l) (suc i) d h e = carried_stays l i d (le_of_suc-le-suc h) e

-- the callsigns are heard as if there were no Q elements
pub calls_carried : (l : List Hop) → calls_of (carried l) ≡ carried (calls_of l)
unfolding carried
calls_carried = calls_by carried (λ h l. is_heard h || any_heard l) refl (λ h l. refl) (λ h l. rw (heard_among_calls l))

-- and starred so
pub calls_starred : (l : List Hop) → calls_of (starred_last l) ≡ starred_last (calls_of l)
unfolding starred_last
calls_starred = calls_by starred_last (λ h l. is_heard h && not (any_heard l)) refl (λ h l. refl) (λ h l. rw (heard_among_calls l))
