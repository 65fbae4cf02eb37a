-- The header of a text, place by place: the first `:`, the first `>` before it, the first comma after that.
-- Assumes nothing.
use mathlib.Core.Path.{◌≡◌, refl, sym, ap, ◌∙◌}
use mathlib.Core.List.{List, []}
use Prim.Native.Nat.{ℕ, suc, ◌+◌, ◌-◌, ◌<◌}
use native.Mathlib.Numerals.{add-one}
use native.Mathlib.Omega.{arith}
use borrow.Author.Tests.{eq-eqb, ne_eqb}
use borrow.Author.Rules.{part_to_end}
use lib.ListN.{length, take, drop}
use Rattle.std.specs.Prelude.{Result, Ok, Err}
use Rattle.laws.specs.Bytes.{comma, colon, greater}
use Rattle.laws.specs.Lists.{index_of}
use Rattle.laws.proofs.Places.{index_le}
use Rattle.callsign.specs.declared.Callsign.{Callsign}
use Rattle.callsign.specs.declared.CallRead.{CallRead}
use Rattle.callsign.specs.Text.{read_text}
use Rattle.header.specs.declared.Hop.{Hop}
use Rattle.header.specs.declared.Path.{Path}
use Rattle.header.specs.declared.StarredPath.{StarredPath}
use Rattle.header.specs.declared.Fault.{Fault}
use Rattle.header.specs.declared.HeaderRead.{HeaderRead}
use Rattle.header.specs.Header.{Hops, number_of, path_of, header_refused, header_accepted, unless_refused, with_hops}
use Rattle.header.specs.Text.{fields, first_of, others_of, text_hops, stars_of, carried, read_route, read_before, read_header_text}
use Rattle.header.specs.Private.{text_read}
use Rattle.header.proofs.TextHops.{fields_one, fields_two, fields_some, no_parts}

rest_at : (t : List ℕ) (d : ℕ) → take (length t - (d + 1)) (drop (d + 1) t) ≡ drop (suc d) t
rest_at t d = part_to_end t (d + 1) ∙ rw add-one

-- ---- destination and hops

first_part : (t : List ℕ) → first_of (fields t) ≡ take (index_of comma t) t
unfolding first_of
first_part t = let p = fields_some t in rw p.1

none_after : (t : List ℕ) → index_of comma t ≡ length t → text_hops 8 (others_of (fields t)) ≡ Ok []
unfolding others_of
none_after t e = rw (fields_one t e, no_parts 8)

-- what the hops come to, by what the code has of them
by_fault : (w : Hops) (why : Fault) → Err why ≡ text_read w → w ≡ Err why
unfolding text_read
by_fault (Err f) why e = cc
by_fault (Ok l) why e = absurd cc

by_hops : (w : Hops) (p : StarredPath) → Ok p ≡ text_read w → (l : List Hop) × ((w ≡ Ok l) × (p ≡ record { path = path_of (carried l); stars = stars_of l }))
unfolding text_read
by_hops (Err f) p e = absurd cc
by_hops (Ok l) p e = (l, (refl, cc))

module _ (from : Callsign) (t : List ℕ) (body d : ℕ) (to : CallRead) (r : HeaderRead) (f : d ≡ index_of comma t) (q : to ≡ read_text (take d t)) where
  its_to : read_text (first_of (fields t)) ≡ to
  its_to = rw first_part (rw (← f) (sym q))

  pub to_refused : (to.refusal ≡ 0 → ⊥) → r ≡ header_refused to.refusal → r ≡ read_route from t body
  unfolding read_route unless_refused
  to_refused z w = rw (its_to, ne_eqb to.refusal 0 z) w

  module _ (z : to.refusal ≡ 0) where
    pub to_alone : (p : Path) → d ≡ length t → p ≡ path_of [] → r ≡ header_accepted from to.call p body 0 → r ≡ read_route from t body
    unfolding read_route unless_refused with_hops carried stars_of
    to_alone p l e w = rw (its_to, eq-eqb to.refusal 0 z, none_after t (sym f ∙ l), ← e) w

    module _ (p : Result StarredPath Fault) (l : d ≡ length t → ⊥) (e : p ≡ text_read (text_hops 8 (fields (take (length t - (d + 1)) (drop (d + 1) t))))) where
      others : others_of (fields t) ≡ fields (take (length t - (d + 1)) (drop (d + 1) t))
      unfolding others_of
      others =
          let y : index_of comma t < length t = omega (arith, index_le comma t) in
          rw (fields_two t y, rest_at t d, f)

      hops_are : p ≡ text_read (text_hops 8 (others_of (fields t)))
      hops_are = e ∙ rw others

      pub to_hops_refused : (why : Fault) → p ≡ Err why → r ≡ header_refused (number_of why) → r ≡ read_route from t body
      unfolding read_route unless_refused with_hops
      to_hops_refused why y w = rw (its_to, eq-eqb to.refusal 0 z, by_fault (text_hops 8 (others_of (fields t))) why (sym y ∙ hops_are)) w

      pub to_hops : (hops : StarredPath) → p ≡ Ok hops → r ≡ header_accepted from to.call hops.path body hops.stars → r ≡ read_route from t body
      unfolding read_route unless_refused with_hops
      to_hops hops y w =
          let b = by_hops (text_hops 8 (others_of (fields t))) hops (sym y ∙ hops_are) in
          rw (its_to, eq-eqb to.refusal 0 z, b.1.0) (w ∙ ap (λ (x : StarredPath). header_accepted from to.call x.path body x.stars) b.1.1)

-- ---- source

module _ (t : List ℕ) (body g : ℕ) (r : HeaderRead) (f : g ≡ index_of greater t) where
  pub no_source : g ≡ length t → r ≡ header_refused 2 → r ≡ read_before t body
  unfolding read_before
  no_source l w = rw (← f, eq-eqb g (length t) l) w

  module _ (from : CallRead) (l : g ≡ length t → ⊥) (q : from ≡ read_text (take g t)) where
    pub source_refused : (from.refusal ≡ 0 → ⊥) → r ≡ header_refused from.refusal → r ≡ read_before t body
    unfolding read_before unless_refused
    source_refused z w = rw (← f, ← q, ne_eqb g (length t) l, ne_eqb from.refusal 0 z) w

    pub source_read : from.refusal ≡ 0 → r ≡ read_route from.call (take (length t - (g + 1)) (drop (g + 1) t)) body → r ≡ read_before t body
    unfolding read_before unless_refused
    source_read z w = rw (← f, ← q, ne_eqb g (length t) l, eq-eqb from.refusal 0 z, ← rest_at t g) w

-- ---- the text

module _ (s : List ℕ) (c : ℕ) (r : HeaderRead) (f : c ≡ index_of colon s) where
  pub no_colon : c ≡ length s → r ≡ header_refused 2 → r ≡ read_header_text s
  unfolding read_header_text
  no_colon l w = rw (← f, eq-eqb c (length s) l) w

  pub at_colon : (c ≡ length s → ⊥) → r ≡ read_before (take c s) (c + 1) → r ≡ read_header_text s
  unfolding read_header_text
  at_colon l w = rw (← f, ne_eqb c (length s) l) w
