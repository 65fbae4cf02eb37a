-- What a header in range gives, and what is left to judge of one whose path is tidy: its callsigns and hops.
-- Assumes nothing.
use mathlib.Core.Path.{◌≡◌, refl, sym, ◌∙◌}
use mathlib.Core.Bool.{Bool, true, false, not, cond, ◌&&◌, and-true, false≢true}
use Prim.Native.Nat.{ℕ, ◌-◌, ◌≤◌, min}
use native.Mathlib.Omega.{arith}
use lib.Dec.{leb}
use borrow.Author.Tests.{eq-eqb, le-leb, leb-true, not-false}
use lib.ListN.{length, take, drop, length-take, length-drop}
use lib.Seq.{take_all}
use Rattle.std.specs.List.{list_all}
use Rattle.laws.specs.Lists.{every}
use Rattle.laws.proofs.Tests.{and_first, and_second}
use Rattle.callsign.specs.declared.Callsign.{Callsign}
use Rattle.callsign.specs.Range.{text_len, in_range, text_of}
use Rattle.callsign.proofs.Ranges.{from_range, found_in_range, text_in_use}
use Rattle.header.specs.declared.Hop.{Hop}
use Rattle.header.specs.declared.Path.{Path}
use Rattle.header.specs.declared.Header.{Header}
use Rattle.header.specs.Hop.{is_q_name, was_heard, q_element, is_q_element, calls_of}
use Rattle.header.specs.Header.{hops_of}
use Rattle.header.specs.Range.{is_some_hop, hop_in_range, is_blank, path_in_range, header_in_range}
use Rattle.header.specs.Private.{is_tidy_hop, is_tidy}
use Rattle.header.proofs.Chains.{all_every}
use Rattle.header.proofs.Hops.{calls_few}

-- ---- a hop

module _ (h : Hop) where
  pub call_fine : hop_in_range h ≡ true → in_range h.call ≡ true
  unfolding hop_in_range
  call_fine e = and_second (is_some_hop h) (in_range h.call) e

  -- one that the code refuses is out of range
  pub untidy_hop : is_tidy_hop h ≡ false → hop_in_range h ≡ false
  unfolding is_tidy_hop hop_in_range is_some_hop
  untidy_hop = go (is_q_element h)
    where
      go : (q : Bool) → cond q (cond q (is_q_name (text_of h.call)) (leb h.kind was_heard) && in_range h.call) (leb h.kind was_heard) ≡ false
          → (cond q (is_q_name (text_of h.call)) (leb h.kind was_heard) && in_range h.call) ≡ false
      go true e = e
      go false e = rw e

  -- of one that it takes, what its callsign is
  pub tidy_hop : is_tidy_hop h ≡ true → hop_in_range h ≡ in_range h.call
  unfolding is_tidy_hop hop_in_range is_some_hop
  tidy_hop = go (is_q_element h) (is_q_name (text_of h.call)) (in_range h.call)
    where
      go : (q n r : Bool) → cond q (cond q n (leb h.kind was_heard) && r) (leb h.kind was_heard) ≡ true
          → (cond q n (leb h.kind was_heard) && r) ≡ r
      go true true r e = refl
      go true false r e = absurd (false≢true e)
      go false n r e = rw e

  pub tidy_q : is_tidy_hop h ≡ true → is_q_element h ≡ true → hop_in_range h ≡ true
  unfolding is_tidy_hop
  tidy_q e q = rw q at e

-- ---- a Q element, where the code has judged its callsign

pub named : (c : Callsign) (u : Bool) (n : ℕ) (r : Bool) → u ≡ in_range c → not u ≡ false → length c.text ≡ 16 → n ≡ min (text_len c) 16 → r ≡ is_q_name (take n c.text) → r ≡ (is_q_name (text_of c) && in_range c)
named c u n r e k long q t =
    let i : in_range c ≡ true = found_in_range c u e k in
    let m : text_len c ≡ n = omega (arith, (from_range c i).size) in
    t ∙ rw (i, text_in_use c i long, m) (sym (and-true (is_q_name (take n c.text))))

pub q_in_range : (h : Hop) (r : Bool) → h.kind ≡ q_element → r ≡ (is_q_name (text_of h.call) && in_range h.call) → r ≡ is_tidy_hop h
unfolding is_tidy_hop hop_in_range is_some_hop is_q_element
q_in_range h r k e = rw (eq-eqb h.kind q_element k) e

-- ---- a path apart from its callsigns

module _ (p : Path) where
  pub tidy_count : is_tidy p ≡ true → p.count ≤ 8
  unfolding is_tidy
  tidy_count e = leb-true p.count 8 (and_first (leb p.count 8) (every is_blank (drop p.count p.hops)) e)

  pub path_apart : path_in_range p ≡ (is_tidy p && every hop_in_range (hops_of p))
  unfolding path_in_range is_tidy
  path_apart = go (leb p.count 8) (every hop_in_range (hops_of p)) (every is_blank (drop p.count p.hops))
    where
      go : (a b d : Bool) → (a && (b && d)) ≡ ((a && d) && b)
      go true true true = refl
      go true true false = refl
      go true false true = refl
      go true false false = refl
      go false b d = refl

-- what the code has of the spare hops, as a part of the array
pub tidy_by : (p : Path) (r : Bool) → length p.hops ≡ 8 → p.count ≤ 8 → r ≡ list_all is_blank (take (8 - p.count) (drop p.count p.hops)) → r ≡ is_tidy p
unfolding is_tidy
tidy_by p r f m e =
    let k : length (drop p.count p.hops) ≤ 8 - p.count = simp length-drop (omega arith) in
    e ∙ rw (le-leb p.count 8 m, take_all (8 - p.count) (drop p.count p.hops) k) (all_every is_blank (drop p.count p.hops))

-- ---- the same where the code has made the test

module _ (u : Bool) (p : Path) (e : u ≡ is_tidy p) (n : not u ≡ false) where
  pub judged_tidy : is_tidy p ≡ true
  judged_tidy = sym e ∙ not-false u n

  pub judged_count : p.count ≤ 8
  judged_count = tidy_count p judged_tidy

-- ---- a header

module _ (h : Header) (e : header_in_range h ≡ true) where
  pub from_fine : in_range h.from ≡ true
  unfolding header_in_range
  from_fine = and_first (in_range h.from) (in_range h.to && path_in_range h.path) e

  rest : (in_range h.to && path_in_range h.path) ≡ true
  unfolding header_in_range
  rest = and_second (in_range h.from) (in_range h.to && path_in_range h.path) e

  pub to_fine : in_range h.to ≡ true
  to_fine = and_first (in_range h.to) (path_in_range h.path) rest

  pub path_fine : path_in_range h.path ≡ true
  path_fine = and_second (in_range h.to) (path_in_range h.path) rest

  pub path_tidy : is_tidy h.path ≡ true
  path_tidy = and_first (is_tidy h.path) (every hop_in_range (hops_of h.path)) (sym (path_apart h.path) ∙ path_fine)

  pub route_count : h.path.count ≤ 8
  route_count = tidy_count h.path path_tidy

  -- so its callsigns are no more either
  pub route_calls : length (calls_of (hops_of h.path)) ≤ 8
  unfolding hops_of
  route_calls =
      let m = route_count in
      omega (arith, calls_few (take h.path.count h.path.hops), length-take h.path.count h.path.hops)

module _ (h : Header) where
  pub untidy_out : is_tidy h.path ≡ false → header_in_range h ≡ false
  unfolding header_in_range
  untidy_out e = rw (path_apart h.path, e) (go (in_range h.from) (in_range h.to))
    where
      go : (a b : Bool) → (a && (b && false)) ≡ false
      go true true = refl
      go true false = refl
      go false b = refl

  -- its callsigns are left
  pub tidy_range : is_tidy h.path ≡ true → header_in_range h ≡ (in_range h.from && (in_range h.to && every hop_in_range (hops_of h.path)))
  unfolding header_in_range
  tidy_range e = rw (path_apart h.path, e)
