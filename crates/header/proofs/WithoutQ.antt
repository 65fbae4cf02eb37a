-- A header without its Q elements: it is in range where the header is, and a frame has the same addresses of both.
-- Assumes nothing.
use mathlib.Core.Path.{◌≡◌, refl}
use mathlib.Core.Bool.{Bool, true, false, cond, ◌&&◌}
use mathlib.Core.List.{List, [], ◌∷◌}
use lib.Dec.{leb}
use lib.ListN.{drop}
use Rattle.laws.specs.Lists.{every}
use Rattle.laws.proofs.Tests.{and_first, and_second}
use Rattle.laws.proofs.Each.{every_first, every_rest}
use Rattle.header.specs.declared.Hop.{Hop}
use Rattle.header.specs.declared.Header.{Header}
use Rattle.header.specs.Hop.{is_q_element, calls_of}
use Rattle.header.specs.Header.{path_of, hops_of, header_of}
use Rattle.header.specs.Frame.{addresses, header_frame}
use Rattle.header.specs.Range.{hop_in_range, is_blank, path_in_range, header_in_range, frame_refusal}
use Rattle.header.proofs.Going.{path_hops}
use Rattle.header.proofs.InRange.{from_fine, to_fine, path_fine, route_calls}
use Rattle.header.proofs.Answers.{header_range}

unfoldable pub without_q : Header → Header
without_q h = header_of h.from h.to (path_of (calls_of (hops_of h.path)))

-- ---- callsigns alone

calls_twice : (l : List Hop) → calls_of (calls_of l) ≡ calls_of l
unfolding calls_of
calls_twice [] = refl
calls_twice (h ∷ l) = go (is_q_element h) refl (calls_twice l)
  where
    go : (k : Bool) → is_q_element h ≡ k → calls_of (calls_of l) ≡ calls_of l → calls_of (cond k (calls_of l) (h ∷ calls_of l)) ≡ cond k (calls_of l) (h ∷ calls_of l)
    go true e r = r
    go false e r = rw (e, r)

every_call : (p : Hop → Bool) (l : List Hop) → every p l ≡ true → every p (calls_of l) ≡ true
unfolding calls_of every
every_call p [] e = refl
every_call p (h ∷ l) e = go (is_q_element h) (every_first p h l e) (every_call p l (every_rest p h l e))
  where
    go : (k : Bool) → p h ≡ true → every p (calls_of l) ≡ true → every p (cond k (calls_of l) (h ∷ calls_of l)) ≡ true
    go true e r = r
    go false e r = rw (e, r)

-- ---- the header

module _ (h : Header) where
  same_addresses : addresses (without_q h) ≡ addresses h
  unfolding addresses without_q header_of
  same_addresses = rw (path_hops (calls_of (hops_of h.path)), calls_twice (hops_of h.path))

  pub same_frame : header_frame (without_q h) ≡ header_frame h
  unfolding header_frame
  same_frame = rw same_addresses

  module _ (e : header_in_range h ≡ true) where
    hops_fine : every hop_in_range (hops_of h.path) ≡ true
    unfolding path_in_range
    hops_fine =
        let spare = every is_blank (drop h.path.count h.path.hops) in
        and_first (every hop_in_range (hops_of h.path)) spare (and_second (leb h.path.count 8) (every hop_in_range (hops_of h.path) && spare) (path_fine h e))

    pub without_q_range : header_in_range (without_q h) ≡ true
    unfolding without_q
    without_q_range = header_range h.from h.to (calls_of (hops_of h.path)) (from_fine h e) (to_fine h e) (route_calls h e) (every_call hop_in_range (hops_of h.path) hops_fine)

    pub same_refusal : frame_refusal (without_q h) ≡ frame_refusal h
    unfolding frame_refusal
    same_refusal = rw (without_q_range, e, same_addresses)
