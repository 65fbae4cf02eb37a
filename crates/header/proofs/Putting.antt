-- The hops of a header put one by one, as text or as addresses, and a header's pieces in turn.
-- Assumes nothing.
use mathlib.Core.Path.{◌≡◌, refl, sym, ap, ◌∙◌}
use mathlib.Core.Bool.{Bool, true, false, not, cond, ◌&&◌, ◌||◌}
use mathlib.Core.List.{List, [], ◌∷◌, ◌++◌, append_assoc}
use native.Mathlib.Omega.{arith}
use lib.ListN.{length}
use Rattle.std.specs.List.{list_any}
use Rattle.laws.specs.Bytes.{comma}
use Rattle.laws.specs.Lists.{any_of}
use Rattle.header.specs.declared.Hop.{Hop}
use Rattle.header.specs.Hop.{is_heard, is_q_element, is_call, calls_of}
use Rattle.header.specs.Frame.{is_none}
use Rattle.header.specs.Pieces.{Piece, Building, plain, hop_piece, hop_address_piece, hop_address_pieces, with_piece, with_pieces, hop_pieces}
use Rattle.header.proofs.Chains.{any_any_of}
use Rattle.header.proofs.Pieces.{pieces_append}

-- ---- pieces in turn

pub two_put : (b b₁ b₂ : Building) (p q : Piece) → b₁ ≡ with_piece b p → b₂ ≡ with_piece b₁ q → b₂ ≡ with_pieces b (p ∷ q ∷ [])
unfolding with_pieces
two_put b b₁ b₂ p q e f = f ∙ ap (λ (x : Building). with_piece x q) e

pub three_put : (b b₁ b₂ b₃ : Building) (p q r : Piece) → b₁ ≡ with_piece b p → b₂ ≡ with_piece b₁ q → b₃ ≡ with_piece b₂ r → b₃ ≡ with_pieces b (p ∷ q ∷ r ∷ [])
unfolding with_pieces
three_put b b₁ b₂ b₃ p q r e f g = g ∙ ap (λ (x : Building). with_piece x r) (f ∙ ap (λ (x : Building). with_piece x q) e)

-- a header: its ends, its hops, and what closes it
module _ (b b₁ b₂ b₃ : Building) (k l : List Piece) (p : Piece) (e : b₁ ≡ with_pieces b k) (f : b₂ ≡ with_pieces b₁ l) (g : b₃ ≡ with_piece b₂ p) where
  pub all_put : b₃ ≡ with_pieces b (k ++ (l ++ p ∷ []))
  unfolding with_pieces
  all_put =
      g ∙ ap (λ (x : Building). with_piece x p) (f ∙ ap (λ (x : Building). with_pieces x l) e ∙ pieces_append b k l)
      ∙ pieces_append b (k ++ l) (p ∷ []) ∙ ap (with_pieces b) (append_assoc k l (p ∷ []))

-- ---- the last of the callsigns

pub none_called : (l : List Hop) → not (any_of is_call l) ≡ is_none (calls_of l)
unfolding any_of calls_of is_none
none_called [] = refl
none_called (h ∷ l) = go (is_q_element h) (none_called l)
  where
    go : (k : Bool) → not (any_of is_call l) ≡ is_none (calls_of l) → not (not k || any_of is_call l) ≡ is_none (cond k (calls_of l) (h ∷ calls_of l))
    go true r = r
    go false r = refl

-- ---- a hop put before those behind it

module _ (b b' : Building) (hops : List Hop) (h : Hop) (later : List Hop) (e : hops ≡ h ∷ later) (u : Bool) where
  pub text_turn : u ≡ (is_heard h && not (list_any is_heard later)) → (b₁ : Building) → b₁ ≡ with_piece b (plain (comma ∷ [])) → b' ≡ with_piece b₁ (hop_piece h u)
      → with_pieces b (hop_pieces hops) ≡ with_pieces b' (hop_pieces later)
  unfolding with_pieces hop_pieces
  text_turn k b₁ p q = rw (e, q, p, k, any_any_of is_heard later)

  pub frame_turn : u ≡ list_any is_call later → b' ≡ with_piece b (hop_address_piece h (not u)) → with_pieces b (hop_address_pieces hops) ≡ with_pieces b' (hop_address_pieces later)
  unfolding with_pieces hop_address_pieces
  frame_turn k q = rw (e, q, k, any_any_of is_call later, none_called later)

-- none is left
pub hops_done : (of : List Hop → List Piece) → of [] ≡ [] → (b₀ b : Building) (hops rest : List Hop) → length rest ≡ 0 → with_pieces b₀ (of hops) ≡ with_pieces b (of rest) → b ≡ with_pieces b₀ (of hops)
unfolding with_pieces
hops_done of n b₀ b hops [] z e = sym (e ∙ rw n)
hops_done of n b₀ b hops (h ∷ l) z e = absurd (omega arith)
