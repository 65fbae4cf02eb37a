-- Hops read one after the other into the array of eight: what is done, and what the rest still says. Text and frames share it.
-- Assumes nothing.
use mathlib.Core.Path.{◌≡◌, refl, sym, ap, ◌∙◌}
use mathlib.Core.List.{List, [], ◌∷◌, ◌++◌, append_assoc, append-nil}
use Prim.Native.Nat.{ℕ, suc, ◌+◌, ◌-◌, ◌<◌, ◌≤◌}
use native.Mathlib.Omega.{arith}
use lib.ListN.{length, take, drop, set, replicate, length-append}
use lib.Seq.{take_at, drop_at}
use Rattle.std.specs.Prelude.{Result, Ok, Err}
use Rattle.laws.specs.Lists.{pad_to}
use Rattle.laws.proofs.Lists.{pad_set}
use Rattle.header.specs.declared.Hop.{Hop}
use Rattle.header.specs.declared.Path.{Path}
use Rattle.header.specs.declared.StarredPath.{StarredPath}
use Rattle.header.specs.declared.Fault.{Fault}
use Rattle.header.specs.Header.{Hops, before, blank_hop, path_of, hops_of}
use Rattle.header.specs.Text.{carried}
use Rattle.header.specs.Private.{frame_read, text_read, starred_read}

-- hops, and what follows them
unfoldable pub after : List Hop → Hops → Hops
after hs (Err f) = Err f
after hs (Ok l) = Ok (hs ++ l)

after_none : (w : Hops) → w ≡ after [] w
unfolding after
after_none (Err f) = refl
after_none (Ok l) = refl

after_one : (hs : List Hop) (h : Hop) (w : Hops) → after hs (before h w) ≡ after (hs ++ h ∷ []) w
unfolding after before
after_one hs h (Err f) = refl
after_one hs h (Ok l) = ap {B = Hops} (λ x. Ok x) (sym (append_assoc hs (h ∷ []) l))

pub length_carried : (l : List Hop) → length (carried l) ≡ length l
unfolding carried
length_carried [] = refl
length_carried (h ∷ l) = ap suc (length_carried l)

pub padded_front : (l : List Hop) → take (length l) (pad_to 8 blank_hop l) ≡ l
unfolding pad_to
padded_front l = take_at l (replicate (8 - length l) blank_hop) (length l) refl

-- the hops that count of a path made of hops
pub path_hops : (l : List Hop) → hops_of (path_of l) ≡ l
unfolding hops_of path_of
path_hops l = padded_front l

padded_carried : (l : List Hop) → carried (take (length l) (pad_to 8 blank_hop l)) ++ drop (length l) (pad_to 8 blank_hop l) ≡ pad_to 8 blank_hop (carried l)
unfolding pad_to
padded_carried l = rw (take_at l (replicate (8 - length l) blank_hop) (length l) refl, drop_at l (replicate (8 - length l) blank_hop) (length l) refl, length_carried l)

-- ---- the loop's state: n hops are done, and the rest is to be read

pub record Going (whole rest : Hops) (hops : List Hop) (n : ℕ) : Type 0 where
  pub done : List Hop
  pub count : length done ≡ n
  pub few : n ≤ 8
  pub held : hops ≡ pad_to 8 blank_hop done
  pub agrees : whole ≡ after done rest

pub going_start : (whole : Hops) (b : Hop) → b ≡ blank_hop → Going whole whole (replicate 8 b) 0
unfolding pad_to
going_start whole b e = record { done = []; count = refl; few = omega arith; held = rw e; agrees = after_none whole }

module _ (whole rest : Hops) (hops : List Hop) (n : ℕ) (g : Going whole rest hops n) where
  pub going_more : n < 8 → (h : Hop) (later : Hops) → rest ≡ before h later → Going whole later (set hops n h) (n + 1)
  going_more m h later e =
      record {
        done = g.done ++ h ∷ [];
        count = length-append g.done (h ∷ []) ∙ rw g.count;
        few = omega arith;
        held = rw g.held (pad_set 8 blank_hop g.done n h g.count m);
        agrees = g.agrees ∙ rw e (after_one g.done h later);
      }

  pub going_refused : (f : Fault) → rest ≡ Err f → whole ≡ Err f
  unfolding after
  going_refused f e = g.agrees ∙ rw e

  module _ (e : rest ≡ Ok []) where
    all : whole ≡ Ok g.done
    unfolding after
    all = g.agrees ∙ rw e (ap {B = Hops} (λ x. Ok x) (append-nil g.done))

    -- the array and the count are the path of the hops done
    pub going_done : ◌≡◌ {A = Result Path Fault} (Ok (record { count = n; hops = hops })) (frame_read whole)
    unfolding frame_read path_of
    going_done = rw (all, g.held, g.count)

    pub going_carried : ◌≡◌ {A = Result StarredPath Fault} (Ok (starred_read (record { count = n; hops = hops }))) (text_read whole)
    unfolding text_read path_of
    going_carried = rw (all, g.held, ← g.count, padded_carried g.done, length_carried g.done, padded_front g.done)
