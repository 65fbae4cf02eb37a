-- What only private functions promise: hops as the code hands them on; and a path and its hops apart from their callsigns.
-- Assumes nothing.
use Rattle.std.specs.Prelude.{ℕ, Bool, cond, ◌&&◌, ◌++◌, take, drop, eqb, leb, Result, Ok, Err}
use Rattle.laws.specs.Lists.{every}
use Rattle.header.specs.declared.Hop.{Hop}
use Rattle.header.specs.declared.Path.{Path}
use Rattle.header.specs.declared.StarredPath.{StarredPath}
use Rattle.header.specs.declared.Fault.{Fault}
use Rattle.header.specs.Hop.{was_heard, q_element, heard_as, is_q_element}
use Rattle.header.specs.Header.{Hops, path_of}
use Rattle.header.specs.Text.{stars_of, carried}
use Rattle.header.specs.Range.{hop_in_range, is_blank}

-- ---- hops read

-- a frame's hops, each heard as it is
unfoldable pub frame_read : Hops → Result Path Fault
frame_read (Err f) = Err f
frame_read (Ok l) = Ok (path_of l)

-- a text's, their stars as typed and carried back
unfoldable pub text_read : Hops → Result StarredPath Fault
text_read (Err f) = Err f
text_read (Ok l) = Ok (record { path = path_of (carried l); stars = stars_of l })

-- the same of the hops that count in a path
abbrev pub starred_read : Path → StarredPath
starred_read p = record { path = record { count = p.count; hops = carried (take p.count p.hops) ++ drop p.count p.hops }; stars = stars_of (take p.count p.hops) }

-- the number of a hop of such a number, where a callsign is heard or not
unfoldable pub carried_kind : ℕ → Bool → ℕ
carried_kind kind heard = cond (eqb kind q_element) q_element (heard_as heard)

-- ---- a path to be written

-- at most eight hops, and blank ones behind them; the eight are not looked at
unfoldable pub is_tidy : Path → Bool
is_tidy p = leb p.count 8 && every is_blank (drop p.count p.hops)

-- a Q element in range, or the number of a callsign, which is not looked at
unfoldable pub is_tidy_hop : Hop → Bool
is_tidy_hop h = cond (is_q_element h) (hop_in_range h) (leb h.kind was_heard)
