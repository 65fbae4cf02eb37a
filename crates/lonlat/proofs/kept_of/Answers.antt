-- `kept_of`: the place of the first blank, if the rest from there on is blank. Assumes nothing.
use Rattle.lonlat.proofs.Reading.{place_within, kept_yes, kept_no}
use Rattle.std.proofs.Common.{rules}
use Rattle.lonlat.proofs.kept_of.Goals as goal

pub slice_bounds-blank-count : goal.slice_bounds-blank-count
slice_bounds-blank-count c = search (rules, place_within)

pub slice_bounds-blank-start : goal.slice_bounds-blank-start
slice_bounds-blank-start c = search (rules, place_within)

pub returns-then-blank : goal.returns-then-blank
returns-then-blank c = search (rules, kept_yes)

pub returns-else-blank : goal.returns-else-blank
returns-else-blank c = search (rules, kept_no)
