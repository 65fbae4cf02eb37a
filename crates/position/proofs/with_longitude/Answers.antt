-- `with_longitude`: one answer for each of the longitude's, and for what a strict reader finds. Assumes nothing.
use Rattle.position.proofs.Reading.{longitude_found, longitude_over, longitude_off_table, longitude_refused, longitude_out_lem}
use Rattle.std.proofs.Common.{rules}
use Rattle.position.proofs.with_longitude.Goals as goal

pub returns-then-is_over : goal.returns-then-is_over
returns-then-is_over c = search (rules, longitude_over)

pub returns-then-is_off_table : goal.returns-then-is_off_table
returns-then-is_off_table c = search (rules, longitude_off_table)

pub returns-else-is_off_table : goal.returns-else-is_off_table
returns-else-is_off_table c = search (rules, longitude_found)

pub returns-in-Err-Malformed : goal.returns-in-Err-Malformed
returns-in-Err-Malformed c = search (rules, longitude_refused)

pub returns-in-Err-OutOfRange : goal.returns-in-Err-OutOfRange
returns-in-Err-OutOfRange c = search (rules, longitude_out_lem)
