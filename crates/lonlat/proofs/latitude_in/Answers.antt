-- `latitude_in`: the letter, then the digits before the blanks, then the angle with 0 for each blank. Assumes nothing.
use Rattle.std.proofs.Common.{◌≡◌, length, arith, rules}
use Rattle.numbers.proofs.Sign.{back}
use Rattle.lonlat.proofs.Reading.{kept_within, latitude_letter, latitude_mixed, latitude_no_digit, latitude_bad, latitude_found}
use Rattle.lonlat.proofs.latitude_in.Goals as goal

pub returns-in_err-south : goal.returns-in_err-south
returns-in_err-south c = search (rules, latitude_letter)

pub returns-in_err-kept : goal.returns-in_err-kept
returns-in_err-kept c = let six : length c.args.places ≡ 6 = search rules in search (rules, latitude_mixed, c.in_ok-south.was)

pub returns-then-kept-eq0 : goal.returns-then-kept-eq0
returns-then-kept-eq0 c = let six : length c.args.places ≡ 6 = search rules in search (rules, latitude_no_digit, c.in_ok-south.was, c.in_ok-kept.was)

pub overflow_sub-blanks : goal.overflow_sub-blanks
overflow_sub-blanks c = let six : length c.args.places ≡ 6 = search rules in omega (arith, kept_within c.args.places c.in_ok-kept.kept c.kept_of.result c.kept_of.ensures c.in_ok-kept.was)

pub returns-in_err-read : goal.returns-in_err-read
returns-in_err-read c = let six : length c.args.places ≡ 6 = search rules in
    search (rules, latitude_bad, c.in_ok-south.was, c.in_ok-kept.was)

pub returns : goal.returns
returns c = let six : length c.args.places ≡ 6 = search rules in
    search (rules, back, latitude_found, c.in_ok-south.was, c.in_ok-kept.was, c.in_ok-read.was)
