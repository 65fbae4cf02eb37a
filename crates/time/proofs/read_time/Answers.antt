-- Seven bytes, three numbers of two digits, and then the time that they say. Assumes nothing.
use Rattle.std.proofs.Common.{◌≡◌, length, arith, rules}
use Rattle.time.proofs.Reading.{time_length, first_none, second_none, third_none, time_read, time_none}
use Rattle.time.proofs.read_time.Goals as goal

pub returns-in_default : goal.returns-in_default
returns-in_default c = time_length c.args.s.now (λ seven. omega arith)

pub returns-in_default-2 : goal.returns-in_default-2
returns-in_default-2 c = time_length c.args.s.now (λ seven. omega arith)

pub returns-in_err-pair : goal.returns-in_err-pair
returns-in_err-pair c = let seven : length c.args.s.now ≡ 7 = omega arith in search (rules, first_none)

pub returns-in_err-pair-2 : goal.returns-in_err-pair-2
returns-in_err-pair-2 c = let seven : length c.args.s.now ≡ 7 = omega arith in search (rules, second_none, c.in_ok-pair.was)

pub returns-in_err-pair-3 : goal.returns-in_err-pair-3
returns-in_err-pair-3 c = let seven : length c.args.s.now ≡ 7 = omega arith in search (rules, third_none, c.in_ok-pair.was, c.in_ok-pair-2.was)

pub returns-then-is_time : goal.returns-then-is_time
returns-then-is_time c = let seven : length c.args.s.now ≡ 7 = omega arith in search (rules, time_read, c.in_ok-pair.was, c.in_ok-pair-2.was, c.in_ok-pair-3.was)

pub returns-else-is_time : goal.returns-else-is_time
returns-else-is_time c = let seven : length c.args.s.now ≡ 7 = omega arith in search (rules, time_none, c.in_ok-pair.was, c.in_ok-pair-2.was, c.in_ok-pair-3.was)
