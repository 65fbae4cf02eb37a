-- `width`: document 01's table. Assumes nothing.
use Rattle.std.proofs.Common.{ℕ, ◌≤◌, pos, sym, ap, arith}
use Rattle.lonlat.specs.Angle.{width_of}
use Rattle.position.proofs.Boxes.{width_most}
use Rattle.position.proofs.width.Goals as goal

pub returns-in-0 : goal.returns-in-0
unfolding width_of
returns-in-0 c = sym (ap (λ (n : ℕ). pos (width_of n)) c.in-0.is)

pub returns-in-1 : goal.returns-in-1
unfolding width_of
returns-in-1 c = sym (ap (λ (n : ℕ). pos (width_of n)) c.in-1.is)

pub returns-in-2 : goal.returns-in-2
unfolding width_of
returns-in-2 c = sym (ap (λ (n : ℕ). pos (width_of n)) c.in-2.is)

pub returns-in-3 : goal.returns-in-3
unfolding width_of
returns-in-3 c = sym (ap (λ (n : ℕ). pos (width_of n)) c.in-3.is)

pub returns-in-4 : goal.returns-in-4
unfolding width_of
returns-in-4 c = sym (ap (λ (n : ℕ). pos (width_of n)) c.in-4.is)

pub returns-in_default : goal.returns-in_default
returns-in_default c = let p : 5 ≤ c.args.blanks = omega arith in
    width_most c.args.blanks p
