-- The source's numerals: the machine's bit pattern of each is the whole number, which antt computes.
-- Assumes nothing.
use Rattle.std.proofs.Common.{◌≡◌, refl}
use lib.Ieee.{binary64, of_bits, of_int}
use Rattle.position.specs.Bounds.{whole}

pub sixty : of_bits binary64 4633641066610819072 ≡ whole 60
unfolding of_bits of_int
sixty = refl

pub six_thousand : of_bits binary64 4663319084467748864 ≡ whole 6000
unfolding of_bits of_int
six_thousand = refl

pub six : of_bits binary64 4618441417868443648 ≡ whole 6
unfolding of_bits of_int
six = refl

pub one : of_bits binary64 4607182418800017408 ≡ whole 1
unfolding of_bits of_int
one = refl

pub ten : of_bits binary64 4621819117588971520 ≡ whole 10
unfolding of_bits of_int
ten = refl

pub two : of_bits binary64 4611686018427387904 ≡ whole 2
unfolding of_bits of_int
two = refl

pub nought : of_bits binary64 0 ≡ whole 0
unfolding of_bits of_int
nought = refl
