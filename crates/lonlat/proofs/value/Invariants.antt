-- `value`: so far every byte was a digit, v is the number they write, and v has no more digits than that. Assumes nothing.
use Rattle.std.proofs.Common.{◌≡◌, ◌^◌, ◌<◌, drop}
use Rattle.laws.specs.Bytes.{is_digit}
use Rattle.laws.specs.Lists.{every}
use Rattle.numbers.specs.Numbers.{number_after, number_of}
use Rattle.lonlat.proofs.value.Given as goal

abbrev pub invariant-loop-b : goal.invariant-loop-b
invariant-loop-b l = (l.v < 10 ^ l.b-index) × (every is_digit l.t ≡ every is_digit (drop l.b-index l.t)) × (number_of l.t ≡ number_after l.v (drop l.b-index l.t))
