-- `after_first` answers by RFC 3629's table, computed at each byte of a range. Assumes nothing.
use Rattle.std.proofs.Common.{arith}
use Rattle.laws.specs.Bytes.{within}
use Rattle.callsign.specs.Utf8.{after, owed}
use Rattle.callsign.proofs.Unicode.{asks, asks_none}
use Rattle.callsign.proofs.after_first.Goals as goal

pub returns-in-0-to-127 : goal.returns-in-0-to-127
unfolding owed after within
returns-in-0-to-127 c = asks 0x00 0x7f 0 0x80 0xbf tt _ c.ranges.b.fits (omega arith) (omega arith) _ c.new-in-0-to-127.ensures

pub returns-in-128-to-193 : goal.returns-in-128-to-193
unfolding after within
returns-in-128-to-193 c = asks_none 0x80 0xc1 tt _ c.ranges.b.fits (omega arith) (omega arith)

pub returns-in-194-to-223 : goal.returns-in-194-to-223
unfolding owed after within
returns-in-194-to-223 c = asks 0xc2 0xdf 1 0x80 0xbf tt _ c.ranges.b.fits (omega arith) (omega arith) _ c.new-in-194-to-223.ensures

pub returns-in-224 : goal.returns-in-224
unfolding owed after within
returns-in-224 c = asks 0xe0 0xe0 2 0xa0 0xbf tt _ c.ranges.b.fits (omega arith) (omega arith) _ c.new.ensures

pub returns-in-225-to-236 : goal.returns-in-225-to-236
unfolding owed after within
returns-in-225-to-236 c = asks 0xe1 0xec 2 0x80 0xbf tt _ c.ranges.b.fits (omega arith) (omega arith) _ c.new-in-225-to-236.ensures

pub returns-in-237 : goal.returns-in-237
unfolding owed after within
returns-in-237 c = asks 0xed 0xed 2 0x80 0x9f tt _ c.ranges.b.fits (omega arith) (omega arith) _ c.new-in-237.ensures

pub returns-in-238-to-239 : goal.returns-in-238-to-239
unfolding owed after within
returns-in-238-to-239 c = asks 0xee 0xef 2 0x80 0xbf tt _ c.ranges.b.fits (omega arith) (omega arith) _ c.new-in-238-to-239.ensures

pub returns-in-240 : goal.returns-in-240
unfolding owed after within
returns-in-240 c = asks 0xf0 0xf0 3 0x90 0xbf tt _ c.ranges.b.fits (omega arith) (omega arith) _ c.new-in-240.ensures

pub returns-in-241-to-243 : goal.returns-in-241-to-243
unfolding owed after within
returns-in-241-to-243 c = asks 0xf1 0xf3 3 0x80 0xbf tt _ c.ranges.b.fits (omega arith) (omega arith) _ c.new-in-241-to-243.ensures

pub returns-in-244 : goal.returns-in-244
unfolding owed after within
returns-in-244 c = asks 0xf4 0xf4 3 0x80 0x8f tt _ c.ranges.b.fits (omega arith) (omega arith) _ c.new-in-244.ensures

pub returns-in-245-to-255 : goal.returns-in-245-to-255
unfolding after within
returns-in-245-to-255 c = asks_none 0xf5 0xff tt _ c.ranges.b.fits (omega arith) (omega arith)
