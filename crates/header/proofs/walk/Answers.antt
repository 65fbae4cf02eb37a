-- The walk over the addresses: each is spelt character by character, and the last, or a fault, ends it. Assumes nothing.
use Rattle.std.proofs.Common.{rules, ◌≡◌}
use Rattle.callsign.specs.Address.{address_refused, read_address}
use Rattle.header.proofs.FrameHops.{spelling_start, char_odd, char_space, char_late, char_other, char_taken, spelt, walking_start, walk_on, out_ninth, out_short, out_unread, out_last}
use Rattle.header.proofs.walk.Goals.{then-space-via-then-space, then-space-via-else-space+then-not-letter_or_digit}
use Rattle.header.proofs.walk.Goals as goal

pub hops-init : goal.hops-init
hops-init c = search (rules, walking_start)

pub loop-d-init : goal.loop-d-init
loop-d-init c = spelling_start _ _ _ c.in-Some.ensures.cases.0 c.in-Some.ensures.cases.2

pub loop-d-preserved-then-c-eq32 : goal.loop-d-preserved-then-c-eq32
loop-d-preserved-then-c-eq32 c = search (rules, char_space)

pub loop-d-preserved : goal.loop-d-preserved
loop-d-preserved c = search (rules, char_taken)

pub hops-preserved : goal.hops-preserved
hops-preserved c = walk_on _ _ _ _ c.hops.invariant c.if-count-eq8.false _ _ c.in-Some.ensures.cases.0 c.in-Some.ensures.cases.1 c.in-Some.ensures.cases.2 _ _ _ (spelt _ _ _ _ _ c.loop-d.invariant c.loop-d-test.false _ _ _ c.address_call.ensures c.heard.ensures c.last-in-hops.ensures) c.if-last-2.false

pub returns-then-count-eq8 : goal.returns-then-count-eq8
returns-then-count-eq8 c = search (rules, out_ninth)

pub returns-in_default : goal.returns-in_default
returns-in_default c = out_short _ _ _ _ c.hops.invariant c.if-count-eq8.false c.in_default.ensures.cases

pub returns-then-last : goal.returns-then-last
returns-then-last c = out_unread _ _ _ _ c.hops.invariant c.if-count-eq8.false _ _ c.in-Some.ensures.cases.0 c.in-Some.ensures.cases.1 c.in-Some.ensures.cases.2 (search (rules, char_odd))

pub returns-then-space : goal.returns-then-space
returns-then-space c =
    let e : read_address c.in-Some.address.now ≡ address_refused 3 =
    elim c.then-space.branch [
      | then-space-via-then-space w ↦ search (rules, char_late)
      | then-space-via-else-space+then-not-letter_or_digit w ↦ search (rules, char_other)
    ]
    in
    out_unread _ _ _ _ c.hops.invariant c.if-count-eq8.false _ _ c.in-Some.ensures.cases.0 c.in-Some.ensures.cases.1 c.in-Some.ensures.cases.2 e

pub returns-then-last-2 : goal.returns-then-last-2
returns-then-last-2 c = out_last _ _ _ _ c.hops.invariant c.if-count-eq8.false _ _ c.in-Some.ensures.cases.0 c.in-Some.ensures.cases.1 c.in-Some.ensures.cases.2 _ _ _ (spelt _ _ _ _ _ c.loop-d.invariant c.loop-d-test.false _ _ _ c.address_call.ensures c.heard.ensures c.last-in-hops.ensures) c.if-last-2.true
