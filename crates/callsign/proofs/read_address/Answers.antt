-- Six characters one by one, and the seventh byte. Assumes nothing.
use Rattle.std.proofs.Common.{sym, refl, ◌∙◌}
use Rattle.callsign.proofs.Characters.{start, place, behind_six, byte, not_seven, stops_odd, goes_space, stops_late, stops_other, goes_character, reads}
use Rattle.callsign.proofs.read_address.Goals as goal
use Rattle.callsign.proofs.read_address.Goals.{then-space-via-then-space, then-space-via-else-space+then-not-letter_or_digit}

pub returns-then-b-ne7 : goal.returns-then-b-ne7
returns-then-b-ne7 c = c.no_address.ensures ∙ sym (not_seven _ c.if-b-ne7.true)

pub loop-d-init : goal.loop-d-init
loop-d-init c = start _ _ c.if-b-ne7.false refl

pub returns-then-last : goal.returns-then-last
returns-then-last c = c.no_address-then-last.ensures ∙ sym (stops_odd _ _ _ _ _ c.loop-d.invariant (place _ _ c.loop-d.invariant.seven c.loop-d-test.true) _ (byte _ _ c.loop-d.invariant.seven c.loop-d-test.true) (sym c.last.ensures ∙ c.if-last.true))

pub loop-d-preserved-then-c-eq32 : goal.loop-d-preserved-then-c-eq32
loop-d-preserved-then-c-eq32 c = goes_space _ _ _ _ _ c.loop-d.invariant (place _ _ c.loop-d.invariant.seven c.loop-d-test.true) _ (byte _ _ c.loop-d.invariant.seven c.loop-d-test.true) (sym c.last.ensures ∙ c.if-last.false) c.if-c-eq32.true

pub returns-then-space : goal.returns-then-space
returns-then-space c = c.no_address-then-space.ensures ∙ sym (elim c.then-space.branch [
  | then-space-via-then-space w ↦ stops_late _ _ _ _ _ c.loop-d.invariant (place _ _ c.loop-d.invariant.seven c.loop-d-test.true) _ (byte _ _ c.loop-d.invariant.seven c.loop-d-test.true) w.if-space.true c.if-c-eq32.false
  | then-space-via-else-space+then-not-letter_or_digit w ↦ stops_other _ _ _ _ _ c.loop-d.invariant (place _ _ c.loop-d.invariant.seven c.loop-d-test.true) _ (byte _ _ c.loop-d.invariant.seven c.loop-d-test.true) w.if-space.false
      (sym c.last.ensures ∙ c.if-last.false) c.if-c-eq32.false (sym w.letter_or_digit.ensures ∙ w.if-not-letter_or_digit.true)
])

pub loop-d-preserved : goal.loop-d-preserved
loop-d-preserved c = goes_character _ _ _ _ _ c.loop-d.invariant (place _ _ c.loop-d.invariant.seven c.loop-d-test.true) _ (byte _ _ c.loop-d.invariant.seven c.loop-d-test.true) c.if-space.false (sym c.last.ensures ∙ c.if-last.false) c.if-c-eq32.false
    (sym c.letter_or_digit.ensures ∙ c.if-not-letter_or_digit.false) c.capital.result c.capital.ensures

pub returns : goal.returns
returns c = reads _ _ _ _ _ c.loop-d.invariant (behind_six _ _ c.loop-d.invariant.seven c.loop-d-test.false) _ refl _ _ _
    c.address_call.ensures c.heard.ensures c.last-2.ensures
