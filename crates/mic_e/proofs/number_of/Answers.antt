-- `number_of`: two bits are the same, or not, as `is_bit` says; and the sum of three. Assumes nothing.
use Rattle.std.proofs.Common.{◌≡◌, refl}
use denote.Enum.Bare.{sameb}
use Rattle.mic_e.specs.Message.{is_one, is_custom, is_standard}
use Rattle.mic_e.specs.Private.{is_bit}
use Rattle.mic_e.specs.contracts.Bit.{the_type}
use Rattle.mic_e.specs.declared.Bit.{Bit}
use Rattle.mic_e.specs.declared.Bit.TheVariants.{Zero, Custom, Standard}
use Rattle.mic_e.proofs.Messages.{sum_is}
use Rattle.mic_e.proofs.number_of.Goals as goal

same_is : (bit x : Bit) → sameb the_type x bit ≡ is_bit bit x
unfolding is_bit is_one is_custom is_standard
same_is Zero Zero = refl
same_is Zero Custom = refl
same_is Zero Standard = refl
same_is Custom Zero = refl
same_is Custom Custom = refl
same_is Custom Standard = refl
same_is Standard Zero = refl
same_is Standard Custom = refl
same_is Standard Standard = refl

pub returns : goal.returns
returns c =
    rw (c.eq.ensures, c.eq-2.ensures, c.eq-3.ensures, same_is c.args.bit c.args.x, same_is c.args.bit c.args.y, same_is c.args.bit c.args.z)
    (sum_is (is_bit c.args.bit c.args.x) (is_bit c.args.bit c.args.y) (is_bit c.args.bit c.args.z))
