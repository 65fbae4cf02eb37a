-- `characters` is the six characters, one by one. Assumes nothing.
use Rattle.mic_e.specs.Destination.{characters_of}
use Rattle.mic_e.proofs.characters.Goals as goal

pub returns : goal.returns
unfolding characters_of
returns c =
    rw (c.character_of.ensures, c.character_of-2.ensures, c.character_of-3.ensures, c.character_of-4.ensures, c.character_of-5.ensures, c.character_of-6.ensures, c.flag_bit.ensures, c.flag_bit-2.ensures, c.flag_bit-3.ensures)
