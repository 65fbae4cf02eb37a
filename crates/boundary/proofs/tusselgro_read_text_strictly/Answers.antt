-- A line read strictly, as C has it. Assumes nothing.
use Rattle.boundary.proofs.tusselgro_read_text_strictly.Goals as goal

pub returns : goal.returns
returns c = cc
