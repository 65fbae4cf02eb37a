-- `put_angles`: latitude and longitude as the machine hands them on.
-- Assumes nothing.
use Rattle.row.proofs.Rows.{angles_put}
use mir.Facts.{to_z-of_z}
use Rattle.row.proofs.Fits.{angles_width}
use borrow.Author.Rules.{rules, sfits_of}
use Rattle.row.proofs.put_angles.Goals as goal

pub returns : goal.returns
returns c = record { written = search (rules, angles_put, to_z-of_z, sfits_of); width = search (rules, angles_width, to_z-of_z, sfits_of) }
