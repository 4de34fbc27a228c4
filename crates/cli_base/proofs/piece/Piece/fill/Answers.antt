use Rattle.std.proofs.Common.{sym}
use Rattle.cli_base.proofs.piece.Piece.fill.Goals as goal

pub returns-in_default-clause-bytes : goal.returns-in_default-clause-bytes
returns-in_default-clause-bytes g c = λ x y was is. sym (c.in_default.ensures.bytes x y was is)
