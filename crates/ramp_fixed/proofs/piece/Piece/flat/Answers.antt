use Rattle.std.proofs.Common.{refl}
use Rattle.ramp_fixed.proofs.LanePieces.{flat_is_piece}
use Rattle.ramp_fixed.proofs.piece.Piece.flat.Goals as goal

pub returns-clause-piece : goal.returns-clause-piece
returns-clause-piece c = λ fader lane h. flat_is_piece fader lane _ c.args.gain refl refl refl refl h
