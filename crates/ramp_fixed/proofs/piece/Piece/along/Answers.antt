use Rattle.std.proofs.Common.{refl, arith}
use Rattle.std.proofs.lemmas.Bool.{lt-ltb, le-ltb}
use Rattle.ses_units.specs.Point.{point_of}
use Rattle.ramp_fixed.proofs.LanePieces.{falling_is_piece, rising_is_piece}
use Rattle.ramp_fixed.proofs.piece.Piece.along.Goals as goal
use Rattle.ramp_fixed.proofs.piece.Piece.along.Goals.{then-falls, else-falls}

pub returns-clause-piece : goal.returns-clause-piece
returns-clause-piece c = λ fader lane line.
    let from = c.value-from.ensures.value in
    let to = c.value-to.ensures.value in
    elim c.if-falls.branch [
      | then-falls w ↦ falling_is_piece fader lane _ (point_of c.args.p.now) (point_of c.args.q.now) c.requires.rises c.requires.near (omega arith) (omega (arith, w.if-falls.true, from, to))
          refl refl from (lt-ltb c.value-to.result c.value-from.result w.if-falls.true) (omega (arith, w.rise-is, from, to)) refl line
      | else-falls w ↦ rising_is_piece fader lane _ (point_of c.args.p.now) (point_of c.args.q.now) c.requires.rises c.requires.near (omega arith) (omega (arith, w.if-falls.false, from, to))
          refl refl from (le-ltb c.value-to.result c.value-from.result w.if-falls.false) (omega (arith, w.rise-is, from, to)) refl line
    ]
