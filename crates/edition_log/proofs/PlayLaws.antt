-- The transport of an edition is the fold's, and it may make the move of each accepted edit.
use Rattle.std.proofs.Common.{◌≡◌, ◌<◌, ◌^◌, length, refl, ap, ◌∙◌, arith}
use Rattle.std.specs.Prelude.{nat_le, Option, Some, None, Ok}
use Rattle.std.proofs.lemmas.Bool.{leb-false}
use Rattle.session_model.specs.declared.session.Session.{Session}
use Rattle.session_model.specs.declared.edit.Edit.{Edit}
use Rattle.session_model.specs.declared.edit.Edit.TheVariants.{Roll, Stop, Quit, Recording, Locate, Loop, LoopOff, Arm, Solo, Mute, Gain, Pan, Mode, Point, Unpoint, Connect, Send, Unsend, Add, Remove, Move, Trim, Layer, Opaque, RegionGain, Fade, Shape}
use Rattle.engine_model.specs.Refusals.{Far, LoopEmpty, refused_if}
use Rattle.engine_model.specs.Changes.{Change}
use Rattle.engine_model.specs.Commands.{change_of, is_far}
use Rattle.engine_model.specs.Transport.{Wrap, place_of}
use Rattle.engine_laws.proofs.CheckedLemmas.{after_check, was_kept, where_ok}
use Rattle.engine_laws.proofs.Laws.{editions_play_their_generation}
use Rattle.edit_laws.proofs.FoundLemmas.{not_far}
use Rattle.edition_log.specs.Laws.{EditionsPlayTheirPlaces}
use Rattle.edition_log.specs.Steps.{MayMove}

pub editions_play_their_places : EditionsPlayTheirPlaces
editions_play_their_places s e is = let plays = editions_play_their_generation s e.edits (length e.edits) is.accepted (omega arith) in record {
  counted = ap (λ x. x.transport.generation) is.state ∙ plays.counted;
  places = λ n. ap (λ x. place_of x.transport n) is.state ∙ plays.places n;
  quit = ap (λ x. x.transport.quit) is.state ∙ plays.quit;
}

-- what the transport needs of an edit that is accepted
pub may_move : (s : Session) (wrap : Option Wrap) (edit : Edit) (c : Change) → change_of s wrap edit ≡ Ok c → MayMove wrap edit
may_move s wrap (Locate to) c e = where_ok (λ _. to < 2 ^ 40) (change_of s wrap (Locate to)) c
    (after_check _ (refused_if (is_far to) (Far to)) _ (λ x kept. not_far to (was_kept (is_far to) (Far to) x kept))) e
may_move s wrap (Loop from to) c e = where_ok (λ _. (from < to) × (to < 2 ^ 40)) (change_of s wrap (Loop from to)) c
    (after_check _ (refused_if (is_far from) (Far from)) _ (λ x one. after_check _ (refused_if (is_far to) (Far to)) _ (λ y two. after_check _ (refused_if (nat_le to from) LoopEmpty) _
    (λ z three. (leb-false to from (was_kept (nat_le to from) LoopEmpty z three), not_far to (was_kept (is_far to) (Far to) y two)))))) e
may_move s None LoopOff c e = absurd cc
may_move s (Some w) LoopOff c e = refl
may_move s wrap Roll c e = tt
may_move s wrap Stop c e = tt
may_move s wrap Quit c e = tt
may_move s wrap (Recording on) c e = tt
may_move s wrap (Arm track on) c e = tt
may_move s wrap (Solo track on) c e = tt
may_move s wrap (Mute route on) c e = tt
may_move s wrap (Gain route gain) c e = tt
may_move s wrap (Pan route left right) c e = tt
may_move s wrap (Mode route mode) c e = tt
may_move s wrap (Point route at gain) c e = tt
may_move s wrap (Unpoint route at) c e = tt
may_move s wrap (Connect route target) c e = tt
may_move s wrap (Send route target pre gain) c e = tt
may_move s wrap (Unsend route target) c e = tt
may_move s wrap (Add track id source start long at layer) c e = tt
may_move s wrap (Remove track id) c e = tt
may_move s wrap (Move track id at) c e = tt
may_move s wrap (Trim track id start long) c e = tt
may_move s wrap (Layer track id layer) c e = tt
may_move s wrap (Opaque track id on) c e = tt
may_move s wrap (RegionGain track id gain) c e = tt
may_move s wrap (Fade track id fade_in fade_out) c e = tt
may_move s wrap (Shape track id shape_in shape_out) c e = tt
