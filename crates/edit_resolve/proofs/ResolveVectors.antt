-- What is answered of an edit, worked in the base session.
use Rattle.std.proofs.Common.{◌≡◌, ℕ, [], ◌∷◌, refl, true, Some, None, Ok, Err, codes, map}
use Rattle.session_model.specs.declared.edit.Edit.TheVariants.{Roll, LoopOff, Locate, Mute, Unsend, Trim, Fade}
use Rattle.session_model.proofs.SessionVectors.{base}
use Rattle.engine_model.specs.Refusals as engine
use Rattle.engine_model.specs.Refusals.{refused_if}
use Rattle.engine_model.specs.Commands.{track_at, is_loud}
use Rattle.session_change.specs.declared.change.Change.TheVariants.{TransportOnly, Muted}
use Rattle.edit_resolve.specs.declared.reason.Refusal.TheVariants.{NotTrack, OnMaster, Gain, Far, NoLoop, Fades}
use Rattle.edit_resolve.specs.Resolves.{Tells, Asks, Resolves}
use Rattle.edit_resolve.specs.Kinds.{kind_of, OfTransport, OfRoute, OfLink, OfRegion, OfBlend}

-- ---- one word, one rule

track_is_told : Tells (λ t. t) (track_at base (codes "t")) (Ok 0)
track_is_told = refl

no_track_is_told : Tells (λ t. t) (track_at base (codes "master")) (Err (NotTrack (codes "master")))
no_track_is_told = refl

kept : Asks {A = ℕ} (refused_if (is_loud 262144) (engine.Gain 262144)) (Ok 262144)
kept = refl

broken : Asks {A = Unit {0}} (refused_if (is_loud 262145) (engine.Gain 262145)) (Err (Gain 262145))
broken = refl

-- ---- an edit

muted : Resolves base None (Mute (codes "master") true) (Ok (Muted 1 true))
muted = refl

loop_ends : Resolves base (Some (record { from = 2; to = 5 })) LoopOff (Ok TransportOnly)
loop_ends = refl

no_loop_ends : Resolves base None LoopOff (Err NoLoop)
no_loop_ends = refl

far : Resolves base None (Locate 1099511627776) (Err (Far 1099511627776))
far = refl

master_first : Resolves base None (Unsend (codes "master") (codes "nobody")) (Err OnMaster)
master_first = refl

fades_overlap : Resolves base None (Fade (codes "t") 1 5 4) (Err (Fades 1))
fades_overlap = refl

kinds : map kind_of (Roll ∷ Mute (codes "t") true ∷ Unsend (codes "t") (codes "b") ∷ Trim (codes "t") 1 0 4 ∷ Fade (codes "t") 1 5 4 ∷ [])
    ≡ OfTransport ∷ OfRoute ∷ OfLink ∷ OfRegion ∷ OfBlend ∷ []
kinds = refl
