-- The laws as their statements have them.
use Rattle.std.proofs.Common.{◌≡◌, ℕ, List, [], ◌∷◌, ◌++◌, refl, sym, subst, le_trans, arith}
use Rattle.std.specs.Prelude.{true, nat_eq, ◌&&◌, reverse}
use Rattle.std.proofs.lemmas.Bool.{or_left, or_right, eq-eqb, and_from}
use Rattle.std.proofs.lemmas.List.{reverse-reverse}
use Rattle.engine_model.specs.Edits.{starts, touches}
use Rattle.engine_model.specs.Fits.{is_lawful_newest}
use Rattle.engine_model.specs.Items.{Blank, Kind, Piece, Settled}
use Rattle.engine_model.specs.Plain.{accepted, plain_run}
use Rattle.engine_laws.specs.EditionLaws.{EditionsPlayTheirGeneration, EditionsStay, NoneFalls, PlaylistEditionsNameEdits}
use Rattle.engine_laws.specs.HeardLaws.{ForceNeverFalls, NextIsNoOlder, OldEntriesStand}
use Rattle.engine_laws.specs.JournalLaws.{AcceptedIsAccepted, LawfulStays, PlainIsLawful}
use Rattle.engine_laws.specs.OrderLaws.{MarksBind}
use Rattle.engine_laws.proofs.OrderLemmas.{holds_mark, mark_holds}
use Rattle.engine_laws.proofs.EditionLemmas.{edition_plays, edition_stays, quit_is, quit_stays}
use Rattle.engine_laws.proofs.LawfulLemmas.{lawful_stays}
use Rattle.engine_laws.proofs.OlderLemmas.{backed_grows, force_goes_on, force_grows, heard_grows, heard_next, settled_next}
use Rattle.engine_laws.proofs.NumberLemmas.{count_rises, count_stays, last_again, last_in, last_low, last_rises, last_stays}
use Rattle.engine_laws.proofs.PlainLemmas.{plain_edits_are_accepted, plain_from_is_lawful}

pub playlist_editions_name_edits : PlaylistEditionsNameEdits
playlist_editions_name_edits session edits t k = record {
  itself = last_again (touches session t) edits k;
  past = last_low (touches session t) edits k;
  stands = last_in (touches session t) edits k;
}

pub none_falls : NoneFalls
none_falls session edits t j k le = (last_rises (touches session t) edits j k le, count_rises starts edits j k le)

pub editions_stay : EditionsStay
editions_stay session edits more k le = record {
  playlists = λ t. last_stays (touches session t) edits more k le;
  generation = count_stays starts edits more k le;
  quit = quit_stays edits more k le;
  edition = edition_stays session edits more k le;
}

pub editions_play_their_generation : EditionsPlayTheirGeneration
editions_play_their_generation session edits k each le = record {
  counted = (edition_plays session edits k 0 each le).0;
  places = λ n. (edition_plays session edits k n each le).1;
  quit = quit_is session edits k each le;
}

mark_here : (k h s0 : ℕ) (after before : List Kind) → holds_mark k h s0 (after ++ Settled k h s0 ∷ before) ≡ true
mark_here k h s0 [] before = or_left (nat_eq k k && nat_eq h h && nat_eq s0 s0) (holds_mark k h s0 before)
    (and_from (nat_eq k k && nat_eq h h) (nat_eq s0 s0) (and_from (nat_eq k k) (nat_eq h h) (eq-eqb k k refl) (eq-eqb h h refl)) (eq-eqb s0 s0 refl))
mark_here k h s0 (Piece u g s p ∷ after) before = mark_here k h s0 after before
mark_here k h s0 (Settled j g s ∷ after) before = or_right (nat_eq j k && nat_eq g h && nat_eq s s0) (holds_mark k h s0 (after ++ Settled k h s0 ∷ before)) (mark_here k h s0 after before)
mark_here k h s0 (Blank ∷ after) before = mark_here k h s0 after before

pub marks_bind : MarksBind
marks_bind session edits t k h s0 g s after before o le f a = mark_holds session edits t k h s0 g s (after ++ Settled k h s0 ∷ before) o (mark_here k h s0 after before) le f a

pub force_never_falls : ForceNeverFalls
force_never_falls g s h r more xs on = le_trans (force_grows g s more xs) (force_goes_on g s h r (more ++ xs) on)

pub old_entries_stand : OldEntriesStand
old_entries_stand session edits t g s n more xs o = (backed_grows g s n more xs, heard_grows session edits t g s n more xs o)

pub next_is_no_older : NextIsNoOlder
next_is_no_older session edits t g s h r n xs o on = (settled_next g s h r n xs on, heard_next session edits t g s h r n xs o on)

pub journals_stay_lawful : LawfulStays
journals_stay_lawful session edits more journal h = lawful_stays session edits more (reverse journal) h

pub plain_is_lawful : PlainIsLawful
plain_is_lawful session cycles commands = subst (λ es. is_lawful_newest session (accepted session cycles commands) es ≡ true)
    (sym (reverse-reverse (plain_run session cycles commands).entries))
    (plain_from_is_lawful session cycles commands record { edits = []; entries = [] } refl refl)

pub accepted_is_accepted : AcceptedIsAccepted
accepted_is_accepted session cycles commands = plain_edits_are_accepted session cycles commands record { edits = []; entries = [] }
    record { edits = record { each = λ k e here. absurd (grind (arith, here)); unended = λ k e here. absurd (grind (arith, here)) }; unended = refl }
