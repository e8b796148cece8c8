-- What a process promises stands while its ends meet the butler's.
use Rattle.std.proofs.Common.{◌≡◌, ℕ, List, [], length, map, reverse, sym, ap, subst, arith, ◌∙◌}
use Rattle.std.specs.Prelude.{slice_get, slice_index_or, Some}
use Rattle.std.proofs.lemmas.Option.{get_or_from_slice_get, slice_get_within}
use Rattle.session_model.specs.declared.edit.Edit.{Edit}
use Rattle.session_model.specs.declared.session.Session.{Session}
use Rattle.engine_model.specs.Journal.{Entry}
use Rattle.engine_laws.specs.MadeLaws.{LooksStand}
use Rattle.engine_laws.proofs.JournalInvariantLemmas.{get_new}
use Rattle.engine_laws.proofs.MadeLemmas.{made_goes_on}
use Rattle.engine_laws.proofs.ListLemmas.{item_at}
use Rattle.disk_ring.specs.Receiver.{Receiver}
use Rattle.disk_ring.specs.Sender.{Sender}
use Rattle.piece_item.specs.declared.item.Item.{Item}
use Rattle.piece_item.specs.declared.take_block.TakeBlock.{TakeBlock}
use Rattle.piece_item.specs.declared.butler_ends.ButlerEnds.{ButlerEnds}
use Rattle.piece_item.specs.Views as views
use Rattle.capture_flush.specs.Blocks as blocks
use Rattle.track_playback.specs.SpareBoxes.{received_kinds}
use Rattle.process_ends.specs.declared.ends.ProcessEnds.{ProcessEnds}
use Rattle.process_ends.specs.Ends.{AllMeet, AreOtherEnds, EndsMeet}
use Rattle.process_cycle.specs.Told.{IsToldOf}
use Rattle.process_cycle.specs.Captured.{AreCaptured}
use Rattle.process_cycle.specs.ProcessState.{Playing}
use Rattle.process_cycle.specs.Promised.{Promises}
use Rattle.process_cycle.proofs.PromiseLemmas.{receives}

-- an end that takes was told more, and else is the same
record HeardMore (a b : Receiver Item) : Type 0 where
  received : b.received ≡ a.received
  tails : b.tails ≡ a.tails

-- an end that puts was told more, and else is the same
pub record ToldMore {T : Type 0} (a b : Sender T) : Type 0 where
  pub sent : b.sent ≡ a.sent
  pub heads : b.heads ≡ a.heads

met_out : (senders senders_now : List (Sender Item)) (plays plays_now : List (Receiver Item)) → AllMeet senders plays senders_now plays_now → length plays ≡ length senders →
    (t : ℕ) (a b : Receiver Item) → slice_get plays t ≡ Some a → slice_get plays_now t ≡ Some b → HeardMore a b
met_out senders senders_now plays plays_now met many t a b was now = let lt = slice_get_within plays t a was in let x = item_at senders t (omega (arith, lt, many)) in
    let one = met.each t x.0 a (omega (arith, lt, many)) in let here = met.receivers in
    let read : slice_index_or plays t a ≡ a = get_or_from_slice_get plays t a a was in
    let read_now : slice_index_or plays_now t a ≡ b = get_or_from_slice_get plays_now t b a now in record {
      received = ap (λ r. r.received) (sym read_now ∙ one.receiver) ∙ ap (λ r. r.received) read;
      tails = ap (λ r. r.tails) (sym read_now ∙ one.receiver) ∙ ap (λ r. r.tails) read;
    }

pub met_in : {T : Type 0} (takes takes_now : List (Sender T)) (receivers receivers_now : List (Receiver T)) → AllMeet takes receivers takes_now receivers_now → length receivers ≡ length takes →
    (t : ℕ) (a b : Sender T) → slice_get takes t ≡ Some a → slice_get takes_now t ≡ Some b → ToldMore a b
met_in takes takes_now receivers receivers_now met many t a b was now = let lt = slice_get_within takes t a was in let y = item_at receivers t (omega (arith, lt, many)) in
    let one = met.each t a y.0 lt in
    let read : slice_index_or takes t a ≡ a = get_or_from_slice_get takes t a a was in
    let read_now : slice_index_or takes_now t a ≡ b = get_or_from_slice_get takes_now t b a now in record {
      sent = ap (λ d. d.sent) (sym read_now ∙ one.sender) ∙ ap (λ d. d.sent) read;
      heads = ap (λ d. d.heads) (sym read_now ∙ one.sender) ∙ ap (λ d. d.heads) read;
    }

captured_still : (s : Session) (t : ℕ) (entries : List Entry) (a b : Sender TakeBlock) → ToldMore a b → AreCaptured s t entries a → AreCaptured s t entries b
captured_still s t entries a b more was = record {
  places = λ input. ap (map (λ x. blocks.place_of (blocks.block_of x))) more.sent ∙ was.places input;
  heads = more.heads ∙ was.heads;
  full = was.full;
}

looks_still : (edits : List Edit) (depth t : ℕ) (entries : List Entry) (a b : Receiver Item) → HeardMore a b →
    LooksStand edits depth t (received_kinds a) (reverse a.tails) entries → LooksStand edits depth t (received_kinds b) (reverse b.tails) entries
looks_still edits depth t entries a b more was = subst (λ l. LooksStand edits depth t (map (λ x. x.kind) (reverse (map views.item_of l))) (reverse b.tails) entries) (sym more.received)
    (subst (λ l. LooksStand edits depth t (received_kinds a) (reverse l) entries) (sym more.tails) was)

pub promises_while_meeting : (at : Playing) (entries : List Entry) (ours ours_now : ProcessEnds) (theirs theirs_now : ButlerEnds) → AreOtherEnds ours theirs →
    EndsMeet ours theirs ours_now theirs_now → Promises at entries ours → Promises at entries ours_now
promises_while_meeting at entries ours ours_now theirs theirs_now others met was =
    let edits : List Edit = at.edits in let depth : ℕ = at.session.depth in
    let outs = met_out theirs.sends.items theirs_now.sends.items ours.plays.items ours_now.plays.items met.plays others.plays.count in
    let ins = met_in ours.takes.items ours_now.takes.items theirs.takes.items theirs_now.takes.items met.takes others.takes.count in record {
      made = made_goes_on at.session edits (length edits) (length edits) (map received_kinds ours.plays.items) (map received_kinds ours_now.plays.items) entries (omega arith)
          (receives ours.plays.items ours_now.plays.items met.plays.receivers
          (λ t a b was now. ([], ap (λ l. map (λ x. x.kind) (reverse (map views.item_of l))) (outs t a b was now).received))) was.made;
      looks = λ t b there. let a = get_new ours.plays.items ours_now.plays.items t b met.plays.receivers there in
          looks_still edits depth t entries a.0 b (outs t a.0 b a.1 there) (was.looks t a.0 a.1);
      captured = λ t d there. let a = get_new ours.takes.items ours_now.takes.items t d met.takes.senders there in
          captured_still at.session t entries a.0 d (ins t a.0 d a.1 there) (was.captured t a.0 a.1);
      to_butler = subst (IsToldOf edits depth entries) (sym met.acks.sender) was.to_butler;
      to_control = subst (IsToldOf edits depth entries) (sym met.to_control) was.to_control;
    }
