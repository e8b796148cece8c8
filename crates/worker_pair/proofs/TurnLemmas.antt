-- What a turn of the butler, of one item, and a meeting after it do, where all ends had met.
use Rattle.std.proofs.Common.{◌≡◌, ◌<◌, List, [], length, refl, sym, ap, subst, ◌∙◌, arith, append-nil}
use Rattle.std.specs.Prelude.{Bool, true, false, if◌then◌else◌, Result, Ok, Err}
use Rattle.std.proofs.lemmas.Option.{get_or_from_slice_get}
use Rattle.ses_io.specs.Files.{content}
use Rattle.ses_io.specs.Outside.{MediaOutside, OnlyReads}
use Rattle.engine_laws.proofs.ListLemmas.{item_at}
use Rattle.disk_ring.specs.Sender.{Sender}
use Rattle.disk_ring.specs.Receiver.{Receiver}
use Rattle.piece_item.specs.declared.item.Item.{Item}
use Rattle.piece_item.specs.declared.take_block.TakeBlock.{TakeBlock}
use Rattle.piece_item.specs.declared.butler_ends.ButlerEnds.{ButlerEnds}
use Rattle.capture_drain.specs.Drains.{total_received}
use Rattle.butler.specs.declared.turning.Turn.{Turn}
use Rattle.butler.specs.declared.faults.ButlerFault.{ButlerFault}
use Rattle.butler.specs.declared.faults.ButlerFault.TheVariants.{ReadFault, WriteFault}
use Rattle.butler.specs.ButlerState.{ButlerState, Rested, rested}
use Rattle.butler.specs.Faults.{Fails, KeepsRest, is_write_fault}
use Rattle.butler.specs.Serving.{AreStocked, IsServing, SourcesStand}
use Rattle.butler.specs.Turns.{Receives, TakesAreKept, AllSend, StaysTrue, Answers}
use Rattle.butler.proofs.SourceLemmas.{sources_are_no_takes}
use Rattle.process_ends.specs.declared.ends.ProcessEnds.{ProcessEnds}
use Rattle.process_ends.specs.Ends.{AreOtherEnds, EndsMeet, MayMeet}
use Rattle.worker_pair.specs.declared.ending.Ending.{Ending}
use Rattle.worker_pair.specs.Begun.{At, turned, served_at}
use Rattle.worker_pair.specs.Runs.{Serves}
use Rattle.worker_pair.specs.Steps.{IsTurned}
use Rattle.butler.specs.Takes.{MayRecord}
use Rattle.butler.proofs.TakesLemmas.{takes_turned}
use Rattle.worker_pair.specs.Takes.{FilesStand}
use Rattle.worker_pair.proofs.AgainLemmas.{all_in, all_out, still_out}
use Rattle.worker_pair.specs.Apart.{ServesApart}
use Rattle.worker_pair.proofs.MetLemmas.{have_met, others_met, flush_met, no_take_met, with_ends, kept_met, serves_met}
use Rattle.worker_pair.proofs.TotalLemmas.{none_received, nothing_in_all, same_in_all}

module _ {V : Type 0} (media : MediaOutside V) where
  -- as the butler's contract says it, clause by clause
  pub is_turned : (at : At) (e : Ending V) (answer : Result Turn ButlerFault) (b : ButlerState V) → IsServing at.begun.session e.edition.edits b → Receives e.butler b →
      (media.tells → TakesAreKept (served_at at) (media.files e.butler.media) (media.files b.media) e.butler b) → AllSend at.begun.session e.edition e.butler b →
      (media.tells → StaysTrue media (served_at at) e.edition e.butler b) → Answers at.begun.session e.edition 1 e.butler answer b →
      Fails media e.butler answer b → KeepsRest media at.begun.session e.edition e.butler b → IsTurned media at e answer b
  is_turned at e answer b serving receives takes sends stays_true answers fails rest = record {
    serving = serving;
    receives = receives;
    takes = takes;
    sends = sends;
    stays_true = stays_true;
    answers = answers;
    fails = fails;
    rest = rest;
  }

  -- the butler is this one now
  abbrev pub with_butler : Ending V → ButlerState V → Ending V
  with_butler e b = record { edition = e.edition; butler = b; ends = e.ends }

  module _ (at : At) (e : Ending V) (answer : Result Turn ButlerFault) (b : ButlerState V) (serves : Serves media at e) (turn : IsTurned media at e answer b) where
    abbrev D : List (Sender Item)
    D = e.butler.ends.sends.items

    abbrev F : List (Sender Item)
    F = b.ends.sends.items

    -- as many rings are sent to
    pub many_sends : length F ≡ length D
    many_sends = turn.serving.sends ∙ sym serves.serving.sends

    -- the ends are of the same rings
    pub others_turned : AreOtherEnds e.ends b.ends
    others_turned = let was = serves.others in record {
      plays = record {
        count = was.plays.count ∙ sym many_sends;
        ring = λ t a r within. let here : t < length D = omega (arith, within, many_sends) in let f = item_at F t within in let d = item_at D t here in
            was.plays.ring t a r here ∙ ap (λ (z : Sender Item). z.ring) (get_or_from_slice_get D t d.0 a d.1) ∙ sym (turn.sends t d.0 f.0 d.1 f.1).ring
            ∙ sym (ap (λ (z : Sender Item). z.ring) (get_or_from_slice_get F t f.0 a f.1));
      };
      takes = record {
        count = turn.receives.takes.many ∙ was.takes.count;
        ring = λ t a r within. let here : t < length e.butler.ends.takes.items = omega (arith, within, was.takes.count) in
            let there : t < length b.ends.takes.items = omega (arith, here, turn.receives.takes.many) in
            let c = item_at e.butler.ends.takes.items t here in let q = item_at b.ends.takes.items t there in
            ap (λ (z : Receiver TakeBlock). z.ring) (get_or_from_slice_get b.ends.takes.items t q.0 r q.1) ∙ (turn.receives.takes.each t c.0 q.0 c.1 q.1).goes_on.ring
            ∙ sym (ap (λ (z : Receiver TakeBlock). z.ring) (get_or_from_slice_get e.butler.ends.takes.items t c.0 r c.1)) ∙ was.takes.ring t a r within;
      };
      acks = turn.receives.acks.goes_on.ring ∙ was.acks;
    }

    -- and may meet again
    pub may_meet_turned : MayMeet e.ends b.ends
    may_meet_turned = let met = serves.met in record {
      others = others_turned;
      plays = all_in D F e.ends.plays.items met.plays many_sends (λ t d f hd hf. let on = turn.sends t d f hd hf in record { depth = on.depth; sent = (on.items, sym on.sent) });
      takes = all_out e.ends.takes.items e.butler.ends.takes.items b.ends.takes.items met.takes turn.receives.takes.many (λ t c q hc hq. (turn.receives.takes.each t c q hc hq).goes_on);
      acks = still_out e.ends.to_butler e.butler.ends.acks b.ends.acks met.acks turn.receives.acks.goes_on;
    }

    -- ---- and a meeting

    module _ (ours : ProcessEnds) (theirs : ButlerEnds) (meet : EndsMeet e.ends b.ends ours theirs) where
      -- the meeting leaves what was received
      pub same_received : total_received theirs.takes.items ≡ total_received b.ends.takes.items
      same_received = same_in_all (λ (c : Receiver TakeBlock). length c.received) b.ends.takes.items theirs.takes.items meet.takes.receivers
          (λ t c q hc hq. ap (λ (z : Receiver TakeBlock). length z.received) (flush_met e.ends ours b.ends theirs others_turned meet t c q hc hq))

      -- where nothing was captured the turn flushed none,
      nothing_received : at.begun.records ≡ false → total_received b.ends.takes.items ≡ total_received e.butler.ends.takes.items
      nothing_received quiet = sym same_received ∙ nothing_in_all theirs.takes.items (none_received ours.takes.items theirs.takes.items (others_met e.ends ours b.ends theirs others_turned meet).takes.count
          (have_met e.ends ours b.ends theirs others_turned meet).takes (no_take_met e.ends ours b.ends theirs others_turned meet (serves.no_take quiet)))
          ∙ sym (nothing_in_all e.butler.ends.takes.items (none_received e.ends.takes.items e.butler.ends.takes.items serves.others.takes.count serves.met.takes (serves.no_take quiet)))

      -- so that no file has changed
      only_reads : at.begun.records ≡ false → OnlyReads media e.butler.media b.media
      only_reads quiet = turn.rest.same (nothing_received quiet)

      -- and there was none to be written
      no_write_at : at.begun.records ≡ false → (given : Result Turn ButlerFault) → Answers at.begun.session e.edition 1 e.butler given b → is_write_fault given ≡ false
      no_write_at quiet (Ok t) answers = refl
      no_write_at quiet (Err ReadFault) answers = refl
      no_write_at quiet (Err WriteFault) answers = absurd (omega (arith, answers.some, nothing_received quiet))

      -- what is so of the files
      files_turned : FilesStand media at.begun b
      files_turned = record {
        others = λ tells q other. turn.rest.others tells q other ∙ serves.files.others tells q other;
        same = λ quiet. (only_reads quiet).files ∙ serves.files.same quiet;
        unwritten = λ quiet. turn.fails.write_failed ∙ ap (λ w. if w then true else e.butler.write_failed) (no_write_at quiet answer turn.answers) ∙ serves.files.unwritten quiet;
        may_record = λ records tells. subst (MayRecord at.begun.session at.begun.files) (sym turn.rest.sources) (serves.files.may_record records tells);
        takes = λ records tells. takes_turned media (served_at at) at.begun.write_faults e.butler b answer (turn.takes tells) turn.fails (serves.files.takes records tells);
      }

      -- the files of the sources stand
      stand : media.tells → SourcesStand at.begun.files (media.files b.media) e.butler.sources.opened
      stand tells = by at.begun.records refl
        where
          by : (records : Bool) → at.begun.records ≡ records → SourcesStand at.begun.files (media.files b.media) e.butler.sources.opened
          by true records = let may = serves.files.may_record records tells in
              sources_are_no_takes at.begun.session at.begun.files (media.files b.media) e.butler.sources.opened may.fresh may.there (files_turned.others tells)
          by false quiet = λ i o there. ap (λ files. content files o.file) (files_turned.same quiet)

      -- it serves, but for the meeting
      serves_apart : ServesApart media (turned e.edition.edits at) (with_butler e b)
      serves_apart = record {
        edition_of = serves.edition_of;
        served_of = ([], append-nil e.edition.edits);
        serving = turn.serving;
        others = others_turned;
        never = serves.never;
        no_take = serves.no_take;
        files = files_turned;
        true_to = λ tells. turn.stays_true tells (stand tells) (serves.true_to tells);
      }

      -- the butler's boxes fit still
      pub stocked_turned : (r : Rested V) → r ≡ rested b → AreStocked r.supplies r.drain b.ends → AreStocked r.supplies r.drain theirs
      stocked_turned r out was = subst (λ (z : Rested V). AreStocked z.supplies z.drain theirs) (sym out)
          ((kept_met at.begun.session (turned e.edition.edits at) (with_butler e b) ours theirs others_turned meet).stocked (subst (λ (z : Rested V). AreStocked z.supplies z.drain b.ends) out was))

      serves_now : Serves media (turned e.edition.edits at) (with_ends (with_butler e b) ours theirs)
      serves_now = serves_met media (turned e.edition.edits at) (with_butler e b) ours theirs serves_apart meet

      -- it serves
      pub serves_turned : (c : ButlerState V) → c ≡ record b { ends = theirs } → Serves media (turned e.edition.edits at) record { edition = e.edition; butler = c; ends = ours }
      serves_turned c same = subst (λ z. Serves media (turned e.edition.edits at) record { edition = e.edition; butler = z; ends = ours }) (sym same) serves_now
