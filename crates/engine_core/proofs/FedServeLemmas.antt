-- How a serial cycle is fed from its beginning to its end, while no read of the media fails.
use Rattle.std.proofs.Common.{◌≡◌, inl, inr, ◌≤◌, List, [], ◌∷◌, ◌++◌, length, sym, ap, subst, arith, ◌∙◌, le_trans}
use Rattle.std.specs.Prelude.{Bool, true, false, ◌||◌, nat_le, slice_get}
use Rattle.std.proofs.lemmas.Bool.{or_parts}
use mathlib.Core.List.{IsPrefix}
use Rattle.ses_io.specs.Outside.{MediaOutside, SourceOutside, SinkOutside}
use Rattle.session_model.specs.declared.session.Session.{Session}
use Rattle.session_model.specs.declared.edit.Edit.{Edit}
use Rattle.engine_model.specs.Due.{next_block}
use Rattle.engine_model.specs.Edits.{generation, starts}
use Rattle.engine_model.specs.Journal.{rolled}
use Rattle.engine_model.specs.Plain.{plain_entry}
use Rattle.engine_laws.specs.SerialLaws.{none_is_held}
use Rattle.engine_laws.proofs.NumberLemmas.{count_rises, count_stays}
use Rattle.machine_laws.specs.Stands.{each_once}
use Rattle.edition_log.specs.EditionState.{EditionState}
use Rattle.butler.specs.Sends.{acks_of}
use Rattle.process_cycle.specs.ProcessState.{entries_of}
use Rattle.worker_pair.specs.declared.pair.Pair.{Pair}
use Rattle.run_end.specs.declared.failures.Failures.{Failures}
use Rattle.engine_core.specs.declared.run.Run.{Run}
use Rattle.engine_core.specs.Cycles.{IsServed, MayPlay}
use Rattle.run_end.specs.Failures.{has_stopped}
use Rattle.engine_core.specs.Fed.{AllHeard, Feeds, FeedsSoFar, IsFed, IsNewest, PlaysAs, PlaysPlain, sent_of}
use Rattle.engine_core.specs.Letters.{CyclesOn, EntersOn, GathersOn, TurnsOn}
use Rattle.engine_core.specs.Shows.{edits_of, made_of}
use Rattle.run_end.specs.Started.{Started}
use Rattle.engine_core.specs.UnderWay.{IsUnderWay}
use Rattle.engine_core.proofs.EnterLemmas.{either}
use Rattle.engine_core.proofs.FedCycleLemmas.{HasPlayed, cycle_plays, read_cycled}
use Rattle.engine_core.proofs.FedIdleLemmas.{idle_is_ready}
use Rattle.engine_core.proofs.FedLookLemmas as look
use Rattle.engine_core.proofs.FedTurnLemmas as turn
use Rattle.engine_core.proofs.SerialCycleLemmas.{may_enter_now}

module _ {V I W : Type 0} (media : MediaOutside V) (inputs : SourceOutside I) (sinks : SinkOutside W) (on : Started V I W) where
  abbrev s : Session
  s = on.begun.session

  pub feeds_itself : (r : Run V I W) → FeedsSoFar s r r
  feeds_itself r = record { read_still = λ fine. fine; fed = λ fine newest fed heard. (newest, fed, heard) }

  -- ---- turns and looks

  module _ (first old turned : Run V I W) (idle : Bool) (so_far : FeedsSoFar s first old) (is : IsUnderWay media inputs sinks on old) (now : IsUnderWay media inputs sinks on turned)
      (turns : TurnsOn media on old idle turned) where
    read_turned : turned.failed.read ≡ false → old.failed.read ≡ false
    read_turned fine = turn.read_turned turns.answer old.failed (sym (ap (λ (f : Failures). f.read) turns.failed) ∙ fine)

    -- a turn, and a look after it
    pub feeds_on : (new : Run V I W) → GathersOn turned new → IsUnderWay media inputs sinks on new → FeedsSoFar s first new
    feeds_on new gathers later = record {
      read_still = λ fine. so_far.read_still (read_turned (before fine));
      fed = λ fine newest fed heard. let mid = so_far.fed (read_turned (before fine)) newest fed heard in
          let sent = turn.turn_feeds media inputs sinks on old turned idle is now turns (before fine) mid.0 mid.1 mid.2 in
          let newest_now = turn.newest_same media inputs sinks on old turned idle is now turns (before fine) mid.0 mid.1 mid.2 in (
            look.look_newest media inputs sinks on turned new now later gathers newest_now sent,
            look.look_feeds media inputs sinks on turned new now later gathers newest_now sent,
            look.look_hears media inputs sinks on turned new now later gathers newest_now sent,
          );
    }
      where
        before : new.failed.read ≡ false → turned.failed.read ≡ false
        before fine = ap (λ (f : Failures). f.read) (sym gathers.failed) ∙ fine

    -- an idle turn
    pub feeds_all : idle ≡ true → Feeds s first turned
    feeds_all e = record {
      so_far = record {
        read_still = λ fine. so_far.read_still (read_turned fine);
        fed = λ fine newest fed heard. let mid = so_far.fed (read_turned fine) newest fed heard in (
          turn.newest_same media inputs sinks on old turned idle is now turns fine mid.0 mid.1 mid.2,
          turn.turn_feeds media inputs sinks on old turned idle is now turns fine mid.0 mid.1 mid.2,
          (idle_is_ready media inputs sinks on old turned idle is now turns fine mid.0 mid.1 mid.2 e).1,
        );
      };
      ready = λ fine newest fed heard. let mid = so_far.fed (read_turned fine) newest fed heard in
          let all = idle_is_ready media inputs sinks on old turned idle is now turns fine mid.0 mid.1 mid.2 e in (all.0, all.2);
    }

  -- ---- the process enters

  -- a later edition has no earlier generation
  generation_on : (xs ys : List Edit) → IsPrefix xs ys → generation xs (length xs) ≤ generation ys (length ys)
  generation_on xs ys begins = subst (λ (l : List Edit). generation xs (length xs) ≤ generation l (length l)) begins.1
      (subst (λ n. n ≤ generation (xs ++ begins.0) (length (xs ++ begins.0))) (count_stays starts xs begins.0 (length xs) (omega arith))
      (count_rises starts (xs ++ begins.0) (length xs) (length (xs ++ begins.0)) (longer xs begins.0)))
    where
      longer : (xs ys : List Edit) → length xs ≤ length (xs ++ ys)
      longer [] ys = omega arith
      longer (x ∷ xs) ys = omega (arith, longer xs ys)

  module _ (old entered : Run V I W) (is : IsUnderWay media inputs sinks on old) (may : MayPlay old) (shut : old.pair.in_cycle ≡ false) (enters : EntersOn old entered) (opens : entered.pair.in_cycle ≡ true) where
    goes : has_stopped old.failed ≡ false
    goes = (or_parts (has_stopped old.failed) (nat_le old.pair.process.journal.room (length old.pair.process.journal.items) || old.pair.playing.transport.quit) may.can_run).0

    entered_pair : entered.pair ≡ record old.pair { playing = entered.pair.playing; in_cycle = entered.pair.in_cycle }
    entered_pair = (enters.enters goes).same

    enters_newest : entered.pair.playing.edits ≡ edits_of old
    enters_newest = (enters.enters goes).newest (may_enter_now old may shut)

    is_newest : IsNewest entered
    is_newest = record { opens = opens; newest = enters_newest ∙ sym (ap (λ (p : Pair V I W). p.edition.edits) entered_pair) }

    enter_feeds : IsFed s old → IsFed s entered
    enter_feeds fed = record {
      from = fed.from;
      reached = le_trans fed.reached (subst (λ (l : List Edit). generation old.pair.playing.edits (length old.pair.playing.edits) ≤ generation l (length l)) (sym enters_newest)
          (generation_on old.pair.playing.edits (edits_of old) is.rests.entered.begins));
      free = λ t d hd. subst (λ (p : Pair V I W). none_is_held s.depth fed.from (rolled fed.from (entries_of p.process)) (sent_of d) ≡ true) (sym entered_pair)
          (fed.free t d (ap (λ (p : Pair V I W). slice_get p.butler.ends.sends.items t) (sym entered_pair) ∙ hd));
      once = λ t d hd. subst (λ (p : Pair V I W). each_once p.butler.cycles (sent_of d) ≡ true) (sym entered_pair)
          (fed.once t d (ap (λ (p : Pair V I W). slice_get p.butler.ends.sends.items t) (sym entered_pair) ∙ hd));
      acks = λ g. ap (λ (p : Pair V I W). next_block (acks_of p.process.ends.to_butler.sent) g) entered_pair ∙ fed.acks g ∙ ap (λ (p : Pair V I W). rolled g (entries_of p.process)) (sym entered_pair);
    }

    enter_hears : AllHeard old → AllHeard entered
    enter_hears heard t d q hd hq = heard t d q (ap (λ (p : Pair V I W). slice_get p.butler.ends.sends.items t) (sym entered_pair) ∙ hd)
        (ap (λ (p : Pair V I W). slice_get p.process.ends.plays.items t) (sym entered_pair) ∙ hq)

  -- ---- the whole of a serial cycle

  -- **A serial cycle plays as the plain one.**
  pub plays_plain : (old entered served new : Run V I W) → IsUnderWay media inputs sinks on old → MayPlay old → EntersOn old entered → entered.pair.in_cycle ≡ true → IsUnderWay media inputs sinks on served →
      IsServed old served → Feeds s entered served → CyclesOn inputs sinks on served new → PlaysPlain s old new
  plays_plain old entered served new is may enters opens serving kept feeds cycles = record {
    read_still = λ fine. read_old (read_served fine);
    fed = λ fine shut fed heard. let did = played fine shut fed heard in (did.fed_then, did.heard_then);
    plays = λ fine shut fed heard e made. subst (λ (es : List Edit). PlaysAs (plain_entry s es (made_of old)) e) (ap (λ (x : EditionState). x.edits) kept.edition)
        (subst (λ es. PlaysAs (plain_entry s (edits_of served) es) e) kept.made ((played fine shut fed heard).plays e (made ∙ ap (λ l. e ∷ l) (sym kept.made))));
  }
    where
      read_served : new.failed.read ≡ false → served.failed.read ≡ false
      read_served fine = ap (λ (f : Failures). f.read) (sym cycles.gathers.failed) ∙ read_made fine
        where
          read_made : new.failed.read ≡ false → cycles.gathered.failed.read ≡ false
          read_made fine = elim (either cycles.gathered.pair.in_cycle) [
            | inl open_now ↦ let m = cycles.cycles open_now in sym (read_cycled m.answer cycles.gathered.failed) ∙ sym (ap (λ (f : Failures). f.read) m.failed) ∙ fine
            | inr shut ↦ ap (λ (r : Run V I W). r.failed.read) (sym (cycles.stays shut)) ∙ fine
          ]

      read_old : served.failed.read ≡ false → old.failed.read ≡ false
      read_old fine = ap (λ (f : Failures). f.read) (sym enters.failed) ∙ feeds.so_far.read_still fine

      played : new.failed.read ≡ false → old.pair.in_cycle ≡ false → IsFed s old → AllHeard old → HasPlayed s served new
      played fine shut fed heard = let newest = is_newest old entered is may shut enters opens in let fed_now = enter_feeds old entered is may shut enters opens fed in
          let heard_now = enter_hears old entered is may shut enters opens heard in let mid = feeds.so_far.fed (read_served fine) newest fed_now heard_now in
          let all = feeds.ready (read_served fine) newest fed_now heard_now in
          cycle_plays media inputs sinks on served new serving mid.0 mid.1 mid.2 all.0 cycles all.1
