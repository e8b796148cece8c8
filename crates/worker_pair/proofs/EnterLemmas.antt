-- The process enters the newest edition: it takes in the edits that it lacks, and so does the core machine.
use Rattle.std.proofs.Common.{◌≡◌, ℕ, ◌+◌, ◌<◌, ◌≤◌, List, [], ◌∷◌, ◌++◌, length, get_or, refl, sym, ap, subst, arith, le_refl, ◌∙◌}
use Rattle.std.specs.Prelude.{Bool, true, false, ◌&&◌, not, nat_lt, if◌then◌else◌, slice_get, Some, Result, Ok, Err, is_ok, IsOk}
use Rattle.std.proofs.lemmas.Bool.{and_from, false≢true, le-ltb, lt-ltb, not_from_false}
use Rattle.std.proofs.lemmas.List.{length-append, length-map, length_push}
use Rattle.std.proofs.lemmas.Option.{slice_get-get_or}
use mathlib.Core.List.{IsPrefix}
use base.Growing.{prefix_refl}
use Rattle.ses_io.specs.Outside.{MediaOutside, SourceOutside, SinkOutside}
use Rattle.session_model.specs.declared.session.Session.{Session}
use Rattle.session_model.specs.declared.edit.Edit.{Edit}
use Rattle.engine_model.specs.Editions.{apply, edition}
use Rattle.engine_model.specs.Edits.{has_quit}
use Rattle.machine_model.specs.Core.{Core, TrackState}
use Rattle.machine_model.specs.Events.{EnterProcess, begun, can, done, step}
use Rattle.machine_laws.proofs.Tracks.{of_mapped}
use Rattle.edit_resolve.specs.declared.reason.Refusal.{Refusal}
use Rattle.edition_log.specs.EditionState.{EditionState, IsEditionOf, state_of}
use Rattle.edition_log.specs.Steps.{Applies}
use Rattle.edition_log.proofs.PlayLaws.{editions_play_their_places}
use Rattle.disk_ring.specs.Sender.{Sender}
use Rattle.disk_ring.specs.Receiver.{Receiver}
use Rattle.piece_item.specs.declared.item.Item.{Item}
use Rattle.piece_item.specs.declared.take_block.TakeBlock.{TakeBlock}
use Rattle.worker_pair.specs.declared.pair.Pair.{Pair}
use Rattle.worker_pair.specs.Begun.{At}
use Rattle.worker_pair.specs.Runs.{Runs}
use Rattle.worker_pair.specs.Steps.{may_enter}
use Rattle.worker_pair.specs.Tied.{IsTied, IsTrackOf}
use Rattle.worker_pair.proofs.CycleLemmas.{many_entries}
use Rattle.worker_pair.proofs.LongerLemmas.{edition_longer, next_begins, quit_longer}

-- ---- catching up

-- An edition that has taken in so many of a newer one's edits, where it had begun as this one.
pub record CatchesUp (s : Session) (was newest e : EditionState) (many : ℕ) : Type 0 where
  pub edition_of : IsEditionOf s e
  pub begins : IsPrefix e.edits newest.edits
  pub ended : e.ended ≡ was.ended
  pub many_are : length e.edits ≡ many

-- the edit that follows
pub next_is : (edits : List Edit) (many at : ℕ) (edit : Edit) → at < length edits → edit ≡ get_or edits at edit → many ≡ at → slice_get edits many ≡ Some edit
next_is edits many at edit within is same = ap (slice_get edits) same ∙ slice_get-get_or edits at edit within ∙ ap (λ x. Some x) (sym is)

module _ (s : Session) (newest e : EditionState) (newest_of : IsEditionOf s newest) (is : IsEditionOf s e) (begins : IsPrefix e.edits newest.edits)
    (edit : Edit) (next : slice_get newest.edits (length e.edits) ≡ Some edit) where
  -- so far the newer one was this one
  same_so_far : edition s newest.edits (length e.edits) ≡ state_of e
  same_so_far = edition_longer e.edits newest.edits begins s (length e.edits) (le_refl (length e.edits)) ∙ sym is.state

  -- where an edit follows it hasn't quit,
  pub unended : e.transport.quit ≡ false
  unended = ap (λ z. z.transport.quit) (sym same_so_far) ∙ newest_of.accepted.unended (length e.edits) edit next

  -- and the edit is accepted
  accepted : IsOk (apply (state_of e) edit)
  accepted = subst (λ z. IsOk (apply z edit)) same_so_far (newest_of.accepted.each (length e.edits) edit next)

  -- so it is taken in
  taken_in : (answer : Result ℕ Refusal) (new : EditionState) → Applies e edit answer new → (new.edits ≡ e.edits ++ edit ∷ []) × (new.ended ≡ e.ended)
  taken_in (Ok number) new applies = (applies.2, applies.3)
  taken_in (Err why) new applies = absurd (false≢true (sym (ap is_ok applies.0) ∙ accepted))

  -- and the next one follows
  pub catches_up : (was : EditionState) (many : ℕ) (answer : Result ℕ Refusal) (new : EditionState) → CatchesUp s was newest e many → Applies e edit answer new →
      (IsEditionOf s e → IsEditionOf s new) → CatchesUp s was newest new (many + 1)
  catches_up was many answer new so_far applies stays = let took = taken_in answer new applies in record {
    edition_of = stays is;
    begins = subst (λ l. IsPrefix l newest.edits) (sym took.0) (next_begins e.edits begins.0 newest.edits edit begins.1 next);
    ended = took.1 ∙ so_far.ended;
    many_are = ap length took.0 ∙ length_push e.edits edit ∙ ap (λ n. n + 1) so_far.many_are;
  }

-- ---- entering

-- a cycle begins with the same rings
pub begun_track : (x : TrackState) (d : Sender Item) (r : Receiver Item) (k : Sender TakeBlock) (f : Receiver TakeBlock) → IsTrackOf x d r k f → IsTrackOf (begun x) d r k f
begun_track x d r k f was = record { sent = was.sent; received = was.received; tails = was.tails; put = was.put; flushed = was.flushed; heads = was.heads; taking = refl }

-- an edition has quit where a quit is among its edits
quit_of : (s : Session) (e : EditionState) → IsEditionOf s e → e.transport.quit ≡ has_quit e.edits (length e.edits)
quit_of s e is = (editions_play_their_places s e is).quit

-- ---- whether it may

both_false : (b : Bool) → (b && false) ≡ false
both_false true = refl
both_false false = refl

module _ {V I W : Type 0} (p : Pair V I W) where
  -- where a cycle is open it may not,
  pub not_in_cycle : p.in_cycle ≡ true → may_enter p ≡ false
  not_in_cycle is = ap (λ b. not b && nat_lt (length p.process.journal.items) p.process.journal.room && not p.playing.transport.quit) is

  -- nor where all cycles are made,
  pub not_past_all : p.process.journal.room ≤ length p.process.journal.items → may_enter p ≡ false
  not_past_all all = ap (λ b. not p.in_cycle && b && not p.playing.transport.quit) (le-ltb (length p.process.journal.items) p.process.journal.room all)
      ∙ ap (λ b. b && not p.playing.transport.quit) (both_false (not p.in_cycle))

  -- nor after a quit,
  pub not_after_quit : p.playing.transport.quit ≡ true → may_enter p ≡ false
  not_after_quit is = ap (λ b. not p.in_cycle && nat_lt (length p.process.journal.items) p.process.journal.room && not b) is
      ∙ both_false (not p.in_cycle && nat_lt (length p.process.journal.items) p.process.journal.room)

  -- and else it may
  pub may_else : p.in_cycle ≡ false → length p.process.journal.items < p.process.journal.room → p.playing.transport.quit ≡ false → may_enter p ≡ true
  may_else shut room unended = and_from (not p.in_cycle && nat_lt (length p.process.journal.items) p.process.journal.room) (not p.playing.transport.quit)
      (and_from (not p.in_cycle) (nat_lt (length p.process.journal.items) p.process.journal.room) (not_from_false p.in_cycle shut)
      (lt-ltb (length p.process.journal.items) p.process.journal.room room)) (not_from_false p.playing.transport.quit unended)

-- ---- the core machine

module _ {V I W : Type 0} (media : MediaOutside V) (inputs : SourceOutside I) (sinks : SinkOutside W) (at : At) (p : Pair V I W) (runs : Runs media inputs sinks at p) where
  abbrev s : Session
  s = at.begun.session

  -- the core machine may enter where the process may
  may_is : (c : Core) → IsTied s c p → can s p.butler.cycles c EnterProcess ≡ may_enter p
  may_is c tied = λ i. not (tied.in_cycle i) && nat_lt (many i) (sym runs.asked i) && not (quits i)
    where
      many : length c.entries ≡ length p.process.journal.items
      many = ap length tied.entries ∙ many_entries p.process

      quits : has_quit c.edits c.playing ≡ p.playing.transport.quit
      quits = (λ i. has_quit (tied.rings.edits i) (tied.playing i)) ∙ quit_longer p.playing.edits p.edition.edits runs.entered.begins
          ∙ sym (quit_of s p.playing runs.entered.edition_of)

  -- where the process stays as it is, so does the core machine
  pub stays_as_machine : may_enter p ≡ false → (c : Core) → IsTied s c p → IsTied s (step s p.butler.cycles c EnterProcess) p
  stays_as_machine never c tied = subst (λ b. IsTied s (if b then done s p.butler.cycles c EnterProcess else c) p) (sym (may_is c tied ∙ never)) tied

  -- ---- where it may

  module _ (may : may_enter p ≡ true) (e : EditionState) (edits : e.edits ≡ p.edition.edits) (edition_of : IsEditionOf s e) (ended : e.ended ≡ p.playing.ended) where
    -- the pair afterwards
    abbrev pub enters_pair : Pair V I W
    enters_pair = record p { playing = e; in_cycle = not e.transport.quit }

    -- the workers run on
    pub runs_entered : (length p.process.journal.items < p.process.journal.room) → Runs media inputs sinks at enters_pair
    runs_entered room = let was = runs.entered in record {
      serves = runs.serves;
      entered = record {
        edition_of = edition_of;
        begins = subst (λ l. IsPrefix l p.edition.edits) (sym edits) (prefix_refl p.edition.edits);
        not_ended = ended ∙ was.not_ended;
        newest_not_ended = was.newest_not_ended;
        forms = was.forms;
        room = λ open_now. room;
        unended = λ open_now. isn't e.transport.quit open_now;
        few = more was.few (ap length was.begins.1) (ap length edits);
        played = was.played;
      };
      control = record { ring = runs.control.ring; none_taken = runs.control.none_taken; heads = runs.control.heads };
      playing = runs.playing;
      mastered = runs.mastered;
      asked = runs.asked;
    }
      where
        isn't : (b : Bool) → not b ≡ true → b ≡ false
        isn't false is = refl
        isn't true is = absurd (false≢true is)

        more : p.process.entered ≤ length p.playing.edits → length (p.playing.edits ++ runs.entered.begins.0) ≡ length p.edition.edits → length e.edits ≡ length p.edition.edits → p.process.entered ≤ length e.edits
        more few long same = omega (arith, few, long, same, length-append p.playing.edits runs.entered.begins.0)

    -- **Entering is the core machine's.**
    pub enters_as_machine : (c : Core) → IsTied s c p → IsTied s (step s p.butler.cycles c EnterProcess) enters_pair
    enters_as_machine c tied = subst (λ b. IsTied s (if b then done s p.butler.cycles c EnterProcess else c) enters_pair) (sym (may_is c tied ∙ may)) (record {
      rings = record {
        edits = tied.rings.edits;
        entered = tied.rings.entered;
        many = length-map c.tracks begun ∙ tied.rings.many;
        tracks = λ t y d r k f at_y at_d at_r at_k at_f. let x = of_mapped begun c.tracks t y at_y in subst (λ z. IsTrackOf z d r k f) (sym x.2)
            (begun_track x.0 d r k f (tied.rings.tracks t x.0 d r k f x.1 at_d at_r at_k at_f));
        acks = tied.rings.acks;
        taken = tied.rings.taken;
        none_read = tied.rings.none_read;
        none_written = tied.rings.none_written;
      };
      entries = tied.entries;
      playing = ap length (tied.rings.edits ∙ sym edits);
      in_cycle = ap not (ap (λ l. has_quit l (length l)) (tied.rings.edits ∙ sym edits) ∙ sym (quit_of s e edition_of));
      control = tied.control;
      told_butler = tied.told_butler;
      told_control = tied.told_control;
    })
