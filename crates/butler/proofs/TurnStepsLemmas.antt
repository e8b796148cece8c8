-- The steps of a turn, one after the other: acknowledgements are taken, the edition is entered, blocks are flushed, and what is due is sent.
use Rattle.std.proofs.Common.{◌≡◌, ℕ, List, length, refl, sym, ap, ◌∙◌, subst}
use Rattle.std.specs.Prelude.{false, slice_get, Some, Result}
use Rattle.std.proofs.lemmas.Option.{same_Some}
use Rattle.ses_io.specs.Files.{Files}
use Rattle.ses_io.specs.FixedList.{Listed}
use Rattle.ses_io.specs.Outside.{MediaOutside}
use Rattle.edition_log.specs.EditionState.{EditionState as Edition, IsEditionState}
use Rattle.audio_source.specs.Opened.{OpenedSource}
use Rattle.audio_source.specs.declared.refusal.ReadFault.{ReadFault}
use Rattle.capture_flush.specs.declared.fault.WriteFault.{WriteFault}
use Rattle.capture_flush.specs.Taking.{IsTakingOf}
use Rattle.disk_ring.specs.Sender.{Sender}
use Rattle.piece_item.specs.declared.item.Item.{Item}
use Rattle.piece_item.specs.declared.ack.Ack.{Ack as Acknowledgement}
use Rattle.read_ahead.specs.Reader.{IsReady}
use Rattle.read_ahead.specs.AllServes.{AllStocked}
use Rattle.butler.specs.Sends.{acks_of, SendsOf}
use Rattle.butler.specs.ButlerState.{ButlerState, Served, start_of}
use Rattle.butler.specs.Serving.{IsServing, AreStocked, IsTrueTo, SourcesStand}
use Rattle.butler.specs.Turns.{Enters, AllSend, StaysTrue, pass_of}
use Rattle.butler.specs.Steps.{reader_of, Accepts, EntersIn, Flushes, SendsOn}
use Rattle.butler.proofs.KeepLemmas.{tracks_are, accept_keeps, accept_true, enter_keeps, flush_keeps, flush_true}
use Rattle.butler.proofs.TrueLemmas.{enter_true}
use Rattle.butler.proofs.TurnLemmas.{ready, as_many, all_stocked, no_sends}
use Rattle.butler.proofs.SendingLemmas.{Comes, comes}

module _ {V : Type 0} (at : Served) (e : Edition) (b a : ButlerState V) (enters : Enters at b e) (accepts : Accepts b a) where
  pub accepted : IsServing at.session at.edits a
  accepted = accept_keeps at.session at.edits b a accepts enters.serving

  pub may_enter : length a.supplies ≡ length e.session.tracks.items
  may_enter = accepted.supplies ∙ sym (tracks_are at.session e enters.edition_of)

  module _ (c : ButlerState V) (follows : EntersIn e a c) (seen : IsEditionState e) where
    pub followed : IsServing at.session e.edits c
    followed = enter_keeps at.session at.edits e a c follows enters.edition_of enters.grows accepted

    pub followed_true : (files : Files) → IsTrueTo files at.session at.edits b → IsTrueTo files at.session e.edits c
    followed_true files is = enter_true at.session at.edits e a c follows enters.edition_of enters.grows accepted files (accept_true files at.session at.edits b a accepts is)

    -- what flushing asks
    pub may_flush : IsTakingOf at.session c.drain.files
    may_flush = followed.taking

    pub many_takes : length c.ends.takes.items ≡ length at.session.tracks.items
    many_takes = followed.takes

    module _ (outside : MediaOutside V) (most : ℕ) (written : Result ℕ WriteFault) (d : ButlerState V) (flushes : Flushes outside (start_of at) most c written d) where
      pub flushed : IsServing at.session e.edits d
      flushed = flush_keeps outside at.session at.held e.edits most c written d flushes followed

      pub flushed_true : (files : Files) → IsTrueTo files at.session at.edits b → IsTrueTo files at.session e.edits d
      flushed_true files is = flush_true outside files at.session at.held e.edits most c written d flushes (followed_true files is)

      -- what a butler has still as it was when the turn began
      abbrev Kept : ButlerState V → ButlerState V → Type 0
      Kept x y = (y.ends.sends ≡ x.ends.sends) × (y.cycles ≡ x.cycles) × (y.sources ≡ x.sources) × (y.hushed ≡ x.hushed)

      pub kept : Kept b d
      kept = subst (Kept b) (sym flushes.same) (subst (Kept b) (sym follows.same) (subst (Kept b) (sym accepts.same) (refl, refl, refl, refl)))

      -- and what it received in it
      pub acks_kept : d.ends.acks ≡ a.ends.acks
      acks_kept = ap (λ (z : ButlerState V). z.ends.acks) flushes.same ∙ ap (λ (z : ButlerState V). z.ends.acks) follows.same

      -- where a write failed nothing is sent
      pub none_sent : AllSend at.session e b d
      none_sent t x y hx hy = subst (SendsOf at.session e.edits b.cycles t (acks_of d.ends.acks.received) x) (same_Some x y (sym hx ∙ ap (λ (z : Listed (Sender Item)). slice_get z.items t) (sym kept.0) ∙ hy))
          (no_sends at.session e enters.edition_of b.cycles t (acks_of d.ends.acks.received) x)

      -- what sending asks
      pub may_read : IsReady (reader_of d) (pass_of e d)
      may_read = ready at.session e enters.edition_of seen d flushed

      pub many_supplies : length d.supplies ≡ length e.session.tracks.items
      many_supplies = as_many at.session e enters.edition_of seen d flushed

      pub boxes_are : AreStocked d.supplies d.drain d.ends → d.hushed ≡ false → AllStocked e d.supplies d.ends.sends.items
      boxes_are = all_stocked at.session e enters.edition_of seen d flushed

      module _ (limit : ℕ) (result : Result ℕ ReadFault) (new : ButlerState V) (goes : SendsOn outside e limit d result new) where
        pub come : Comes outside at.held at.session e limit d result new
        come = comes outside at.held at.session e enters.edition_of seen limit d flushed result new goes

        pub acks_stay : d.ends.acks.received ≡ new.ends.acks.received
        acks_stay = sym (ap (λ (z : ButlerState V). z.ends.acks.received) goes.same)

        -- the clauses of a turn that are of serving, sending and files
        pub sends : AllSend at.session e b new
        sends = let P : (List (Sender Item) × ℕ × List Acknowledgement) → Type 0 = λ z. (t : ℕ) (x f : Sender Item) → slice_get z.0 t ≡ Some x → slice_get new.ends.sends.items t ≡ Some f → SendsOf at.session e.edits z.1 t (acks_of z.2) x f in
            subst P (λ i. ((kept.0 i).items, kept.1 i, acks_stay i)) come.sends

        pub stays_true : outside.tells → StaysTrue outside at e b new
        stays_true tells stand is = let files = goes.read.only_reads.files in
            come.true_to tells (subst (λ (os : List OpenedSource). SourcesStand at.held (outside.files d.media) os) (sym (ap (λ z. z.opened) kept.2))
            (subst (λ (fs : Files). SourcesStand at.held fs b.sources.opened) files stand)) (flushed_true at.held is)
