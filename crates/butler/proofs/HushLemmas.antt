-- A butler that is told to send nothing any more serves its session as before.
use Rattle.std.proofs.Common.{◌≡◌, ℕ, List, length, take, drop, ◌++◌, get_or, refl, sym, ap, ◌∙◌, subst, arith}
use Rattle.std.specs.Prelude.{true, Some, slice_get, All}
use Rattle.std.proofs.lemmas.Option.{slice_get_within, slice_get-get_or}
use Rattle.ses_io.specs.Files.{Files}
use Rattle.session_model.specs.declared.session.Session.{Session}
use Rattle.session_model.specs.declared.edit.Edit.{Edit}
use Rattle.engine_model.specs.Due.{Ack}
use Rattle.engine_model.specs.Played.{samples_of, IsGenuine}
use Rattle.audio_source.specs.Told.{source_sound}
use Rattle.disk_ring.specs.Sender.{Sender}
use Rattle.piece_item.specs.declared.item.Item.{Item}
use Rattle.piece_item.specs.declared.butler_ends.ButlerEnds.{ButlerEnds}
use Rattle.piece_item.specs.Views.{item_of}
use Rattle.read_ahead.specs.declared.supply.TrackSupply.{TrackSupply}
use Rattle.read_ahead.specs.AllServes.{AreShut}
use Rattle.capture_drain.specs.State.{DrainState}
use Rattle.butler.specs.ButlerState.{ButlerState}
use Rattle.butler.specs.Hushed.{Hushes}
use Rattle.butler.specs.Serving.{AreStocked, IsServing, IsTended, IsTrueTo}
use Rattle.butler.proofs.StockLemmas.{fits_as, rewritten}

-- ---- the ends

module _ (ds fs : List (Sender Item)) (shut : AreShut ds fs) where
  -- the end that was closed
  pub before_shut : (t : ℕ) (f : Sender Item) → slice_get fs t ≡ Some f → (d : Sender Item) × (slice_get ds t ≡ Some d) × (f ≡ record d { closed = true })
  before_shut t f hf = let hd = slice_get-get_or ds t f (omega (arith, slice_get_within fs t f hf, shut.sends)) in (get_or ds t f, hd, shut.each t (get_or ds t f) f hd hf)

-- its boxes fit them still
pub stocked_shut : (supplies : List TrackSupply) (drain : DrainState) (ends : ButlerEnds) (fs : List (Sender Item)) → AreShut ends.sends.items fs → AreStocked supplies drain ends →
    AreStocked supplies drain (record ends { sends = record { items = fs; room = ends.sends.room } })
stocked_shut supplies drain ends fs shut was = record {
  many = was.many ∙ sym shut.sends;
  each = λ t p f hp hf. let b = before_shut ends.sends.items fs shut t f hf in fits_as p b.0 f (ap (λ (z : Sender Item). z.room) b.2) (was.each t p b.0 hp b.1);
  takes = was.takes;
}

-- the ends, where these are written back
abbrev pub ends_back : ButlerEnds → List (Sender Item) → ButlerEnds
ends_back ends fs = record ends { sends = record { items = take (length ends.sends.items) (fs ++ drop (length fs) ends.sends.items); room = ends.sends.room } }

pub written_back : (ends : ButlerEnds) (fs : List (Sender Item)) → AreShut ends.sends.items fs → ends_back ends fs ≡ record ends { sends = record { items = fs; room = ends.sends.room } }
written_back ends fs shut = ap (λ (l : List (Sender Item)). record ends { sends = record { items = l; room = ends.sends.room } }) (rewritten (length ends.sends.items) fs ends.sends.items shut.sends)

module _ {V : Type 0} where
  -- ---- what it keeps

  module _ (s : Session) (edits : List Edit) (old new : ButlerState V) (does : Hushes old new) where
    abbrev after : ButlerState V
    after = record old { ends = record old.ends { sends = new.ends.sends }; hushed = true }

    tended : (cycles t : ℕ) (acks : List Ack) (hushed : _) (p : TrackSupply) (d f : Sender Item) → f ≡ record d { closed = true } → IsTended s edits cycles t acks hushed p d → IsTended s edits cycles t acks true p f
    tended cycles t acks hushed p d f same was = subst (IsTended s edits cycles t acks true p) (sym same) (record { depth = was.depth; room = was.room; closed = refl; stands = was.stands; made = was.made })

    serving_after : IsServing s edits old → IsServing s edits after
    serving_after was = record {
      valid = was.valid;
      entered = was.entered;
      sends = does.shut.sends ∙ was.sends;
      takes = was.takes;
      supplies = was.supplies;
      sources = was.sources;
      room = was.room;
      some_cycle = was.some_cycle;
      cycles = was.cycles;
      acks_room = was.acks_room;
      table = was.table;
      tracks = λ t p f hp hf. let b = before_shut old.ends.sends.items new.ends.sends.items does.shut t f hf in
          tended old.cycles t _ old.hushed p b.0 f b.2 (was.tracks t p b.0 hp b.1);
      taking = was.taking;
    }

    true_after : (files : Files) → IsTrueTo files s edits old → IsTrueTo files s edits after
    true_after files was = record {
      lines = was.lines;
      sent = λ t f hf. let b = before_shut old.ends.sends.items new.ends.sends.items does.shut t f hf in
          subst (λ (z : Sender Item). All (λ (item : Item). IsGenuine s edits (samples_of (source_sound files old.sources.opened) s edits) (item_of item)) z.sent) (sym b.2) (was.sent t b.0 b.1);
      made = was.made;
    }

    -- **It serves the session still,**
    pub hushed_serves : IsServing s edits old → IsServing s edits new
    hushed_serves was = subst (IsServing s edits) (sym does.same) (serving_after was)

    -- **and what it sent is true to files still.**
    pub hushed_true : (files : Files) → IsTrueTo files s edits old → IsTrueTo files s edits new
    hushed_true files was = subst (IsTrueTo files s edits) (sym does.same) (true_after files was)
