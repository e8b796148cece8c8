-- What was held, made and sent stays true to files when an edition is entered.
use Rattle.std.proofs.Common.{◌≡◌, ℕ, ◌<◌, List, length, sym, subst, arith, inl, inr}
use Rattle.std.specs.Prelude.{slice_get, Some}
use Rattle.std.proofs.lemmas.Option.{slice_get_within, slice_get_cases}
use mathlib.Core.List.{IsPrefix}
use Rattle.ses_io.specs.Files.{Files}
use Rattle.sound_model.specs.Regions.{Sounds}
use Rattle.session_model.specs.declared.session.Session.{Session}
use Rattle.session_model.specs.declared.edit.Edit.{Edit}
use Rattle.engine_model.specs.Played.{samples_of, IsGenuine}
use Rattle.edition_log.specs.EditionState.{EditionState as Edition, IsEditionOf}
use Rattle.audio_source.specs.Told.{source_sound}
use Rattle.piece_item.specs.declared.item.Item.{Item}
use Rattle.piece_item.specs.Views.{item_of}
use Rattle.read_ahead.specs.declared.supply.TrackSupply.{TrackSupply}
use Rattle.read_ahead.specs.Items.{HasMade}
use Rattle.butler.specs.ButlerState.{ButlerState}
use Rattle.butler.specs.Serving.{IsServing, AreGenuine, IsTrueTo}
use Rattle.butler.specs.Steps.{EntersIn}
use Rattle.butler.proofs.KeepLemmas.{entered_many, entered_was}
use Rattle.butler.proofs.GenuineLemmas.{stays_genuine, one_stays}

module _ {V : Type 0} (s : Session) (before : List Edit) (e : Edition) (b c : ButlerState V) (enters : EntersIn e b c) (edition : IsEditionOf s e) (grows : IsPrefix before e.edits) (serving : IsServing s before b) where
  module _ (files : Files) (is : IsTrueTo files s before b) where
    abbrev S : Sounds
    S = source_sound files b.sources.opened

    old_sent : AreGenuine S s e.edits b.ends.sends.items
    old_sent t d hd = let many = serving.sends in let sized = serving.supplies in let near = slice_get_within b.ends.sends.items t d hd in elim (slice_get_cases b.supplies t).1 [
      | inl found ↦ stays_genuine S s before e.edits grows.0 t d.sent grows.1 (serving.tracks t found.0 d found.2 hd).stands.kept (is.sent t d hd)
      | inr past ↦ (let end = past.0 in absurd (omega arith))
    ]

    old_made : (t : ℕ) (q : TrackSupply) (item : Item) → slice_get c.supplies t ≡ Some q → HasMade q item → IsGenuine s e.edits (samples_of S s e.edits) (item_of item)
    old_made t q item hq has = let many = serving.sends in let sized = serving.supplies in let now = entered_many s before e b c enters edition grows serving in let near = slice_get_within c.supplies t q hq in
        let low : t < length s.tracks.items = omega arith in let was = entered_was s before e b c enters edition grows serving t q low hq in let had = was.3 item has in
        elim (slice_get_cases b.ends.sends.items t).1 [
          | inl found ↦ one_stays S s before e.edits grows.0 t item grows.1 ((serving.tracks t was.0 found.0 was.1 found.2).made item had) (is.made t was.0 item was.1 had)
          | inr past ↦ (let end = past.0 in absurd (omega arith))
        ]

    pub enter_true : IsTrueTo files s e.edits c
    enter_true = subst (λ (z : ButlerState V). IsTrueTo files s e.edits z) (sym enters.same) record { lines = is.lines; sent = old_sent; made = old_made }
