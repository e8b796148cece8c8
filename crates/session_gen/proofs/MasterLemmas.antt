-- The master of a made session's export that is Done.
use Rattle.std.proofs.Common.{◌≡◌, ℕ, ap, sym, ◌∙◌, [], ◌++◌}
use Rattle.std.specs.Prelude.{Some, codes}
use Rattle.sound_model.specs.Wav.{canon}
use Rattle.ses_io.specs.Outside.{MediaOutside, SourceOutside, SinkOutside}
use Rattle.ses_io.specs.declared.world.World.{World}
use Rattle.session_model.specs.declared.session.Session.{Session}
use Rattle.made_session.specs.Made.{made_session}
use Rattle.engine_model.specs.Played.{master_form}
use Rattle.journal_laws.specs.Exports.{exported}
use Rattle.cycle_journal.specs.declared.status.Status.TheVariants.{Done}
use Rattle.session_opening.specs.Plan.{session_plan}
use Rattle.session_opening.specs.Sounds.{sounds_in}
use Rattle.session_play.specs.declared.outcome.Outcome.{Outcome}
use Rattle.session_play.specs.Complete.{IsComplete}
use Rattle.session_play.specs.Played.{WasPlayed}
use Rattle.session_play.specs.Request.{Request}
use Rattle.session_play.proofs.ExportLemmas.{HasExported, export_file, has_exported}
use Rattle.session_gen.specs.Files.{HasMade}
use Rattle.session_gen.specs.Gen.{master, master_samples}
use Rattle.session_gen.proofs.PlanLemmas.{opened_is_made, sounds_are_made}

module _ {M I C W O : Type 0} {media : MediaOutside M} {inputs : SourceOutside I} {controls : SourceOutside C} {masters : SinkOutside W} {outs : SinkOutside O} {old : World M I C W O} {r : Request}
    {new : Outcome M I C W O} where
  pub master_is : (n : ℕ) → IsComplete media inputs controls masters outs old r new → WasPlayed media inputs controls masters outs old r new new.journal → media.tells → masters.tells →
      HasMade n (media.files old.media) → masters.held old.master ≡ [] → r ≡ record { session = codes "gen.toml"; cycles = 256; script = Some 0; letters = [] } → new.status ≡ Done →
      masters.held new.world.master ≡ master n
  unfolding master_samples
  master_is n complete was t u has empty asked done = let files = media.files old.media in
      let x : HasExported media masters old r new 0 =
      has_exported complete was done 0 (ap (λ (q : Request). q.script) asked) (ap (λ (q : Request). q.letters) asked) in
      let is : x.session ≡ made_session n = opened_is_made n files x.session has (ap (λ (q : Request). session_plan files q.session) (sym asked) ∙ x.of_file t) in
      x.written t u
      ∙ ap (λ xs. xs ++ export_file files x.session r.cycles 0) empty
      ∙ ap (λ (q : Request). canon (master_form x.session) (exported (sounds_in files x.session) x.session q.cycles 0)) asked
      ∙ ap (λ (s : Session). canon (master_form s) (exported (sounds_in files s) s 256 0)) is
      ∙ ap (λ heard. canon (master_form (made_session n)) (exported heard (made_session n) 256 0)) (sounds_are_made n files has)
