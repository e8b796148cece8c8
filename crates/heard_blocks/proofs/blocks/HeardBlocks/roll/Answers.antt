use Rattle.std.proofs.Common.{◌∙◌, ap, length, subst, sym}
use Rattle.std.proofs.lemmas.List.{length-map}
use Rattle.audio_source.specs.Told.{source_sound}
use Rattle.engine_model.specs.Journal.{Entry, note_of}
use Rattle.cycle_journal.specs.JournalView.{seen_note}
use Rattle.master_blocks.specs.State.{IsMasterOf}
use Rattle.heard_blocks.specs.State.{HeardState}
use Rattle.heard_blocks.specs.Playing.{MayHear, PutsTracks, edition_at, playing}
use Rattle.heard_blocks.specs.Reading.{IsTold}
use Rattle.heard_blocks.proofs.EntryLemmas.{each_noted, few_blocks, may_hear}
use Rattle.heard_blocks.proofs.RolledLemmas.{are_put, bytes_are, rolls_at}
use Rattle.heard_blocks.proofs.blocks.HeardBlocks.roll.Goals as goal

pub put_tracks-requires : goal.put_tracks-requires
put_tracks-requires g c κs within = let asks = c.requires.1 in let s = g.next.session in let before = g.next.before in let e = g.next.entry in let edits = c.args.history.now.edits in
    let heard = asks.1.1.1.0 in let lawful = asks.1.1.1.1.0 in let few = asks.1.1.1.1.1.0 in let rolls = rolls_at e.state c.args.seq asks.1.1.1.1.1.1.1 in (
      within,
      (
        asks.1.0,
        (
          heard.ready,
          (
            asks.1.1.1.1.1.1.0,
            (
              sym (length-map c.args.entry.now.notes.items seen_note) ∙ ap (λ (x : Entry). length x.notes) asks.0 ∙ each_noted s edits before e lawful,
              (
                λ t lt. subst (λ (x : Entry). MayHear edits (edition_at c.args.self.now t) (note_of t x).play) (sym asks.0)
                    (subst (λ n. MayHear edits n (note_of t e).play) (sym (heard.last t lt)) (may_hear s edits before e lawful t lt)),
                few_blocks s edits before e lawful rolls.0 c.args.seq rolls.1 few,
              ),
            ),
          ),
        ),
      ),
    )

pub roll-requires : goal.roll-requires
roll-requires g c = let asks = c.requires.1 in let s = g.next.session in let before = g.next.before in let e = g.next.entry in let edits = c.args.history.now.edits in
    let lawful = asks.1.1.1.1.0 in let few = asks.1.1.1.1.1.0 in let rolls = rolls_at e.state c.args.seq asks.1.1.1.1.1.1.1 in let at = asks.1.1.0 in
    let told = IsTold g.M.Media.outside c.args.media.now c.args.sources.now in let sounds = source_sound (g.M.Media.outside.files c.args.media.now) c.args.sources.now.opened in
    let put = subst (λ (x : Entry). PutsTracks told (playing s edits sounds c.args.now.now c.args.seq) (λ t. (note_of t x).play) (length s.tracks.items) c.args.self.now c.put_tracks.new.self) asks.0
    c.in_ok-put_tracks.ensures.put in (
      subst (IsMasterOf s) (sym (ap (λ (h : HeardState). h.master) c.self.view_is)) put.ready.master,
      (
        at.0,
        (
          few_blocks s edits before e lawful rolls.0 c.args.seq rolls.1 few,
          are_put s edits before e lawful c.args.now.now at.0 at.1 rolls.0 c.args.seq rolls.1 told sounds c.args.self.now _
              (subst (PutsTracks told (playing s edits sounds c.args.now.now c.args.seq) (λ t. (note_of t e).play) (length s.tracks.items) c.args.self.now) (sym c.self.view_is) put),
        ),
      ),
    )

pub returns-clause-told : goal.returns-clause-told
returns-clause-told g c = λ is. let asks = c.requires.1 in let s = g.next.session in let before = g.next.before in let e = g.next.entry in let edits = c.args.history.now.edits in
    let lawful = asks.1.1.1.1.0 in let rolls = rolls_at e.state c.args.seq asks.1.1.1.1.1.1.1 in let at = asks.1.1.0 in
    let told = IsTold g.M.Media.outside c.args.media.now c.args.sources.now in let sounds = source_sound (g.M.Media.outside.files c.args.media.now) c.args.sources.now.opened in
    let put = subst (λ (x : Entry). PutsTracks told (playing s edits sounds c.args.now.now c.args.seq) (λ t. (note_of t x).play) (length s.tracks.items) c.args.self.now c.put_tracks.new.self) asks.0
    c.in_ok-put_tracks.ensures.put in
    c.in_ok-roll.ensures.rolled ∙ bytes_are s edits before e lawful c.args.now.now at.0 at.1 rolls.0 c.args.seq rolls.1 told sounds c.args.self.now _
    (subst (PutsTracks told (playing s edits sounds c.args.now.now c.args.seq) (λ t. (note_of t e).play) (length s.tracks.items) c.args.self.now) (sym c.self.view_is) put)
    is c.session-session.ensures.seen.valid
