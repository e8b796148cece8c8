use Rattle.std.proofs.Common.{◌∙◌, ap, le_refl, refl, subst, sym}
use Rattle.std.specs.Prelude.{slice_index_or}
use Rattle.audio_source.specs.Told.{source_sound}
use Rattle.engine_model.specs.Played.{samples_of}
use Rattle.cycle_journal.specs.JournalView.{seen_entry}
use Rattle.heard_blocks.specs.Lists.{HasLists}
use Rattle.heard_blocks.specs.State.{HeardState}
use Rattle.heard_blocks.proofs.EntryLemmas.{none_heard}
use Rattle.heard_blocks.proofs.RolledLemmas.{rest_bytes, rests_at}
use Rattle.heard_blocks.proofs.blocks.HeardBlocks.block.Goals as goal

pub returns-in_ok-rest-in-Stopped : goal.returns-in_ok-rest-in-Stopped
returns-in_ok-rest-in-Stopped g c = let asks = c.requires.1 in let s = g.judged.session in let edits = c.args.history.now.edits in let e = seen_entry c.args.entry.now in
    let heard = asks.1.1.0 in let rest = rests_at c.args.entry.now.state c.in-Stopped.is in record {
      told = λ t h. c.in_ok-rest-in-Stopped.ensures.silent
          ∙ rest_bytes s edits (samples_of (source_sound (g.M.Media.outside.files c.args.media.now) c.args.sources.now.opened) s edits) e rest;
      heard = record {
        ready = record {
          lists = subst (λ (h : HeardState). HasLists s edits h.lists) (sym c.self.view_is) heard.ready.lists;
          master = c.in_ok-rest-in-Stopped.ensures.of;
          frames = ap (λ (h : HeardState). h.frames) c.self.view_is ∙ heard.ready.frames;
          room = ap (λ (h : HeardState). h.room) c.self.view_is ∙ heard.ready.room;
        };
        last = λ t lt. ap (λ (h : HeardState). slice_index_or h.lists.at t 0) c.self.view_is ∙ heard.last t lt
            ∙ sym (none_heard s edits g.judged.entries e asks.1.1.1.0 rest t lt);
      };
      read = record {
        holds = λ t h. h;
        opened = refl;
        only_reads = record { files = refl; other_count = refl };
        cause = record { later = le_refl (g.M.Media.outside.read_faults c.args.media.now); kept = refl; rose = tt };
      };
    }
