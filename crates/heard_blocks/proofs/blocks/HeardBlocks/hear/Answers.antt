use Rattle.std.proofs.Common.{◌∙◌, ap, length, refl, set, sym, subst, take}
use Rattle.std.specs.Prelude.{slice_index_or}
use Rattle.std.proofs.lemmas.List.{get_or-set_same}
use Rattle.session_model.specs.declared.session.Session.{Session}
use Rattle.locate_loop.specs.Transport.{transport_of}
use Rattle.audio_source.specs.Told.{source_sound}
use Rattle.master_blocks.specs.State.{IsMasterOf}
use Rattle.heard_blocks.proofs.RoomLemmas.{is_kept}
use Rattle.heard_blocks.specs.State.{HeardState}
use Rattle.heard_blocks.specs.Playing.{playing, put_block, session_block}
use Rattle.heard_blocks.specs.Reading.{IsTold}
use Rattle.heard_blocks.proofs.BringLemmas.{place_within}
use Rattle.heard_blocks.proofs.PutLemmas.{block_played, count_is, front_long, hears}
use Rattle.heard_blocks.proofs.blocks.HeardBlocks.hear.Goals as goal

pub slice_bounds-block-end : goal.slice_bounds-block-end
slice_bounds-block-end g c = let asks = c.requires.1 in let edits = c.args.history.now.edits in let l = c.bring.new.self in let t = c.args.track in
    let kept = is_kept c.self.inside.samples.len c.as_slice.result.now c.fill.new.room c.as_mut_slice-room.result.now c.self.inside.samples.items c.as_slice.ensures.value c.fill.auto.room c.as_mut_slice-room.ensures.len in
    let room = c.fill.auto.room ∙ ap length c.as_mut_slice-room.ensures.value ∙ ap (λ (h : HeardState). h.room) c.self.view_is ∙ asks.1.0.room in
    count_is g.s edits l t c.bring.ensures.lists asks.1.1.1.0 c.session.result.now c.in_ok-count.count c.session.ensures c.in_ok-count.ensures.count
    ∙ sym (front_long g.s edits l t c.bring.ensures.lists asks.1.1.1.0 c.session.result.now c.in_ok-count.count c.as_slice.result.now c.session.ensures c.in_ok-count.ensures.count (ap length kept ∙ room) asks.1.0.master.valid)

pub put-requires : goal.put-requires
put-requires g c = let asks = c.requires.1 in let edits = c.args.history.now.edits in let l = c.bring.new.self in let t = c.args.track in
    let kept = is_kept c.self.inside.samples.len c.as_slice.result.now c.fill.new.room c.as_mut_slice-room.result.now c.self.inside.samples.items c.as_slice.ensures.value c.fill.auto.room c.as_mut_slice-room.ensures.len in
    let room = c.fill.auto.room ∙ ap length c.as_mut_slice-room.ensures.value ∙ ap (λ (h : HeardState). h.room) c.self.view_is ∙ asks.1.0.room in (
      subst (IsMasterOf g.s) (sym (ap (λ (h : HeardState). h.master) c.self.view_is)) asks.1.0.master,
      (
        asks.1.1.1.0,
        front_long g.s edits l t c.bring.ensures.lists asks.1.1.1.0 c.session.result.now c.in_ok-count.count c.as_slice.result.now c.session.ensures c.in_ok-count.ensures.count
            (ap length kept ∙ room) asks.1.0.master.valid,
      ),
    )

pub returns-clause-put : goal.returns-clause-put
returns-clause-put g c = let asks = c.requires.1 in let t = c.args.track in let old = c.args.self.now in let edits = c.args.history.now.edits in let ready = asks.1.0 in let lt = asks.1.1.1.0 in
    let on = playing g.s edits (source_sound (g.M.Media.outside.files c.args.media.now) c.args.sources.now.opened) c.args.now.now c.args.seq in
    let kept = is_kept c.self.inside.samples.len c.as_slice.result.now c.fill.new.room c.as_mut_slice-room.result.now c.self.inside.samples.items c.as_slice.ensures.value c.fill.auto.room c.as_mut_slice-room.ensures.len in
    let room = c.fill.auto.room ∙ ap length c.as_mut_slice-room.ensures.value ∙ ap (λ (h : HeardState). h.room) c.self.view_is ∙ ready.room in
    let lists_at = c.bring.ensures.at ∙ ap (λ (h : HeardState). set h.lists.at t c.args.touched) c.self.view_is in
    hears (IsTold g.M.Media.outside c.args.media.now c.args.sources.now) on t old _ ready lt (take c.in_ok-count.count c.as_slice.result.now)
    c.put.ensures.put (λ u other. c.put.ensures.others u other ∙ ap (λ (h : HeardState). put_block h u) c.self.view_is)
    (record {
      lists = c.bring.ensures.lists;
      master = c.put.ensures.of;
      frames = c.in_ok-count.ensures.same.0 ∙ ap (λ (h : HeardState). h.frames) c.self.view_is ∙ ready.frames;
      room = ap length (is_kept c.self.inside.samples.len _ c.fill.new.room c.as_mut_slice-room.result.now c.self.inside.samples.items refl c.fill.auto.room c.as_mut_slice-room.ensures.len) ∙ room;
    })
    c.args.touched lists_at
    (λ told. ap (take c.in_ok-count.count) kept ∙ c.in_ok-count.ensures.told told
    ∙ ap (λ (z : Session). session_block on.sounds z t (transport_of c.args.now.now.transport) c.args.seq) c.session.ensures
    ∙ block_played g.s edits c.bring.new.self t c.bring.ensures.lists lt on c.args.touched refl refl
    (ap (λ xs. slice_index_or xs t 0) lists_at ∙ get_or-set_same old.lists.at t c.args.touched 0 (place_within g.s edits old.lists t ready.lists lt)))
