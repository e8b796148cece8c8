use Rattle.std.proofs.Common.{◌≡◌, ◌∙◌, ℕ, [], refl, sym, ap, subst, arith, length}
use Rattle.session_model.specs.declared.session.Session.{Session}
use Rattle.session_model.specs.Formed.{channels_at}
use Rattle.track_render.specs.Blocks.{IsBlock}
use Rattle.read_ahead.proofs.RoomLemmas.{track_channels, whole_block, few_samples}
use Rattle.session_model.specs.Views.{track_regions}
use Rattle.audio_source.specs.Told.{source_sound}
use Rattle.piece_item.specs.declared.item.Item.{Item}
use Rattle.piece_item.specs.Silence.{zeros}
use Rattle.piece_item.specs.Views.{kind_of}
use Rattle.read_ahead.proofs.NothingLemmas.{silent_item}
use Rattle.read_ahead.proofs.sending.fill.Goals as goal

pub render-requires-clause-frames : goal.render-requires-clause-frames
render-requires-clause-frames g c = let s = c.args.e.now.session in let near = c.requires.valid.formed.limits.block.most in
    let few = few_samples s.block (channels_at s c.args.track) (track_channels s c.args.track c.requires.valid c.requires.track) near in
    let long = ap length c.fill_as-out.ensures.samples ∙ c.requires.room in let first = c.first_frame-first.ensures.near in omega (arith, few, long, first)

pub render-requires-clause-block : goal.render-requires-clause-block
render-requires-clause-block g c = let s = c.args.e.now.session in let same = c.session-session.ensures.session in
    let whole = whole_block s.block (channels_at s c.args.track) (track_channels s c.args.track c.requires.valid c.requires.track) in
    let long = ap length c.fill_as-out.ensures.samples ∙ c.requires.room in
    let room = ap (λ r. r.room) c.reader.view_is ∙ c.requires.scratch in
    subst (λ (t : Session). IsBlock (channels_at t c.args.track) c.reader.inside.scratch (length c.fill_as-out.result.now)) (sym same)
    (subst (λ (n : ℕ). IsBlock (channels_at s c.args.track) n (length c.fill_as-out.result.now)) (sym room)
    (subst (λ (n : ℕ). IsBlock (channels_at s c.args.track) s.block n) (sym long) whole))

pub returns-then-has_no_region-clause-block : goal.returns-then-has_no_region-clause-block
returns-then-has_no_region-clause-block g c = λ told. let e = c.args.e.now in
    silent_item (source_sound (g.M.Media.outside.files c.args.reader.now.media) c.args.reader.now.sources.opened) e c.args.track (kind_of c.args.kind) c.hush_as.new.self.samples.items c.requires.near
    (subst (λ (t : Session). track_regions t c.args.track ≡ []) c.session-session.ensures.session (c.if-has_no_region.ensures.0 refl))
    (ap (λ (i : Item). i.samples.items) c.hush_as.ensures ∙ ap zeros c.requires.room)
