use Rattle.std.proofs.Common.{◌≡◌, ◌*◌, ◌/◌, ◌<◌, ◌^◌, ◌∙◌, All, length, refl, ap, ap₂, sym, subst}
use Rattle.ses_io.specs.Outside.{Writes}
use Rattle.ses_units.specs.Bits.{bits_of}
use Rattle.sound_model.specs.Wav.{sound_bytes}
use Rattle.route_mix.specs.Desks.{master_block, mixed_desk}
use Rattle.master_blocks.specs.State.{IsMasterOf}
use Rattle.master_blocks.specs.Rolled.{ArePut, rolled_bytes}
use Rattle.master_blocks.proofs.DeskLemmas.{desk_stays, fixed_in}
use Rattle.master_blocks.proofs.StateLemmas.{is_kept, room_stays}
use Rattle.master_blocks.proofs.RollLemmas.{all_near, few_frames, places_are, places_from, rolled}
use Rattle.master_blocks.proofs.blocks.MasterBlocks.roll.Goals as goal

pub mix-requires-clause-desk : goal.mix-requires-clause-desk
mix-requires-clause-desk g c = let of = subst (IsMasterOf g.heard.session) (sym c.self.view_is) c.requires.1.0 in
    desk_stays g.heard.session c.args.e.now.session (fixed_in g.heard.session c.args.e.now c.requires.1.1.0) c.self.inside.desk of.desk

pub mix-requires-clause-near : goal.mix-requires-clause-near
mix-requires-clause-near g c = let s = g.heard.session in let e = c.args.e.now in
    let placed : c.as_slice.result.now ≡ places_from e.transport (c.args.seq * s.block) s.block
    = places_are s _ e c.args.seq _ _ _ _ c.self.inside.form _ _ _ _ _ _ _ c.self.view_is c.requires.1.0 c.requires.1.1.0 c.session.ensures.session c.transport.ensures.transport c.from.ensures c.from-2.ensures
    c.as_slice.ensures.value c.places.auto.out c.as_mut_slice.ensures.len c.as_mut_slice.ensures.value c.self.invariant.0 c.places.ensures in
    subst (All (λ x. x < 2 ^ 41)) (sym placed)
    (all_near e.transport (c.args.seq * s.block) s.block c.transport.ensures.bounds (few_frames c.args.seq s.block c.requires.1.1.1.0 c.requires.1.0.valid.formed.limits.block.most))

pub encode-requires : goal.encode-requires
encode-requires g c = ap length c.as_mut_slice-2.ensures.value
    ∙ room_stays g.heard.session _ c.self.inside.form c.self.inside.desk c.mix.new.self _ _ c.self.view_is c.requires.1.0 c.mix.ensures.session c.self.invariant.1
    ∙ ap (λ xs. length xs * (bits_of c.self.inside.form.bits / 8)) (sym c.master.ensures)

pub invariant_of-self : goal.invariant_of-self
invariant_of-self g c = let of = subst (IsMasterOf g.heard.session) (sym c.self.view_is) c.requires.1.0 in (
  ap length (is_kept c.self.inside.places.len _ c.places.new.out c.as_mut_slice.result.now c.self.inside.places.items refl c.places.auto.out c.as_mut_slice.ensures.len)
      ∙ c.places.auto.out ∙ ap length c.as_mut_slice.ensures.value ∙ c.self.invariant.0 ∙ of.desk.block ∙ sym (c.mix.ensures.session g.heard.session of.desk).block,
  ap length (is_kept c.self.inside.bytes.len _ c.encode.new.out c.as_mut_slice-2.result.now c.self.inside.bytes.items refl c.encode.auto.out c.as_mut_slice-2.ensures.len)
      ∙ c.encode.auto.out ∙ ap length c.as_mut_slice-2.ensures.value
      ∙ room_stays g.heard.session _ c.self.inside.form c.self.inside.desk c.mix.new.self _ _ c.self.view_is c.requires.1.0 c.mix.ensures.session c.self.invariant.1,
)

pub returns-clause-writes : goal.returns-clause-writes
returns-clause-writes g c = let s = g.heard.session in let e = c.args.e.now in
    let of = subst (IsMasterOf s) (sym c.self.view_is) c.requires.1.0 in
    let placed : c.as_slice.result.now ≡ places_from e.transport (c.args.seq * s.block) s.block
    = places_are s _ e c.args.seq _ _ _ _ c.self.inside.form _ _ _ _ _ _ _ c.self.view_is c.requires.1.0 c.requires.1.1.0 c.session.ensures.session c.transport.ensures.transport c.from.ensures c.from-2.ensures
    c.as_slice.ensures.value c.places.auto.out c.as_mut_slice.ensures.len c.as_mut_slice.ensures.value c.self.invariant.0 c.places.ensures in
    let put : ArePut g.heard e.transport.generation c.args.seq c.self.inside.desk.inputs
    = subst (λ m. ArePut g.heard e.transport.generation c.args.seq m.desk.inputs) (sym c.self.view_is) c.requires.1.1.1.1 in
    let bits : bits_of c.self.inside.form.bits ≡ bits_of s.bits = ap (λ f. f.bits) of.form in
    let is : c.as_slice-block.result.now ≡ rolled_bytes g.heard e c.args.seq
    = is_kept c.self.inside.bytes.len c.as_slice-block.result.now c.encode.new.out c.as_mut_slice-2.result.now c.self.inside.bytes.items c.as_slice-block.ensures.value c.encode.auto.out c.as_mut_slice-2.ensures.len
    ∙ c.encode.ensures ∙ ap₂ sound_bytes bits (c.master.ensures ∙ ap master_block c.mix.ensures.mixed ∙ ap (λ xs. master_block (mixed_desk e.session xs c.self.inside.desk)) placed
    ∙ rolled g.heard e c.args.seq c.self.inside.desk.inputs of.valid c.session.ensures.seen.valid c.requires.1.1.0 put c.self.inside.desk refl) in
    subst (λ xs. Writes g.W.Sink.outside xs c.args.self.now.sink c.write_all.new.sink c.write_all.result) is
    (subst (λ w. Writes g.W.Sink.outside c.as_slice-block.result.now w c.write_all.new.sink c.write_all.result) (ap (λ m. m.sink) c.self.view_is) c.write_all.ensures)
