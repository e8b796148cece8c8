-- The index tells of each place whether its region meets the span; such a place comes behind those found.
use Rattle.std.proofs.Common.{◌<◌, ℕ, List, ◌++◌, length, sym, ap, ◌∙◌, subst, arith}
use Rattle.sound_model.specs.Regions as sound
use Rattle.arrayvec.specs.ArrayVec.{ArrayVec}
use Rattle.session_model.specs.Playlist.{places_meeting}
use Rattle.session_model.specs.Starts.{IsIndexOf}
use Rattle.session_model.proofs.SpanLemmas.{found_here, found_elsewhere, found_all, index_tells}
use Rattle.session_model.proofs.playlist.Playlist.covering.Goals as goal
use Rattle.session_model.proofs.playlist.Playlist.covering.Goals.{then-heard-place, else-heard-place}

pub loop-place-init : goal.loop-place-init
loop-place-init c = (omega (arith, ap length c.clear.ensures), ap (λ found. found ++ places_meeting c.args.self.now c.args.from c.args.frames) c.clear.ensures)

pub push-requires : goal.push-requires
push-requires c = (omega arith, omega (arith, c.len-place-end.ensures.few))

pub loop-place-preserved : goal.loop-place-preserved
loop-place-preserved c =
    let items_of : ArrayVec ℕ → List ℕ = λ v. v.items in
    let place = c.loop-place.place in
    let there : place < length c.args.self.now = omega (arith, c.loop-place-test.true, c.len-place-end.ensures.len) in
    let few : place < 256 = omega (arith, c.loop-place-test.true, c.len-place-end.ensures.few) in
    let of : IsIndexOf c.args.self.now c.self.inside.starts = subst (λ (rs : List sound.Region). IsIndexOf rs c.self.inside.starts) c.self.view_is c.self.invariant.2 in
    elim c.if-heard-place.branch [
      | then-heard-place w ↦ found_here c.args.self.now c.args.from c.args.frames _ place c.loop-place.out.items c.if-heard-place.out.items there
          (index_tells c.args.from c.args.frames place c.args.self.now c.self.inside.starts _ of there (sym (c.heard-heard.ensures.heard place few) ∙ w.if-heard-place.true))
          (ap items_of w.out-is ∙ w.push.ensures.items) c.loop-place.invariant
      | else-heard-place w ↦ found_elsewhere c.args.self.now c.args.from c.args.frames _ place c.loop-place.out.items c.if-heard-place.out.items there
          (index_tells c.args.from c.args.frames place c.args.self.now c.self.inside.starts _ of there (sym (c.heard-heard.ensures.heard place few) ∙ w.if-heard-place.false))
          (ap items_of w.out-is) c.loop-place.invariant
    ]

pub returns : goal.returns
returns c = found_all c.args.self.now c.args.from c.args.frames _ c.loop-place.place c.loop-place.out.items (omega (arith, c.loop-place-test.false, c.len-place-end.ensures.len)) c.loop-place.invariant
