use Rattle.std.proofs.Common.{◌≡◌, ◌<◌, length, set, ◌%◌, ap, ◌∙◌, refl, sym, subst, arith}
use Rattle.std.specs.Prelude.{false}
use Rattle.disk_ring.specs.Rings.{AllOfRoom}
use Rattle.piece_item.specs.Views.{kind_of}
use Rattle.play_window.specs.Offers.{is_later}
use Rattle.play_window.proofs.BoxLemmas.{rewritten, room_at}
use Rattle.play_window.proofs.KeepLemmas.{keeps, piece_parts, is_now}
use Rattle.play_window.proofs.window.Window.keep.Goals as goal

pub returns : goal.returns
returns c =
    let parts = piece_parts c.args.generation c.args.seq (kind_of c.args.item.value.kind) c.requires.piece in
    let now : is_later c.args.generation (kind_of c.args.item.value.kind) ≡ false = is_now c.args.generation c.args.seq (kind_of c.args.item.value.kind) c.requires.piece in
    let depth = ap (λ w. w.depth) c.self.view_is in
    let samples = ap (λ w. w.samples) c.self.view_is in
    let boxes = c.deref_mut.ensures.value ∙ ap (λ w. w.boxes) c.self.view_is in
    let wide : length c.args.self.now.boxes ≡ c.args.self.now.depth = omega (arith, ap length (ap (λ w. w.boxes) c.self.view_is), depth, c.self.invariant.1) in
    let some : 0 < c.args.self.now.depth = omega (arith, depth, c.self.invariant.0) in
    record {
      now = now;
      husk_samples = room_at (λ item. length item.samples.items) _ _ _ _ (subst (AllOfRoom (λ item. length item.samples.items) c.self.inside.samples) (sym c.deref_mut.ensures.value) c.self.invariant.2) c.swap.ensures.husk ∙ samples;
      depth = depth;
      samples = samples;
      generation = refl;
      next = refl;
      offers = λ offers is. keeps c.args.self.now offers is c.args.generation c.args.next c.args.item parts.0 c.args.seq parts.1.0 parts.1.1
          (record { generation = omega (arith, is.generation, c.requires.since.generation); next = λ e. omega (arith, is.next, c.requires.since.block (is.generation ∙ e)); now = now; near = c.requires.near })
          c.requires.ahead some wide
          _ depth samples refl refl (ap (λ w. w.mark) c.self.view_is)
          (rewritten c.self.inside.boxes.len c.swap.new.boxes c.self.inside.boxes.items (c.swap.auto.boxes ∙ c.deref_mut.ensures.len) ∙ c.swap.ensures.boxes ∙ ap (λ xs. set xs (c.args.seq % c.self.inside.depth) c.args.item) boxes ∙ ap (λ d. set c.args.self.now.boxes (c.args.seq % d) c.args.item) depth);
    }
