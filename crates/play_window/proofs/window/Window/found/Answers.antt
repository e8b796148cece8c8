use Rattle.std.proofs.Common.{ℕ, length, ◌%◌, ap, ◌∙◌, sym, subst}
use Rattle.std.specs.Prelude.{slice_get}
use Rattle.disk_ring.specs.Rings.{AllOfRoom}
use Rattle.play_window.specs.WindowState.{piece_in}
use Rattle.play_window.proofs.window.Window.found.Goals as goal

pub returns-clause-piece : goal.returns-clause-piece
returns-clause-piece c =
    let boxes = c.deref.ensures.value ∙ ap (λ w. w.boxes) c.self.view_is in
    c.look.ensures.piece ∙ ap (λ xs. piece_in c.args.generation c.args.seq (slice_get xs (c.args.seq % c.self.inside.depth))) boxes
    ∙ ap (λ n. piece_in c.args.generation c.args.seq (slice_get c.args.self.now.boxes (c.args.seq % n))) (ap (λ w. w.depth) c.self.view_is)

pub returns-clause-samples : goal.returns-clause-samples
returns-clause-samples c = c.look.ensures.room c.args.self.now.samples (subst (AllOfRoom (λ item. length item.samples.items) c.args.self.now.samples) (sym c.deref.ensures.value)
    (subst (λ (n : ℕ). AllOfRoom (λ item. length item.samples.items) n c.self.inside.boxes.items) (ap (λ w. w.samples) c.self.view_is) c.self.invariant.2))
