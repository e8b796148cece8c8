-- Only a piece of this generation whose block isn't passed is kept.
use Rattle.std.proofs.Common.{◌<◌, ap, sym, ◌∙◌, arith, ◌⊎◌, inl, inr}
use Rattle.piece_item.specs.declared.item.Item.{Item}
use Rattle.piece_item.specs.Views.{kind_of}
use Rattle.play_window.specs.Offers.{is_later, is_piece_of}
use Rattle.play_window.proofs.GivenLemmas.{is_kept}
use Rattle.play_window.proofs.MarkLemmas.{marked}
use Rattle.play_window.proofs.PassLemmas.{is_past, is_this, passes}
use Rattle.play_window.proofs.window.Window.take_in.Goals as goal
use Rattle.play_window.proofs.window.Window.take_in.Goals.{then-of-generation-via-then-of-generation, then-of-generation-via-else-of-generation+then-seq-next}

pub returns-then-of-generation : goal.returns-then-of-generation
returns-then-of-generation c = let w = c.args.self.now in let g = c.args.generation in let n = c.args.next in let piece = c.in-Piece in
    let kind = ap (λ (x : Item). kind_of x.kind) (sym c.deref.ensures) ∙ ap kind_of piece.is in
    let past : (piece.of < g) ⊎ (piece.seq < n) = elim c.then-of-generation.branch [
      | then-of-generation-via-then-of-generation v ↦ inl v.if-of-generation.true
      | then-of-generation-via-else-of-generation+then-seq-next v ↦ inr v.if-seq-next.true
    ] in
    passes w c.pass.new.self g n 0 c.args.item c.pass.result c.requires.since c.requires.near c.requires.now c.requires.samples
    (ap (is_kept g n) kind ∙ is_past g n piece.of piece.seq past) (ap (λ k. marked k w.mark) kind ∙ omega arith) c.pass.ensures.noted c.pass.ensures.back

pub keep-requires-clause-near : goal.keep-requires-clause-near
keep-requires-clause-near c = c.requires.near

pub keep-requires-clause-piece : goal.keep-requires-clause-piece
keep-requires-clause-piece c = let g = c.args.generation in let kind = ap (λ (x : Item). kind_of x.kind) (sym c.deref.ensures) ∙ ap kind_of c.in-Piece.is in
    ap (is_piece_of g c.in-Piece.seq) kind ∙ is_this g c.in-Piece.seq c.in-Piece.of c.if-of-generation.false (ap (is_later g) (sym kind) ∙ c.requires.now)

pub returns-else-seq-next : goal.returns-else-seq-next
returns-else-seq-next c = c.keep.ensures

pub returns-in-Settled : goal.returns-in-Settled
returns-in-Settled c = let w = c.args.self.now in let g = c.args.generation in let n = c.args.next in
    let kind = ap (λ (x : Item). kind_of x.kind) (sym c.deref.ensures) ∙ ap kind_of c.in-Settled.is in
    passes w c.pass-in-Settled.new.self g n c.in-Settled.edition c.args.item c.pass-in-Settled.result c.requires.since c.requires.near c.requires.now c.requires.samples
    (ap (is_kept g n) kind) (ap (λ k. marked k w.mark) kind) c.pass-in-Settled.ensures.noted c.pass-in-Settled.ensures.back

pub returns-in-Blank : goal.returns-in-Blank
returns-in-Blank c = let w = c.args.self.now in let g = c.args.generation in let n = c.args.next in
    let kind = ap (λ (x : Item). kind_of x.kind) (sym c.deref.ensures) ∙ ap kind_of c.in-Blank.is in
    passes w c.pass-in-Blank.new.self g n 0 c.args.item c.pass-in-Blank.result c.requires.since c.requires.near c.requires.now c.requires.samples
    (ap (is_kept g n) kind) (ap (λ k. marked k w.mark) kind ∙ omega arith) c.pass-in-Blank.ensures.noted c.pass-in-Blank.ensures.back
