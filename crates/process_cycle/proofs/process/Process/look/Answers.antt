use Rattle.std.proofs.Common.{◌≡◌, length, refl, ap, ◌∙◌, sym, subst}
use Rattle.ses_io.specs.FixedList.{with_items}
use Rattle.process_cycle.specs.Looked.{rolled_by_now}
use Rattle.process_cycle.specs.Playing.{IsPlaying}
use Rattle.process_cycle.specs.Promised.{IsMastered}
use Rattle.process_cycle.proofs.PlayingLemmas.{all_played, knows_after_a_look, knows_rewritten, looked_after_a_look, looked_up_again, looks_again, mastered_after_a_look, played_again, plays_after_a_look, rewritten, shows_again}
use Rattle.process_cycle.proofs.process.Process.look.Goals as goal

pub look_at_all-requires-clause-played : goal.look_at_all-requires-clause-played
look_at_all-requires-clause-played g c = let at = g.at in let was = c.requires.1.1 in let inputs = g.I.Source.outside in
    played_again _ _ _ _ _ (sym c.as_mut_slice.ensures.items) (sym c.as_mut_slice-2.ensures.items)
    (all_played inputs at _ (subst (IsPlaying inputs at) (sym c.self.view_is) was.playing) c.args.e.now was.edition was.more _ _ (ap (λ t. t.generation) c.transport-transport.ensures.transport)
    (c.rolled_in.ensures ∙ ap (λ p. rolled_by_now p c.transport-transport.result.now.generation) (sym c.self.view_is)))

pub invariant_of-self : goal.invariant_of-self
invariant_of-self g c = let b = c.look_at_all.new.plays in let e = c.look_at_all.new.playbacks in let a = c.self.inside.ends.plays.items in let d = c.self.inside.playbacks.items in
    let long : length b ≡ length a = c.look_at_all.auto.plays ∙ ap length c.as_mut_slice.ensures.items in
    knows_rewritten (length a) (length c.self.inside.playbacks.items) b a e d long (c.look_at_all.auto.playbacks ∙ ap length c.as_mut_slice-2.ensures.items)
    (knows_after_a_look _ a d b e long (c.look_at_all.auto.playbacks ∙ ap length c.as_mut_slice-2.ensures.items) c.self.invariant
    (looks_again _ _ a _ d b b e e c.as_mut_slice.ensures.items c.as_mut_slice-2.ensures.items refl refl c.look_at_all.ensures.looks))

pub returns-clause-playing : goal.returns-clause-playing
returns-clause-playing g c = let at = g.at in let inputs = g.I.Source.outside in let was = c.requires.1.1 in let b = c.look_at_all.new.plays in let e = c.look_at_all.new.playbacks in let a = c.self.inside.ends.plays.items in let d = c.self.inside.playbacks.items in
    let long : length b ≡ length a = c.look_at_all.auto.plays ∙ ap length c.as_mut_slice.ensures.items in
    let b_is = rewritten (length a) b a long in let e_is = rewritten (length c.self.inside.playbacks.items) e d (c.look_at_all.auto.playbacks ∙ ap length c.as_mut_slice-2.ensures.items) in
    plays_after_a_look inputs at _ (subst (IsPlaying inputs at) (sym c.self.view_is) was.playing) c.args.e.now was.edition was.more _ _ (ap (λ t. t.generation) c.transport-transport.ensures.transport)
    (c.rolled_in.ensures ∙ ap (λ p. rolled_by_now p c.transport-transport.result.now.generation) (sym c.self.view_is))
    _ _ _ c.number-self-inside.ensures.number (ap length b_is ∙ long) (ap length e_is ∙ c.look_at_all.auto.playbacks ∙ ap length c.as_mut_slice-2.ensures.items)
    (looks_again _ _ a _ d b _ e _ c.as_mut_slice.ensures.items c.as_mut_slice-2.ensures.items (sym b_is) (sym e_is) c.look_at_all.ensures.looks)

pub returns-clause-looked : goal.returns-clause-looked
returns-clause-looked g c = let at = g.at in let inputs = g.I.Source.outside in let was = c.requires.1.1 in let b = c.look_at_all.new.plays in let e = c.look_at_all.new.playbacks in let a = c.self.inside.ends.plays.items in let d = c.self.inside.playbacks.items in
    let long : length b ≡ length a = c.look_at_all.auto.plays ∙ ap length c.as_mut_slice.ensures.items in
    let b_is = rewritten (length a) b a long in let e_is = rewritten (length c.self.inside.playbacks.items) e d (c.look_at_all.auto.playbacks ∙ ap length c.as_mut_slice-2.ensures.items) in
    looked_after_a_look inputs at _ (subst (IsPlaying inputs at) (sym c.self.view_is) was.playing) c.args.e.now was.edition was.more _ _ (ap (λ t. t.generation) c.transport-transport.ensures.transport)
    (c.rolled_in.ensures ∙ ap (λ p. rolled_by_now p c.transport-transport.result.now.generation) (sym c.self.view_is))
    _ _ _ c.number-self-inside.ensures.number (ap length b_is ∙ long) (ap length e_is ∙ c.look_at_all.auto.playbacks ∙ ap length c.as_mut_slice-2.ensures.items)
    (looks_again _ _ a _ d b _ e _ c.as_mut_slice.ensures.items c.as_mut_slice-2.ensures.items (sym b_is) (sym e_is) c.look_at_all.ensures.looks)
    (looked_up_again _ _ a b _ c.as_mut_slice.ensures.items (sym b_is) c.look_at_all.ensures.looked_up)

pub returns-clause-shows : goal.returns-clause-shows
returns-clause-shows g c = let b = c.look_at_all.new.plays in let e = c.look_at_all.new.playbacks in let a = c.self.inside.ends.plays.items in let d = c.self.inside.playbacks.items in
    let long : length b ≡ length a = c.look_at_all.auto.plays ∙ ap length c.as_mut_slice.ensures.items in
    shows_again _ b _ e _ (sym (rewritten (length a) b a long)) (sym (rewritten (length c.self.inside.playbacks.items) e d (c.look_at_all.auto.playbacks ∙ ap length c.as_mut_slice-2.ensures.items))) c.look_at_all.ensures.shows

pub returns-clause-looks : goal.returns-clause-looks
returns-clause-looks g c = let b = c.look_at_all.new.plays in let e = c.look_at_all.new.playbacks in let a = c.self.inside.ends.plays.items in let d = c.self.inside.playbacks.items in
    let long : length b ≡ length a = c.look_at_all.auto.plays ∙ ap length c.as_mut_slice.ensures.items in
    let b_is = rewritten (length a) b a long in let e_is = rewritten (length c.self.inside.playbacks.items) e d (c.look_at_all.auto.playbacks ∙ ap length c.as_mut_slice-2.ensures.items) in record {
      entered = c.number-self-inside.ensures.number;
      generation = ap (λ t. t.generation) c.transport-transport.ensures.transport;
      many = ap length b_is ∙ long ∙ ap (λ p. length p.ends.plays.items) c.self.view_is;
      looks = looks_again _ _ _ _ _ b _ e _ (c.as_mut_slice.ensures.items ∙ ap (λ p. p.ends.plays.items) c.self.view_is) (c.as_mut_slice-2.ensures.items ∙ ap (λ p. p.playbacks) c.self.view_is)
          (sym b_is) (sym e_is) c.look_at_all.ensures.looks;
    }

pub returns-clause-master : goal.returns-clause-master
returns-clause-master g c = λ held. let at = g.at in let inputs = g.I.Source.outside in let was = c.requires.1.1 in let b = c.look_at_all.new.plays in let e = c.look_at_all.new.playbacks in let a = c.self.inside.ends.plays.items in let d = c.self.inside.playbacks.items in
    let long : length b ≡ length a = c.look_at_all.auto.plays ∙ ap length c.as_mut_slice.ensures.items in
    let b_is = rewritten (length a) b a long in let e_is = rewritten (length c.self.inside.playbacks.items) e d (c.look_at_all.auto.playbacks ∙ ap length c.as_mut_slice-2.ensures.items) in
    mastered_after_a_look inputs at _ (subst (IsPlaying inputs at) (sym c.self.view_is) was.playing) c.args.e.now was.edition was.more _ _ (ap (λ t. t.generation) c.transport-transport.ensures.transport)
    (c.rolled_in.ensures ∙ ap (λ p. rolled_by_now p c.transport-transport.result.now.generation) (sym c.self.view_is))
    (with_items c.self.inside.ends.plays b) _ _ c.number-self-inside.ensures.number (ap length b_is ∙ long) (ap length e_is ∙ c.look_at_all.auto.playbacks ∙ ap length c.as_mut_slice-2.ensures.items)
    (looks_again _ _ a _ d b _ e _ c.as_mut_slice.ensures.items c.as_mut_slice-2.ensures.items (sym b_is) (sym e_is) c.look_at_all.ensures.looks)
    g.W.Sink.outside (subst (IsMastered g.W.Sink.outside at) (sym c.self.view_is) held)
