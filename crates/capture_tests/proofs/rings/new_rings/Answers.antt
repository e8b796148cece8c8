use Rattle.std.proofs.Common.{rules, ◌≡◌, ◌*◌, ◌+◌, ◌∙◌, ℕ, List, get_or, sym, ap, subst}
use Rattle.session_model.specs.declared.route.Route.{Route}
use Rattle.session_model.specs.Formed.{channels_at}
use Rattle.ses_io.specs.FixedList.{Listed}
use Rattle.disk_ring.specs.Sender.{Sender}
use Rattle.disk_ring.specs.Receiver.{Receiver}
use Rattle.piece_item.specs.declared.item.Item.{Item}
use Rattle.piece_item.specs.declared.take_block.TakeBlock.{TakeBlock}
use Rattle.butler.specs.Begins.{IsNewSender, IsNewReceiver}
use Rattle.capture_tests.specs.Bench.{AreOfTracks, SendsFirst, TakesFirst}
use Rattle.capture_tests.proofs.RingLemmas.{one_more, block_is}
use Rattle.capture_tests.proofs.rings.new_rings.Goals as goal

pub loop-t-preserved : goal.loop-t-preserved
loop-t-preserved c = let so = c.loop-t.invariant in let s = c.args.s.now in let t = c.loop-t.t in let q = c.index-routes-t.result in
    let wide : s.block * c.from.result ≡ s.block * channels_at s t =
    block_is s t c.from.result q (search rules) (c.from.ensures ∙ ap (λ (l : List Route). (get_or l t q).channels) so.routes) in
    let send = c.in_ok-send.send in let take = c.in_ok-send.take in record {
      within = search rules;
      routes = so.routes;
      sends_room = ap (λ (l : Listed (Sender Item)). l.room) c.push.ensures ∙ so.sends_room;
      takes_room = ap (λ (l : Listed (Receiver TakeBlock)). l.room) c.push-in-loop-t.ensures ∙ so.takes_room;
      sends = subst (AreOfTracks (SendsFirst s) (t + 1)) (sym (ap (λ (l : Listed (Sender Item)). l.items) c.push.ensures))
          (one_more (SendsFirst s) t c.loop-t.sends.items send so.sends (subst (λ (n : ℕ). IsNewSender s.depth n send) wide c.in_ok-send.ensures.sends));
      takes = subst (AreOfTracks (TakesFirst s) (t + 1)) (sym (ap (λ (l : Listed (Receiver TakeBlock)). l.items) c.push-in-loop-t.ensures))
          (one_more (TakesFirst s) t c.loop-t.takes.items take so.takes (subst (λ (n : ℕ). IsNewReceiver n take) wide c.in_ok-send.ensures.takes));
    }
