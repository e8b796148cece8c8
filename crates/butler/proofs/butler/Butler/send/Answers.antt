use Rattle.std.proofs.Common.{List, rules, ◌≡◌, ◌∙◌, ◌++◌, take, drop, length, sym, ap, subst, refl}
use Rattle.std.specs.Prelude.{ℕ, slice_index_or}
use Rattle.disk_ring.specs.Sender.{Sender}
use Rattle.piece_item.specs.declared.item.Item.{Item}
use Rattle.read_ahead.specs.declared.supply.TrackSupply.{TrackSupply}
use Rattle.read_ahead.specs.Reader.{IsTold}
use Rattle.read_ahead.specs.AllServes.{Goes, AllAtHand, total_sent}
use Rattle.butler.specs.ButlerState.{ButlerState}
use Rattle.butler.specs.Turns.{pass_of}
use Rattle.butler.specs.Steps.{reader_of, sounds_of}
use Rattle.butler.proofs.SendOnLemmas.{goes_as, hand_as}
use Rattle.butler.proofs.StockLemmas.{rewritten, sent_stocked}
use Rattle.butler.proofs.butler.Butler.send.Goals as goal

pub returns : goal.returns
returns g c = let holds = c.self.inside.holds in let ends = c.self.inside.ends in let ps = c.as_mut_slice.result.now in let ds = c.as_mut_slice-sends.result.now in
    let qs : List TrackSupply = take (length holds.supplies.items) (c.send_all-answer.new.supplies ++ drop (length c.send_all-answer.new.supplies) holds.supplies.items) in
    let fs : List (Sender Item) = take (length ends.sends.items) (c.send_all-answer.new.sends ++ drop (length c.send_all-answer.new.sends) ends.sends.items) in
    let next : c.next_of.result ≡ slice_index_or holds.nexts.items c.args.e.now.transport.generation 0 = c.next_of.ensures ∙ ap (λ (ns : List ℕ). slice_index_or ns c.args.e.now.transport.generation 0) c.as_slice.ensures.items in
    let written : c.send_all-answer.new.supplies ≡ qs = sym (rewritten (length holds.supplies.items) c.send_all-answer.new.supplies holds.supplies.items (c.send_all-answer.auto.supplies ∙ ap length c.as_mut_slice.ensures.items)) in
    let sent : c.send_all-answer.new.sends ≡ fs = sym (rewritten (length ends.sends.items) c.send_all-answer.new.sends ends.sends.items (c.send_all-answer.auto.sends ∙ ap length c.as_mut_slice-sends.ensures.items)) in
    let goes = goes_as g.M.Media.outside c.args.e.now holds.cycles c.next_of.result (slice_index_or holds.nexts.items c.args.e.now.transport.generation 0) ps holds.supplies.items ds ends.sends.items
    c.send_all-answer.new.sends fs next c.as_mut_slice.ensures.items c.as_mut_slice-sends.ensures.items sent c.args.most c.send_all-answer.result holds.reader c.send_all-answer.new.supplies qs written c.send_all-answer.ensures.goes in
    let hand = hand_as g.M.Media.outside c.args.e.now holds.cycles c.next_of.result (slice_index_or holds.nexts.items c.args.e.now.transport.generation 0) ps holds.supplies.items ds ends.sends.items
    c.send_all-answer.new.sends fs next c.as_mut_slice.ensures.items c.as_mut_slice-sends.ensures.items sent holds.reader c.send_all-answer.new.reader c.send_all-answer.ensures.at_hand in record {
      same = search rules;
      quiet = search rules;
      busy = λ was. (
        subst (λ (b : ButlerState g.row.M.Denot). Goes (IsTold g.M.Media.outside (reader_of b)) (sounds_of g.M.Media.outside b) (pass_of c.args.e.now b) c.args.most b.supplies b.ends.sends.items c.send_all-answer.result qs fs)
            c.self.view_is goes,
        c.is_err-holds.ensures.value,
      );
      at_hand = subst (λ (b : ButlerState g.row.M.Denot). AllAtHand (pass_of c.args.e.now b) b.supplies → total_sent fs ≡ total_sent b.ends.sends.items →
          (c.send_all-answer.new.reader.media ≡ b.media) × (c.send_all-answer.new.reader.sources ≡ b.sources))
          c.self.view_is (λ ready none. let stands = hand ready none in (ap (λ z. z.media) stands, ap (λ z. z.sources) stands));
      read = search rules;
      some = search rules;
    }

pub invariant_of-self-2 : goal.invariant_of-self-2
invariant_of-self-2 g c = let holds = c.self.inside.holds in let ends = c.self.inside.ends in let ps = c.as_mut_slice.result.now in let ds = c.as_mut_slice-sends.result.now in
    let qs : List TrackSupply = take (length holds.supplies.items) (c.send_all-answer.new.supplies ++ drop (length c.send_all-answer.new.supplies) holds.supplies.items) in
    let fs : List (Sender Item) = take (length ends.sends.items) (c.send_all-answer.new.sends ++ drop (length c.send_all-answer.new.sends) ends.sends.items) in
    let written : c.send_all-answer.new.supplies ≡ qs = sym (rewritten (length holds.supplies.items) c.send_all-answer.new.supplies holds.supplies.items (c.send_all-answer.auto.supplies ∙ ap length c.as_mut_slice.ensures.items)) in
    let sent : c.send_all-answer.new.sends ≡ fs = sym (rewritten (length ends.sends.items) c.send_all-answer.new.sends ends.sends.items (c.send_all-answer.auto.sends ∙ ap length c.as_mut_slice-sends.ensures.items)) in (
      sent_stocked _ _ _ holds.supplies.items qs holds.drain ends c.self.invariant.0 c.args.most (record { items = fs; room = ends.sends.room }) c.send_all-answer.result
          (goes_as g.M.Media.outside c.args.e.now holds.cycles c.next_of.result c.next_of.result ps holds.supplies.items ds ends.sends.items c.send_all-answer.new.sends fs
          refl c.as_mut_slice.ensures.items c.as_mut_slice-sends.ensures.items sent c.args.most c.send_all-answer.result holds.reader c.send_all-answer.new.supplies qs written c.send_all-answer.ensures.goes),
      c.self.invariant.1,
      c.self.invariant.2,
      c.self.invariant.3,
    )
