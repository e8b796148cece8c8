-- One look of a track, whatever box was spare, and what its window then shows.
use Rattle.std.proofs.Common.{◌≡◌, ℕ, List, [], ◌∷◌, ◌++◌, length, refl, ap, ◌∙◌, sym, subst, drop, Box, arith}
use Rattle.std.specs.Prelude.{Bool, true, false, not, Option, Some, None}
use Rattle.std.specs.Option.{is_some, option_map}
use Rattle.std.specs.Global.{Global}
use Rattle.std.proofs.lemmas.List.{append_assoc}
use Rattle.engine_model.specs.Items as engine
use Rattle.engine_model.specs.Items.{newest}
use Rattle.engine_model.specs.Cycle.{has_piece}
use Rattle.piece_item.specs.declared.item.Item.{Item}
use Rattle.piece_item.specs.Views.{item_of, kind_of}
use mathlib.Core.List.{IsPrefix}
use base.Growing.{prefix_trans}
use Rattle.disk_ring.specs.Receiver.{FoundEmpty, FoundMore, GoesOnOut, Receiver}
use Rattle.disk_ring.proofs.GoesOn.{goes_on_out_refl, goes_on_out_trans}
use Rattle.play_window.specs.Answers.{TakesIn}
use Rattle.play_window.specs.Laws.{Shows}
use Rattle.play_window.specs.Offers.{Offered, kinds, last_generation, last_next, piece_of}
use Rattle.play_window.specs.WindowState.{WindowState, IsWindowOf, IsNoEarlier}
use Rattle.play_window.proofs.ShowLemmas.{windows_show_the_newest}
use Rattle.track_playback.specs.declared.playback.SpareBox.{SpareBox}
use Rattle.track_playback.specs.declared.playback.SpareBox.TheVariants.{Husk, Held, Lent}
use Rattle.track_playback.specs.declared.playback.TrackPlayback.{TrackPlayback}
use Rattle.track_playback.specs.declared.play_position.PlayPosition.{PlayPosition}
use Rattle.track_playback.specs.SpareBoxes.{held, HasHusk, HasRoom, received_items, offers, HoldsTheLast}
use Rattle.track_playback.specs.Looks.{EndsWith, HasAllTold, Offers, Looks, holds, offered}
use Rattle.track_playback.proofs.ListLemmas.{past_front, all_and_last}

-- what was offered, where the items received are told by it
pub offers_are : (b : Receiver Item) (spare : SpareBox) (xs : List engine.Item) → received_items b ≡ held spare ++ xs → offers b spare ≡ xs
offers_are b spare xs e = ap (drop (length (held spare))) e ∙ past_front (held spare) xs

holds_last : (b : Receiver Item) (spare : SpareBox) (xs : List engine.Item) → received_items b ≡ held spare ++ xs → HoldsTheLast b spare
holds_last b spare xs e = e ∙ ap (λ ys. held spare ++ ys) (sym (offers_are b spare xs e))

offered_more : (at : PlayPosition) (xs : List engine.Item) (x : engine.Item) (os : List Offered) → offered at (xs ++ x ∷ []) ++ os ≡ offered at xs ++ (record { generation = at.generation; next = at.next; item = x } ∷ os)
offered_more at [] x os = refl
offered_more at (y ∷ ys) x os = ap (λ l. record { generation = at.generation; next = at.next; item = y } ∷ l) (offered_more at ys x os)

unheld : (b : Bool) → b ≡ false → not b ≡ true
unheld b e = grind (arith, e)

module _ (at : PlayPosition) (a : Receiver Item) (d : TrackPlayback) (b : Receiver Item) (w : WindowState) (spare : SpareBox) (tail : ℕ) (closed : Bool)
    (room : HasRoom d.window.samples spare) (tail_is : tail ≡ length b.received) (closed_is : closed ≡ b.ended) (ends : EndsWith at a b spare) (told : HasAllTold a b spare) where
  abbrev now : TrackPlayback
  now = record { window = w; spare = spare; tail = tail; closed = closed }

  -- a box that may be filled was spare
  pub looks_with_husk : (husk : Box Item Global) → d.spare ≡ Husk husk → Offers at a d.window b w spare → Looks at a d b now
  looks_with_husk husk was o = record {
    taken = o.taken;
    offers = offers_are b spare (o.taken ++ received_items a) o.received ∙ ap (λ h. o.taken ++ offers a h) (sym was);
    free = o.free;
    window = o.window;
    depth = o.depth;
    samples = o.samples;
    until = o.until;
    ring = o.ring;
    last = holds_last b spare (o.taken ++ received_items a) o.received;
    room = room;
    tail = tail_is;
    closed = closed_is;
    ends = ends;
    told = told;
  }

  -- a held item was in the spare box, and is offered first
  pub looks_with_item : (item husk : Box Item Global) (v : WindowState) → d.spare ≡ Held item → HoldsTheLast a d.spare → holds at (kind_of item.value.kind) ≡ false
      → TakesIn d.window (record { generation = at.generation; next = at.next; item = item_of item.value }) husk v → Offers at a v b w spare → Looks at a d b now
  looks_with_item item husk v was last free takes o = let x : engine.Item = item_of item.value in
      let first : received_items a ≡ x ∷ offers a d.spare = last ∙ ap (λ h. held h ++ offers a d.spare) was in
      let more : offers b spare ≡ (o.taken ++ x ∷ []) ++ offers a d.spare = offers_are b spare (o.taken ++ received_items a) o.received ∙ ap (λ xs. o.taken ++ xs) first
      ∙ sym (append_assoc o.taken (x ∷ []) (offers a d.spare)) in
      record {
        taken = o.taken ++ x ∷ [];
        offers = more;
        free = all_and_last (λ i. not (holds at i.kind)) o.taken x o.free (unheld (holds at x.kind) free);
        window = λ os is. subst (λ l. IsWindowOf l w) (sym (offered_more at o.taken x os)) (o.window _ (takes.offers os is));
        depth = o.depth ∙ takes.depth;
        samples = o.samples ∙ takes.samples;
        until = o.until;
        ring = o.ring;
        last = holds_last b spare (o.taken ++ received_items a) o.received;
        room = room;
        tail = tail_is;
        closed = closed_is;
        ends = ends;
        told = told;
      }

-- ---- how a look ends, by what its box is

ends_empty : (at : PlayPosition) (a b : Receiver Item) (spare : SpareBox) → HasHusk spare → b.tails ≡ a.tails ++ length b.received ∷ [] → EndsWith at a b spare
ends_empty at a b (Husk box) husk noted = noted
ends_empty at a b (Held box) husk noted = absurd husk
ends_empty at a b Lent husk noted = absurd husk

told_all : (a b : Receiver Item) (spare : SpareBox) → HasHusk spare → IsPrefix a.heard b.received → HasAllTold a b spare
told_all a b (Husk box) husk heard = heard
told_all a b (Held box) husk heard = absurd husk
told_all a b Lent husk heard = absurd husk

ends_likewise : (at : PlayPosition) (a m b : Receiver Item) (spare : SpareBox) → m.tails ≡ a.tails → EndsWith at m b spare → EndsWith at a b spare
ends_likewise at a m b (Husk box) same ends = ends ∙ ap (λ l. l ++ length b.received ∷ []) same
ends_likewise at a m b (Held box) same ends = (ends.0, ends.1 ∙ same)
ends_likewise at a m b Lent same ends = ends

told_likewise : (a m b : Receiver Item) (spare : SpareBox) → IsPrefix a.heard m.heard → HasAllTold m b spare → HasAllTold a b spare
told_likewise a m b (Husk box) more told = prefix_trans a.heard m.heard b.received more told
told_likewise a m b (Held box) more told = tt
told_likewise a m b Lent more told = told

-- the item of the spare box is still held
pub looks_at_held : (at : PlayPosition) (a : Receiver Item) (d : TrackPlayback) (item : Box Item Global) → d.spare ≡ Held item → holds at (kind_of item.value.kind) ≡ true
    → HoldsTheLast a d.spare → HasRoom d.window.samples d.spare → IsNoEarlier d.window.generation d.window.next at.generation at.next → d.tail ≡ length a.received → d.closed ≡ a.ended
    → Looks at a d a (record { window = d.window; spare = Held item; tail = d.tail; closed = d.closed })
looks_at_held at a d item was still last room until tail closed = record {
  taken = [];
  offers = ap (offers a) (sym was);
  free = refl;
  window = λ os is. is;
  depth = refl;
  samples = refl;
  until = until;
  ring = goes_on_out_refl a;
  last = subst (HoldsTheLast a) was last;
  room = subst (HasRoom d.window.samples) was room;
  tail = tail;
  closed = closed;
  ends = (still, refl);
  told = tt;
}

-- ---- a look of a box that may be filled, where the ring was asked before

-- nothing was there
pub looks_at_nothing : (at : PlayPosition) (a b : Receiver Item) (d : TrackPlayback) → HasHusk d.spare → GoesOnOut a b → FoundEmpty a (length a.received) b → HoldsTheLast a d.spare
    → HasRoom d.window.samples d.spare → IsNoEarlier d.window.generation d.window.next at.generation at.next → d.tail ≡ length a.received → d.closed ≡ a.ended → Looks at a d b d
looks_at_nothing at a b d husk on found last room until tail closed = let was = found.tails in let same : b.received ≡ a.received = ap (λ r. r.received) was in record {
  taken = [];
  offers = ap (λ r. offers r d.spare) was;
  free = refl;
  window = λ os is. is;
  depth = refl;
  samples = refl;
  until = until;
  ring = on;
  last = subst (λ r. HoldsTheLast r d.spare) (sym was) last;
  room = room;
  tail = tail ∙ ap length (sym same);
  closed = closed ∙ sym (ap (λ r. r.ended) was);
  ends = ends_empty at a b d.spare husk (ap (λ r. r.tails) was ∙ ap (λ (l : List Item). a.tails ++ length l ∷ []) (sym same));
  told = told_all a b d.spare husk (subst (IsPrefix a.heard) (sym same) found.heard);
}

-- something was, which the end was told of
pub looks_at_more : (at : PlayPosition) (a m b : Receiver Item) (d e : TrackPlayback) → GoesOnOut a m → FoundMore a m → Looks at m d b e → Looks at a d b e
looks_at_more at a m b d e on found looks = record {
  taken = looks.taken;
  offers = looks.offers ∙ ap (λ r. looks.taken ++ offers r d.spare) found.tells;
  free = looks.free;
  window = looks.window;
  depth = looks.depth;
  samples = looks.samples;
  until = looks.until;
  ring = goes_on_out_trans a m b on looks.ring;
  last = looks.last;
  room = looks.room;
  tail = looks.tail;
  closed = looks.closed;
  ends = ends_likewise at a m b e.spare (ap (λ r. r.tails) found.tells) looks.ends;
  told = told_likewise a m b e.spare on.heard looks.told;
}

-- ---- what is shown

mapped : {X Y : Type 0} (f : X → Y) (o : Option X) → is_some (option_map f o) ≡ is_some o
mapped f None = refl
mapped f (Some x) = refl

shown : (g s n : ℕ) (received : Bool) (found : Option engine.Item) → Shows g s received n found → is_some found ≡ received
shown g s n received None is = sym is
shown g s n received (Some item) is = sym is.0

-- a window shows a piece exactly where one was offered
pub shows_what_was_offered : {X : Type 0} (f : X → engine.Item) (at : PlayPosition) (w : WindowState) (found : Option X) (given : List Offered) → IsWindowOf given w → IsNoEarlier w.generation w.next at.generation at.next
    → option_map f found ≡ piece_of at.generation at.next given → is_some found ≡ has_piece at.generation at.next (kinds given)
shows_what_was_offered f at w found given is until e = let late : IsNoEarlier (last_generation given) (last_next given) at.generation at.next =
    record { generation = omega (arith, is.generation, until.generation); block = λ same. omega (arith, is.next, until.block (is.generation ∙ same)) } in
    sym (mapped f found) ∙ ap is_some e
    ∙ shown at.generation at.next (newest at.generation at.next (kinds given)) (has_piece at.generation at.next (kinds given)) (piece_of at.generation at.next given)
    (windows_show_the_newest w.depth at.generation at.next given is.order late)
