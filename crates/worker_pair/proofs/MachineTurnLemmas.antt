-- What the letter B of the core machine is, and what it does to a track.
use Rattle.std.proofs.Common.{◌≡◌, ◌≢◌, ℕ, zero, suc, ◌≤◌, List, [], ◌∷◌, ◌++◌, length, refl, sym, ap, subst, ◌∙◌, append-nil}
use Rattle.std.specs.Prelude.{Bool, true, false, is_none, if◌then◌else◌, reverse, find, slice_get, Option, Some, None}
use Rattle.std.proofs.lemmas.Bool.{false≢true}
use Rattle.std.proofs.lemmas.List.{reverse-append}
use Rattle.std.proofs.lemmas.Option.{none-some, same_Some}
use Rattle.session_model.specs.declared.session.Session.{Session}
use Rattle.engine_model.specs.Changes.{changed_at}
use Rattle.engine_model.specs.Items.{Kind}
use Rattle.machine_model.specs.Core.{TrackState, Core}
use Rattle.machine_model.specs.Events.{Event, Publish, EnterButler, Send, Flush, EnterProcess, Look, Capture, End, AckSend, AckTake, can, done, step, after, sent_one}
use Rattle.machine_model.specs.Letters as letters
use Rattle.machine_model.specs.Letters.{butler_begins, butler_moves, one_move, is_idle}
use Rattle.machine_laws.proofs.EventLists.{after_append, changed_slice}
use Rattle.machine_laws.proofs.SerialTurns.{is_moving, moves_so}
use Rattle.machine_laws.proofs.Tracks.{also_there, long_changed}
use Rattle.machine_laws.proofs.TurnLemmas.{begun_turn, turn_begins}
use Rattle.disk_ring.specs.Sender.{Sender}
use Rattle.disk_ring.specs.Receiver.{Receiver}
use Rattle.piece_item.specs.declared.item.Item.{Item}
use Rattle.piece_item.specs.declared.take_block.TakeBlock.{TakeBlock}
use Rattle.read_ahead.specs.Items.{kinds}
use Rattle.butler.specs.Moves.{one_of}
use Rattle.worker_pair.specs.Tied.{IsTrackOf}

-- what was found passes
pub found_passes : {X : Type 0} (p : X → Bool) (xs : List X) (x : X) → find p xs ≡ Some x → p x ≡ true
found_passes p [] x e = absurd (none-some x e)
found_passes p (y ∷ ys) x e = by (p y) refl (found_passes p ys x) e
  where
    by : (b : Bool) → p y ≡ b → (find p ys ≡ Some x → p x ≡ true) → (if b then Some y else find p ys) ≡ Some x → p x ≡ true
    by true passes rest at = subst (λ z. p z ≡ true) (same_Some y x at) passes
    by false fails rest at = rest at

-- at another place a change does nothing
changed_other : {X : Type 0} (f : X → X) (u t : ℕ) (xs : List X) → u ≢ t → slice_get (changed_at f u xs) t ≡ slice_get xs t
changed_other f u t [] other = refl
changed_other f zero zero (x ∷ xs) other = absurd (other refl)
changed_other f zero (suc t) (x ∷ xs) other = refl
changed_other f (suc u) zero (x ∷ xs) other = refl
changed_other f (suc u) (suc t) (x ∷ xs) other = changed_other f u t xs (λ same. other (ap suc same))

-- the item at a place of a list that was changed, and what it was
pub record WasAt {X : Type 0} (f : X → X) (u : ℕ) (xs : List X) (t : ℕ) (now : X) : Type 0 where
  pub was : X
  pub there : slice_get xs t ≡ Some was
  pub here : u ≡ t → now ≡ f was
  pub other : u ≢ t → now ≡ was

pub was_at : {X : Type 0} (f : X → X) (u : ℕ) (xs : List X) (t : ℕ) (now : X) → slice_get (changed_at f u xs) t ≡ Some now → WasAt f u xs t now
was_at f u xs t now at = let x = also_there (changed_at f u xs) xs t now (long_changed f u xs) at in record {
  was = x.0;
  there = x.1;
  here = λ same. same_Some now (f x.0) (sym at ∙ ap (λ k. slice_get (changed_at f k xs) t) same ∙ changed_slice f t xs x.0 x.1);
  other = λ apart. same_Some now x.0 (sym at ∙ changed_other f u t xs apart ∙ x.1);
}

module _ (s : Session) (cycles : ℕ) (c : Core) where
  -- a turn begins, and then it moves
  pub turn_moves : c.to_butler.taken ≤ length c.to_butler.sent → after s cycles c (butler_moves s cycles c) ≡ after s cycles (begun_turn c) (one_move (letters.first_move s cycles (begun_turn c)))
  turn_moves few = after_append s cycles c (butler_begins c) (one_move (letters.first_move s cycles (after s cycles c (butler_begins c))))
      ∙ ap (λ d. after s cycles d (one_move (letters.first_move s cycles d))) (turn_begins s cycles c few)

  pub turn_idles : c.to_butler.taken ≤ length c.to_butler.sent → is_idle s cycles c ≡ is_none (letters.first_move s cycles (begun_turn c))
  turn_idles few = ap (λ d. is_none (letters.first_move s cycles d)) (turn_begins s cycles c few)

  -- a turn makes no entry, acknowledges none, and leaves the process where it is
  pub record Stands (d : Core) : Type 0 where
    pub entries : d.entries ≡ c.entries
    pub playing : d.playing ≡ c.playing
    pub in_cycle : d.in_cycle ≡ c.in_cycle
    pub told_butler : d.to_butler.told ≡ c.to_butler.told
    pub to_control : d.to_control ≡ c.to_control

  stands_moved : (event : Event) → is_moving event ≡ true → Stands (step s cycles (begun_turn c) event)
  stands_moved (Send t) moving = by (can s cycles (begun_turn c) (Send t))
    where
      by : (b : Bool) → Stands (if b then done s cycles (begun_turn c) (Send t) else begun_turn c)
      by true = record { entries = refl; playing = refl; in_cycle = refl; told_butler = refl; to_control = refl }
      by false = record { entries = refl; playing = refl; in_cycle = refl; told_butler = refl; to_control = refl }
  stands_moved (Flush t) moving = by (can s cycles (begun_turn c) (Flush t))
    where
      by : (b : Bool) → Stands (if b then done s cycles (begun_turn c) (Flush t) else begun_turn c)
      by true = record { entries = refl; playing = refl; in_cycle = refl; told_butler = refl; to_control = refl }
      by false = record { entries = refl; playing = refl; in_cycle = refl; told_butler = refl; to_control = refl }
  stands_moved (Publish edit) moving = absurd (false≢true moving)
  stands_moved EnterButler moving = absurd (false≢true moving)
  stands_moved EnterProcess moving = absurd (false≢true moving)
  stands_moved (Look t) moving = absurd (false≢true moving)
  stands_moved (Capture t) moving = absurd (false≢true moving)
  stands_moved End moving = absurd (false≢true moving)
  stands_moved (AckSend side) moving = absurd (false≢true moving)
  stands_moved (AckTake side) moving = absurd (false≢true moving)

  pub turn_stands : c.to_butler.taken ≤ length c.to_butler.sent → Stands (after s cycles c (butler_moves s cycles c))
  turn_stands few = subst Stands (sym (turn_moves few)) (by (letters.first_move s cycles (begun_turn c)) refl)
    where
      by : (move : Option Event) → letters.first_move s cycles (begun_turn c) ≡ move → Stands (after s cycles (begun_turn c) (one_move move))
      by None is = record { entries = refl; playing = refl; in_cycle = refl; told_butler = refl; to_control = refl }
      by (Some event) is = stands_moved event (moves_so s cycles (begun_turn c) event is)

-- ---- one track

-- what was due was sent, or nothing was
pub sent_track : (o : Option Kind) (x : TrackState) (d f : Sender Item) (r : Receiver Item) (k : Sender TakeBlock) (c b : Receiver TakeBlock) → IsTrackOf x d r k c → kinds f.sent ≡ kinds d.sent ++ one_of o →
    length b.received ≡ length c.received → IsTrackOf (sent_one o x) f r k b
sent_track None x d f r k c b was sent same = record {
  sent = was.sent ∙ ap reverse (sym (append-nil (kinds d.sent)) ∙ sym sent);
  received = was.received;
  tails = was.tails;
  put = was.put;
  flushed = was.flushed ∙ sym same;
  heads = was.heads;
  taking = was.taking;
}
sent_track (Some item) x d f r k c b was sent same = record {
  sent = ap (λ l. item ∷ l) was.sent ∙ sym (ap reverse sent ∙ reverse-append (kinds d.sent) (item ∷ []));
  received = was.received;
  tails = was.tails;
  put = was.put;
  flushed = was.flushed ∙ sym same;
  heads = was.heads;
  taking = was.taking;
}

-- a block of the capture ring was flushed
pub flushed_track : (x : TrackState) (d f : Sender Item) (r : Receiver Item) (k : Sender TakeBlock) (c b : Receiver TakeBlock) → IsTrackOf x d r k c → kinds f.sent ≡ kinds d.sent ++ [] →
    length b.received ≡ suc (length c.received) → IsTrackOf (record x { flushed = suc x.flushed }) f r k b
flushed_track x d f r k c b was sent more = record {
  sent = was.sent ∙ ap reverse (sym (append-nil (kinds d.sent)) ∙ sym sent);
  received = was.received;
  tails = was.tails;
  put = was.put;
  flushed = ap suc was.flushed ∙ sym more;
  heads = was.heads;
  taking = was.taking;
}
