-- What one look of the process took of a track, in the words of the core machine's look-up.
use Rattle.std.proofs.Common.{◌≡◌, inl, inr, ℕ, List, [], ◌∷◌, ◌++◌, length, refl, sym, ap, subst, arith, ◌∙◌}
use Rattle.std.specs.Prelude.{◌⊎◌, Bool, true, false, ◌&&◌, not, map, reverse}
use Rattle.std.specs.List.{list_all}
use Rattle.std.proofs.lemmas.Bool.{and_parts, and_from}
use Rattle.std.proofs.lemmas.List.{append_assoc, append-nil, append_cancel_right, length-append, length-map, length-reverse, map-append, nil_from_length, reverse-append, reverse-reverse, same_from_push}
use Rattle.std.proofs.lemmas.List.Folds.{list_all-append}
use mathlib.Core.List.{IsPrefix}
use Rattle.engine_model.specs.Cycle.{is_held}
use Rattle.engine_model.specs.Items as engine
use Rattle.engine_model.specs.Items.{Kind, Piece, Settled, Blank}
use Rattle.machine_model.specs.Core.{first_is_held}
use Rattle.piece_item.specs.declared.item.Item.{Item}
use Rattle.piece_item.specs.Views.{item_of, kind_of}
use Rattle.disk_ring.specs.Receiver.{Receiver}
use Rattle.play_window.specs.Offers.{Offered, is_later, IsNear, last_generation, last_next, AreInOrder}
use Rattle.play_window.specs.WindowState.{IsNoEarlier, IsWindowOf}
use Rattle.read_ahead.specs.Items.{kinds}
use Rattle.track_playback.specs.declared.playback.SpareBox.{SpareBox}
use Rattle.track_playback.specs.declared.playback.SpareBox.TheVariants.{Husk, Held, Lent}
use Rattle.track_playback.specs.declared.playback.TrackPlayback.{TrackPlayback}
use Rattle.track_playback.specs.declared.play_position.PlayPosition.{PlayPosition}
use Rattle.track_playback.specs.Looks.{Looks, EndsWith, HasAllTold, holds, holds_none, offered}
use Rattle.track_playback.specs.Played.{IsPlayed}
use Rattle.track_playback.specs.SpareBoxes.{held, received_items, offers, HasRoom, HoldsTheLast}
use Rattle.worker_pair.proofs.WalkLemmas.{is_free}

-- ---- what was offered isn't held

-- an item that could be offered before isn't held later
pub not_held_later : (depth h n g s : ℕ) (k : Kind) → is_later h k ≡ false → IsNear depth h n k → IsNoEarlier h n g s → is_held depth g s k ≡ false
not_held_later depth h n g s Blank now near from = refl
not_held_later depth h n g s (Settled j i r) now near from = grind (arith, now, near, from.generation, from.block)
not_held_later depth h n g s (Piece t i r p) now near from = grind (arith, now, near, from.generation, from.block)

-- the offers before some that were made at this place lie no later
before_these : (at : PlayPosition) (depth : ℕ) (taken : List engine.Item) (os : List Offered) → AreInOrder depth (offered at taken ++ os) →
    IsNoEarlier (last_generation (offered at taken ++ os)) (last_next (offered at taken ++ os)) at.generation at.next → IsNoEarlier (last_generation os) (last_next os) at.generation at.next
before_these at depth [] os order from = from
before_these at depth (x ∷ taken) os order from = before_these at depth taken os order.1 (record { generation = order.0.generation; block = order.0.next })

-- so the newest offer isn't held
newest_is_free : (at : PlayPosition) (os : List Offered) → AreInOrder at.depth os → IsNoEarlier (last_generation os) (last_next os) at.generation at.next →
    first_is_held at.depth at.generation at.next (map (λ x. x.kind) (map (λ o. o.item) os)) ≡ false
newest_is_free at [] order from = refl
newest_is_free at (o ∷ os) order from = not_held_later at.depth o.generation o.next at.generation at.next o.item.kind order.0.now order.0.near from

-- ---- lists

-- a list that ends or has none
data Snoc {X : Type 0} (xs : List X) : Type 0 where
  Empty : xs ≡ [] → Snoc xs
  Pushed : (front : List X) (x : X) → xs ≡ front ++ x ∷ [] → Snoc xs

-- each list is one or the other
snoc : {X : Type 0} (xs : List X) → Snoc xs
snoc [] = Empty refl
snoc (x ∷ xs) = elim (snoc xs) as (λ q. Snoc (x ∷ xs)) [
  | Empty e ↦ Pushed [] x (ap (λ l. x ∷ l) e)
  | Pushed front y e ↦ Pushed (x ∷ front) y (ap (λ l. x ∷ l) e)
]

-- a test that each item passes, of items the other way round
all_turned : {X : Type 0} (p : X → Bool) (xs : List X) → list_all p xs ≡ true → list_all p (reverse xs) ≡ true
all_turned p [] h = refl
all_turned p (x ∷ xs) h = let parts = and_parts (p x) (list_all p xs) h in ap (list_all p) (reverse-append (x ∷ []) xs) ∙ list_all-append p (reverse xs) (x ∷ [])
    ∙ and_from (list_all p (reverse xs)) (p x && true) (all_turned p xs parts.1) (and_from (p x) true parts.0 refl)

-- of what was received, by its kinds
pub kinds_turned : (items : List Item) → map (λ x. x.kind) (reverse (map item_of items)) ≡ reverse (kinds items)
kinds_turned [] = refl
kinds_turned (x ∷ xs) = ap (map (λ y. y.kind)) (reverse-append (item_of x ∷ []) (map item_of xs)) ∙ map-append (λ y. y.kind) (reverse (map item_of xs)) (item_of x ∷ [])
    ∙ ap (λ l. l ++ kind_of x.kind ∷ []) (kinds_turned xs) ∙ sym (reverse-append (kind_of x.kind ∷ []) (kinds xs))

-- what the process doesn't hold the core machine doesn't
free_kinds : (at : PlayPosition) (items : List engine.Item) → holds_none at items ≡ true → list_all (is_free at.depth at.generation at.next) (map (λ x. x.kind) items) ≡ true
free_kinds at [] h = refl
free_kinds at (x ∷ items) h = let parts = and_parts (not (holds at x.kind)) (holds_none at items) h in
    and_from (not (holds at x.kind)) (list_all (is_free at.depth at.generation at.next) (map (λ x. x.kind) items)) parts.0 (free_kinds at items parts.1)

-- ---- how a look goes

-- the last item received was held, and still is: nothing is taken
pub record Waits (at : PlayPosition) (a b : Receiver Item) : Type 0 where
  pub first : first_is_held at.depth at.generation at.next (reverse (kinds a.received)) ≡ true
  pub received : b.received ≡ a.received
  pub tails : b.tails ≡ a.tails

-- free items are taken, all that the end was told of, and the tail is noted
pub record TakesAll (at : PlayPosition) (a b : Receiver Item) : Type 0 where
  pub first : first_is_held at.depth at.generation at.next (reverse (kinds a.received)) ≡ false
  pub free : List Kind
  pub all_free : list_all (is_free at.depth at.generation at.next) free ≡ true
  pub received : kinds b.received ≡ kinds a.received ++ free
  pub told : IsPrefix a.heard b.received
  pub tails : b.tails ≡ a.tails ++ length b.received ∷ []

-- free items are taken, and then one that is held
pub record TakesToHeld (at : PlayPosition) (a b : Receiver Item) : Type 0 where
  pub first : first_is_held at.depth at.generation at.next (reverse (kinds a.received)) ≡ false
  pub free : List Kind
  pub last : Kind
  pub all_free : list_all (is_free at.depth at.generation at.next) free ≡ true
  pub is_last : is_held at.depth at.generation at.next last ≡ true
  pub received : kinds b.received ≡ kinds a.received ++ (free ++ last ∷ [])
  pub tails : b.tails ≡ a.tails

-- a look goes in one of these ways
abbrev pub LooksUp : PlayPosition → Receiver Item → Receiver Item → Type 0
LooksUp at a b = Waits at a b ⊎ (TakesAll at a b ⊎ TakesToHeld at a b)

module _ (at : PlayPosition) (a b : Receiver Item) where
  -- the same the other way round
  turned_kinds : (taken : List engine.Item) → received_items b ≡ taken ++ received_items a → kinds b.received ≡ kinds a.received ++ reverse (map (λ x. x.kind) taken)
  turned_kinds taken is = sym (reverse-reverse (kinds b.received)) ∙ ap reverse (sym (kinds_turned b.received) ∙ ap (map (λ x. x.kind)) is ∙ map-append (λ x. x.kind) taken (received_items a)
      ∙ ap (λ l. map (λ x. x.kind) taken ++ l) (kinds_turned a.received)) ∙ reverse-append (map (λ x. x.kind) taken) (reverse (kinds a.received))
      ∙ ap (λ l. l ++ reverse (map (λ x. x.kind) taken)) (reverse-reverse (kinds a.received))

  -- free items that follow one that wasn't held, and how the look ended
  pub goes_on : (taken : List engine.Item) (spare : SpareBox) → first_is_held at.depth at.generation at.next (reverse (kinds a.received)) ≡ false → holds_none at taken ≡ true →
      received_items b ≡ held spare ++ (taken ++ received_items a) → EndsWith at a b spare → HasAllTold a b spare → LooksUp at a b
  goes_on taken (Husk box) first free is ends told = inr (inl (record {
    first = first;
    free = reverse (map (λ x. x.kind) taken);
    all_free = all_turned (is_free at.depth at.generation at.next) (map (λ x. x.kind) taken) (free_kinds at taken free);
    received = turned_kinds taken is;
    told = told;
    tails = ends;
  }))
  goes_on taken (Held box) first free is ends told = inr (inr (record {
    first = first;
    free = reverse (map (λ x. x.kind) taken);
    last = kind_of box.value.kind;
    all_free = all_turned (is_free at.depth at.generation at.next) (map (λ x. x.kind) taken) (free_kinds at taken free);
    is_last = ends.0;
    received = turned_kinds (item_of box.value ∷ taken) is ∙ ap (λ l. kinds a.received ++ l) (reverse-append (kind_of box.value.kind ∷ []) (map (λ x. x.kind) taken));
    tails = ends.1;
  }))
  goes_on taken Lent first free is ends told = absurd ends

  -- where an item was held before, and nothing else was taken
  rests : (more : List Item) (x : engine.Item) (os : List engine.Item) (spare : SpareBox) → received_items a ≡ x ∷ os → a.received ++ more ≡ b.received →
      reverse (map item_of more) ++ x ∷ [] ≡ held spare → EndsWith at a b spare → Waits at a b
  rests more x os (Husk box) was is one ends = absurd (let long = ap length one in omega (arith, long, length-append (reverse (map item_of more)) (x ∷ [])))
  rests more x os (Held box) was is one ends = record {
    first = subst (λ l. first_is_held at.depth at.generation at.next l ≡ true) (sym (ap (map (λ x. x.kind)) was) ∙ kinds_turned a.received)
        (ap (λ y. is_held at.depth at.generation at.next y.kind) (same_from_push (reverse (map item_of more)) [] x (item_of box.value) one).1 ∙ ends.0);
    received = sym is ∙ ap (λ l. a.received ++ l) none_more ∙ append-nil a.received;
    tails = ends.1;
  }
    where
      none_more : more ≡ []
      none_more = let long = ap length one in nil_from_length more
          (omega (arith, long, length-append (reverse (map item_of more)) (x ∷ []), length-reverse (map item_of more), length-map more item_of))
  rests more x os Lent was is one ends = absurd ends

  -- where an item was held before
  from_held : (more : List Item) (x : engine.Item) (os taken : List engine.Item) (spare : SpareBox) → received_items a ≡ x ∷ os → a.received ++ more ≡ b.received →
      received_items b ≡ held spare ++ (taken ++ os) → holds_none at taken ≡ true → EndsWith at a b spare → HasAllTold a b spare → LooksUp at a b
  from_held more x os taken spare was is got free ends told = elim (snoc taken) [
    | Empty e ↦ inl (rests more x os spare was is (both ∙ ap (λ l. held spare ++ l) e ∙ append-nil (held spare)) ends)
    | Pushed front y e ↦ (let same = same_from_push (reverse (map item_of more)) (held spare ++ front) x y (both ∙ ap (λ l. held spare ++ l) e ∙ sym (append_assoc (held spare) front (y ∷ []))) in
        let parts = and_parts (holds_none at front) (not (holds at y.kind) && true) (sym (list_all-append (λ z. not (holds at z.kind)) front (y ∷ [])) ∙ sym (ap (holds_none at) e) ∙ free) in
        goes_on front spare (first_free y same.1 (and_parts (not (holds at y.kind)) true parts.1).0) parts.0
        (got ∙ ap (λ l. held spare ++ l) (ap (λ l. l ++ os) e ∙ append_assoc front (y ∷ []) os ∙ ap (λ l. front ++ l) (ap (λ z. z ∷ os) (sym same.1) ∙ sym was))) ends told)
  ]
    where
      both : reverse (map item_of more) ++ x ∷ [] ≡ held spare ++ taken
      both = append_cancel_right (reverse (map item_of more) ++ x ∷ []) (held spare ++ taken) os (append_assoc (reverse (map item_of more)) (x ∷ []) os
          ∙ ap (λ l. reverse (map item_of more) ++ l) (sym was) ∙ sym (reverse-append (map item_of a.received) (map item_of more)) ∙ ap reverse (sym (map-append item_of a.received more))
          ∙ ap (λ l. reverse (map item_of l)) is ∙ got ∙ sym (append_assoc (held spare) taken os))

      first_free : (y : engine.Item) → x ≡ y → not (holds at y.kind) ≡ true → first_is_held at.depth at.generation at.next (reverse (kinds a.received)) ≡ false
      first_free y same free_now = subst (λ l. first_is_held at.depth at.generation at.next l ≡ false) (sym (ap (map (λ z. z.kind)) was) ∙ kinds_turned a.received)
          (ap (λ z. holds at z.kind) same ∙ isn't (holds at y.kind) free_now)
        where
          isn't : (b : Bool) → not b ≡ true → b ≡ false
          isn't false e = refl
          isn't true e = absurd cc

  -- a look, by the spare boxes before and after it
  by_spare : (d e : TrackPlayback) (was : SpareBox) → d.spare ≡ was → HoldsTheLast a was → first_is_held at.depth at.generation at.next (map (λ x. x.kind) (offers a was)) ≡ false →
      (taken : List engine.Item) → received_items b ≡ held e.spare ++ (taken ++ offers a was) → holds_none at taken ≡ true → IsPrefix a.received b.received → EndsWith at a b e.spare →
      HasAllTold a b e.spare → (samples : ℕ) → HasRoom samples was → LooksUp at a b
  by_spare d e (Husk box) same last first taken got free more ends told samples room = goes_on taken e.spare
      (subst (λ l. first_is_held at.depth at.generation at.next l ≡ false) (sym (ap (map (λ x. x.kind)) last) ∙ kinds_turned a.received) first) free
      (got ∙ ap (λ l. held e.spare ++ (taken ++ l)) (sym last)) ends told
  by_spare d e (Held box) same last first taken got free more ends told samples room =
      from_held more.0 (item_of box.value) (offers a (Held box)) taken e.spare last more.1 got free ends told
  by_spare d e Lent same last first taken got free more ends told samples room = absurd room

-- **One look of a track that was played up to a place no later**: it waits, or takes all, or up to an item that is held.
pub looks_up : (old at : PlayPosition) (samples : ℕ) (a b : Receiver Item) (d e : TrackPlayback) → old.depth ≡ at.depth → IsPlayed old samples a d → Looks at a d b e → LooksUp at a b
looks_up old at samples a b d e deep was looks = by_spare at a b d e d.spare refl was.last
    (subst (λ l. first_is_held at.depth at.generation at.next (map (λ x. x.kind) l) ≡ false) was.shows.items (newest_is_free at given (subst (λ n. AreInOrder n given) (was.window_depth ∙ deep) was.shows.window.order) early))
    looks.taken (looks.last ∙ ap (λ l. held e.spare ++ l) looks.offers) looks.free looks.ring.received looks.ends looks.told samples was.spare
  where
    given : List Offered
    given = was.shows.given

    now : IsWindowOf (offered at looks.taken ++ given) e.window
    now = looks.window given was.shows.window

    early : IsNoEarlier (last_generation given) (last_next given) at.generation at.next
    early = before_these at e.window.depth looks.taken given now.order (record {
      generation = omega (arith, now.generation, looks.until.generation);
      block = λ same. omega (arith, now.next, looks.until.block (now.generation ∙ same));
    })
