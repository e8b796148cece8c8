-- A list of sends with one written over another, put behind all others, or taken out.
use Rattle.std.proofs.Common.{◌≡◌, ℕ, zero, suc, ◌≤◌, ◌<◌, List, [], ◌∷◌, ◌++◌, length, filter, position, remove, set, get_or, refl, sym, ap, ◌∙◌, arith}
use Rattle.std.specs.Prelude.{Bool, true, false, not, ◌==◌, nat_lt, Some, None, slice_get}
use Rattle.std.specs.Option.{option_map_or}
use Rattle.std.specs.List.{position_or_len}
use Rattle.std.proofs.lemmas.Bool.{ltb-false}
use Rattle.std.proofs.lemmas.List.{length-set, same_from_push}
use Rattle.std.proofs.lemmas.List.Quantifiers.{position-Some}
use Rattle.std.proofs.lemmas.List.Sums.{fails_before_first}
use Rattle.sound_laws.proofs.Cases.{by_test}
use Rattle.ses_io.specs.FixedList.{Listed, with_items}
use Rattle.ses_io.proofs.Lists.{with_items-same}
use Rattle.session_model.specs.declared.route.SendLink.{SendLink}
use Rattle.session_model.specs.declared.route.Route.{Route}
use Rattle.session_model.specs.declared.session.Session.{Session}
use Rattle.session_model.specs.Formed.{IsFormed}
use Rattle.engine_model.specs.Changes.{with_send, without_send}
use Rattle.engine_model.specs.Commands.{other_sends}
use Rattle.edit_laws.proofs.SendLemmas.{few_with_send}

-- where no item has a position, none passes
none_passes : {X : Type 0} (p : X → Bool) (xs : List X) → position p xs ≡ None → (k : ℕ) (d : X) → k < length xs → p (get_or xs k d) ≡ false
none_passes p xs none k d within = by_test (nat_lt (position_or_len p xs) (length xs))
    (λ t. absurd (found t))
    (λ t. let past : length xs ≤ position_or_len p xs = ltb-false (position_or_len p xs) (length xs) t in fails_before_first p xs k d (omega arith))
  where
    found : nat_lt (position_or_len p xs) (length xs) ≡ true → ⊥
    found t = cc (rw t at none)

-- ---- a send more

with_send-set : (link : SendLink) (ls : List SendLink) (i : ℕ) (d : SendLink) → i < length ls → ((get_or ls i d).to == link.to) ≡ true →
    ((k : ℕ) → k < i → ((get_or ls k d).to == link.to) ≡ false) → with_send link ls ≡ set ls i link
with_send-set link [] i d within here before = absurd (omega arith)
with_send-set link (l ∷ ls) zero d within here before = rw here refl
with_send-set link (l ∷ ls) (suc i) d within here before = let other : (l.to == link.to) ≡ false = before 0 (omega arith) in
    rw other (ap (λ xs. l ∷ xs) (with_send-set link ls i d (omega arith) here (λ k h. before (suc k) (omega arith))))

with_send-push : (link : SendLink) (ls : List SendLink) → ((k : ℕ) (d : SendLink) → k < length ls → ((get_or ls k d).to == link.to) ≡ false) → with_send link ls ≡ ls ++ link ∷ []
with_send-push link [] none = refl
with_send-push link (l ∷ ls) none = let other : (l.to == link.to) ≡ false = none 0 l (omega arith) in
    rw other (ap (λ xs. l ∷ xs) (with_send-push link ls (λ k d h. none (suc k) d (omega arith))))

-- what is written over the send to the same route
pub put_over : (link : SendLink) (list : Listed SendLink) (lent : List SendLink) (i : ℕ) → lent ≡ list.items → position (λ l. l.to == link.to) list.items ≡ Some i →
    with_items list (set lent i link) ≡ record list { items = with_send link list.items }
put_over link list lent i same at = let found = position-Some (λ (l : SendLink). l.to == link.to) list.items i link at in
    with_items-same list (set lent i link) (length-set lent i link ∙ ap length same) ∙ ap (λ xs. record list { items = xs })
    (ap (λ xs. set xs i link) same ∙ sym (with_send-set link list.items i link found.0 found.1 (λ k h. found.2 k h)))

-- what is put behind all others, where none leads to the same route
pub put_last : (link : SendLink) (ls : List SendLink) → position (λ l. l.to == link.to) ls ≡ None → with_send link ls ≡ ls ++ link ∷ []
put_last link ls none = with_send-push link ls (none_passes (λ l. l.to == link.to) ls none)

-- in a valid session it has room, where fewer than 8 lead elsewhere
pub send_fits : (s : Session) (i : ℕ) (link : SendLink) (q : Route) → IsFormed s → slice_get s.routes.items i ≡ Some q → other_sends s i link.to < 8 →
    length (with_send link q.sends.items) ≤ q.sends.room
send_fits s i link q formed here room = let route = formed.routes i q here in omega (arith, route.room, few_with_send link q.sends.items route.few others)
  where
    others : length (filter (λ l. not (l.to == link.to)) q.sends.items) < 8
    others = omega (arith, ap (λ o. option_map_or (λ (x : Route). length (filter (λ l. not (l.to == link.to)) x.sends.items)) o 0) here, room)

-- ---- a send less

without_send-remove : (to : ℕ) (ls : List SendLink) (i : ℕ) (d : SendLink) → i < length ls → ((get_or ls i d).to == to) ≡ true → without_send to (remove ls i) ≡ without_send to ls
without_send-remove to [] i d within here = absurd (omega arith)
without_send-remove to (l ∷ ls) zero d within here = rw here refl
without_send-remove to (l ∷ ls) (suc i) d within here = by_test (l.to == to)
    (λ e. rw e (without_send-remove to ls i d (omega arith) here))
    (λ e. rw e (ap (λ xs. l ∷ xs) (without_send-remove to ls i d (omega arith) here)))

without_send-none : (to : ℕ) (ls : List SendLink) → ((k : ℕ) (d : SendLink) → k < length ls → ((get_or ls k d).to == to) ≡ false) → without_send to ls ≡ ls
without_send-none to [] none = refl
without_send-none to (l ∷ ls) none = let other : (l.to == to) ≡ false = none 0 l (omega arith) in
    rw other (ap (λ xs. l ∷ xs) (without_send-none to ls (λ k d h. none (suc k) d (omega arith))))

-- one to the route was moved to the end and taken
pub taken : (to : ℕ) (list : Listed SendLink) (lent new left : List SendLink) (last : SendLink) (i : ℕ) → lent ≡ list.items → position (λ l. l.to == to) list.items ≡ Some i →
    length new ≡ length lent → ((d : SendLink) → new ≡ remove lent i ++ get_or lent i d ∷ []) → (with_items list new).items ≡ left ++ last ∷ [] → without_send to left ≡ without_send to list.items
taken to list lent new left last i same at long moved popped = let found = position-Some (λ (l : SendLink). l.to == to) list.items i last at in
    ap (without_send to) ((same_from_push left (remove list.items i) last (get_or list.items i last) (sym popped ∙ back ∙ moved last
    ∙ ap (λ xs. remove xs i ++ get_or xs i last ∷ []) same)).0)
    ∙ without_send-remove to list.items i last found.0 found.1
  where
    back : (with_items list new).items ≡ new
    back = ap (λ (l : Listed SendLink). l.items) (with_items-same list new (long ∙ ap length same))

-- none leads to the route
pub none_left : (to : ℕ) (ls : List SendLink) → position (λ l. l.to == to) ls ≡ None → without_send to ls ≡ ls
none_left to ls none = without_send-none to ls (none_passes (λ l. l.to == to) ls none)

-- the items are others, and the room is the same
pub same_list : (list old : Listed SendLink) (f : List SendLink → List SendLink) → list.items ≡ f old.items → list.room ≡ old.room → list ≡ record old { items = f old.items }
same_list list old f items room = ap (λ xs. record list { items = xs }) items ∙ ap (λ (n : ℕ). record old { items = f old.items; room = n }) room
