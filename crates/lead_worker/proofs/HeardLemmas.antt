-- Why replies that are true of the acknowledgements that were taken are true of all that were sent, and of the journal; and stay so.
use Rattle.std.proofs.Common.{◌≡◌, ℕ, ◌<◌, ◌-◌, List, [], ◌∷◌, refl, sym, ap, subst, ◌∙◌}
use Rattle.std.specs.Prelude.{Bool, true, false, ◌&&◌, ◌||◌, ◌==◌, nat_le, nat_lt, All, slice_get, reverse}
use Rattle.std.specs.List.{list_all, list_any}
use Rattle.std.specs.Option.{option_map_or}
use Rattle.std.proofs.lemmas.Bool.{false≢true, and_parts, eqb-true, lt-ltb}
use Rattle.std.proofs.lemmas.List.{reverse-append}
use Rattle.std.proofs.lemmas.List.Elements.{All-head, All-tail}
use Rattle.std.proofs.lemmas.List.Folds.{list_all-append, list_any-append}
use mathlib.Core.List.{IsPrefix}
use Rattle.engine_model.specs.Due.{Ack}
use Rattle.engine_model.specs.Journal.{Entry}
use Rattle.engine_model.specs.Replies.{Reply, Accepted, Refused, LineRefused, Done, Synced, NotSynced, is_acknowledged}
use Rattle.lead_worker.specs.Heard.{HeardIsTrue, IsOfItsEntry, is_heard}

both : (x y : Bool) → x ≡ true → y ≡ true → (x && y) ≡ true
both x y one two = ap (λ b. b && y) one ∙ two

either : (x y : Bool) → x ≡ true → (x || y) ≡ true
either x y one = ap (λ b. b || y) one

-- ---- the entry that is named

module _ (journal : List Entry) (k entry : ℕ) where
  abbrev names : Ack → Bool
  names a = (a.cycle == entry) && nat_le k a.settled

  abbrev stands : Bool
  stands = nat_lt 0 entry && option_map_or (λ e. nat_le k e.settled) (slice_get journal (entry - 1)) false

  by_its_entry : (a : Ack) → IsOfItsEntry journal a → names a ≡ true → stands ≡ true
  by_its_entry a of is = let parts = and_parts (a.cycle == entry) (nat_le k a.settled) is in let same = eqb-true a.cycle entry parts.0 in
      both (nat_lt 0 entry) (option_map_or (λ e. nat_le k e.settled) (slice_get journal (entry - 1)) false) (lt-ltb 0 entry (subst (λ n. 0 < n) same of.0))
      (ap (λ n. option_map_or (λ e. nat_le k e.settled) (slice_get journal (n - 1)) false) (sym same) ∙ ap (λ o. option_map_or (λ e. nat_le k e.settled) o false) of.1.1 ∙ ap (nat_le k) (sym of.1.2) ∙ parts.1)

  named_stands : (acks : List Ack) → All (IsOfItsEntry journal) acks → list_any names acks ≡ true → stands ≡ true
  named_stands [] of none = absurd (false≢true none)
  named_stands (a ∷ acks) of some = by (names a) refl (named_stands acks (All-tail (IsOfItsEntry journal) a acks of))
    where
      by : (b : Bool) → names a ≡ b → (list_any names acks ≡ true → stands ≡ true) → stands ≡ true
      by true is later = by_its_entry a (All-head (IsOfItsEntry journal) a acks of) is
      by false is later = later (ap (λ b. b || list_any names acks) (sym is) ∙ some)

-- ---- none of them

all_reversed : (p : Ack → Bool) (acks : List Ack) → list_all p acks ≡ true → list_all p (reverse acks) ≡ true
all_reversed p [] all = refl
all_reversed p (a ∷ acks) all = let parts = and_parts (p a) (list_all p acks) all in
    ap (list_all p) (reverse-append (a ∷ []) acks) ∙ list_all-append p (reverse acks) (a ∷ [])
    ∙ both (list_all p (reverse acks)) (p a && true) (all_reversed p acks parts.1) (both (p a) true parts.0 refl)

-- ---- all replies

module _ (journal : List Entry) (sent received : List Ack) (ended : Bool) (of : All (IsOfItsEntry journal) sent) (begins : IsPrefix received sent) (whole : ended ≡ true → received ≡ sent) where
  one_is_true : (reply : Reply) → is_heard received ended reply ≡ true → is_acknowledged (reverse sent) journal reply ≡ true
  one_is_true (Accepted k) heard = refl
  one_is_true (Refused why) heard = refl
  one_is_true (LineRefused why) heard = refl
  one_is_true Done heard = refl
  one_is_true (Synced k entry) heard = named_stands journal k entry sent of (ap (list_any (λ a. (a.cycle == entry) && nat_le k a.settled)) (sym begins.1)
      ∙ list_any-append (λ a. (a.cycle == entry) && nat_le k a.settled) received begins.0 ∙ either (list_any (λ a. (a.cycle == entry) && nat_le k a.settled) received) (list_any (λ a. (a.cycle == entry) && nat_le k a.settled) begins.0) heard)
  one_is_true (NotSynced k) heard = let parts = and_parts ended (list_all (λ a. nat_lt a.settled k) received) heard in
      all_reversed (λ a. nat_lt a.settled k) sent (subst (λ l. list_all (λ a. nat_lt a.settled k) l ≡ true) (whole parts.0) parts.1)

  all_are_true : (replies : List Reply) → list_all (is_heard received ended) replies ≡ true → list_all (is_acknowledged (reverse sent) journal) replies ≡ true
  all_are_true [] heard = refl
  all_are_true (r ∷ replies) heard = let parts = and_parts (is_heard received ended r) (list_all (is_heard received ended) replies) heard in
      both (is_acknowledged (reverse sent) journal r) (list_all (is_acknowledged (reverse sent) journal) replies) (one_is_true r parts.0) (all_are_true replies parts.1)

pub heard_is_true : HeardIsTrue
heard_is_true journal sent received ended replies of begins whole heard = all_are_true journal sent received ended of begins whole replies heard

-- ---- more is taken

module _ (old new : List Ack) (was is : Bool) (more : IsPrefix old new) (stands : was ≡ true → (is ≡ true) × (new ≡ old)) where
  one_stays : (reply : Reply) → is_heard old was reply ≡ true → is_heard new is reply ≡ true
  one_stays (Accepted k) heard = refl
  one_stays (Refused why) heard = refl
  one_stays (LineRefused why) heard = refl
  one_stays Done heard = refl
  one_stays (Synced k entry) heard = ap (list_any (λ a. (a.cycle == entry) && nat_le k a.settled)) (sym more.1)
      ∙ list_any-append (λ a. (a.cycle == entry) && nat_le k a.settled) old more.0 ∙ either (list_any (λ a. (a.cycle == entry) && nat_le k a.settled) old) (list_any (λ a. (a.cycle == entry) && nat_le k a.settled) more.0) heard
  one_stays (NotSynced k) heard = let parts = and_parts was (list_all (λ a. nat_lt a.settled k) old) heard in let so = stands parts.0 in
      both is (list_all (λ a. nat_lt a.settled k) new) so.0 (ap (list_all (λ a. nat_lt a.settled k)) so.1 ∙ parts.1)

  -- **what was true of them stays so**
  pub heard_stays : (replies : List Reply) → list_all (is_heard old was) replies ≡ true → list_all (is_heard new is) replies ≡ true
  heard_stays [] heard = refl
  heard_stays (r ∷ replies) heard = let parts = and_parts (is_heard old was r) (list_all (is_heard old was) replies) heard in
      both (is_heard new is r) (list_all (is_heard new is) replies) (one_stays r parts.0) (heard_stays replies parts.1)
