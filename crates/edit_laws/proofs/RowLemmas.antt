-- A command is refused with the first of its rules that is broken.
use Rattle.std.proofs.Common.{◌≡◌, ◌↔◌, ℕ, suc, ◌+◌, List, [], ◌∷◌, length, refl, sym, ap, subst, ◌∙◌, arith}
use Rattle.std.specs.Prelude.{Bool, true, false, not, ◌&&◌, ◌||◌, ◌==◌, nat_le, nat_lt, if◌then◌else◌, Option, Some, None, Ok, Err, IsOk, is_none, find, position}
use Rattle.std.specs.Option.{option_map_or}
use Rattle.std.specs.List.{list_any, position_or_len}
use Rattle.std.specs.Str.{bytes_eq}
use Rattle.std.proofs.lemmas.Bool.{true≢false}
use Rattle.std.proofs.lemmas.Bool.Decides.{nat_tests}
use Rattle.sound_model.specs.Regions.{Region}
use Rattle.session_model.specs.declared.session.Session.{Session}
use Rattle.session_model.specs.declared.edit.Edit.{Edit}
use Rattle.session_model.specs.declared.edit.Edit.TheVariants as edit
use Rattle.session_model.specs.Formed.{channels_at}
use Rattle.session_model.specs.Playlist.{has_id, has_region}
use Rattle.session_model.specs.Views.{track_regions}
use Rattle.engine_model.specs.Transport.{Wrap}
use Rattle.engine_model.specs.Refusals.{Edits, Points, Sends, Regions, Refusal, Limit, NoRoute, NotTrack, NotBus, NoSource, NoRegion, RegionTwice, NoInput, OnMaster, Gain, Far, LoopEmpty, NoLoop, NoPoint, NoSend, Channels, Cycle, Fades, Checked, ◌>>=◌, refused_if, found}
use Rattle.engine_model.specs.Changes.{Change}
use Rattle.engine_model.specs.Commands.{is_far, ends_far, is_loud, route_at, is_track, is_master, track_at, bus_at, sender_at, source_at, region_at, has_input, source_channels, narrows, closes, other_points, has_point, other_sends, has_send, added, change_of}
use Rattle.engine_model.specs.Editions.{Edition, apply, changed}
use Rattle.edit_laws.specs.Rows.{Row, first_broken, has_route, route_place, has_source, source_place, region_of_id, is_route, is_track_name, is_bus_name, is_sender, rows_of, all_rows}
use Rattle.edit_laws.specs.CommandLaws.{ARefusalNamesTheFirstRule, AnEditIsRefusedByTheFirstRule}

-- why a check refuses, if it does
abbrev why_of : {A : Type 0} → Checked A → Option Refusal
why_of (Ok x) = None
why_of (Err why) = Some why

record IsBy {A : Type 0} (m : Checked A) (rows : List Row) : Type 0 where
  is : why_of m ≡ first_broken rows

-- nothing more is asked
none_left : {A : Type 0} (x : A) → IsBy (Ok x) []
none_left x = record { is = refl }

-- ---- one rule after another

asked : {A : Type 0} (b : Bool) (why : Refusal) (f : Unit {0} → Checked A) (rows : List Row) → IsBy (f tt) rows → IsBy (refused_if b why >>= f) ((b, why) ∷ rows)
asked true why f rows rest = record { is = refl }
asked false why f rows rest = record { is = rest.is }

-- what is looked for is there, and is this
abbrev IsFoundAs : {A : Type 0} → Option A → Bool → A → Type 0
IsFoundAs None there x = there ≡ false
IsFoundAs (Some y) there x = (there ≡ true) × (y ≡ x)

looked_for : {A B : Type 0} (why : Refusal) (o : Option A) (there : Bool) (x : A) (f : A → Checked B) (rows : List Row) → IsFoundAs o there x → IsBy (f x) rows →
    IsBy (found why o >>= f) ((not there, why) ∷ rows)
looked_for why None there x f rows none rest = record { is = ap (λ b. if not b then Some why else first_broken rows) (sym none) }
looked_for why (Some y) there x f rows is rest = record { is = ap (λ z. why_of (f z)) is.1 ∙ rest.is ∙ ap (λ b. if not b then Some why else first_broken rows) (sym is.0) }

-- ---- lists

both_next : (m n : ℕ) → nat_lt (1 + m) (suc n) ≡ nat_lt m n
both_next m n = grind (arith, nat_tests)

none_before : (n : ℕ) → nat_lt 0 (suc n) ≡ true
none_before n = grind (arith, nat_tests)

first_is : {X : Type 0} (p : X → Bool) (xs : List X) → IsFoundAs (position p xs) (list_any p xs) (position_or_len p xs)
first_is p xs = by_place (position_or_len p xs) (nat_lt (position_or_len p xs) (length xs)) (list_any p xs) (same p xs)
  where
    same : {X : Type 0} (p : X → Bool) (xs : List X) → nat_lt (position_or_len p xs) (length xs) ≡ list_any p xs
    same p [] = refl
    same p (x ∷ xs) = by_item (p x) (same p xs)
      where
        by_item : (b : Bool) → nat_lt (position_or_len p xs) (length xs) ≡ list_any p xs →
            nat_lt (if not b then 1 + position_or_len p xs else 0) (length (x ∷ xs)) ≡ (b || list_any p xs)
        by_item true e = none_before (length xs)
        by_item false e = both_next (position_or_len p xs) (length xs) ∙ e

    by_place : (n : ℕ) (b any : Bool) → b ≡ any → IsFoundAs (if b then Some n else None) any n
    by_place n true any e = (sym e, refl)
    by_place n false any e = sym e

find_is : {X : Type 0} (p : X → Bool) (d : X) (xs : List X) → IsFoundAs (find p xs) (list_any p xs) (option_map_or (λ x. x) (find p xs) d)
find_is p d [] = refl
find_is p d (x ∷ xs) = by_item (p x) (find_is p d xs)
  where
    by_item : (b : Bool) → IsFoundAs (find p xs) (list_any p xs) (option_map_or (λ y. y) (find p xs) d) →
        IsFoundAs (if b then Some x else find p xs) (b || list_any p xs) (option_map_or (λ y. y) (if b then Some x else find p xs) d)
    by_item true rest = (refl, refl)
    by_item false rest = rest

-- ---- names

bind_again : {A B C : Type 0} (m : Checked A) (f : A → Checked B) (g : B → Checked C) → ((m >>= f) >>= g) ≡ (m >>= (λ x. f x >>= g))
bind_again (Ok x) f g = refl
bind_again (Err why) f g = refl

module _ {A : Type 0} (s : Session) (rows : List Row) where
  by_route : (name : List ℕ) (f : ℕ → Checked A) → IsBy (f (route_place s name)) rows → IsBy (route_at s name >>= f) (is_route s name rows)
  by_route name f rest = looked_for (NoRoute name) (position (λ q. bytes_eq q.name name) s.routes.items) (has_route s name) (route_place s name) f rows (first_is
      (λ q. bytes_eq q.name name) s.routes.items) rest

  by_source : (name : List ℕ) (f : ℕ → Checked A) → IsBy (f (source_place s name)) rows → IsBy (source_at s name >>= f) ((not (has_source s name), NoSource name) ∷ rows)
  by_source name f rest = looked_for (NoSource name) (position (λ d. bytes_eq d.name name) s.sources.items) (has_source s name) (source_place s name) f rows (first_is
      (λ d. bytes_eq d.name name) s.sources.items) rest

  by_region : (t id : ℕ) (f : Region → Checked A) → IsBy (f (region_of_id s t id)) rows → IsBy (region_at s t id >>= f) ((not (has_region (track_regions s t) id), NoRegion id) ∷ rows)
  by_region t id f rest = looked_for (NoRegion id) (find (has_id id) (track_regions s t)) (has_region (track_regions s t) id) (region_of_id s t id) f rows
      (find_is (has_id id) (added id 0 0 0 0 0) (track_regions s t)) rest

-- a route by its name, and one rule of it
by_kind : {A : Type 0} (s : Session) (name : List ℕ) (wrong : ℕ → Bool) (why : Refusal) (f : ℕ → Checked A) (rows : List Row) → IsBy (f (route_place s name)) rows →
    IsBy ((route_at s name >>= (λ r. refused_if (wrong r) why >>= (λ x. Ok r))) >>= f) (is_route s name ((wrong (route_place s name), why) ∷ rows))
by_kind s name wrong why f rows rest = subst (λ m. IsBy m (is_route s name ((wrong (route_place s name), why) ∷ rows)))
    (sym (bind_again (route_at s name) (λ r. refused_if (wrong r) why >>= (λ x. Ok r)) f))
    (by_route s ((wrong (route_place s name), why) ∷ rows) name (λ r. (refused_if (wrong r) why >>= (λ x. Ok r)) >>= f)
    (subst (λ m. IsBy m ((wrong (route_place s name), why) ∷ rows)) (sym (bind_again (refused_if (wrong (route_place s name)) why) (λ x. Ok (route_place s name)) f))
    (asked (wrong (route_place s name)) why (λ x. f (route_place s name)) rows rest)))

module _ {A : Type 0} (s : Session) (name : List ℕ) (f : ℕ → Checked A) (rows : List Row) where
  by_track : IsBy (f (route_place s name)) rows → IsBy (track_at s name >>= f) (is_track_name s name rows)
  by_track rest = by_kind s name (λ r. not (is_track s r)) (NotTrack name) f rows rest

  by_bus : IsBy (f (route_place s name)) rows → IsBy (bus_at s name >>= f) (is_bus_name s name rows)
  by_bus rest = by_kind s name (λ r. is_track s r) (NotBus name) f rows rest

  by_sender : IsBy (f (route_place s name)) rows → IsBy (sender_at s name >>= f) (is_sender s name rows)
  by_sender rest = by_kind s name (λ r. is_master s r) OnMaster f rows rest

-- ---- the commands

by_rows : (s : Session) (wrap : Option Wrap) (edit : Edit) → IsBy (change_of s wrap edit) (rows_of s wrap edit)
by_rows s wrap edit.Roll = (none_left _)
by_rows s wrap edit.Stop = (none_left _)
by_rows s wrap edit.Quit = (none_left _)
by_rows s wrap (edit.Recording on) = (none_left _)
by_rows s wrap (edit.Locate to) = asked (is_far to) (Far to) _ _ (none_left _)
by_rows s wrap (edit.Loop from to) = asked (is_far from) (Far from) _ _ (asked (is_far to) (Far to) _ _ (asked (nat_le to from) LoopEmpty _ _ (none_left _)))
by_rows s wrap edit.LoopOff = asked (is_none wrap) NoLoop _ _ (none_left _)
by_rows s wrap (edit.Arm track on) = by_track s track _ _ (asked (on && not (has_input s (route_place s track))) (NoInput track) _ _ (none_left _))
by_rows s wrap (edit.Solo track on) = by_track s track _ _ (none_left _)
by_rows s wrap (edit.Mute route on) = by_route s _ route _ (none_left _)
by_rows s wrap (edit.Gain route gain) = by_route s _ route _ (asked (is_loud gain) (Gain gain) _ _ (none_left _))
by_rows s wrap (edit.Pan route left right) = by_sender s route _ _ (asked (is_loud left) (Gain left) _ _ (asked (is_loud right) (Gain right) _ _ (none_left _)))
by_rows s wrap (edit.Mode route mode) = by_route s _ route _ (none_left _)
by_rows s wrap (edit.Point route place gain) = by_route s _ route _ (asked (is_far place) (Far place) _ _ (asked (is_loud gain) (Gain gain) _ _
    (asked (nat_le 1024 (other_points s (route_place s route) place)) (Limit Points) _ _ (none_left _))))
by_rows s wrap (edit.Unpoint route place) = by_route s _ route _ (asked (not (has_point s (route_place s route) place)) (NoPoint place) _ _ (none_left _))
by_rows s wrap (edit.Connect route target) = by_sender s route _ _ (by_bus s target _ _ (asked (narrows s (route_place s route) (route_place s target)) (Channels route) _ _
    (asked (closes s (route_place s route) (route_place s target)) (Cycle route) _ _ (none_left _))))
by_rows s wrap (edit.Send route target pre gain) = by_sender s route _ _ (by_bus s target _ _ (asked (is_loud gain) (Gain gain) _ _
    (asked (narrows s (route_place s route) (route_place s target)) (Channels route) _ _ (asked (closes s (route_place s route) (route_place s target)) (Cycle route) _ _
    (asked (nat_le 8 (other_sends s (route_place s route) (route_place s target))) (Limit Sends) _ _ (none_left _))))))
by_rows s wrap (edit.Unsend route target) = by_sender s route _ _ (by_route s _ target _ (asked (not (has_send s (route_place s route) (route_place s target))) (NoSend target) _ _ (none_left _)))
by_rows s wrap (edit.Add track id source start long place layer) = let t = route_place s track in by_track s track _ _
    (asked (has_region (track_regions s t) id) (RegionTwice id) _ _ (by_source s _ source _ (asked (not (source_channels s (source_place s source) == channels_at s t)) (Channels track) _ _
    (asked (ends_far start long) (Far start) _ _ (asked (ends_far place long) (Far place) _ _ (asked (nat_le 256 (length (track_regions s t))) (Limit Regions) _ _ (none_left _)))))))
by_rows s wrap (edit.Remove track id) = by_track s track _ _ (by_region s _ (route_place s track) id _ (none_left _))
by_rows s wrap (edit.Move track id place) = let r = region_of_id s (route_place s track) id in
    by_track s track _ _ (by_region s _ (route_place s track) id _ (asked (ends_far place r.long) (Far place) _ _ (none_left _)))
by_rows s wrap (edit.Trim track id start long) = let r = region_of_id s (route_place s track) id in
    by_track s track _ _ (by_region s _ (route_place s track) id _ (asked (ends_far start long) (Far start) _ _ (asked (ends_far r.at long) (Far r.at) _ _
    (asked (nat_lt long (r.fade_in + r.fade_out)) (Fades id) _ _ (none_left _)))))
by_rows s wrap (edit.Layer track id layer) = by_track s track _ _ (by_region s _ (route_place s track) id _ (none_left _))
by_rows s wrap (edit.Opaque track id on) = by_track s track _ _ (by_region s _ (route_place s track) id _ (none_left _))
by_rows s wrap (edit.RegionGain track id gain) = by_track s track _ _ (by_region s _ (route_place s track) id _ (asked (is_loud gain) (Gain gain) _ _ (none_left _)))
by_rows s wrap (edit.Fade track id fade_in fade_out) = let r = region_of_id s (route_place s track) id in
    by_track s track _ _ (by_region s _ (route_place s track) id _ (asked (nat_lt r.long (fade_in + fade_out)) (Fades id) _ _ (none_left _)))
by_rows s wrap (edit.Shape track id shape_in shape_out) = by_track s track _ _ (by_region s _ (route_place s track) id _ (none_left _))

-- ---- what that says

refused_by : {A : Type 0} (m : Checked A) (o : Option Refusal) → why_of m ≡ o → (why : Refusal) → (m ≡ Err why) ↔ (o ≡ Some why)
refused_by (Ok x) o is why = ((λ e. cc), (λ e. cc))
refused_by (Err w) o is why = ((λ e. let same : w ≡ why = cc in sym is ∙ ap (λ x. Some x) same), (λ e. let same : w ≡ why = cc in ap (λ x. Err x) same))

accepted_by : {A : Type 0} (m : Checked A) (o : Option Refusal) → why_of m ≡ o → IsOk m ↔ (o ≡ None)
accepted_by (Ok x) o is = ((λ e. sym is), (λ e. refl))
accepted_by (Err w) o is = ((λ e. absurd (true≢false (sym e))), (λ e. cc))

pub a_refusal_names_the_first_rule : ARefusalNamesTheFirstRule
a_refusal_names_the_first_rule s wrap edit = let is = (by_rows s wrap edit).is in record {
  refused = refused_by (change_of s wrap edit) (first_broken (rows_of s wrap edit)) is;
  accepted = accepted_by (change_of s wrap edit) (first_broken (rows_of s wrap edit)) is;
}

all_by_rows : (e : Edition) (edit : Edit) → IsBy (apply e edit) (all_rows e edit)
all_by_rows e edit = asked (nat_le 10000 e.number) (Limit Edits) (λ x. change_of e.session e.transport.wrap edit >>= (λ c. Ok (changed e edit c))) (rows_of e.session e.transport.wrap edit)
    (record { is = goes_on (change_of e.session e.transport.wrap edit) ∙ (by_rows e.session e.transport.wrap edit).is })
  where
    goes_on : (m : Checked Change) → why_of (m >>= (λ c. Ok (changed e edit c))) ≡ why_of m
    goes_on (Ok c) = refl
    goes_on (Err why) = refl

pub an_edit_is_refused_by_the_first_rule : AnEditIsRefusedByTheFirstRule
an_edit_is_refused_by_the_first_rule e edit = let is = (all_by_rows e edit).is in record {
  refused = refused_by (apply e edit) (first_broken (all_rows e edit)) is;
  accepted = accepted_by (apply e edit) (first_broken (all_rows e edit)) is;
}
