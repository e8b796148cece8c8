-- A process goes on playing over a look of all tracks: each is looked at, what it promises stands, and so does its master.
use Rattle.std.proofs.Common.{◌≡◌, ◌≢◌, ℕ, ◌<◌, ◌≤◌, List, [], ◌++◌, length, refl, ap, ◌∙◌, sym, subst, le_refl, slice_index_or, take, drop, arith}
use Rattle.std.specs.Prelude.{Bool, ◌==◌, if◌then◌else◌, true, nat_le, map, reverse, slice_get, Some}
use Rattle.std.specs.List.{list_all}
use Rattle.std.specs.Option.{option_map}
use Rattle.std.proofs.lemmas.List.{length-append, map-append, reverse-append, length-map}
use Rattle.std.proofs.lemmas.Option.{slice_get_within, get_or_from_slice_get, slice_get-map, same_Some}
use Rattle.std.proofs.lemmas.Grind.{common_steps}
use mathlib.Core.List.{IsPrefix}
use mathlib.Core.Logic.{dite}
use native.Mathlib.Decide.{ℕ_discrete}
use Rattle.ses_io.specs.FixedList.{Listed}
use Rattle.ses_io.specs.Outside.{SourceOutside, SinkOutside}
use Rattle.session_model.specs.declared.edit.Edit.{Edit}
use Rattle.engine_model.specs.Edits.{generation, starts}
use Rattle.engine_model.specs.Items as engine
use Rattle.engine_model.specs.Journal.{Entry, rolled}
use Rattle.engine_laws.specs.MadeLaws.{LooksStand}
use Rattle.engine_laws.proofs.NumberLemmas.{count_rises, count_stays}
use Rattle.engine_laws.proofs.LooksLemmas.{looks_stand_while_receiving, looks_stand_while_editing}
use Rattle.engine_laws.proofs.ListLemmas.{item_at}
use Rattle.machine_laws.proofs.MadeFacts.{made_low}
use Rattle.edition_log.specs.EditionState.{EditionState as Edition, IsEditionOf}
use Rattle.edition_log.proofs.PlayLaws.{editions_play_their_places}
use Rattle.disk_ring.specs.Receiver.{Receiver, GoesOnOut}
use Rattle.piece_item.specs.Views.{item_of}
use Rattle.piece_item.specs.declared.item.Item.{Item}
use Rattle.play_window.specs.WindowState.{IsNoEarlier}
use Rattle.track_playback.specs.declared.playback.SpareBox.{SpareBox}
use Rattle.track_playback.specs.declared.playback.SpareBox.TheVariants.{Husk, Held, Lent}
use Rattle.track_playback.specs.declared.playback.TrackPlayback.{TrackPlayback}
use Rattle.track_playback.specs.declared.play_position.PlayPosition.{PlayPosition}
use Rattle.track_playback.specs.Answers.{AllLook, AllShow, HaveLookedUp, IsMissing, Waits}
use Rattle.track_playback.specs.Heard.{AllLooked, IsStillHeld}
use Rattle.track_playback.specs.Looks.{EndsWith}
use Rattle.track_playback.specs.Played.{IsPlayed, AllPlayed, KnowsTheEnds}
use Rattle.track_playback.specs.SpareBoxes.{received_items, received_kinds}
use Rattle.track_playback.proofs.TrackLemmas.{plays_on, played_later}
use Rattle.process_cycle.specs.declared.process.Look.{Look}
use Rattle.process_cycle.specs.declared.process.Look.TheVariants.{Ready, Short}
use Rattle.process_ends.specs.Ends.{block_of}
use Rattle.process_cycle.specs.Looked.{Finds, HasLooked, LookAnswers, LooksAtAll, rolled_by_now}
use Rattle.process_cycle.specs.Playing.{IsPlaying}
use Rattle.process_cycle.specs.ProcessState.{ProcessState, Playing, entered, entries_of, position_of, items_of}
use Rattle.process_cycle.specs.Promised.{IsMastered}
use Rattle.process_cycle.proofs.MasterLemmas.{ReceivesMore, mastered_while_looking}
use Rattle.process_cycle.proofs.PromiseLemmas.{GoOn, promises_while_looking}

-- what a slice of a whole list leaves in it
pub rewritten : {X : Type 0} (n : ℕ) (new old : List X) → length new ≡ n → take n (new ++ drop (length new) old) ≡ new
rewritten n new old long = grind (arith, long, common_steps)

-- ---- the position

never_less : (before rest edits : List Edit) → before ++ rest ≡ edits → generation before (length before) ≤ generation edits (length edits)
never_less before rest edits e = subst (λ xs. generation before (length before) ≤ generation xs (length xs)) e
    (subst (λ n. n ≤ generation (before ++ rest) (length (before ++ rest))) (count_stays starts before rest (length before) (le_refl (length before)))
    (count_rises starts (before ++ rest) (length before) (length (before ++ rest)) (omega (arith, length-append before rest))))

by_now : (a g n m : ℕ) → (a ≡ g → n ≡ m) → (a ≢ g → 0 ≡ m) → (if a == g then n else 0) ≡ m
by_now a g n m same other = dite (ℕ_discrete a g) (λ e. grind (arith, e, same e)) (λ o. grind (arith, o, other o))

not_before : (a g n : ℕ) → a ≡ g → n ≤ (if a == g then n else 0)
not_before a g n e = grind (arith, e)

-- ---- what was received

-- of what goes on, more was received
more_received : (a b : Receiver Item) → GoesOnOut a b → (more : List engine.Item) × (received_items b ≡ more ++ received_items a)
more_received a b on = (
  reverse (map item_of on.received.0),
  ap (λ l. reverse (map item_of l)) (sym on.received.1) ∙ ap reverse (map-append item_of a.received on.received.0) ∙ reverse-append (map item_of a.received) (map item_of on.received.0),
)

-- what stands of looks stands when more was received, in an edition that goes on
looks_on : (edits all : List Edit) (depth deep t : ℕ) (olds news more : List engine.Kind) (tails : List ℕ) (entries : List Entry) → IsPrefix edits all → deep ≡ depth → news ≡ more ++ olds →
    list_all (λ e. nat_le e.edition (length edits)) entries ≡ true → LooksStand edits depth t olds tails entries → LooksStand all deep t news tails entries
looks_on edits all depth deep t olds news more tails entries on same is low was = subst (λ l. LooksStand l deep t news tails entries) on.1
    (subst (λ d. LooksStand (edits ++ on.0) d t news tails entries) (sym same) (subst (λ l. LooksStand (edits ++ on.0) depth t l tails entries) (sym is)
    (looks_stand_while_receiving (edits ++ on.0) depth t more olds [] tails entries (looks_stand_while_editing edits on.0 depth t olds tails entries low was))))

-- ---- what a look leaves

still_held : (at : PlayPosition) (a b : Receiver Item) (spare : SpareBox) → EndsWith at a b spare → IsStillHeld at spare
still_held at a b (Husk box) ends = tt
still_held at a b (Held box) ends = ends.0
still_held at a b Lent ends = ends

pub all_looked : (at : PlayPosition) (a : List (Receiver Item)) (d : List TrackPlayback) (b : List (Receiver Item)) (e : List TrackPlayback) → length e ≡ length a → AllLook at a d b e → AllLooked at e
all_looked at a d b e long looks = λ t k within. let r = (item_at a t (omega (arith, within, long))).0 in
    still_held at (slice_index_or a t r) (slice_index_or b t r) (slice_index_or e t k).spare (looks t r k (omega (arith, within, long))).ends

-- a track goes on, by its place in the lists
goes_on : (at : PlayPosition) (a : List (Receiver Item)) (d : List TrackPlayback) (b : List (Receiver Item)) (e : List TrackPlayback) (t : ℕ) (x y : Receiver Item) → length d ≡ length a → AllLook at a d b e →
    slice_get a t ≡ Some x → slice_get b t ≡ Some y → GoesOnOut x y
goes_on at a d b e t x y wide looks at_x at_y = let within = slice_get_within a t x at_x in let k = (item_at d t (omega (arith, within, wide))).0 in
    subst (GoesOnOut x) (get_or_from_slice_get b t y x at_y) (subst (λ r. GoesOnOut r (slice_index_or b t x)) (get_or_from_slice_get a t x x at_x) (looks t x k within).ring)

-- an item of a list whose items were all changed, by the item that it was
mapped_from : {X Y : Type 0} (f : X → Y) (xs : List X) (t : ℕ) (y : Y) → slice_get (map f xs) t ≡ Some y → (x : X) × (slice_get xs t ≡ Some x) × (y ≡ f x)
mapped_from f xs t y is = let x = item_at xs t (omega (arith, slice_get_within (map f xs) t y is, length-map xs f)) in
    (x.0, x.1, same_Some y (f x.0) (sym is ∙ slice_get-map f xs t ∙ ap (option_map f) x.1))

module _ {I W : Type 0} (inputs : SourceOutside I) (at : Playing) (p : ProcessState I W) (playing : IsPlaying inputs at p) (e : Edition) (is : IsEditionOf at.session e) (more : IsPrefix at.edits e.edits)
    (g n : ℕ) (g_is : g ≡ e.transport.generation) (n_is : n ≡ rolled_by_now p g) where
  -- where it looks in this edition
  abbrev at_now : PlayPosition
  at_now = record { depth = p.depth; generation = g; next = n }

  counted : g ≡ generation e.edits (length e.edits)
  counted = g_is ∙ (editions_play_their_places at.session e is).counted

  goes_up : p.generation ≤ g
  goes_up = omega (arith, counted, playing.generation, never_less at.edits more.0 e.edits more.1)

  later_position : IsNoEarlier p.generation p.next g n
  later_position = record { generation = goes_up; block = λ same. omega (arith, n_is, not_before p.generation g p.next same) }

  next_is : n ≡ rolled g (entries_of p)
  next_is = n_is ∙ by_now p.generation g p.next (rolled g (entries_of p))
      (λ same. playing.next ∙ ap (λ h. rolled h (entries_of p)) same) (λ other. sym (playing.later g (omega (arith, goes_up, other))))

  played_here : (t : ℕ) (r : Receiver Item) (d : TrackPlayback) → t < length p.ends.plays.items → IsPlayed at_now (block_of at.session t) (slice_index_or p.ends.plays.items t r) (slice_index_or p.playbacks t d)
  played_here t r d within = played_later (position_of p) at_now (block_of at.session t) (slice_index_or p.ends.plays.items t r) (slice_index_or p.playbacks t d) refl later_position
      (playing.played t r d (omega (arith, within, playing.plays)))

  pub all_played : AllPlayed at_now p.ends.plays.items p.playbacks
  all_played t r d within = (block_of at.session t, played_here t r d within)

  module _ (plays : Listed (Receiver Item)) (playbacks : List TrackPlayback) (number : ℕ) (number_is : number ≡ length e.edits) (long : length plays.items ≡ length p.ends.plays.items) (wide : length playbacks ≡ length p.playbacks)
      (looks : AllLook at_now p.ends.plays.items p.playbacks plays.items playbacks) where
    abbrev after : ProcessState I W
    after = record p {
      ends = record { plays = plays; takes = p.ends.takes; to_butler = p.ends.to_butler; to_control = p.ends.to_control };
      playbacks = playbacks;
      entered = number;
      generation = g;
      next = n;
    }

    each_goes_on : (t : ℕ) (x y : Receiver Item) → slice_get p.ends.plays.items t ≡ Some x → slice_get plays.items t ≡ Some y → GoesOnOut x y
    each_goes_on t x y at_x at_y = goes_on at_now p.ends.plays.items p.playbacks plays.items playbacks t x y (playing.playbacks ∙ sym playing.plays) looks at_x at_y

    go_on : GoOn p.ends.plays.items plays.items
    go_on = record { many = long; each = each_goes_on }

    pub plays_after_a_look : IsPlaying inputs (entered e.edits at) after
    plays_after_a_look = record {
      valid = playing.valid;
      plays = long ∙ playing.plays;
      takes = playing.takes;
      playbacks = wide ∙ playing.playbacks;
      captures = playing.captures;
      depth = playing.depth;
      entered = number_is;
      generation = counted;
      next = next_is;
      later = λ h above. playing.later h (omega (arith, goes_up, above));
      played = λ t r d within. let here : t < length p.ends.plays.items = omega (arith, within, playing.plays) in
          plays_on at_now (block_of at.session t) (slice_index_or p.ends.plays.items t r) (slice_index_or p.playbacks t d) (slice_index_or plays.items t r) (slice_index_or playbacks t d)
          (played_here t r d here) (looks t r d here);
      recorded = λ t d k within. let was = playing.recorded t d k within in record { depth = was.depth; fits = was.fits; counts = was.counts };
      to_butler = playing.to_butler;
      to_control = playing.to_control;
      master = playing.master;
      frames = playing.frames;
      read = playing.read;
      cycles = playing.cycles;
      within = playing.within;
      promises = promises_while_looking at e.edits (entries_of p) p.ends after.ends more go_on refl refl refl playing.promises;
      hears = playing.hears;
    }

    pub looked_after_a_look : HaveLookedUp at_now p.ends.plays.items plays.items → HasLooked (entered e.edits at) after
    looked_after_a_look up = record {
      held = all_looked at_now p.ends.plays.items p.playbacks plays.items playbacks (wide ∙ playing.playbacks ∙ sym playing.plays) looks;
      looked_up = λ t y at_y. let x = item_at p.ends.plays.items t (omega (arith, slice_get_within plays.items t y at_y, long)) in
          let got = more_received x.0 y (each_goes_on t x.0 y x.1 at_y) in record {
            before = reverse x.0.tails;
            was_true = looks_on at.edits e.edits at.session.depth p.depth t (received_kinds x.0) (received_kinds y) (map (λ i. i.kind) got.0) (reverse x.0.tails) (entries_of p) more playing.depth
                (ap (map (λ i. i.kind)) got.1 ∙ map-append (λ i. i.kind) got.0 (received_items x.0))
                (made_low at.session at.edits (length at.edits) (map received_kinds p.ends.plays.items) (entries_of p) playing.promises.made) (playing.promises.looks t x.0 x.1);
            over = up t x.0 y x.1 at_y;
          };
    }

    receives_more : ReceivesMore (items_of p) (items_of after)
    receives_more = record {
      many = length-map plays.items received_items ∙ long ∙ sym (length-map p.ends.plays.items received_items);
      each = λ t xs ys at_xs at_ys. let x = mapped_from received_items p.ends.plays.items t xs at_xs in let y = mapped_from received_items plays.items t ys at_ys in
          let got = more_received x.0 y.0 (each_goes_on t x.0 y.0 x.1 y.1) in (got.0, y.2 ∙ got.1 ∙ ap (λ l. got.0 ++ l) (sym x.2));
    }

    pub mastered_after_a_look : (outside : SinkOutside W) → IsMastered outside at p → IsMastered outside (entered e.edits at) after
    mastered_after_a_look outside was tells = mastered_while_looking outside at p.journal.room e.edits (entries_of p) (items_of p) (items_of after) p.master.sink more receives_more (was tells)

-- ---- what the playbacks know of Closed

pub knows_after_a_look : (at : PlayPosition) (a : List (Receiver Item)) (d : List TrackPlayback) (b : List (Receiver Item)) (e : List TrackPlayback) → length b ≡ length a → length e ≡ length d → KnowsTheEnds a d → AllLook at a d b e → KnowsTheEnds b e
knows_after_a_look at a d b e long wide knew looks = record { count = wide ∙ knew.count ∙ sym long; closed = λ t r k within. (looks t r k (omega (arith, within, long))).closed }

-- ---- the same lists, told otherwise

pub looks_again : (at : PlayPosition) (a a' : List (Receiver Item)) (d d' : List TrackPlayback) (b b' : List (Receiver Item)) (e e' : List TrackPlayback) → a ≡ a' → d ≡ d' → b ≡ b' → e ≡ e' → AllLook at a d b e → AllLook at a' d' b' e'
looks_again at a a' d d' b b' e e' same_a same_d same_b same_e looks = subst (λ l. AllLook at l d' b' e') same_a (subst (λ l. AllLook at a l b' e') same_d (subst (λ l. AllLook at a d l e') same_b (subst (AllLook at a d b) same_e looks)))

pub looked_up_again : (at : PlayPosition) (a a' b b' : List (Receiver Item)) → a ≡ a' → b ≡ b' → HaveLookedUp at a b → HaveLookedUp at a' b'
looked_up_again at a a' b b' same_a same_b up = subst (λ l. HaveLookedUp at l b') same_a (subst (HaveLookedUp at a) same_b up)

pub shows_again : (at : PlayPosition) (b b' : List (Receiver Item)) (e e' : List TrackPlayback) → b ≡ b' → e ≡ e' → AllShow at b e → AllShow at b' e'
shows_again at b b' e e' same_b same_e shows = subst (λ l. AllShow at l e') same_b (subst (AllShow at b) same_e shows)

-- a track whose piece wasn't received waits
waits_where_missing : (at : PlayPosition) (a : List (Receiver Item)) (d : List TrackPlayback) (b : List (Receiver Item)) (e : List TrackPlayback) → AllLook at a d b e → length b ≡ length a → IsMissing at b → Waits at a b e
waits_where_missing at a d b e looks many w = record {
  track = w.0;
  within = omega (arith, w.1, many);
  missing = w.2;
  ended = λ x y. (looks w.0 x y (omega (arith, w.1, many))).ends;
}

-- what a look answers, by what it found
pub answers_of : {I W : Type 0} (rolling : Bool) (e : Edition) (old new : ProcessState I W) → LooksAtAll e old new → (answer : Look) → Finds rolling new answer → LookAnswers rolling old answer new
answers_of rolling e old new looks Ready found = found
answers_of rolling e old new looks Short found =
    (found.0, waits_where_missing (position_of new) old.ends.plays.items old.playbacks new.ends.plays.items new.playbacks looks.looks looks.many found.1)

pub played_again : (at : PlayPosition) (a a' : List (Receiver Item)) (d d' : List TrackPlayback) → a ≡ a' → d ≡ d' → AllPlayed at a d → AllPlayed at a' d'
played_again at a a' d d' same_a same_d played = subst (λ l. AllPlayed at l d') same_a (subst (AllPlayed at a) same_d played)

pub knows_rewritten : (m n : ℕ) (b a : List (Receiver Item)) (e d : List TrackPlayback) → length b ≡ m → length e ≡ n → KnowsTheEnds b e → KnowsTheEnds (take m (b ++ drop (length b) a)) (take n (e ++ drop (length e) d))
knows_rewritten m n b a e d long wide knows = subst (λ l. KnowsTheEnds l (take n (e ++ drop (length e) d))) (sym (rewritten m b a long)) (subst (KnowsTheEnds b) (sym (rewritten n e d wide)) knows)
