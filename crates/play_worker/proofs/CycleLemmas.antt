-- Patience is kept from cycle to cycle.
use Rattle.std.proofs.Common.{◌≡◌, inl, inr, ℕ, zero, suc, ◌≤◌, List, [], ◌∷◌, ◌++◌, length, take, refl, sym, ap, ◌∙◌, subst, arith, append-nil}
use Rattle.std.specs.Prelude.{◌⊎◌, Bool, true, false, ◌||◌, map, reverse, slice_get, Some, option_map, Result, Ok, Err, OnOk, OnErr}
use Rattle.std.specs.List.{list_any}
use Rattle.std.proofs.lemmas.Bool.{true≢false}
use Rattle.std.proofs.lemmas.List.{length-map, length-take-le, map-append, reverse-append}
use Rattle.std.proofs.lemmas.Option.{get_or_from_slice_get, slice_get-map, slice_get_within}
use mathlib.Core.List.{IsPrefix}
use Rattle.ses_io.specs.Outside.{SourceOutside}
use Rattle.engine_laws.proofs.ListLemmas.{item_at}
use Rattle.engine_model.specs.Items as engine
use Rattle.engine_model.specs.Journal.{Entry, Note, State, rolled}
use Rattle.engine_model.specs.Journal as journal
use Rattle.engine_model.specs.Editions as engine_edition
use Rattle.engine_model.specs.Edits.{generation}
use Rattle.engine_model.specs.Cycle.{entry_of, has_piece, is_held, notes_of, play_of}
use Rattle.machine_laws.proofs.MadeFacts.{made_low}
use Rattle.disk_ring.specs.Receiver.{Receiver, GoesOnOut}
use Rattle.piece_item.specs.declared.item.Item.{Item}
use Rattle.edition_log.specs.EditionState.{EditionState as Edition, IsEditionOf}
use Rattle.cycle_journal.specs.JournalView.{seen_entry, seen_entries, seen_note}
use Rattle.track_playback.specs.SpareBoxes.{received_kinds}
use Rattle.track_playback.specs.Answers.{AllThere}
use Rattle.track_playback.proofs.HeardLemmas.{kinds_received}
use Rattle.process_cycle.specs.ProcessState.{Playing, ProcessState, entered, entries_of, kinds_of, position_of}
use Rattle.process_cycle.specs.Playing.{IsPlaying}
use Rattle.process_cycle.specs.Cycles.{HasStopped, MakesEntry}
use Rattle.cycle_grants.specs.Patience.{HasWaited, IsWaitedFor}
use Rattle.cycle_grants.proofs.WaitedLemmas.{waited_for_stands, waited_for_with_its_entry}
use Rattle.play_worker.specs.Patient.{AllGoOn, AllLookedFor, AllOpen, IsHeldLast, IsPatient, LooksPatiently, NotedSoOften}
use Rattle.play_worker.proofs.PatientLemmas.{received_on}

-- ---- the entry

-- notes are of as many takes as there are tracks
notes_fewer : (state : State) (tracks : List (List engine.Kind)) (takes : List journal.Take) → notes_of state tracks (take (length tracks) takes) ≡ notes_of state tracks takes
notes_fewer state [] takes = refl
notes_fewer state (xs ∷ tracks) [] = refl
notes_fewer state (xs ∷ tracks) (k ∷ takes) = ap (λ l. record { play = play_of state xs; take = k } ∷ l) (notes_fewer state tracks takes)

notes_long : (state : State) (tracks : List (List engine.Kind)) (takes : List journal.Take) → length (notes_of state tracks takes) ≡ length tracks → length tracks ≤ length takes
notes_long state [] takes is = omega arith
notes_long state (xs ∷ tracks) [] is = absurd (omega (arith, is))
notes_long state (xs ∷ tracks) (k ∷ takes) is = omega (arith, notes_long state tracks takes (omega (arith, is)))

-- a ring that was answered Closed is closed
none_ended : (plays : List (Receiver Item)) → AllOpen plays → list_any (λ r. r.ended) plays ≡ false
none_ended [] each = refl
none_ended (r ∷ rs) each = ap (λ b. b || list_any (λ r. r.ended) rs) (each zero r refl) ∙ none_ended rs (λ t x at. each (suc t) x at)

-- ---- looks

module _ {I W : Type 0} (inputs : SourceOutside I) (at : Playing) (patience : ℕ) (e : Edition) (p0 p1 : ProcessState I W) (playing0 : IsPlaying inputs at p0) (more : IsPrefix at.edits e.edits)
    (playing1 : IsPlaying inputs (entered e.edits at) p1) (rings : AllGoOn p0.ends.plays.items p1.ends.plays.items) (kept : p1.journal ≡ p0.journal) (was : IsPatient patience at p0) where
  same_long : length p1.ends.plays.items ≡ length p0.ends.plays.items
  same_long = playing1.plays ∙ sym playing0.plays

  same_entries : entries_of p1 ≡ entries_of p0
  same_entries = ap (λ j. reverse (seen_entries j.items)) kept

  -- the ring as it was before
  ring_before : (t : ℕ) (r : Receiver Item) → slice_get p1.ends.plays.items t ≡ Some r → (b : Receiver Item) × (slice_get p0.ends.plays.items t ≡ Some b) × GoesOnOut b r
  ring_before t r h = let b = item_at p0.ends.plays.items t (omega (arith, slice_get_within p1.ends.plays.items t r h, same_long)) in (b.0, b.1, rings t b.0 r b.1 h)

  open_before : AllOpen p1.ends.plays.items → AllOpen p0.ends.plays.items
  open_before unended t b h = let r = item_at p1.ends.plays.items t (omega (arith, slice_get_within p0.ends.plays.items t b h, same_long)) in by b.ended refl (rings t b r.0 h r.1) (unended t r.0 r.1)
    where
      by : (c : Bool) → b.ended ≡ c → {r : Receiver Item} → GoesOnOut b r → r.ended ≡ false → b.ended ≡ false
      by false is goes unended = is
      by true is goes unended = absurd (true≢false (sym (goes.ended is).0 ∙ unended))

  -- what was looked for before stands while more is received and looked for
  still : AllOpen p1.ends.plays.items → (t : ℕ) (r b : Receiver Item) (further : List ℕ) → slice_get p0.ends.plays.items t ≡ Some b → GoesOnOut b r →
      IsWaitedFor patience e.edits at.session.depth t (received_kinds r) (b.tails ++ further) (entries_of p1)
  still unended t r b further hb goes =
      let low = made_low at.session at.edits (length at.edits) (kinds_of p0) (entries_of p0) playing0.promises.made in
      let looks = playing0.promises.looks t b hb in
      let got = received_on b r goes in
      let kinds : received_kinds r ≡ map (λ x. x.kind) got.0 ++ received_kinds b = ap (map (λ (x : engine.Item). x.kind)) got.1 ∙ map-append (λ (x : engine.Item). x.kind) got.0 _ in
      subst (λ es. IsWaitedFor patience e.edits at.session.depth t (received_kinds r) (b.tails ++ further) es) (sym same_entries)
      (subst (λ l. IsWaitedFor patience e.edits at.session.depth t l (b.tails ++ further) (entries_of p0)) (sym kinds)
      (subst (λ es. IsWaitedFor patience es at.session.depth t (map (λ x. x.kind) got.0 ++ received_kinds b) (b.tails ++ further) (entries_of p0)) more.1
      (waited_for_stands patience at.edits more.0 at.session.depth t (received_kinds b) (map (λ x. x.kind) got.0) b.tails further (entries_of p0) low looks.within (was (open_before unended) t b hb))))

  -- after looks of which no entry is made
  pub looks_keep : IsPatient patience (entered e.edits at) p1
  looks_keep unended t r h = let b = ring_before t r h in
      subst (λ l. IsWaitedFor patience e.edits at.session.depth t (received_kinds r) l (entries_of p1)) b.2.tails.1 (still unended t r b.0 b.2.tails.0 b.1 b.2)

  module _ (p2 : ProcessState I W) (of : IsEditionOf at.session e) (patient : LooksPatiently patience e p0 p1) (made : MakesEntry at.session e p1 p2) where
    plays_same : p2.ends.plays ≡ p1.ends.plays
    plays_same = ap (λ (s : ProcessState I W). s.ends.plays) made.same

    entries_more : entries_of p2 ≡ seen_entry made.made ∷ entries_of p1
    entries_more = ap (λ j. reverse (seen_entries j.items)) made.noted ∙ ap reverse (map-append seen_entry p1.journal.items (made.made ∷ [])) ∙ reverse-append (seen_entries p1.journal.items) (seen_entry made.made ∷ [])

    abbrev tracks : List (List engine.Kind)
    tracks = kinds_of p1

    abbrev takes : List journal.Take
    takes = take (length tracks) made.takes

    long : length tracks ≡ length at.session.tracks.items
    long = length-map p1.ends.plays.items received_kinds ∙ playing1.plays

    abbrev whole : Entry
    whole = entry_of at.session e.edits (entries_of p1) (kinds_of p1) made.takes (length e.edits)

    enough : length tracks ≤ length made.takes
    enough = notes_long whole.state tracks made.takes (sym (ap (λ (x : Entry). length x.notes) made.entry) ∙ length-map made.made.notes.items seen_note ∙ made.notes ∙ playing1.takes ∙ sym long)

    entry_is : seen_entry made.made ≡ entry_of at.session e.edits (entries_of p1) tracks takes (length e.edits)
    entry_is = made.entry ∙ ap (λ ns. record whole { notes = ns }) (sym (notes_fewer whole.state tracks made.takes))

    each : length takes ≡ length at.session.tracks.items
    each = length-take-le (length tracks) made.takes enough ∙ long

    there_is : (t : ℕ) (r : Receiver Item) → slice_get p1.ends.plays.items t ≡ Some r → slice_get tracks t ≡ Some (received_kinds r)
    there_is t r h = slice_get-map received_kinds p1.ends.plays.items t ∙ ap (option_map received_kinds) h

    -- the generation and the block of the cycle
    abbrev g : ℕ
    g = generation e.edits (length e.edits)

    abbrev s : ℕ
    s = rolled g (entries_of p1)

    next_is : p1.next ≡ s
    next_is = playing1.next ∙ ap (λ n. rolled n (entries_of p1)) playing1.generation

    module _ (t : ℕ) (r b : Receiver Item) (h : slice_get p1.ends.plays.items t ≡ Some r) (hb : slice_get p0.ends.plays.items t ≡ Some b) (goes : GoesOnOut b r)
        (unended : AllOpen p1.ends.plays.items) (none : has_piece g s (received_kinds r) ≡ false) where
      waited_one : NotedSoOften patience b r ⊎ IsHeldLast (position_of p1) r → HasWaited patience at.session.depth g s (received_kinds r) b.tails (b.tails ++ goes.tails.0)
      waited_one (inl noted) = inl (
        noted.before,
        omega (arith, noted.many),
        goes.tails.1 ∙ noted.tails ∙ ap (λ k. b.tails ++ (noted.before ++ k ∷ [])) (sym (kinds_received r)),
      )
      waited_one (inr held) = inr (
        held.kind,
        held.rest,
        held.last,
        sym (ap (λ d. is_held d p1.generation p1.next held.kind) playing1.depth ∙ ap (λ n. is_held at.session.depth n p1.next held.kind) playing1.generation
            ∙ ap (λ n. is_held at.session.depth g n held.kind) next_is) ∙ held.is_held,
      )

      waited_by : AllThere (position_of p1) p1.ends.plays.items ⊎ ((list_any (λ x. x.ended) p1.ends.plays.items ≡ true) ⊎ AllLookedFor patience (position_of p1) p0.ends.plays.items p1.ends.plays.items) →
          HasWaited patience at.session.depth g s (received_kinds r) b.tails (b.tails ++ goes.tails.0)
      waited_by (inl there) = absurd (true≢false (sym (there t r (slice_get_within p1.ends.plays.items t r h))
          ∙ ap (λ x. has_piece p1.generation p1.next (received_kinds x)) (get_or_from_slice_get p1.ends.plays.items t r r h)
          ∙ ap (λ n. has_piece n p1.next (received_kinds r)) playing1.generation ∙ ap (λ n. has_piece g n (received_kinds r)) next_is ∙ none))
      waited_by (inr (inl ended)) = absurd (true≢false (sym ended ∙ none_ended p1.ends.plays.items unended))
      waited_by (inr (inr looked)) = waited_one (looked t b r hb h)

    -- with the entry of a cycle
    pub cycle_keeps : IsPatient patience (entered e.edits at) p2
    cycle_keeps unended2 t r h2 =
        let unended = subst (λ l. AllOpen l.items) plays_same unended2 in
        let h = subst (λ l. slice_get l.items t ≡ Some r) plays_same h2 in
        let b = ring_before t r h in
        let before = subst (λ l. IsWaitedFor patience e.edits at.session.depth t (received_kinds r) l (entries_of p1)) (append-nil b.0.tails) (still unended t r b.0 [] b.1 b.2) in
        let main = waited_for_with_its_entry patience at.session e.edits at.session.depth t (length e.edits) b.0.tails b.2.tails.0 tracks (received_kinds r) takes (entries_of p1) (there_is t r h) long each
        (λ rolls none. waited_by t r b.0 h b.1 b.2 unended none (patient (ap (λ (x : engine_edition.Edition). x.transport.rolling) of.state ∙ rolls))) before in
        subst (λ es. IsWaitedFor patience e.edits at.session.depth t (received_kinds r) r.tails es) (sym entries_more)
        (subst (λ x. IsWaitedFor patience e.edits at.session.depth t (received_kinds r) r.tails (x ∷ entries_of p1)) (sym entry_is)
        (subst (λ l. IsWaitedFor patience e.edits at.session.depth t (received_kinds r) l (entry_of at.session e.edits (entries_of p1) tracks takes (length e.edits) ∷ entries_of p1)) b.2.tails.1 main))

-- ---- a cycle, made or not

-- what follows where it was
pub where_made : {E : Type 0} (A B : Type 0) (result : Result (Unit {0}) E) → A → OnOk result (A → B) → OnOk result B
where_made A B (Ok x) a f = f a
where_made A B (Err why) a f = tt

module _ {I W : Type 0} (inputs : SourceOutside I) (at : Playing) (patience : ℕ) (e : Edition) (p0 p1 p2 : ProcessState I W) where
  -- after a fault nothing else has changed
  stopped_keeps : HasStopped p1 p2 → IsPatient patience (entered e.edits at) p1 → IsPatient patience (entered e.edits at) p2
  stopped_keeps stopped was = subst (λ (p : ProcessState I W). IsPatient patience (entered e.edits at) p) (sym stopped) was

  pub keeps_patience : {E : Type 0} (result : Result (Unit {0}) E) → IsPlaying inputs at p0 → IsPrefix at.edits e.edits → IsPlaying inputs (entered e.edits at) p1 → AllGoOn p0.ends.plays.items p1.ends.plays.items →
      p1.journal ≡ p0.journal → IsPatient patience at p0 → IsEditionOf at.session e → LooksPatiently patience e p0 p1 → OnOk result (MakesEntry at.session e p1 p2) → OnErr result (HasStopped p1 p2) →
      IsPatient patience (entered e.edits at) p2
  keeps_patience (Ok x) playing0 more playing1 rings kept was of patient made fault = cycle_keeps inputs at patience e p0 p1 playing0 more playing1 rings kept was p2 of patient made
  keeps_patience (Err why) playing0 more playing1 rings kept was of patient made fault = stopped_keeps fault (looks_keep inputs at patience e p0 p1 playing0 more playing1 rings kept was)
