-- A cycle of a run on one thread that is ready: what it looks up and takes, and that its entry is the plain one.
use Rattle.std.proofs.Common.{◌≡◌, ℕ, ◌+◌, ◌-◌, List, [], ◌∷◌, length, drop, refl, sym, ap, subst, arith, ◌∙◌}
use Rattle.std.specs.Prelude.{Bool, true, false, ◌&&◌, Some, slice_get, map}
use Rattle.std.specs.List.{list_all}
use Rattle.std.proofs.lemmas.List.{length-map}
use Rattle.session_model.specs.declared.session.Session.{Session}
use Rattle.engine_model.specs.Cycle.{state_of, entry_of}
use Rattle.engine_model.specs.Edits.{generation}
use Rattle.engine_model.specs.Editions.{edition}
use Rattle.engine_model.specs.Fits.{records, next_take}
use Rattle.engine_model.specs.Items.{Kind}
use Rattle.engine_model.specs.Journal.{Take, is_rolling, rolled}
use Rattle.engine_model.specs.Plain.{plain_state, plain_take, plain_entry}
use Rattle.engine_laws.specs.SerialLaws.{none_is_held, IsReady}
use Rattle.machine_model.specs.Core.{Core, TrackState, received_of}
use Rattle.machine_model.specs.Events.{take_made, is_recorded}
use Rattle.machine_laws.proofs.GatherLemmas.{gathered, AllFree}
use Rattle.machine_laws.proofs.PlainEntryLemmas.{ready_entry_with_takes, state_plain}
use Rattle.machine_laws.proofs.SerialStates.{IsInCycle, IsReadyCycle}
use Rattle.machine_laws.proofs.TakeLemmas.{CanTake, AllCanTake, taken_from, all_received, all_plain}
use Rattle.machine_laws.proofs.Tracks.{each_mapped, of_mapped}

-- ---- what is looked up and taken

abbrev pub looked_up : Core → Core
looked_up c = record c { tracks = map gathered c.tracks }

abbrev pub taken_up : Session → Core → Core
taken_up session c = record c { tracks = taken_from session (looked_up c) 0 (map gathered c.tracks) }

-- in a cycle in the butler's own edition nothing that was sent is held
pub all_free : (session : Session) (cycles : ℕ) (c : Core) → IsInCycle session cycles c → c.entered ≡ length c.edits → AllFree session c c.tracks
all_free session cycles c i entered t x e = (
  subst (λ k. none_is_held session.depth (generation c.edits k) (rolled (generation c.edits k) c.entries) x.sent ≡ true) (entered ∙ sym i.newest) (i.serial.near t x e).free,
  (i.serial.stands.playback t x e).received,
)

pub received_all : (x : TrackState) → received_of (gathered x) ≡ x.sent
received_all x = ap (λ n. drop n x.sent) (none (length x.sent))
  where
    none : (n : ℕ) → n - n ≡ 0
    none n = omega arith

pub all_over : (xs : List TrackState) → list_all (λ x. x.ended) (map gathered xs) ≡ true
all_over [] = refl
all_over (x ∷ xs) = all_over xs

-- each block was flushed, so each track that is recorded can take
pub can_take_all : (session : Session) (cycles : ℕ) (c : Core) → IsReadyCycle session cycles c → AllCanTake (map gathered c.tracks)
can_take_all session cycles c r = each_mapped (λ i x. CanTake x) gathered c.tracks (λ i x e. record { untaken = r.cycle.untaken i x e; flushed = r.flushed i x e })

-- ---- the entry

pub entry_is : (session : Session) (cycles : ℕ) (c : Core) → IsReadyCycle session cycles c →
    entry_of session c.edits c.entries (map received_of (taken_up session c).tracks) (map take_made (taken_up session c).tracks) c.playing ≡ plain_entry session c.edits c.entries
entry_is session cycles c r = ap (entry_of session c.edits c.entries (map received_of (taken_up session c).tracks) (map take_made (taken_up session c).tracks)) r.cycle.newest
    ∙ ready_entry_with_takes session c.edits c.entries (map received_of (taken_up session c).tracks) (map take_made (taken_up session c).tracks) many
    (length-map (taken_up session c).tracks take_made ∙ sym (length-map (taken_up session c).tracks received_of)) ready plain
  where
    many : length (map received_of (taken_up session c).tracks) ≡ length session.tracks.items
    many = ap length (all_received session (looked_up c) 0 (map gathered c.tracks)) ∙ length-map (map gathered c.tracks) received_of ∙ length-map c.tracks gathered ∙ r.cycle.serial.stands.many

    sent_ready : (t : ℕ) (xs : List Kind) → slice_get (map received_of (map gathered c.tracks)) t ≡ Some xs →
        IsReady session c.edits t (generation c.edits (length c.edits)) (rolled (generation c.edits (length c.edits)) c.entries) xs
    sent_ready t xs e = let y = of_mapped received_of (map gathered c.tracks) t xs e in let x = of_mapped gathered c.tracks t y.0 y.1 in
        subst (IsReady session c.edits t (generation c.edits (length c.edits)) (rolled (generation c.edits (length c.edits)) c.entries)) (sym (y.2 ∙ ap received_of x.2 ∙ received_all x.0))
        (r.ready t x.0 x.1)

    ready : (t : ℕ) (xs : List Kind) → slice_get (map received_of (taken_up session c).tracks) t ≡ Some xs →
        IsReady session c.edits t (generation c.edits (length c.edits)) (rolled (generation c.edits (length c.edits)) c.entries) xs
    ready t xs e = sent_ready t xs (ap (λ l. slice_get l t) (sym (all_received session (looked_up c) 0 (map gathered c.tracks))) ∙ e)

    rolls : (i : ℕ) → is_recorded session (looked_up c) i ≡ ((edition session c.edits (length c.edits)).transport.rolling && records (edition session c.edits (length c.edits)) i)
    rolls i = ap (λ k. is_rolling (state_of (edition session c.edits k).transport.rolling (generation c.edits k) (rolled (generation c.edits k) c.entries)
        (map received_of (map gathered c.tracks))) && records (edition session c.edits k) i) r.cycle.newest
        ∙ ap (λ s. is_rolling s && records (edition session c.edits (length c.edits)) i)
        (state_plain (edition session c.edits (length c.edits)).transport.rolling (generation c.edits (length c.edits)) (rolled (generation c.edits (length c.edits)) c.entries)
        (map received_of (map gathered c.tracks)) (λ t xs e. (sent_ready t xs e).there))
        ∙ by (edition session c.edits (length c.edits)).transport.rolling
      where
        by : (b : Bool) → is_rolling (plain_state b (generation c.edits (length c.edits)) (rolled (generation c.edits (length c.edits)) c.entries)) && records
            (edition session c.edits (length c.edits)) i ≡ (b && records (edition session c.edits (length c.edits)) i)
        by true = refl
        by false = refl

    plain : (i : ℕ) (take : Take) → slice_get (map take_made (taken_up session c).tracks) i ≡ Some take →
        take ≡ plain_take ((edition session c.edits (length c.edits)).transport.rolling && records (edition session c.edits (length c.edits)) (i + 0)) (next_take (i + 0) c.entries)
    plain i take e = all_plain session (looked_up c) 0 (map gathered c.tracks) (can_take_all session cycles c r) i take e ∙ ap (λ b. plain_take b (next_take (i + 0) c.entries)) (rolls (i + 0))
