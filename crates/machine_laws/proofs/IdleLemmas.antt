-- After a turn that moves nothing, in a cycle of a run on one thread, each track is ready and each block was flushed.
use Rattle.std.proofs.Common.{◌≡◌, ℕ, suc, ◌-◌, ◌<◌, ◌≤◌, List, [], ◌∷◌, length, refl, sym, ap, subst, arith, ◌∙◌, le_antisymm}
use Rattle.std.specs.Prelude.{Bool, true, false, ◌&&◌, nat_lt, if◌then◌else◌, is_some, Option, Some, None, slice_get}
use Rattle.std.specs.Option.{option_map_or}
use Rattle.std.proofs.lemmas.Bool.{and_from, lt-ltb, ltb-false, true≢false, false≢true}
use Rattle.std.proofs.lemmas.Option.{slice_get_within}
use Rattle.session_model.specs.declared.session.Session.{Session}
use Rattle.engine_model.specs.Edits.{generation}
use Rattle.engine_model.specs.Items.{Kind}
use Rattle.engine_model.specs.Journal.{Entry, is_rolling_in, rolled}
use Rattle.engine_laws.specs.SerialLaws.{IsReady}
use Rattle.machine_model.specs.Core.{Core, TrackState, acks_taken}
use Rattle.machine_model.specs.Events.{due_of, has_room, most_sent}
use Rattle.machine_model.specs.Letters.{first_move}
use Rattle.machine_laws.proofs.NearLemmas.{IsNear}
use Rattle.machine_laws.proofs.ReadyLemmas.{near_is_ready}
use Rattle.machine_laws.proofs.SerialStates.{AllReceived, IsInCycle, IsReadyCycle}
use Rattle.machine_laws.proofs.SerialTurns.{none_moves, turn_serial, next_is}
use Rattle.machine_laws.proofs.StandingLemmas.{numbers_suffice}
use Rattle.machine_laws.proofs.TurnLemmas.{begun_turn}

pub rolled_low : (g : ℕ) (entries : List Entry) → rolled g entries ≤ length entries
rolled_low g [] = omega arith
rolled_low g (e ∷ es) = by (is_rolling_in g e.state) (rolled_low g es)
  where
    by : (b : Bool) → rolled g es ≤ length es → (if b then suc (rolled g es) else rolled g es) ≤ suc (length es)
    by true h = omega (arith, h)
    by false h = omega (arith, h)

pub nothing_there : (o : Option Kind) → is_some o ≡ false → o ≡ None
nothing_there None e = refl
nothing_there (Some x) e = absurd (true≢false e)

pub idle_is_ready : (session : Session) (cycles : ℕ) (c : Core) → 0 < session.depth → cycles ≤ 100000 → IsInCycle session cycles c → AllReceived c → first_move session cycles (begun_turn c) ≡ None →
    IsReadyCycle session cycles (begun_turn c)
idle_is_ready session cycles c deep few i received idle = record {
  cycle = record { serial = turn_serial session cycles c i.serial; under_way = i.under_way; newest = i.newest; untaken = i.untaken };
  entered = refl;
  taken = refl;
  flushed = λ t x e. le_antisymm ((i.serial.stands.captures t x e).flushed) (ltb-false x.flushed (length x.put)
      (sym (ap (λ o. option_map_or (λ y. nat_lt y.flushed (length y.put)) o false) e) ∙ (none_moves session cycles (begun_turn c) t idle (slice_get_within c.tracks t x e)).0));
  ready = λ t x e. subst (λ n. IsReady session c.edits t (generation c.edits (length c.edits)) n x.sent) (next_is session cycles c i.serial (generation c.edits (length c.edits)))
      (near_is_ready session c.edits cycles t (acks_taken (begun_turn c).to_butler) x.sent ((turn_serial session cycles c i.serial).stands.playback t x e).kept deep
      (subst (λ n. n < cycles) (sym (next_is session cycles c i.serial (generation c.edits (length c.edits)))) more)
      (subst (λ n. IsNear session.depth (generation c.edits (length c.edits)) n x.sent) (sym (next_is session cycles c i.serial (generation c.edits (length c.edits))))
      ((turn_serial session cycles c i.serial).near t x e))
      (nothing_there (due_of session cycles (begun_turn c) t x) (no_more (has_room session x) (is_some (due_of session cycles (begun_turn c) t x)) (room t x e)
      (sym (ap (λ o. option_map_or (λ y. has_room session y && is_some (due_of session cycles (begun_turn c) t y)) o false) e)
      ∙ (none_moves session cycles (begun_turn c) t idle (slice_get_within c.tracks t x e)).1))));
}
  where
    more : rolled (generation c.edits (length c.edits)) c.entries < cycles
    more = low (rolled_low (generation c.edits (length c.edits)) c.entries) (i.serial.stands.asked_now i.under_way)
      where
        low : rolled (generation c.edits (length c.edits)) c.entries ≤ length c.entries → length c.entries < cycles → rolled (generation c.edits (length c.edits)) c.entries < cycles
        low x y = omega (arith, x, y)

    room : (t : ℕ) (x : TrackState) → slice_get c.tracks t ≡ Some x → has_room session x ≡ true
    room t x e = and_from (nat_lt (length x.sent - x.received) session.depth) (nat_lt (length x.sent) most_sent) (lt-ltb (length x.sent - x.received) session.depth (none_left (received t x e)))
        (lt-ltb (length x.sent) most_sent (numbers_suffice session cycles c t x few i.serial.stands e))
      where
        none_left : x.received ≡ length x.sent → length x.sent - x.received < session.depth
        none_left is = omega (arith, is, deep)

    no_more : (a b : Bool) → a ≡ true → a && b ≡ false → b ≡ false
    no_more true b e h = h
    no_more false b e h = absurd (false≢true e)
