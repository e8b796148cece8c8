-- The states of a run on one thread: between two cycles, within one, and before its entry is made.
use Rattle.std.proofs.Common.{◌≡◌, ℕ, ◌<◌, [], ◌∷◌, ◌++◌, length, refl, sym, ap, subst, ◌∙◌}
use Rattle.std.specs.Prelude.{true, false, ◌&&◌, not, nat_lt, if◌then◌else◌, None, map}
use Rattle.std.proofs.lemmas.Bool.{and_from, lt-ltb, not_from_false}
use Rattle.session_model.specs.declared.session.Session.{Session}
use Rattle.session_model.specs.declared.edit.Edit.{Edit}
use Rattle.session_model.specs.Lists.{EachAt}
use Rattle.engine_model.specs.Due.{next_block}
use Rattle.engine_model.specs.Edits.{generation, has_quit, starts}
use Rattle.engine_model.specs.Journal.{rolled}
use Rattle.engine_laws.specs.SerialLaws.{IsReady}
use Rattle.engine_laws.proofs.EditionLemmas.{quit_stays}
use Rattle.engine_laws.proofs.NumberLemmas.{count_stays}
use Rattle.machine_model.specs.Core.{Core, TrackState}
use Rattle.machine_model.specs.Events.{Publish, EnterProcess, can, done, step, begun}
use Rattle.machine_laws.specs.Stands.{Stands}
use Rattle.machine_laws.proofs.EventLemmas.{every_event}
use Rattle.machine_laws.proofs.NearLemmas.{IsNear}
use Rattle.machine_laws.proofs.Tracks.{each_mapped}

-- what was sent of a track lies near what is played next in the butler's edition
abbrev pub NearAt : Session → Core → TrackState → Type 0
NearAt session c x = IsNear session.depth (generation c.edits c.entered) (rolled (generation c.edits c.entered) c.entries) x.sent

-- What stands between any two letters.
pub record IsSerial (session : Session) (cycles : ℕ) (c : Core) : Type 0 where
  pub stands : Stands session cycles c
  -- the acknowledgements sent to the butler name each block that was played
  pub acks : (g : ℕ) → next_block c.to_butler.sent g ≡ rolled g c.entries
  pub near : EachAt (λ t x. NearAt session c x) c.tracks

-- all that was sent was received
abbrev pub AllReceived : Core → Type 0
AllReceived c = EachAt (λ t x. x.received ≡ length x.sent) c.tracks

-- no track was captured in this cycle
abbrev pub NoneTaken : Core → Type 0
NoneTaken c = EachAt (λ t x. x.taking ≡ None) c.tracks

-- Between two cycles.
pub record IsBetweenCycles (session : Session) (cycles : ℕ) (c : Core) : Type 0 where
  pub serial : IsSerial session cycles c
  pub shut : c.in_cycle ≡ false
  pub unended : has_quit c.edits c.playing ≡ false
  pub received : AllReceived c

-- Within a cycle, which plays the newest edition.
pub record IsInCycle (session : Session) (cycles : ℕ) (c : Core) : Type 0 where
  pub serial : IsSerial session cycles c
  pub under_way : c.in_cycle ≡ true
  pub newest : c.playing ≡ length c.edits
  pub untaken : NoneTaken c

-- Within a cycle, before its entry is made.
pub record IsReadyCycle (session : Session) (cycles : ℕ) (c : Core) : Type 0 where
  pub cycle : IsInCycle session cycles c
  pub entered : c.entered ≡ length c.edits
  pub taken : c.to_butler.taken ≡ length c.to_butler.sent
  pub flushed : EachAt (λ t x. x.flushed ≡ length x.put) c.tracks
  pub ready : EachAt (λ t x. IsReady session c.edits t (generation c.edits (length c.edits)) (rolled (generation c.edits (length c.edits)) c.entries) x.sent) c.tracks

-- ---- control publishes

pub published_between : (session : Session) (cycles : ℕ) (c : Core) (edit : Edit) → IsBetweenCycles session cycles c → can session cycles c (Publish edit) ≡ true →
    IsBetweenCycles session cycles (record c { edits = c.edits ++ edit ∷ [] })
published_between session cycles c edit b may = record {
  serial = record {
    stands = subst (Stands session cycles) (ap (λ k. if k then done session cycles c (Publish edit) else c) may) (every_event session cycles c (Publish edit) b.serial.stands);
    acks = b.serial.acks;
    near = λ t x e. subst (λ g. IsNear session.depth g (rolled g c.entries) x.sent) (sym (count_stays starts c.edits (edit ∷ []) c.entered b.serial.stands.entered)) (b.serial.near t x e);
  };
  shut = b.shut;
  unended = quit_stays c.edits (edit ∷ []) c.playing b.serial.stands.playing ∙ b.unended;
  received = b.received;
}

-- ---- the process enters

abbrev pub entered_of : Core → Core
entered_of c = record c { playing = length c.edits; in_cycle = not (has_quit c.edits (length c.edits)); tracks = map begun c.tracks }

pub enters : (session : Session) (cycles : ℕ) (c : Core) → IsBetweenCycles session cycles c → length c.entries < cycles → step session cycles c EnterProcess ≡ entered_of c
enters session cycles c b more = ap (λ k. if k then done session cycles c EnterProcess else c)
    (and_from (not c.in_cycle && nat_lt (length c.entries) cycles) (not (has_quit c.edits c.playing))
    (and_from (not c.in_cycle) (nat_lt (length c.entries) cycles) (not_from_false c.in_cycle b.shut) (lt-ltb (length c.entries) cycles more)) (not_from_false (has_quit c.edits c.playing) b.unended))

pub entered_in_cycle : (session : Session) (cycles : ℕ) (c : Core) → IsBetweenCycles session cycles c → length c.entries < cycles → has_quit c.edits (length c.edits) ≡ false →
    IsInCycle session cycles (entered_of c) × AllReceived (entered_of c)
entered_in_cycle session cycles c b more unquit = (
  record {
    serial = record {
      stands = subst (Stands session cycles) (enters session cycles c b more) (every_event session cycles c EnterProcess b.serial.stands);
      acks = b.serial.acks;
      near = each_mapped (λ t x. NearAt session c x) begun c.tracks b.serial.near;
    };
    under_way = not_from_false (has_quit c.edits (length c.edits)) unquit;
    newest = refl;
    untaken = each_mapped (λ t x. x.taking ≡ None) begun c.tracks (λ t x e. refl);
  },
  each_mapped (λ t x. x.received ≡ length x.sent) begun c.tracks b.received,
)
