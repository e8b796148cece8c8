-- What stays so of a link while grants are put and acknowledgements taken.
use Rattle.std.proofs.Common.{◌≡◌, ◌≤◌, ℕ, List, [], ◌∷◌, ◌++◌, refl, sym, ap, subst, ◌∙◌, append-nil, append_assoc}
use Rattle.std.specs.Prelude.{true, false, Ok, Err}
use mathlib.Core.List.{IsPrefix}
use base.Growing.{prefix_refl}
use Rattle.std.proofs.lemmas.Bool.{false≢true, true≢false}
use Rattle.std.proofs.lemmas.List.{map-append}
use Rattle.engine_model.specs.Waited.{Grant, Pace, Pause, Sought}
use Rattle.disk_ring.specs.Receiver.{Receiver, GoesOnOut}
use Rattle.disk_ring.specs.Sender.{Sender, GoesOnIn, Refuses}
use Rattle.disk_ring.proofs.GoesOn.{goes_on_out_trans, goes_on_out_refl, goes_on_in_trans, goes_on_in_refl}
use Rattle.piece_item.specs.declared.ack.Ack.{Ack}
use Rattle.run_world.specs.declared.finished.Grant as ring
use Rattle.cycle_grants.specs.Granting.{Allows, GrantingState, IsPut}
use Rattle.cycle_grants.specs.Grants.{grant_of, grants_put}
use Rattle.cycle_grants.specs.declared.granting.NotGranted.TheVariants.{Full, LeftOut}
use Rattle.cycle_grants.proofs.GrantingLemmas.{grants_are_asked}
use Rattle.lead_worker.specs.declared.link.ProcessLink.{ProcessLink}
use Rattle.lead_worker.specs.Heard.{Hears}
use Rattle.lead_worker.specs.Links.{GoesOnLink, IsPaced, IsPacedWhole, KeepsGrants}

-- ---- both rings go on

pub goes_refl : (link : ProcessLink) → GoesOnLink link link
goes_refl link = record { grants = goes_on_in_refl link.granting.to; acks = goes_on_out_refl link.hearing }

pub goes_trans : (a b c : ProcessLink) → GoesOnLink a b → GoesOnLink b c → GoesOnLink a c
goes_trans a b c one two = record {
  grants = goes_on_in_trans a.granting.to b.granting.to c.granting.to one.grants two.grants;
  acks = goes_on_out_trans a.hearing b.hearing c.hearing one.acks two.acks;
}

-- where a grant was put,
put_goes : (a b : Sender ring.Grant) (grant : ring.Grant) → IsPut a grant b → GoesOnIn a b
put_goes a b grant is = let same = is.sent in record {
  ring = ap (λ (r : Sender ring.Grant). r.ring) same;
  depth = ap (λ (r : Sender ring.Grant). r.depth) same;
  room = ap (λ (r : Sender ring.Grant). r.room) same;
  closed = ap (λ (r : Sender ring.Grant). r.closed) same;
  sent = (grant ∷ [], ap (λ (r : Sender ring.Grant). r.sent) (sym same));
  heads = subst (IsPrefix a.heads) (ap (λ (r : Sender ring.Grant). r.heads) (sym same)) (prefix_refl a.heads);
  got = is.head.rises;
}

-- or wasn't
refused_goes : (a b : Sender ring.Grant) (head : ℕ) → Refuses a head b → GoesOnIn a b
refused_goes a b head is = let same = is.heads in record {
  ring = ap (λ (r : Sender ring.Grant). r.ring) same;
  depth = ap (λ (r : Sender ring.Grant). r.depth) same;
  room = ap (λ (r : Sender ring.Grant). r.room) same;
  closed = ap (λ (r : Sender ring.Grant). r.closed) same;
  sent = subst (IsPrefix a.sent) (ap (λ (r : Sender ring.Grant). r.sent) (sym same)) (prefix_refl a.sent);
  heads = (head ∷ [], ap (λ (r : Sender ring.Grant). r.heads) (sym same));
  got = subst (λ n. a.got ≤ n) (ap (λ (r : Sender ring.Grant). r.got) (sym same)) is.head_is.rises;
}

-- ---- grants that were asked for

-- nothing of them changes while acknowledgements are taken, and a full ring is noted
pub keeps_still : (asked : List Grant) (a b : ProcessLink) → b.granting.to.sent ≡ a.granting.to.sent → b.granting.over ≡ a.granting.over → GoesOnOut a.hearing b.hearing → KeepsGrants asked a → KeepsGrants asked b
keeps_still asked a b sent over heard was = record {
  left_out = was.left_out;
  are = ap (λ (l : List ring.Grant). grants_put (record a.granting.to { sent = l }) ++ was.left_out) sent ∙ was.are;
  none = λ free. was.none (sym over ∙ free);
  ended = λ shut. (heard.ended (was.ended (sym over ∙ shut))).0;
}

-- one more was put
pub keeps_put : (asked : List Grant) (a b : ProcessLink) (grant : ring.Grant) → a.granting.over ≡ false → b.granting.over ≡ false → b.granting.to.sent ≡ a.granting.to.sent ++ grant ∷ [] → KeepsGrants asked a →
    KeepsGrants (asked ++ grant_of grant ∷ []) b
keeps_put asked a b grant free still sent was = record {
  left_out = [];
  are = append-nil (grants_put b.granting.to) ∙ ap (λ (l : List ring.Grant). grants_put (record b.granting.to { sent = l })) sent ∙ map-append grant_of a.granting.to.sent (grant ∷ [])
      ∙ ap (λ l. l ++ grant_of grant ∷ []) (sym (append-nil (grants_put a.granting.to)) ∙ ap (λ l. grants_put a.granting.to ++ l) (sym (was.none free)) ∙ was.are);
  none = λ same. refl;
  ended = λ shut. absurd (false≢true (sym still ∙ shut));
}

-- one more was left out
pub keeps_left : (asked : List Grant) (a b : ProcessLink) (grant : ring.Grant) → b.granting.to.sent ≡ a.granting.to.sent → b.granting.over ≡ true → b.hearing.ended ≡ true → KeepsGrants asked a →
    KeepsGrants (asked ++ grant_of grant ∷ []) b
keeps_left asked a b grant sent over ended was = record {
  left_out = was.left_out ++ grant_of grant ∷ [];
  are = ap (λ (l : List ring.Grant). grants_put (record a.granting.to { sent = l }) ++ (was.left_out ++ grant_of grant ∷ [])) sent
      ∙ sym (append_assoc (grants_put a.granting.to) was.left_out (grant_of grant ∷ [])) ∙ ap (λ l. l ++ grant_of grant ∷ []) was.are;
  none = λ free. absurd (true≢false (sym over ∙ free));
  ended = λ shut. ended;
}

-- ---- one try

module _ (a : ProcessLink) (grant : ring.Grant) (granting : GrantingState) where
  abbrev tried : ProcessLink
  tried = record a { granting = granting }

  module _ (puts : Allows grant a.granting (Ok tt) granting) (cycles : ℕ) where
    pub put_link : GoesOnLink a (record tried { cycles = cycles })
    put_link = record { grants = put_goes a.granting.to granting.to grant puts.2; acks = goes_on_out_refl a.hearing }

    pub put_keeps : (asked : List Grant) → KeepsGrants asked a → KeepsGrants (asked ++ grant_of grant ∷ []) (record tried { cycles = cycles })
    put_keeps asked was = keeps_put asked a (record tried { cycles = cycles }) grant puts.0 (ap (λ (s : GrantingState). s.over) puts.1 ∙ puts.0) (ap (λ (r : Sender ring.Grant). r.sent) puts.2.sent) was

  module _ (head : ℕ) (full : Allows grant a.granting (Err (Full head)) granting) (heard : Receiver Ack) (hears : Hears a.hearing heard) where
    -- the ring was full, and acknowledgements were taken
    pub full_link : GoesOnLink a (record tried { hearing = heard })
    full_link = record { grants = refused_goes a.granting.to granting.to head full.2; acks = hears.goes_on }

    pub full_keeps : (asked : List Grant) → KeepsGrants asked a → KeepsGrants asked (record tried { hearing = heard })
    full_keeps asked was = keeps_still asked a (record tried { hearing = heard }) (ap (λ (r : Sender ring.Grant). r.sent) full.2.heads) (ap (λ (s : GrantingState). s.over) full.1) hears.goes_on was

    -- and none comes any more
    pub left_link : GoesOnLink a (record a { granting = record granting { over = true }; hearing = heard })
    left_link = record { grants = refused_goes a.granting.to granting.to head full.2; acks = hears.goes_on }

    pub left_keeps : heard.ended ≡ true → (asked : List Grant) → KeepsGrants asked a → KeepsGrants (asked ++ grant_of grant ∷ []) (record a { granting = record granting { over = true }; hearing = heard })
    left_keeps ended asked was = keeps_left asked a (record a { granting = record granting { over = true }; hearing = heard }) grant (ap (λ (r : Sender ring.Grant). r.sent) full.2.heads) refl ended was

  module _ (out : Allows grant a.granting (Err LeftOut) granting) where
    pub out_link : GoesOnLink a tried
    out_link = subst (λ g. GoesOnLink a (record a { granting = g })) (sym out.1) (goes_refl a)

    pub out_keeps : (asked : List Grant) → KeepsGrants asked a → KeepsGrants (asked ++ grant_of grant ∷ []) tried
    out_keeps asked was = keeps_left asked a tried grant (ap (λ (s : GrantingState). s.to.sent) out.1) (ap (λ (s : GrantingState). s.over) out.1 ∙ out.0) (was.ended out.0) was

-- ---- paces

module _ (a b : ProcessLink) where
  pub paced_pause : (paces : List Pace) (n k : ℕ) → ((asked : List Grant) → KeepsGrants asked a → KeepsGrants (asked ++ record { cycles = n; edition = k } ∷ []) b) → IsPaced paces a → IsPaced (paces ++ Pause n k ∷ []) b
  paced_pause paces n k keeps was = record { asked = was.asked ++ record { cycles = n; edition = k } ∷ []; are_asked = (grants_are_asked paces was.asked).pause n k was.are_asked; keeps = keeps was.asked was.keeps }

  pub paced_sought : (paces : List Pace) (k : ℕ) → ((asked : List Grant) → KeepsGrants asked a → KeepsGrants (asked ++ record { cycles = 1; edition = k } ∷ []) b) → IsPaced (paces ++ Sought k ∷ []) a →
      IsPaced (paces ++ Sought k ∷ []) b
  paced_sought paces k keeps was = record { asked = was.asked ++ record { cycles = 1; edition = k } ∷ []; are_asked = (grants_are_asked paces was.asked).sought k was.are_asked; keeps = keeps was.asked was.keeps }

  pub paced_still : (paces : List Pace) → ((asked : List Grant) → KeepsGrants asked a → KeepsGrants asked b) → IsPaced paces a → IsPaced paces b
  paced_still paces keeps was = record { asked = was.asked; are_asked = was.are_asked; keeps = keeps was.asked was.keeps }

  pub paced_whole : (paces : List Pace) (n k : ℕ) → ((asked : List Grant) → KeepsGrants asked a → KeepsGrants (asked ++ record { cycles = n; edition = k } ∷ []) b) → IsPaced paces a → IsPacedWhole n k paces b
  paced_whole paces n k keeps was = record { asked = was.asked ++ record { cycles = n; edition = k } ∷ []; all_asked = (grants_are_asked paces was.asked).last n k was.are_asked; keeps = keeps was.asked was.keeps }

-- a sync asks for no grant at first
pub paced_seek : (link : ProcessLink) (paces : List Pace) (k : ℕ) → IsPaced paces link → IsPaced (paces ++ Sought k ∷ []) link
paced_seek link paces k was = record { asked = was.asked; are_asked = (grants_are_asked paces was.asked).seek k was.are_asked; keeps = was.keeps }
