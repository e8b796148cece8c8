-- What joins control with the process beside the list of edits: the grants that it puts, and the acknowledgements that it takes.
use Rattle.std.specs.Prelude.{◌≡◌, ℕ, true, false, List, [], ◌++◌}
use Rattle.engine_model.specs.Waited.{Grant, Pace, go_through, is_last_grant}
use Rattle.disk_ring.specs.Receiver.{GoesOnOut}
use Rattle.disk_ring.specs.Sender.{GoesOnIn}
use Rattle.cycle_grants.specs.Grants.{grants_put}
use Rattle.cycle_grants.specs.Granting.{AreAsked}
use Rattle.lead_worker.specs.declared.link.ProcessLink.{ProcessLink}

-- what every call leaves
pub record GoesOnLink (old new : ProcessLink) : Type 0 where
  pub grants : GoesOnIn old.granting.to new.granting.to
  pub acks : GoesOnOut old.hearing new.hearing

-- **Of these grants all were put, or those before one that found the ring full** once no acknowledgement came any more.
pub record KeepsGrants (asked : List Grant) (link : ProcessLink) : Type 0 where
  pub left_out : List Grant
  pub are : grants_put link.granting.to ++ left_out ≡ asked
  pub none : link.granting.over ≡ false → left_out ≡ []
  pub ended : link.granting.over ≡ true → link.hearing.ended ≡ true

-- they are just those that these paces ask for
pub record IsPaced (paces : List Pace) (link : ProcessLink) : Type 0 where
  pub asked : List Grant
  pub are_asked : AreAsked paces asked
  pub keeps : KeepsGrants asked link

-- and the last one is of so many cycles in this edition
pub record IsPacedWhole (cycles edition : ℕ) (paces : List Pace) (link : ProcessLink) : Type 0 where
  pub asked : List Grant
  pub all_asked : go_through (is_last_grant cycles edition) paces asked ≡ true
  pub keeps : KeepsGrants asked link
