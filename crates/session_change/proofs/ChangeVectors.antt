-- Worked changes: what the engine's definitions see of each, which are of links, and a session with one.
use Rattle.std.proofs.Common.{◌≡◌, List, [], ◌∷◌, map, refl}
use Rattle.std.specs.Prelude.{true, false}
use Rattle.sound_model.specs.Regions as sound
use Rattle.ses_units.specs.declared.mode.Mode.TheVariants.{Play}
use Rattle.ses_units.specs.declared.point.Point.{Point}
use Rattle.ses_units.specs.declared.shape.Shape.TheVariants as shape
use Rattle.session_model.specs.declared.route.SendLink.{SendLink}
use Rattle.session_model.specs.declared.region.Region.{Region}
use Rattle.session_model.proofs.SessionVectors.{base}
use Rattle.engine_model.specs.Changes as engine
use Rattle.engine_model.specs.Changes.{made}
use Rattle.session_change.specs.declared.change.Change.{Change}
use Rattle.session_change.specs.declared.change.Change.TheVariants.{TransportOnly, Armed, Soloed, Muted, Faded, Panned, InMode, PointSet, PointUnset, Leads, SendSet, SendUnset, RegionPut, RegionTaken}
use Rattle.session_change.specs.Change.{change_seen, relinks}

link : SendLink
link = record { to = 5; pre = true; gain = 32768 }

point : Point
point = record { at = 96000; gain = 131072 }

region : Region
region = record {
  id = 7;
  source = 2;
  start = 10;
  length = 20;
  at = 30;
  layer = 4;
  gain = 65536;
  opaque = false;
  fade_in = 3;
  fade_out = 5;
  shape_in = shape.Slow;
  shape_out = shape.Linear;
}

-- one change of each kind, in the order of the kinds
changes : List Change
changes = TransportOnly ∷ Armed 0 true ∷ Soloed 1 false ∷ Muted 3 true ∷ Faded 3 262144 ∷ Panned 2 0 65536 ∷ InMode 4 Play ∷ PointSet 1 point ∷ PointUnset 1 96000
    ∷ Leads 2 6 ∷ SendSet 2 link ∷ SendUnset 2 5 ∷ RegionPut 1 region ∷ RegionTaken 1 7 ∷ []

switches_and_faders : map change_seen (TransportOnly ∷ Armed 0 true ∷ Soloed 1 false ∷ Muted 3 true ∷ Faded 3 262144 ∷ Panned 2 0 65536 ∷ InMode 4 Play ∷ [])
    ≡ engine.TransportOnly ∷ engine.Armed 0 true ∷ engine.Soloed 1 false ∷ engine.Muted 3 true ∷ engine.Faded 3 262144 ∷ engine.Panned 2 0 65536 ∷ engine.InMode 4 Play ∷ []
switches_and_faders = refl

lanes_and_links : map change_seen (PointSet 1 point ∷ PointUnset 1 96000 ∷ Leads 2 6 ∷ SendSet 2 link ∷ SendUnset 2 5 ∷ [])
    ≡ engine.PointSet 1 (record { at = 96000; gain = 131072 }) ∷ engine.PointUnset 1 96000 ∷ engine.Leads 2 6 ∷ engine.SendSet 2 link ∷ engine.SendUnset 2 5 ∷ []
unfolding point
lanes_and_links = refl

-- a region's length is `long` to the definitions of the sound
regions : map change_seen (RegionPut 1 region ∷ RegionTaken 1 7 ∷ [])
    ≡ engine.RegionPut 1 (record { id = 7; source = 2; start = 10; long = 20; at = 30; layer = 4; gain = 65536; opaque = false; fade_in = 3; fade_out = 5; shape_in = sound.Slow; shape_out = sound.Linear })
    ∷ engine.RegionTaken 1 7 ∷ []
unfolding region
regions = refl

-- outputs and sends are links, and nothing else is
links_alone : map (λ c. relinks (change_seen c)) changes
    ≡ false ∷ false ∷ false ∷ false ∷ false ∷ false ∷ false ∷ false ∷ false ∷ true ∷ true ∷ true ∷ false ∷ false ∷ []
unfolding changes
links_alone = refl

-- a change is made at its index alone
second_is_muted : map (λ q. q.muted) (made base (change_seen (Muted 1 true))).routes.items ≡ false ∷ true ∷ []
second_is_muted = refl

past_the_last_nothing : map (λ q. q.muted) (made base (change_seen (Muted 2 true))).routes.items ≡ false ∷ false ∷ []
past_the_last_nothing = refl
