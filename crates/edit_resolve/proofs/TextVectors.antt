-- The words of refusals, worked.
use Rattle.std.proofs.Common.{◌≡◌, refl, codes}
use Rattle.std.specs.Fmt.{digits}
use Rattle.engine_model.specs.Refusals.{Edits, Points, Sends, Regions, Limit, NoRoute, NoRegion, OnMaster, Far}
use Rattle.edit_resolve.specs.Texts.{refusal_text}

all_edits : refusal_text (Limit Edits) ≡ codes "limit edits 10000"
all_edits = refl

all_points : refusal_text (Limit Points) ≡ codes "limit points 1024"
all_points = refl

all_sends : refusal_text (Limit Sends) ≡ codes "limit sends 8"
all_sends = refl

all_regions : refusal_text (Limit Regions) ≡ codes "limit regions 256"
all_regions = refl

no_route : refusal_text (NoRoute (codes "lead")) ≡ codes "no-route lead"
no_route = refl

no_region : refusal_text (NoRegion 12) ≡ codes "no-region 12"
unfolding digits
no_region = refl

on_master : refusal_text OnMaster ≡ codes "master"
on_master = refl

far : refusal_text (Far 1099511627776) ≡ codes "far 1099511627776"
unfolding digits
far = refl
