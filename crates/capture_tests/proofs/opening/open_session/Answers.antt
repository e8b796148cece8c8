use Rattle.std.proofs.Common.{sym, subst}
use Rattle.session_model.specs.Valid.{IsValid}
use Rattle.capture_tests.proofs.opening.open_session.Goals as goal

pub opening-requires : goal.opening-requires
opening-requires g c = subst IsValid (sym c.in-Ok-try_clone.ensures) c.in-Ok.ensures.valid
