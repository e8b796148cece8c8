-- Lists of rings that grow.
use Rattle.std.proofs.Common.{◌≡◌, ℕ, ◌+◌, ◌<◌, List, [], ◌∷◌, ◌++◌, length, refl, sym, ap, subst, arith, ◌∙◌}
use Rattle.std.specs.Prelude.{slice_index_or}
use Rattle.std.specs.Option.{option_map_or}
use Rattle.std.proofs.lemmas.List.{length_push, get_or_push, get_or_append_left}
use Rattle.std.proofs.lemmas.Option.{slice_get_read}
use mathlib.Core.Logic.{dite}
use native.Mathlib.Decide.{ℕ_discrete}
use Rattle.session_model.specs.declared.route.Route.{Route}
use Rattle.session_model.specs.declared.session.Session.{Session}
use Rattle.session_model.specs.Formed.{channels_at}
use Rattle.ses_io.specs.FixedList.{Listed}
use Rattle.disk_ring.specs.Sender.{Sender}
use Rattle.disk_ring.specs.Receiver.{Receiver}
use Rattle.process_ends.specs.Ends.{block_of}
use Rattle.run_rings.specs.Rings.{IsRing, AreRings}

-- the channels of a track are those of its route
pub channels_here : (s : Session) (t : ℕ) (q : Route) → t < length s.routes.items → q ≡ slice_index_or s.routes.items t q → channels_at s t ≡ q.channels
channels_here s t q within is = ap (λ o. option_map_or (λ r. r.channels) o 0) (slice_get_read s.routes.items (length s.routes.items) t q refl within is)

-- one ring more
pub one_more : {T : Type 0} (s : Session) (n samples : ℕ) (a : List (Sender T)) (b : List (Receiver T)) (x : Sender T) (y : Receiver T) → AreRings s n a b → samples ≡ block_of s n →
    IsRing s.depth samples x y → AreRings s (n + 1) (a ++ x ∷ []) (b ++ y ∷ [])
one_more {T} s n samples a b x y all wide is = (
  length_push a x ∙ ap (λ k. k + 1) all.0,
  length_push b y ∙ ap (λ k. k + 1) all.1,
  λ t d e within. dite (ℕ_discrete t n)
      (λ same. subst (λ k. IsRing s.depth (block_of s k) (slice_index_or (a ++ x ∷ []) k d) (slice_index_or (b ++ y ∷ []) k e)) (sym same)
      (subst (λ v. IsRing s.depth (block_of s n) v (slice_index_or (b ++ y ∷ []) n e)) (sym (get_or_push a x d n all.0))
      (subst (IsRing s.depth (block_of s n) x) (sym (get_or_push b y e n all.1)) (subst (λ k. IsRing s.depth k x y) wide is))))
      (λ other. subst (λ v. IsRing s.depth (block_of s t) v (slice_index_or (b ++ y ∷ []) t e)) (sym (get_or_append_left a (x ∷ []) d t (omega (arith, all.0, within, other))))
      (subst (IsRing s.depth (block_of s t) (slice_index_or a t d)) (sym (get_or_append_left b (y ∷ []) e t (omega (arith, all.1, within, other))))
      (all.2 t d e (omega (arith, within, other))))),
)

-- the same for lists with room, to which the ends were pushed
pub pushed : {T : Type 0} (s : Session) (n samples : ℕ) (a c : Listed (Sender T)) (b d : Listed (Receiver T)) (x : Sender T) (y : Receiver T) → AreRings s n a.items b.items → samples ≡ block_of s n →
    IsRing s.depth samples x y → c ≡ record a { items = a.items ++ x ∷ [] } → d ≡ record b { items = b.items ++ y ∷ [] } → AreRings s (n + 1) c.items d.items
pushed s n samples a c b d x y all wide is first second = subst (λ l. AreRings s (n + 1) l.items d.items) (sym first)
    (subst (λ l. AreRings s (n + 1) (a.items ++ x ∷ []) l.items) (sym second) (one_more s n samples a.items b.items x y all wide is))
