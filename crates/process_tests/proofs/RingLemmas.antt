-- The ends of the rings of a session of one track.
use Rattle.std.proofs.Common.{◌≡◌, ℕ, ◌*◌, ◌<◌, List, [], ◌∷◌, ◌++◌, length, length-append, get_or, sym, ap, ◌∙◌, subst, arith}
use Rattle.std.specs.Prelude.{slice_index_or}
use Rattle.std.specs.Option.{option_map_or}
use Rattle.std.proofs.lemmas.Option.{slice_get-get_or}
use Rattle.disk_ring.specs.Sender.{Sender}
use Rattle.disk_ring.specs.Receiver.{Receiver}
use Rattle.session_model.specs.declared.route.Route.{Route}
use Rattle.session_model.specs.declared.session.Session.{Session}
use Rattle.process_ends.specs.Ends.{block_of, IsNewIn, IsNewOut}
use Rattle.run_rings.specs.Rings.{EachHasARing}
use Rattle.run_rings.proofs.LawLemmas.{each_in, each_out}

-- the last of one item is all of them
only : {A : Type 0} (xs rest : List A) (x : A) → xs ≡ rest ++ x ∷ [] → length xs ≡ 1 → xs ≡ x ∷ []
only xs [] x same one = same
only xs (y ∷ rest) x same one = absurd (omega (arith, one, ap length same, length-append rest (x ∷ [])))

module _ {T : Type 0} (s : Session) (a : List (Sender T)) (b : List (Receiver T)) (all : EachHasARing s a b) (one : length s.tracks.items ≡ 1) where
  -- the end that puts
  pub new_in : (rest : List (Sender T)) (x : Sender T) → a ≡ rest ++ x ∷ [] → IsNewIn s.depth (block_of s 0) x
  new_in rest x same = subst (λ l. IsNewIn s.depth (block_of s 0) (slice_index_or l 0 x)) (only a rest x same (all.0 ∙ one))
      (each_in s (length s.tracks.items) a b all x 0 x (omega (arith, one)))

  -- the end that takes
  pub new_out : {S : Type 0} → Sender S → (rest : List (Receiver T)) (y : Receiver T) → b ≡ rest ++ y ∷ [] → IsNewOut s.depth (block_of s 0) y
  new_out d rest y same = subst (λ l. IsNewOut s.depth (block_of s 0) (slice_index_or l 0 y)) (only b rest y same (all.1 ∙ one))
      (each_out s (length s.tracks.items) a b all d 0 y (omega (arith, one)))

-- the samples of a block of a track, by the channels of its route
pub block_is : (s : Session) (t n : ℕ) (q : Route) → t < length s.routes.items → n ≡ (get_or s.routes.items t q).channels → s.block * n ≡ block_of s t
block_is s t n q lt is = ap (λ m. s.block * m) is ∙ ap (λ o. s.block * option_map_or (λ (r : Route). r.channels) o 0) (sym (slice_get-get_or s.routes.items t q lt))
