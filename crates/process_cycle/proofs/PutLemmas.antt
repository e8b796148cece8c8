-- The blocks of the tracks are put one after the other.
use Rattle.std.proofs.Common.{◌≡◌, ℕ, zero, suc, ◌+◌, ◌*◌, ◌<◌, ℤ, pos, List, [], length, map, set, refl, ap, ◌∙◌, sym, subst, arith, replicate}
use Rattle.std.specs.Prelude.{Some, option_map, slice_get, slice_index_or, slice_set}
use mathlib.Core.Logic.{dite}
use native.Mathlib.Decide.{ℕ_discrete}
use Rattle.std.proofs.lemmas.List.{get_or-set_same, get_or-set_other, length-map}
use Rattle.std.proofs.lemmas.Option.{get_or_from_slice_get, slice_get-map}
use Rattle.engine_model.specs.Mixed.{newest_samples}
use Rattle.disk_ring.specs.Receiver.{Receiver}
use Rattle.piece_item.specs.declared.item.Item.{Item}
use Rattle.session_model.specs.declared.session.Session.{Session}
use Rattle.engine_laws.proofs.ListLemmas.{item_at}
use Rattle.route_mix.specs.Blocks.{silence}
use Rattle.route_mix.specs.Desks.{DeskState}
use Rattle.master_blocks.specs.State.{MasterState, IsMasterOf}
use Rattle.track_playback.specs.declared.play_position.PlayPosition.{PlayPosition}
use Rattle.track_playback.specs.SpareBoxes.{received_items}
use Rattle.process_ends.specs.Ends.{HaveRooms, block_of}
use Rattle.process_cycle.specs.Heard.{Listened}

-- what a block of a track has at a place, as it was put or as it was received
abbrev pub put_at : List (List ℤ) → ℕ → ℕ → ℤ
put_at inputs t k = slice_index_or (slice_index_or inputs t []) k (pos 0)

abbrev pub heard_at : Listened → PlayPosition → ℕ → ℕ → ℤ
heard_at on at t k = slice_index_or (newest_samples at.generation at.next (slice_index_or (map received_items on.plays) t [])) k (pos 0)

-- The blocks of the tracks below a number were put, and nothing else of the master changed.
pub record PutBelow {W : Type 0} (on : Listened) (at : PlayPosition) (old now : MasterState W) (n : ℕ) : Type 0 where
  pub put : (t k : ℕ) → t < n → put_at now.desk.inputs t k ≡ heard_at on at t k
  pub same : now ≡ record old { desk = now.desk }
  pub of : IsMasterOf on.session now

-- ---- silence

silence_at : (n k : ℕ) → slice_index_or (replicate n (pos 0)) k (pos 0) ≡ pos 0
silence_at zero k = refl
silence_at (suc n) zero = refl
silence_at (suc n) (suc k) = silence_at n k

-- ---- one track

-- a master has a block for each track
input_there : {W : Type 0} (s : Session) (m : MasterState W) (t : ℕ) → IsMasterOf s m → t < length s.tracks.items → t < length m.desk.inputs
input_there s m t of h = omega (arith, h, of.valid.formed.limits.master, ap length of.desk.inputs, length-map m.desk.inputs length, length-map s.routes.items (λ q. s.block * q.channels))

-- what was received of a track, where its ring is known
heard_of : (on : Listened) (at : PlayPosition) (t k : ℕ) (r : Receiver Item) → slice_get on.plays t ≡ Some r
    → heard_at on at t k ≡ slice_index_or (newest_samples at.generation at.next (received_items r)) k (pos 0)
heard_of on at t k r there = ap (λ xs. slice_index_or (newest_samples at.generation at.next xs) k (pos 0))
    (get_or_from_slice_get (map received_items on.plays) t (received_items r) [] (slice_get-map received_items on.plays t ∙ ap (option_map received_items) there))

-- a block has what was heard of a track
abbrev pub IsHeardIn : Listened → PlayPosition → ℕ → List ℤ → Type 0
IsHeardIn on at t block = (k : ℕ) → slice_index_or block k (pos 0) ≡ heard_at on at t k

-- the newest piece has
pub newest_is_heard : (on : Listened) (at : PlayPosition) (t : ℕ) (block : List ℤ) → t < length on.plays
    → ((r : Receiver Item) → slice_get on.plays t ≡ Some r → block ≡ newest_samples at.generation at.next (received_items r)) → IsHeardIn on at t block
newest_is_heard on at t block lt newest = λ k. let r = item_at on.plays t lt in
    ap (λ xs. slice_index_or xs k (pos 0)) (newest r.0 r.1) ∙ sym (heard_of on at t k r.0 r.1)

-- and silence, where there is none
pub silence_is_heard : (on : Listened) (at : PlayPosition) (t n : ℕ) → t < length on.plays
    → ((r : Receiver Item) → slice_get on.plays t ≡ Some r → [] ≡ newest_samples at.generation at.next (received_items r)) → IsHeardIn on at t (silence n)
silence_is_heard on at t n lt newest = λ k. silence_at n k ∙ newest_is_heard on at t [] lt newest k

-- the block of a track as it is put
pub block_fits : (on : Listened) (t : ℕ) (block : List ℤ) → t < length on.plays → HaveRooms on.session on.plays
    → ((r : Receiver Item) → slice_get on.plays t ≡ Some r → length block ≡ r.room) → length block ≡ block_of on.session t
block_fits on t block lt rooms whole = let r = item_at on.plays t lt in whole r.0 r.1 ∙ rooms t r.0 r.1

pub puts_one : {W : Type 0} (on : Listened) (at : PlayPosition) (old now new : MasterState W) (t : ℕ) (block : List ℤ) → PutBelow on at old now t → t < length on.session.tracks.items
    → new ≡ record now { desk = record now.desk { inputs = slice_set now.desk.inputs t block } } → IsMasterOf on.session new → IsHeardIn on at t block → PutBelow on at old new (t + 1)
puts_one {W = W} on at old now new t block below lt put of is = record {
  put = λ u k under. ap (λ (m : MasterState W). put_at m.desk.inputs u k) put ∙ dite (ℕ_discrete u t)
      (λ e. subst (λ i. put_at (set now.desk.inputs t block) i k ≡ heard_at on at i k) (sym e)
      (ap (λ xs. slice_index_or xs k (pos 0)) (get_or-set_same now.desk.inputs t block [] (input_there on.session now t below.of lt)) ∙ is k))
      (λ other. ap (λ xs. slice_index_or xs k (pos 0)) (get_or-set_other now.desk.inputs t u block [] other) ∙ below.put u k (omega (arith, under, other)));
  same = put ∙ ap (λ (m : MasterState W). record m { desk = record now.desk { inputs = slice_set now.desk.inputs t block } }) below.same
      ∙ ap (λ (d : DeskState). record old { desk = d }) (sym (ap (λ (m : MasterState W). m.desk) put));
  of = of;
}
