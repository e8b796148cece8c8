-- What was put of one track, and of the tracks below a number.
use Rattle.std.proofs.Common.{◌≡◌, ℕ, ◌+◌, ◌*◌, ◌<◌, ℤ, inl, inr, List, length, set, take, refl, sym, ap, subst, ◌∙◌, arith}
use Rattle.std.specs.Prelude.{slice_index_or}
use Rattle.std.proofs.lemmas.Bool.{cases_eq}
use Rattle.std.proofs.lemmas.List.{get_or-set_same, get_or-set_other, length-map, length-take-le}
use Rattle.session_model.specs.declared.session.Session.{Session}
use Rattle.session_model.specs.declared.edit.Edit.{Edit}
use Rattle.session_model.specs.Formed.{channels_at}
use Rattle.session_model.specs.Views.{track_regions}
use Rattle.session_model.specs.Valid.{IsValid}
use Rattle.engine_model.specs.Editions.{edition}
use Rattle.engine_model.specs.Journal.{Play, Heard, Silent, Short}
use Rattle.engine_laws.proofs.FixedLemmas.{channels_stay}
use Rattle.route_mix.specs.Blocks.{silence}
use Rattle.master_blocks.specs.State.{MasterState, IsMasterOf}
use Rattle.track_render.specs.Blocks.{placed_block}
use Rattle.heard_blocks.specs.Lists.{ListsState, HasLists}
use Rattle.heard_blocks.specs.State.{HeardState, IsReady, heard_or}
use Rattle.heard_blocks.specs.Playing.{Playing, IsPlayed, PutsTrack, PutsTracks, put_block, edition_at, played_block, session_block, track_samples}
use Rattle.heard_blocks.proofs.BringLemmas.{place_within}
use Rattle.heard_blocks.proofs.RoomLemmas.{within_room}

-- a master has a block for each track
pub input_there : {W : Type 0} (s : Session) (m : MasterState W) (t : ℕ) → IsMasterOf s m → t < length s.tracks.items → t < length m.desk.inputs
input_there s m t of h = omega (arith, h, of.valid.formed.limits.master, ap length of.desk.inputs, length-map m.desk.inputs length, length-map s.routes.items (λ q. s.block * q.channels))

-- what holds of the block of another track's list is none of this one's
module _ (told : Type 0) (on : Playing) (t : ℕ) (old new : HeardState) (ready : IsReady on.session on.edits old) (lt : t < length on.session.tracks.items) (block : List ℤ)
    (block_is : put_block new t ≡ block) (other_block : (u : ℕ) → ¬ (u ≡ t) → put_block new u ≡ put_block old u) (now : IsReady on.session on.edits new) where
  -- a track was heard by the playlist of an edition
  pub hears : (p : ℕ) → new.lists.at ≡ set old.lists.at t p → (told → block ≡ played_block on t p) → PutsTrack told on t (Heard p) old new
  hears p at is = record {
    ready = now;
    played = λ h. block_is ∙ is h;
    at = ap (λ xs. slice_index_or xs t 0) at ∙ get_or-set_same old.lists.at t p 0 (place_within on.session on.edits old.lists t ready.lists lt);
    others = other_block;
    others_at = λ u other. ap (λ xs. slice_index_or xs u 0) at ∙ get_or-set_other old.lists.at t u p 0 other;
  }

  -- it was silent
  pub is_silent : new.lists ≡ old.lists → block ≡ silence (track_samples on.session t) → PutsTrack told on t Silent old new
  is_silent same is = record {
    ready = now;
    played = block_is ∙ is;
    at = ap (λ (l : ListsState). slice_index_or l.at t 0) same;
    others = other_block;
    others_at = λ u other. ap (λ (l : ListsState). slice_index_or l.at u 0) same;
  }

  pub is_short : (tail : ℕ) → new.lists ≡ old.lists → block ≡ silence (track_samples on.session t) → PutsTrack told on t (Short tail) old new
  is_short tail same is = record {
    ready = now;
    played = block_is ∙ is;
    at = ap (λ (l : ListsState). slice_index_or l.at t 0) same;
    others = other_block;
    others_at = λ u other. ap (λ (l : ListsState). slice_index_or l.at u 0) same;
  }

-- ---- all tracks

pub puts_none : (told : Type 0) (on : Playing) (plays : ℕ → Play) (h : HeardState) → IsReady on.session on.edits h → PutsTracks told on plays 0 h h
puts_none told on plays h ready = record {
  ready = ready;
  played = λ t lt. absurd (omega arith);
  at = λ t lt. absurd (omega arith);
  later = λ t le. refl;
}

pub puts_more : (told : Type 0) (on : Playing) (plays : ℕ → Play) (t : ℕ) (first old new : HeardState) → PutsTracks told on plays t first old → PutsTrack told on t (plays t) old new →
    PutsTracks told on plays (t + 1) first new
puts_more told on plays t first old new before one = record {
  ready = one.ready;
  played = λ u lt. elim (cases_eq u t) [
    | inl same ↦ subst (λ k. IsPlayed told on k (plays k) (put_block new k)) (sym same) one.played
    | inr other ↦ subst (IsPlayed told on u (plays u)) (sym (one.others u other)) (before.played u (omega (arith, lt, other)))
  ];
  at = λ u lt. elim (cases_eq u t) [
    | inl same ↦ subst (λ k. edition_at new k ≡ heard_or (plays k) (edition_at first k)) (sym same) (one.at ∙ ap (heard_or (plays t)) (before.later t (omega arith)))
    | inr other ↦ one.others_at u other ∙ before.at u (omega (arith, lt, other))
  ];
  later = λ u le. one.others_at u (λ e. absurd (omega (arith, le, e))) ∙ before.later u (omega (arith, le));
}

-- ---- a block that is rendered of a session whose lists are brought on

module _ (s : Session) (edits : List Edit) (l : ListsState) (t : ℕ) (lists : HasLists s edits l) (lt : t < length s.tracks.items) where
  same_block : l.session.block ≡ s.block
  same_block = ap (λ x. x.block) lists.fixed

  samples_same : track_samples l.session t ≡ track_samples s t
  samples_same = ap (λ n. n * channels_at l.session t) same_block ∙ ap (λ n. s.block * n) (channels_stay s l.session lists.fixed t)

  pub block_played : (on : Playing) (p : ℕ) → on.session ≡ s → on.edits ≡ edits → slice_index_or l.at t 0 ≡ p → session_block on.sounds l.session t on.transport on.seq ≡ played_block on t p
  block_played on p same_session same_edits at =
      ap (λ rs. placed_block on.sounds rs (channels_at l.session t) on.transport (on.seq * l.session.block) (track_samples l.session t)) ((lists.each t lt).list
      ∙ ap (λ q. track_regions (edition s edits q).session t) at)
      ∙ ap (λ m. placed_block on.sounds (track_regions (edition s edits p).session t) m on.transport (on.seq * l.session.block) (track_samples l.session t)) (channels_stay s l.session lists.fixed t)
      ∙ ap (λ m. placed_block on.sounds (track_regions (edition s edits p).session t) (channels_at s t) on.transport (on.seq * m) (track_samples l.session t)) same_block
      ∙ ap (placed_block on.sounds (track_regions (edition s edits p).session t) (channels_at s t) on.transport (on.seq * s.block)) samples_same
      ∙ ap (λ x. placed_block on.sounds (track_regions (edition x edits p).session t) (channels_at x t) on.transport (on.seq * x.block) (track_samples x t)) (sym same_session)
      ∙ ap (λ es. placed_block on.sounds (track_regions (edition on.session es p).session t) (channels_at on.session t) on.transport (on.seq * on.session.block) (track_samples on.session t)) (sym same_edits)

  pub count_is : (z : Session) (count : ℕ) → z ≡ l.session → count ≡ track_samples z t → count ≡ track_samples s t
  count_is z count same is = is ∙ ap (λ (x : Session). track_samples x t) same ∙ samples_same

  pub front_long : (z : Session) (count : ℕ) (now : List ℤ) → z ≡ l.session → count ≡ track_samples z t → length now ≡ 2 * s.block → IsValid s → length (take count now) ≡ track_samples s t
  front_long z count now same is long valid = let most = within_room s t valid lt in let many = count_is z count same is in
      length-take-le count now (omega (arith, most, many, long)) ∙ many
