-- An export is the sound of the session's master.
use Rattle.std.proofs.Common.{◌≡◌, inl, inr, ℕ, zero, suc, ◌+◌, ◌-◌, ◌*◌, ◌^◌, ◌≤◌, ◌<◌, List, [], ◌∷◌, ◌++◌, length, map, refl, sym, ap, arith, ◌∙◌, append_assoc}
use Rattle.std.specs.Prelude.{Bool, true, false, min, if◌then◌else◌, ℤ, pos, reverse, replicate, is_ok, Ok}
use Rattle.std.specs.List.{flat_map, range_with_len}
use Rattle.std.specs.Option.{option_map_or}
use Rattle.std.proofs.Math.Path.{fun_ext}
use Rattle.std.proofs.lemmas.Bool.{cases_lt, lt-leb}
use Rattle.std.proofs.lemmas.Grind.{flat_map-append}
use Rattle.std.proofs.lemmas.List.{append-nil, length-reverse}
use Rattle.std.proofs.lemmas.Option.{slice_get_past}
use Rattle.sound_model.specs.Regions.{Sounds}
use Rattle.sound_model.specs.Layers.{track_sample}
use Rattle.sound_model.specs.Routes.{master_sample}
use Rattle.session_model.specs.declared.edit.Edit.{Edit}
use Rattle.session_model.specs.declared.edit.Edit.TheVariants.{Locate, Roll}
use Rattle.session_model.specs.declared.session.Session.{Session}
use Rattle.session_model.specs.Frames.{interleaved}
use Rattle.session_model.specs.Views.{routes_of, track_regions}
use Rattle.engine_model.specs.Refusals.{Far, ◌>>=◌, refused_if}
use Rattle.engine_model.specs.Changes.{TransportOnly}
use Rattle.engine_model.specs.Commands.{is_far}
use Rattle.engine_model.specs.Editions.{Edition, apply, changed, edition, opening, taken_up}
use Rattle.engine_model.specs.Journal.{Note, Entry, note_at, note_of, rolled}
use Rattle.engine_model.specs.Plain.{Run, accepts, export_commands, plain_cycles, plain_entry, plain_entry_in, plain_from, plain_note, plain_run, with_edit, Do}
use Rattle.engine_model.specs.Played.{Samples, block, heard, master_at, master_channels, master_samples, samples_of}
use Rattle.journal_laws.specs.Exports.{master_from, AnExportIsTheMaster}
use Rattle.journal_laws.proofs.AckLemmas.{cycles_long}
use Rattle.journal_laws.proofs.InterleavedLemmas.{joined, same_frames}
use Rattle.journal_laws.proofs.JournalLemmas.{turned}
use Rattle.journal_laws.proofs.OneThreadLemmas.{note_there}

-- ---- both commands are accepted

abbrev two_edits : ℕ → List Edit
two_edits from = Locate from ∷ Roll ∷ []

abbrev located : Session → ℕ → Edition
located s from = changed (opening s) (Locate from) TransportOnly

abbrev rolling : Session → ℕ → Edition
rolling s from = changed (located s from) Roll TransportOnly

locates : (s : Session) (from : ℕ) → from < 2 ^ 40 → apply (opening s) (Locate from) ≡ Ok (located s from)
locates s from near = ap (λ b. (refused_if b (Far from) >>= (λ u. Ok TransportOnly)) >>= (λ change. Ok (changed (opening s) (Locate from) change))) near_enough
  where
    near_enough : is_far from ≡ false
    near_enough = lt-leb (2 ^ 40) from near

located_is : (s : Session) (from : ℕ) → from < 2 ^ 40 → edition s (Locate from ∷ []) 1 ≡ located s from
located_is s from near = ap (taken_up (opening s)) (locates s from near)

rolls : (s : Session) (from : ℕ) → from < 2 ^ 40 → apply (edition s (Locate from ∷ []) 1) Roll ≡ Ok (rolling s from)
rolls s from near = ap (λ e. apply e Roll) (located_is s from near)

rolling_is : (s : Session) (from : ℕ) → from < 2 ^ 40 → edition s (two_edits from) 2 ≡ rolling s from
rolling_is s from near = ap (λ e. taken_up e (apply e Roll)) (ap (taken_up (opening s)) (locates s from near))

-- so a run is that of all cycles after them
abbrev run_of : Session → ℕ → ℕ → Run
run_of s cycles from = record { edits = two_edits from; entries = plain_cycles s (two_edits from) cycles [] }

run_is : (s : Session) (cycles from : ℕ) → from < 2 ^ 40 → plain_run s cycles (export_commands from) ≡ run_of s cycles from
run_is s cycles from near = first (accepts s at_first (Locate from)) (ap is_ok (locates s from near))
    ∙ second (accepts s (with_edit at_first (Locate from)) Roll) (ap is_ok (rolls s from near))
    ∙ ap (λ n. record { edits = two_edits from; entries = plain_cycles s (two_edits from) n [] }) {x = min cycles (cycles - 0)} {y = cycles} (omega arith)
  where
    at_first : Run
    at_first = record { edits = []; entries = [] }

    first : (b : Bool) → b ≡ true → (if b then plain_from s cycles (with_edit at_first (Locate from)) (Do Roll ∷ []) else plain_from s cycles at_first
        (Do Roll ∷ [])) ≡ plain_from s cycles (with_edit at_first (Locate from)) (Do Roll ∷ [])
    first b is = ap (λ c. if c then plain_from s cycles (with_edit at_first (Locate from)) (Do Roll ∷ []) else plain_from s cycles at_first (Do Roll ∷ [])) is

    second : (b : Bool) → b ≡ true → (if b then plain_from s cycles (with_edit (with_edit at_first (Locate from)) Roll) [] else plain_from s cycles
        (with_edit at_first (Locate from)) []) ≡ plain_from s cycles (with_edit (with_edit at_first (Locate from)) Roll) []
    second b is = ap (λ c. if c then plain_from s cycles (with_edit (with_edit at_first (Locate from)) Roll) [] else plain_from s cycles (with_edit at_first (Locate from)) []) is

-- ---- one entry

entry_is : (s : Session) (from : ℕ) (before : List Entry) → from < 2 ^ 40 → plain_entry s (two_edits from) before ≡ plain_entry_in s (two_edits from) (rolling s from) before
entry_is s from before near = ap (λ now. plain_entry_in s (two_edits from) now before) (rolling_is s from near)

-- a track's sample, where there is such a track or none
sample_is : (sounds : Sounds) (s : Session) (from : ℕ) (before : List Entry) (t k x : ℕ) →
    heard (samples_of sounds s (two_edits from)) t k x (note_of t (plain_entry_in s (two_edits from) (rolling s from) before)).play ≡ track_sample sounds (track_regions s t) k x
unfolding track_sample
sample_is sounds s from before t k x = elim (cases_lt t (length s.tracks.items)) [
  | inl lt ↦ ap (λ (n : Note). heard (samples_of sounds s (two_edits from)) t k x n.play) (note_there (plain_note s (two_edits from) (rolling s from) before) 0 t (length s.tracks.items) lt
      ∙ ap (plain_note s (two_edits from) (rolling s from) before) {x = 0 + t} {y = t} (omega arith))
  | inr ge ↦ ap (λ (n : Note). heard (samples_of sounds s (two_edits from)) t k x n.play) (no_note (plain_note s (two_edits from) (rolling s from) before) 0 t (length s.tracks.items) ge)
      ∙ sym (ap (λ o. track_sample sounds (option_map_or (λ q. q.list) o []) k x) (slice_get_past s.tracks.items t ge))
]
  where
    no_note : (f : ℕ → Note) (u i n : ℕ) → n ≤ i → note_at i (map f (range_with_len u n)) ≡ note_at i []
    no_note f u i zero le = refl
    no_note f u zero (suc n) le = absurd (omega arith)
    no_note f u (suc i) (suc n) le = no_note f (u + 1) i n (omega arith)

-- the block of the entry, where so many entries rolled before it
block_is : (sounds : Sounds) (s : Session) (from : ℕ) (before : List Entry) → from < 2 ^ 40 →
    block s (two_edits from) (samples_of sounds s (two_edits from)) (plain_entry s (two_edits from) before)
    ≡ interleaved (master_from sounds s from) (master_channels s) (rolled 1 before * s.block) (s.block * master_channels s)
block_is sounds s from before near = ap (block s (two_edits from) samples) (entry_is s from before near)
    ∙ same_frames (master_at s (two_edits from) samples e 1) (master_from sounds s from) (master_channels s) (rolled 1 before * s.block) (rolled 1 before * s.block) s.block
    (λ i c lt in_it. at (rolled 1 before * s.block + i) c)
  where
    samples : Samples
    samples = samples_of sounds s (two_edits from)

    e : Entry
    e = plain_entry_in s (two_edits from) (rolling s from) before

    at : (n c : ℕ) → master_at s (two_edits from) samples e 1 n c ≡ master_from sounds s from n c
    at n c = ap (λ (now : Edition). master_sample (routes_of now.session) (λ t k. heard samples t k (from + n) (note_of t e).play) (from + n) c) (rolling_is s from near)
        ∙ ap (λ f. master_sample (routes_of s) f (from + n) c) (fun_ext (λ t. fun_ext (λ k. sample_is sounds s from before t k (from + n))))

rolls_once : (s : Session) (from : ℕ) (before : List Entry) → from < 2 ^ 40 → rolled 1 (plain_entry s (two_edits from) before ∷ before) ≡ suc (rolled 1 before)
rolls_once s from before near = ap (λ e. rolled 1 (e ∷ before)) (entry_is s from before near)

-- ---- all entries

blocks_are : (sounds : Sounds) (s : Session) (from n : ℕ) (before : List Entry) → from < 2 ^ 40 →
    flat_map (block s (two_edits from) (samples_of sounds s (two_edits from))) (reverse (plain_cycles s (two_edits from) n before))
    ≡ flat_map (block s (two_edits from) (samples_of sounds s (two_edits from))) (reverse before)
    ++ interleaved (master_from sounds s from) (master_channels s) (rolled 1 before * s.block) (n * s.block * master_channels s)
blocks_are sounds s from zero before near = sym (append-nil (flat_map (block s (two_edits from) (samples_of sounds s (two_edits from))) (reverse before)))
    ∙ ap (λ n. flat_map (block s (two_edits from) (samples_of sounds s (two_edits from))) (reverse before) ++ interleaved (master_from sounds s from) (master_channels s)
    (rolled 1 before * s.block) n) (none s.block (master_channels s))
  where
    none : (b w : ℕ) → 0 ≡ 0 * b * w
    none b w = omega arith
blocks_are sounds s from (suc n) before near = blocks_are sounds s from n (e ∷ before) near
    ∙ ap (λ l. flat_map made l ++ F (rolled 1 (e ∷ before) * s.block) (n * s.block * wide)) (turned e before)
    ∙ ap (λ l. l ++ F (rolled 1 (e ∷ before) * s.block) (n * s.block * wide)) (flat_map-append made (reverse before) (e ∷ []) ∙ ap (λ l. flat_map made (reverse before) ++ l) (append-nil (made e)))
    ∙ append_assoc (flat_map made (reverse before)) (made e) (F (rolled 1 (e ∷ before) * s.block) (n * s.block * wide))
    ∙ ap (λ l. flat_map made (reverse before) ++ l) (
    ap (λ l. l ++ F (rolled 1 (e ∷ before) * s.block) (n * s.block * wide)) (block_is sounds s from before near)
    ∙ ap (λ k. F (rolled 1 before * s.block) (s.block * wide) ++ F k (n * s.block * wide)) (ap (λ r. r * s.block) (rolls_once s from before near) ∙ on (rolled 1 before) s.block)
    ∙ joined (master_from sounds s from) wide (rolled 1 before * s.block) s.block (n * s.block)
    ∙ ap (F (rolled 1 before * s.block)) (one_more n s.block wide))
  where
    e : Entry
    e = plain_entry s (two_edits from) before

    made : Entry → List ℤ
    made = block s (two_edits from) (samples_of sounds s (two_edits from))

    wide : ℕ
    wide = master_channels s

    F : ℕ → ℕ → List ℤ
    F a k = interleaved (master_from sounds s from) wide a k

    on : (p b : ℕ) → suc p * b ≡ p * b + b
    on p b = grind arith

    one_more : (l b w : ℕ) → b * w + l * b * w ≡ suc l * b * w
    one_more l b w = grind arith

pub an_export_is_the_master : AnExportIsTheMaster
an_export_is_the_master sounds session cycles from near =
    ap (λ (run : Run). master_samples session run.edits (samples_of sounds session run.edits) cycles (reverse run.entries)) (run_is session cycles from near)
    ∙ ap (λ n. flat_map made (reverse entries) ++ replicate (n * (session.block * master_channels session)) (pos 0)) all
    ∙ ap (λ n. flat_map made (reverse entries) ++ replicate n (pos 0)) (none (session.block * master_channels session))
    ∙ append-nil (flat_map made (reverse entries))
    ∙ blocks_are sounds session from cycles [] near
    ∙ ap (λ a. interleaved (master_from sounds session from) (master_channels session) a (cycles * session.block * master_channels session)) (none session.block)
  where
    entries : List Entry
    entries = plain_cycles session (two_edits from) cycles []

    made : Entry → List ℤ
    made = block session (two_edits from) (samples_of sounds session (two_edits from))

    all : cycles - length (reverse entries) ≡ 0
    all = omega (arith, length-reverse entries, cycles_long session (two_edits from) cycles [])

    none : (b : ℕ) → 0 * b ≡ 0
    none b = omega arith
