-- All lines stand exactly where report, session and master agree.
use Rattle.std.proofs.Common.{◌≡◌, ℕ, ◌+◌, ◌-◌, ◌%◌, ◌≤◌, refl, ap, arith, ◌∙◌, sym, subst, List, [], ◌∷◌, ◌++◌, length}
use Rattle.std.specs.Prelude.{Bool, true, ◌&&◌, ◌==◌, reverse}
use Rattle.std.specs.List.{flat_map, list_all}
use Rattle.std.proofs.lemmas.List.{append_assoc, append-nil, length-append}
use Rattle.std.proofs.lemmas.Bool.Decides.{Decides-eqb}
use Rattle.sound_model.specs.Regions.{Sounds}
use Rattle.session_model.specs.declared.session.Session.{Session}
use Rattle.session_model.specs.Valid.{IsValid}
use Rattle.engine_model.specs.Fits.{is_lawful_newest}
use Rattle.engine_model.specs.Played.{Samples, master_file, samples_of}
use Rattle.cycle_journal.specs.Report.{Reported}
use Rattle.master_blocks.specs.Bytes.{data_bytes, entry_bytes, head_bytes, pad_bytes, silent_bytes}
use Rattle.master_blocks.specs.Laws.{TheMasterIsItsBlocks}
use Rattle.report_verdict.specs.Laws.{Agree, AllStandWhereAllAgree}
use Rattle.report_verdict.specs.Lines.{edits_stand, entries_behind, entries_stand, first_fall, form_stands, is_head_of, lines_stand}
use Rattle.report_verdict.specs.Master.{block_place, has_form, is_silent_from, stand_at}
use Rattle.report_verdict.proofs.FallLemmas.{AllStand, all_behind, all_both, all_front, all_one, all_stand, both, first_of, none_falls, none_mapped, none_of, second_of}
use Rattle.report_verdict.proofs.PartLemmas.{IsPartAt, at_place, joined, part_of, part_within, stands, whole}
use Rattle.report_verdict.proofs.EditLemmas.{accepted_where_all_stand, all_stand_where_accepted}
use Rattle.report_verdict.proofs.EntryLemmas.{AreRight, entries_long, no_bytes, right_where_all_stand, stand_where_right}
use Rattle.report_verdict.proofs.FileLemmas.{end_place, head_long, pad_long}

module _ (pieced : TheMasterIsItsBlocks) (s : Session) (sounds : Sounds) (r : Reported) (file : List ℕ) (valid : IsValid s) (few : length r.entries ≤ r.head.cycles) where
  abbrev samples : Samples
  samples = samples_of sounds s r.edits

  abbrev cycles : ℕ
  cycles = r.head.cycles

  abbrev made : ℕ
  made = length r.entries

  abbrev blocks : List ℕ
  blocks = flat_map (entry_bytes s r.edits samples) r.entries

  abbrev silence : List ℕ
  silence = silent_bytes s (cycles - made)

  -- the file, piece by piece
  abbrev pieces : List ℕ
  pieces = (head_bytes s cycles ++ blocks) ++ (silence ++ pad_bytes s cycles)

  master_is : master_file s r.edits samples cycles r.entries ≡ pieces
  master_is = pieced s r.edits samples cycles r.entries valid few

  first_place : length (head_bytes s cycles) ≡ block_place s 0
  first_place = omega (arith, head_long s cycles, no_bytes s)

  front_long : length (head_bytes s cycles ++ blocks) ≡ block_place s made
  front_long = let none : 0 + made ≡ made = omega arith in
      length-append (head_bytes s cycles) blocks ∙ ap (λ n. n + length blocks) first_place ∙ entries_long s r.edits samples r.entries 0 ∙ ap (block_place s) none

  pieces_long : length pieces ≡ 44 + data_bytes s cycles + data_bytes s cycles % 2
  pieces_long = omega (arith, length-append (head_bytes s cycles ++ blocks) (silence ++ pad_bytes s cycles), front_long, length-append silence (pad_bytes s cycles), end_place s made cycles few, pad_long s cycles)

  nothing_before : is_lawful_newest s r.edits (reverse r.entries ++ []) ≡ is_lawful_newest s r.edits (reverse r.entries)
  nothing_before = ap (is_lawful_newest s r.edits) (append-nil (reverse r.entries))

  -- ---- from the lines

  module _ (all : AllStand (lines_stand s sounds r file)) where
    abbrev later : Bool
    later = list_all (λ b. b) (edits_stand s r.edits ++ entries_behind s r.edits samples file cycles r.entries)

    form : form_stands s r.head file ≡ true
    form = first_of (form_stands s r.head file) later all

    edits_all : AllStand (edits_stand s r.edits)
    edits_all = all_front (edits_stand s r.edits) (entries_behind s r.edits samples file cycles r.entries) (second_of (form_stands s r.head file) later all)

    behind_all : AllStand (entries_behind s r.edits samples file cycles r.entries)
    behind_all = all_behind (edits_stand s r.edits) (entries_behind s r.edits samples file cycles r.entries) (second_of (form_stands s r.head file) later all)

    right : AreRight s r.edits samples file [] r.entries
    right = right_where_all_stand s r.edits samples file [] r.entries refl (all_front (entries_stand s r.edits samples file [] r.entries) (is_silent_from s made cycles file ∷ []) behind_all)

    silent : is_silent_from s made cycles file ≡ true
    silent = all_one (is_silent_from s made cycles file) (all_behind (entries_stand s r.edits samples file [] r.entries) (is_silent_from s made cycles file ∷ []) behind_all)

    has : has_form s cycles file ≡ true
    has = second_of (is_head_of s r.head) (has_form s cycles file) form

    abbrev is_long : Bool
    is_long = length file == 44 + data_bytes s cycles + data_bytes s cycles % 2

    abbrev begins : Bool
    begins = stand_at 0 (head_bytes s cycles) file

    abbrev padded : Bool
    padded = stand_at (44 + data_bytes s cycles) (pad_bytes s cycles) file

    file_long : length file ≡ 44 + data_bytes s cycles + data_bytes s cycles % 2
    file_long = (Decides-eqb (length file) (44 + data_bytes s cycles + data_bytes s cycles % 2)).0 (first_of is_long begins (first_of (is_long && begins) padded has))

    all_parts : IsPartAt 0 pieces file
    all_parts = joined 0 (head_bytes s cycles ++ blocks) (silence ++ pad_bytes s cycles) file
        (joined 0 (head_bytes s cycles) blocks file (part_of 0 (head_bytes s cycles) file (second_of is_long begins (first_of (is_long && begins) padded has)))
        (let on : block_place s 0 ≡ 0 + length (head_bytes s cycles) = omega (arith, first_place) in at_place blocks file on right.blocks))
        (joined (0 + length (head_bytes s cycles ++ blocks)) silence (pad_bytes s cycles) file
        (let on : block_place s made ≡ 0 + length (head_bytes s cycles ++ blocks) = omega (arith, front_long) in at_place silence file on (part_of (block_place s made) silence file silent))
        (let on : 44 + data_bytes s cycles ≡ 0 + length (head_bytes s cycles ++ blocks) + length silence = omega (arith, front_long, end_place s made cycles few) in
        at_place (pad_bytes s cycles) file on (part_of (44 + data_bytes s cycles) (pad_bytes s cycles) file (second_of (is_long && begins) padded has))))

    pub agree : Agree s sounds r file
    agree = record {
      form = first_of (is_head_of s r.head) (has_form s cycles file) form;
      edits = accepted_where_all_stand s r.edits edits_all;
      journal = sym nothing_before ∙ right.lawful;
      master = whole pieces file (file_long ∙ sym pieces_long) all_parts ∙ sym master_is;
    }

  -- ---- to the lines

  module _ (agree : Agree s sounds r file) where
    file_is : file ≡ pieces
    file_is = agree.master ∙ master_is

    front_is : file ≡ head_bytes s cycles ++ (blocks ++ (silence ++ pad_bytes s cycles))
    front_is = file_is ∙ append_assoc (head_bytes s cycles) blocks (silence ++ pad_bytes s cycles)

    head_stands : stand_at 0 (head_bytes s cycles) file ≡ true
    head_stands = stands 0 (head_bytes s cycles) file (subst (IsPartAt 0 (head_bytes s cycles)) (sym front_is) (part_within [] (head_bytes s cycles) (blocks ++ (silence ++ pad_bytes s cycles))))

    pad_stands : stand_at (44 + data_bytes s cycles) (pad_bytes s cycles) file ≡ true
    pad_stands =
        let long : length ((head_bytes s cycles ++ blocks) ++ silence) ≡ 44 + data_bytes s cycles = omega (arith, length-append (head_bytes s cycles ++ blocks) silence, front_long, end_place s made cycles few) in
        let is : file ≡ ((head_bytes s cycles ++ blocks) ++ silence) ++ (pad_bytes s cycles ++ []) = file_is ∙ sym (append_assoc (head_bytes s cycles ++ blocks) silence (pad_bytes s cycles))
        ∙ ap (λ xs. ((head_bytes s cycles ++ blocks) ++ silence) ++ xs) (sym (append-nil (pad_bytes s cycles))) in
        stands (44 + data_bytes s cycles) (pad_bytes s cycles) file (at_place (pad_bytes s cycles) file long (subst (IsPartAt (length ((head_bytes s cycles ++ blocks) ++ silence)) (pad_bytes s cycles)) (sym is)
        (part_within ((head_bytes s cycles ++ blocks) ++ silence) (pad_bytes s cycles) [])))

    silence_stands : is_silent_from s made cycles file ≡ true
    silence_stands = stands (block_place s made) silence file (at_place silence file front_long (subst (IsPartAt (length (head_bytes s cycles ++ blocks)) silence) (sym file_is) (part_within (head_bytes s cycles ++ blocks) silence (pad_bytes s cycles))))

    form_is : form_stands s r.head file ≡ true
    form_is = both agree.form (both (both ((Decides-eqb (length file) (44 + data_bytes s cycles + data_bytes s cycles % 2)).1 (ap length file_is ∙ pieces_long)) head_stands) pad_stands)

    pub all_lines : AllStand (lines_stand s sounds r file)
    all_lines = both form_is (all_both (edits_stand s r.edits) (entries_behind s r.edits samples file cycles r.entries) (all_stand_where_accepted s r.edits agree.edits)
        (all_both (entries_stand s r.edits samples file [] r.entries) (is_silent_from s made cycles file ∷ [])
        (stand_where_right s r.edits samples file [] r.entries (head_bytes s cycles) (silence ++ pad_bytes s cycles) front_is first_place (nothing_before ∙ agree.journal))
        (both silence_stands refl)))

pub all_stand_where_all_agree : TheMasterIsItsBlocks → AllStandWhereAllAgree
all_stand_where_all_agree pieced s sounds r file first valid few = (
  λ none. agree pieced s sounds r file valid few (none_falls (lines_stand s sounds r file) (none_of (λ k. first + 1 + k) (first_fall (lines_stand s sounds r file)) none)),
  λ agree. none_mapped (λ k. first + 1 + k) (first_fall (lines_stand s sounds r file)) (all_stand (lines_stand s sounds r file) (all_lines pieced s sounds r file valid few agree)),
)
