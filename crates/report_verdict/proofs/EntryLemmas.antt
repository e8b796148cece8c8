-- All lines of entries stand exactly where the journal is lawful and each block of the master is what its entry stands for.
use Rattle.std.proofs.Common.{◌≡◌, ℕ, suc, ◌+◌, ◌*◌, ◌/◌, refl, ap, arith, ◌∙◌, sym, subst, List, [], ◌∷◌, ◌++◌, length}
use Rattle.std.specs.Prelude.{true, reverse}
use Rattle.std.specs.List.{flat_map, list_all}
use Rattle.std.proofs.lemmas.List.{append_assoc, length-append, length-replicate, reverse-append}
use Rattle.std.proofs.lemmas.List.FromFn.{length-map-range_with_len}
use Rattle.sound_laws.proofs.WrittenLaws.{length-sound_bytes}
use Rattle.ses_units.specs.Bits.{bits_of}
use Rattle.session_model.specs.declared.session.Session.{Session}
use Rattle.session_model.specs.declared.edit.Edit.{Edit}
use Rattle.engine_model.specs.Fits.{is_lawful_after, is_lawful_newest}
use Rattle.engine_model.specs.Journal.{Entry, State, Stopped, Seeking, Rolling}
use Rattle.engine_model.specs.Played.{Samples, block, block_in, master_channels}
use Rattle.master_blocks.specs.Bytes.{block_samples, data_bytes, entry_bytes}
use Rattle.report_verdict.specs.Lines.{entries_stand, entry_stands}
use Rattle.report_verdict.specs.Master.{block_place, stand_at}
use Rattle.report_verdict.proofs.FallLemmas.{AllStand, both, first_of, second_of}
use Rattle.report_verdict.proofs.PartLemmas.{IsPartAt, at_place, joined, part_of, part_within, stands}

module _ (s : Session) where
  -- the bytes of one block more
  pub one_more : (blocks : ℕ) → data_bytes s blocks + block_samples s * (bits_of s.bits / 8) ≡ data_bytes s (suc blocks)
  one_more blocks = go blocks (block_samples s) (bits_of s.bits / 8)
    where
      go : (n b w : ℕ) → n * b * w + b * w ≡ suc n * b * w
      go n b w = grind arith

  pub no_bytes : data_bytes s 0 ≡ 0
  no_bytes = go (block_samples s) (bits_of s.bits / 8)
    where
      go : (b w : ℕ) → 0 * b * w ≡ 0
      go b w = grind arith

module _ (s : Session) (edits : List Edit) (samples : Samples) where
  -- how many bytes the block of an entry has
  block_long : (e : Entry) (state : State) → length (block_in s edits samples e state) ≡ block_samples s
  block_long e Stopped = length-replicate (s.block * master_channels s) _
  block_long e (Seeking t tail) = length-replicate (s.block * master_channels s) _
  block_long e (Rolling g n) = length-map-range_with_len _ 0 (s.block * master_channels s)

  pub entry_long : (e : Entry) → length (entry_bytes s edits samples e) ≡ block_samples s * (bits_of s.bits / 8)
  entry_long e = length-sound_bytes (bits_of s.bits) (block s edits samples e) ∙ ap (λ n. n * (bits_of s.bits / 8)) (block_long e e.state)

  pub next_place : (n : ℕ) (e : Entry) → block_place s n + length (entry_bytes s edits samples e) ≡ block_place s (suc n)
  next_place n e = omega (arith, entry_long e, one_more s n)

  pub entries_long : (entries : List Entry) (n : ℕ) → block_place s n + length (flat_map (entry_bytes s edits samples) entries) ≡ block_place s (n + length entries)
  entries_long [] n = let on : n ≡ n + 0 = omega arith in let same : block_place s n + 0 ≡ block_place s n = omega arith in same ∙ ap (block_place s) on
  entries_long (e ∷ entries) n = let on : suc n + length entries ≡ n + suc (length entries) = omega arith in
      omega (arith, length-append (entry_bytes s edits samples e) (flat_map (entry_bytes s edits samples) entries), next_place n e, entries_long entries (suc n), ap (block_place s) on)

  module _ (file : List ℕ) where
    -- they are lawful behind what was before, and their blocks stand one behind the other
    pub record AreRight (before entries : List Entry) : Type 0 where
      pub lawful : is_lawful_newest s edits (reverse entries ++ before) ≡ true
      pub blocks : IsPartAt (block_place s (length before)) (flat_map (entry_bytes s edits samples) entries) file

    turned : (e : Entry) (entries before : List Entry) → reverse (e ∷ entries) ++ before ≡ reverse entries ++ (e ∷ before)
    turned e entries before = ap (λ xs. xs ++ before) (reverse-append (e ∷ []) entries) ∙ append_assoc (reverse entries) (e ∷ []) before

    pub right_where_all_stand : (before entries : List Entry) → is_lawful_newest s edits before ≡ true → AllStand (entries_stand s edits samples file before entries) → AreRight before entries
    right_where_all_stand before [] lawful all = record { lawful = lawful; blocks = refl }
    right_where_all_stand before (e ∷ entries) lawful all =
        let after = list_all (λ b. b) (entries_stand s edits samples file (e ∷ before) entries) in
        let place = block_place s (length before) in
        let bytes = entry_bytes s edits samples e in
        let here = first_of (entry_stands s edits samples file before e) after all in
        let good = first_of (is_lawful_after s edits before e) (stand_at place bytes file) here in
        let held = second_of (is_lawful_after s edits before e) (stand_at place bytes file) here in
        let rest = right_where_all_stand (e ∷ before) entries (both good lawful) (second_of (entry_stands s edits samples file before e) after all) in record {
          lawful = subst (λ xs. is_lawful_newest s edits xs ≡ true) (sym (turned e entries before)) rest.lawful;
          blocks = joined place bytes (flat_map (entry_bytes s edits samples) entries) file (part_of place bytes file held)
              (at_place (flat_map (entry_bytes s edits samples) entries) file (sym (next_place (length before) e)) rest.blocks);
        }

    -- what stands before is lawful by itself
    lawful_before : (front before : List Entry) → is_lawful_newest s edits (front ++ before) ≡ true → is_lawful_newest s edits before ≡ true
    lawful_before [] before e = e
    lawful_before (x ∷ front) before e = lawful_before front before (second_of (is_lawful_after s edits (front ++ before) x) (is_lawful_newest s edits (front ++ before)) e)

    pub stand_where_right : (before entries : List Entry) (front behind : List ℕ) → file ≡ front ++ (flat_map (entry_bytes s edits samples) entries ++ behind) → length front ≡ block_place s (length before) →
        is_lawful_newest s edits (reverse entries ++ before) ≡ true → AllStand (entries_stand s edits samples file before entries)
    stand_where_right before [] front behind is long lawful = refl
    stand_where_right before (e ∷ entries) front behind is long lawful =
        let bytes = entry_bytes s edits samples e in
        let rest = flat_map (entry_bytes s edits samples) entries in
        let from_here : is_lawful_newest s edits (reverse entries ++ (e ∷ before)) ≡ true = subst (λ xs. is_lawful_newest s edits xs ≡ true) (turned e entries before) lawful in
        let here : file ≡ front ++ (bytes ++ (rest ++ behind)) = is ∙ ap (λ xs. front ++ xs) (append_assoc bytes rest behind) in
        let further : file ≡ (front ++ bytes) ++ (rest ++ behind) = here ∙ sym (append_assoc front bytes (rest ++ behind)) in
        both (both (first_of (is_lawful_after s edits before e) (is_lawful_newest s edits before) (lawful_before (reverse entries) (e ∷ before) from_here))
        (stands (block_place s (length before)) bytes file (at_place bytes file long (subst (λ xs. IsPartAt (length front) bytes xs) (sym here) (part_within front bytes (rest ++ behind))))))
        (stand_where_right (e ∷ before) entries (front ++ bytes) behind further (length-append front bytes ∙ ap (λ n. n + length bytes) long ∙ next_place (length before) e) from_here)
