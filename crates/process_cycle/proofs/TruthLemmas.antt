-- The journal of a process is truthful of each track's two rings.
use Rattle.std.proofs.Common.{◌≡◌, ℕ, List, [], ◌∷◌, map, refl, sym, ap, ◌∙◌}
use Rattle.std.specs.Prelude.{true, nat_le, if◌then◌else◌, length, reverse}
use Rattle.std.specs.List.{list_all}
use Rattle.std.proofs.lemmas.Bool.{eq-eqb}
use Rattle.std.proofs.lemmas.List.{length-reverse, reverse-reverse}
use Rattle.engine_model.specs.Items.{Kind}
use Rattle.engine_model.specs.Truth.{Miss, misses, looked, is_within, losses}
use Rattle.engine_laws.proofs.TruthfulLemmas.{all_missing, looked_stays}
use Rattle.process_cycle.specs.Laws.{PromisesAreTruthful}
use Rattle.track_playback.specs.SpareBoxes.{received_kinds}

within_itself : (xs : List ℕ) → is_within xs xs ≡ true
within_itself [] = refl
within_itself (x ∷ xs) = ap (λ b. if b then is_within xs xs else is_within (x ∷ xs) xs) (eq-eqb x x refl) ∙ within_itself xs

pub promised_true : PromisesAreTruthful
promised_true at entries ends t r d unreceived promised at_r at_d =
    let looks = promised.looks t r at_r in let captured = promised.captured t d at_d in let depth : ℕ = at.session.depth in
    let received : List Kind = reverse (received_kinds r) in let ms : List Miss = misses at.edits t (reverse entries) in
    let within : list_all (λ m. nat_le m.tail (length received)) ms ≡ true = ap (λ n. list_all (λ m. nat_le m.tail n) ms) (length-reverse (received_kinds r)) ∙ looks.within in record {
      missing = all_missing received unreceived ms within looks.missing;
      looked_for = ap (λ l. is_within l r.tails) (looked_stays depth received unreceived ms within)
          ∙ sym (ap (is_within (looked depth received ms)) (reverse-reverse r.tails)) ∙ looks.looked_for;
      full = captured.full;
      found_full = ap (is_within (map (λ l. l.head) (losses t (reverse entries)))) captured.heads ∙ within_itself (map (λ l. l.head) (losses t (reverse entries)));
    }
