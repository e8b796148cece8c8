-- Reading goes on line by line.
use Rattle.std.proofs.Common.{◌≡◌, ℕ, ◌+◌, true, false, List, [], ◌∷◌, length, Option, Some, None, Ok, Err, Result, ok_or, bytes_eq, refl, sym, ap, subst, ◌∙◌, add-one, arith}
use Rattle.std.specs.Prelude.{if◌then◌else◌}
use Rattle.cycle_journal.specs.declared.head.ReportHead.{ReportHead}
use Rattle.std.proofs.lemmas.List.{length-map}
use Rattle.cycle_journal.specs.JournalView.{seen_entry}
use Rattle.cycle_journal.specs.Report.{Reported, first_line}
use Rattle.report_reader.specs.declared.report.Report.{Report}
use Rattle.report_reader.specs.declared.report.ReportRefusal.{ReportRefusal}
use Rattle.report_reader.specs.declared.report.ReportRefusal.TheVariants.{BadReport}
use Rattle.report_reader.specs.Fields.{◌>>=◌, chosen}
use Rattle.report_reader.specs.Lines.{format_in}
use Rattle.report_reader.specs.Items.{Item, AnEdit, AnEntry, AnEnd, item_in}
use Rattle.report_reader.specs.Reading.{Stage, Before, Begun, Within, Whole, bare, with_item, step, ended, reading, reported_of, Goes, HasRoom, HasRoomFor}
use Rattle.report_reader.proofs.ItemLemmas.{IsItem, item_is}

pub no_more : (n : ℕ) (stage : Stage) (lines : List (List ℕ)) → lines ≡ [] → reading n stage lines ≡ ended n stage
unfolding reading
no_more n stage lines none = ap (reading n stage) none

pub bad_line : (n : ℕ) (stage : Stage) (line : List ℕ) (lines : List (List ℕ)) → step n stage line ≡ None → reading n stage (line ∷ lines) ≡ Err n
unfolding reading
bad_line n stage line lines none = ap (λ o. chosen o (λ next. reading (n + 1) next lines) (Err n)) none

pub good_line : (n : ℕ) (stage next : Stage) (line : List ℕ) (lines : List (List ℕ)) → step n stage line ≡ Some next → reading n stage (line ∷ lines) ≡ reading (n + 1) next lines
unfolding reading
good_line n stage next line lines one = ap (λ o. chosen o (λ next. reading (n + 1) next lines) (Err n)) one

-- ---- one step

pub first_step : (n : ℕ) (line : List ℕ) → bytes_eq line first_line ≡ true → step n Before line ≡ Some (Begun n)
unfolding step
first_step n line is = ap (λ b. if b then Some (Begun n) else Some Before) is

pub skip_step : (n : ℕ) (line : List ℕ) → bytes_eq line first_line ≡ false → step n Before line ≡ Some Before
unfolding step
skip_step n line other = ap (λ b. if b then Some (Begun n) else Some Before) other

pub head_step : (n first : ℕ) (line : List ℕ) → step n (Begun first) line ≡ (format_in line >>= λ head. Some (Within first (bare head)))
unfolding step
head_step n first line = refl

pub item_step : (n first : ℕ) (r : Reported) (line : List ℕ) → step n (Within first r) line ≡ (item_in r.head.cycles (length r.edits) (length r.entries) line >>= λ item. Some (with_item first r item))
unfolding step
item_step n first r line = refl

pub whole_stays : (n first : ℕ) (r : Reported) (lines : List (List ℕ)) → reading n (Whole first r) lines ≡ Ok (first, r)
unfolding reading step
whole_stays n first r [] = refl
whole_stays n first r (line ∷ lines) = whole_stays (n + 1) first r lines

-- ---- before the first line

pub skips : (n m : ℕ) (lines others : List (List ℕ)) (line : List ℕ) (total : Result (ℕ × Reported) ℕ) → reading n Before lines ≡ total → lines ≡ line ∷ others → bytes_eq line first_line ≡ false → m ≡ n + 1 →
    reading m Before others ≡ total
skips n m lines others line total so_far is other next =
    ap (λ k. reading k Before others) next ∙ sym (good_line n Before Before line others (skip_step n line other)) ∙ ap (reading n Before) (sym is) ∙ so_far

pub finds : (n m k : ℕ) (lines others : List (List ℕ)) (line : List ℕ) (total : Result (ℕ × Reported) ℕ) → reading n Before lines ≡ total → lines ≡ line ∷ others → bytes_eq line first_line ≡ true → m ≡ n + 1 → k ≡ n →
    total ≡ reading m (Begun k) others
finds n m k lines others line total so_far is first next same =
    sym so_far ∙ ap (reading n Before) is ∙ good_line n Before (Begun n) line others (first_step n line first) ∙ ap (λ x. reading x (Begun n) others) (sym next) ∙ ap (λ x. reading m (Begun x) others) (sym same)

pub finds_none : (n k : ℕ) (lines : List (List ℕ)) (total : Result (ℕ × Reported) ℕ) → reading n Before lines ≡ total → lines ≡ [] → k ≡ n → total ≡ Err k
finds_none n k lines total so_far none same = sym so_far ∙ no_more n Before lines none ∙ ap (λ x. Err x) (sym same)

-- ---- the format line

head_by : (first n m : ℕ) (line : List ℕ) (lines others : List (List ℕ)) (o : Option ReportHead) → format_in line ≡ o → lines ≡ line ∷ others → m ≡ n + 1 →
    Goes (λ head. reading m (Within first (bare head)) others) (ok_or o (BadReport n)) (reading n (Begun first) lines)
head_by first n m line lines others (Some head) read is next =
    ap (reading n (Begun first)) is ∙ good_line n (Begun first) (Within first (bare head)) line others (head_step n first line ∙ ap (λ o. o >>= λ h. Some (Within first (bare h))) read)
    ∙ ap (λ x. reading x (Within first (bare head)) others) (sym next)
head_by first n m line lines others None read is next =
    ap (reading n (Begun first)) is ∙ bad_line n (Begun first) line others (head_step n first line ∙ ap (λ o. o >>= λ h. Some (Within first (bare h))) read)

pub head_goes : (first n m : ℕ) (line : List ℕ) (lines others : List (List ℕ)) (o : Option ReportHead) (r : Result ReportHead ReportRefusal) → o ≡ format_in line → r ≡ ok_or o (BadReport n) → lines ≡ line ∷ others → m ≡ n + 1 →
    Goes (λ head. reading m (Within first (bare head)) others) r (reading n (Begun first) lines)
head_goes first n m line lines others o r read answer is next =
    subst (λ x. Goes (λ head. reading m (Within first (bare head)) others) x (reading n (Begun first) lines)) (sym answer) (head_by first n m line lines others o (sym read) is next)

-- ---- items

pub item_bad : (n k first : ℕ) (r : Reported) (lines others : List (List ℕ)) (line : List ℕ) (total : Result (ℕ × Reported) ℕ) → reading n (Within first r) lines ≡ total → lines ≡ line ∷ others →
    None ≡ item_in r.head.cycles (length r.edits) (length r.entries) line → k ≡ n → total ≡ Err k
item_bad n k first r lines others line total so_far is none same =
    sym so_far ∙ ap (reading n (Within first r)) is ∙ bad_line n (Within first r) line others (item_step n first r line ∙ ap (λ o. o >>= λ item. Some (with_item first r item)) (sym none)) ∙ ap (λ x. Err x) (sym same)

pub item_good : (n m first : ℕ) (r : Reported) (item : Item) (next : Stage) (lines others : List (List ℕ)) (line : List ℕ) (total : Result (ℕ × Reported) ℕ) → reading n (Within first r) lines ≡ total → lines ≡ line ∷ others →
    Some item ≡ item_in r.head.cycles (length r.edits) (length r.entries) line → m ≡ n + 1 → next ≡ with_item first r item → reading m next others ≡ total
item_good n m first r item next lines others line total so_far is one more stage =
    ap (λ s. reading m s others) stage ∙ ap (λ x. reading x (with_item first r item) others) more
    ∙ sym (good_line n (Within first r) (with_item first r item) line others (item_step n first r line ∙ ap (λ o. o >>= λ item. Some (with_item first r item)) (sym one)))
    ∙ ap (reading n (Within first r)) (sym is) ∙ so_far

pub items_end : (n k first : ℕ) (r : Reported) (lines : List (List ℕ)) (total : Result (ℕ × Reported) ℕ) → reading n (Within first r) lines ≡ total → lines ≡ [] → k ≡ n → total ≡ Err k
items_end n k first r lines total so_far none same = sym so_far ∙ no_more n (Within first r) lines none ∙ ap (λ x. Err x) (sym same)

room_by : (left : ℕ) (r : Report) (line : List ℕ) (item : Item) → HasRoom (left + 1) r → IsItem r.head.cycles (length r.edits.items) (length r.journal.items) line item → HasRoomFor item r
room_by left r line (AnEdit e) room is = omega (arith, room.edits, is.1)
room_by left r line (AnEntry e) room is = omega (arith, room.entries, is.0)
room_by left r line AnEnd room is = tt

-- a line less is left
pub room_less : (r : Report) (lines others : List (List ℕ)) (line : List ℕ) → HasRoom (length lines) r → lines ≡ line ∷ others → HasRoom (length others + 1) r
room_less r lines others line room is = subst (λ n. HasRoom n r) (ap length is ∙ sym (add-one (length others))) room

-- as many entries as the journal has
pub entries_seen : (r : Report) → length (reported_of r).entries ≡ length r.journal.items
entries_seen r = length-map r.journal.items seen_entry

pub room_for : (r : Report) (lines others : List (List ℕ)) (line : List ℕ) (item : Item) → HasRoom (length lines) r → lines ≡ line ∷ others →
    Some item ≡ item_in r.head.cycles (length r.edits.items) (length (reported_of r).entries) line → HasRoomFor item r
room_for r lines others line item room is one =
    let read = item_is r.head.cycles (length r.edits.items) (length (reported_of r).entries) line item (sym one) in
    room_by (length others) r line item (room_less r lines others line room is) (subst (λ n. IsItem r.head.cycles (length r.edits.items) n line item) (entries_seen r) read)
