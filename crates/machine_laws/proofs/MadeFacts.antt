-- What made entries say: none is of a later edition than the process has entered.
use Rattle.std.proofs.Common.{◌≡◌, ℕ, ◌≤◌, List, [], ◌∷◌, refl, sym, ap, subst, le_trans}
use Rattle.std.specs.Prelude.{true, nat_le}
use Rattle.std.specs.List.{list_all}
use Rattle.std.proofs.lemmas.Bool.{and_parts, and_from, le-leb, leb-true}
use Rattle.session_model.specs.declared.session.Session.{Session}
use Rattle.session_model.specs.declared.edit.Edit.{Edit}
use Rattle.engine_model.specs.Items.{Kind}
use Rattle.engine_model.specs.Journal.{Entry}
use Rattle.engine_model.specs.Made.{AreMade}

pub low_rises : (q k : ℕ) (es : List Entry) → q ≤ k → list_all (λ o. nat_le o.edition q) es ≡ true → list_all (λ o. nat_le o.edition k) es ≡ true
low_rises q k [] le a = refl
low_rises q k (o ∷ es) le a = let parts = and_parts (nat_le o.edition q) (list_all (λ x. nat_le x.edition q) es) a in
    and_from (nat_le o.edition k) (list_all (λ x. nat_le x.edition k) es) (le-leb o.edition k (le_trans (leb-true o.edition q parts.0) le)) (low_rises q k es le parts.1)

pub made_low : (session : Session) (edits : List Edit) (r : ℕ) (tracks : List (List Kind)) (entries : List Entry) → AreMade session edits r tracks entries →
    list_all (λ e. nat_le e.edition r) entries ≡ true
made_low session edits r tracks [] h = refl
made_low session edits r tracks (e ∷ before) h =
    and_from (nat_le e.edition r) (list_all (λ o. nat_le o.edition r) before) (le-leb e.edition r (subst (λ n. n ≤ r) (sym (ap (λ o. o.edition) h.is)) h.in_time))
    (low_rises h.entered r before h.in_time (made_low session edits h.entered h.by before h.earlier))
