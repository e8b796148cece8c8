-- One line more asks for its own grants.
use Rattle.std.proofs.Common.{◌≡◌, List, [], ◌∷◌, ◌++◌, length, refl, sym, ap, ◌∙◌}
use Rattle.std.specs.Prelude.{Bool, true, false, if◌then◌else◌}
use Rattle.std.proofs.lemmas.Bool.{true≢false}
use Rattle.session_model.specs.declared.session.Session.{Session}
use Rattle.session_model.specs.declared.edit.Edit.{Edit}
use Rattle.engine_model.specs.Edits.{has_quit, is_quit}
use Rattle.engine_model.specs.Plain.{Do, Wait, Sync}
use Rattle.engine_model.specs.Lines.{Line, Nothing, Says, Unread, accepts_after, accepted_from}
use Rattle.engine_model.specs.Waited.{Pause, Sought, paces_from}
use Rattle.engine_laws.proofs.EditionLemmas.{one_longer}
use Rattle.engine_laws.proofs.PlainLemmas.{held_at_the_end}
use Rattle.cycle_grants.specs.Granting.{PacesGoOn}

-- after a quit no edit stands
quits : (edits : List Edit) (e : Edit) → is_quit e ≡ true → has_quit (edits ++ e ∷ []) (length (edits ++ e ∷ [])) ≡ true
quits edits e is = ap (has_quit (edits ++ e ∷ [])) (one_longer edits e)
    ∙ ap (λ b. if b then true else has_quit (edits ++ e ∷ []) (length edits)) (held_at_the_end is_quit edits e ∙ is)

module _ (s : Session) (line : Line) where
  -- the paces of some lines and of one more
  abbrev GoOn : List Edit → List Line → Type 0
  GoOn edits ls = has_quit (accepted_from s edits ls) (length (accepted_from s edits ls)) ≡ false →
      paces_from s edits (ls ++ line ∷ []) ≡ paces_from s edits ls ++ paces_from s (accepted_from s edits ls) (line ∷ [])

  -- by whether the edit is accepted and whether it is a quit
  by_edit : (edits : List Edit) (e : Edit) (ls : List Line) (a q : Bool) → accepts_after s edits e ≡ a → is_quit e ≡ q → GoOn (edits ++ e ∷ []) ls → GoOn edits ls → GoOn edits (Says (Do e) ∷ ls)
  by_edit edits e ls true true is quit more same unquit = absurd (true≢false (sym (quits edits e quit)
      ∙ sym (ap (λ l. has_quit l (length l)) (ap (λ z. if z then (if is_quit e then edits ++ e ∷ [] else accepted_from s (edits ++ e ∷ []) ls) else accepted_from s edits ls) is
      ∙ ap (λ z. if z then edits ++ e ∷ [] else accepted_from s (edits ++ e ∷ []) ls) quit)) ∙ unquit))
  by_edit edits e ls true false is quit more same unquit =
      let accepted : accepted_from s edits (Says (Do e) ∷ ls) ≡ accepted_from s (edits ++ e ∷ []) ls =
      ap (λ z. if z then (if is_quit e then edits ++ e ∷ [] else accepted_from s (edits ++ e ∷ []) ls) else accepted_from s edits ls) is
      ∙ ap (λ z. if z then edits ++ e ∷ [] else accepted_from s (edits ++ e ∷ []) ls) quit in
      ap (λ z. if z then (if is_quit e then [] else paces_from s (edits ++ e ∷ []) (ls ++ line ∷ [])) else paces_from s edits (ls ++ line ∷ [])) is
      ∙ ap (λ z. if z then [] else paces_from s (edits ++ e ∷ []) (ls ++ line ∷ [])) quit
      ∙ more (sym (ap (λ l. has_quit l (length l)) accepted) ∙ unquit)
      ∙ sym (ap (λ l. paces_from s edits (Says (Do e) ∷ ls) ++ paces_from s l (line ∷ [])) accepted
      ∙ ap (λ ps. ps ++ paces_from s (accepted_from s (edits ++ e ∷ []) ls) (line ∷ []))
      (ap (λ z. if z then (if is_quit e then [] else paces_from s (edits ++ e ∷ []) ls) else paces_from s edits ls) is
      ∙ ap (λ z. if z then [] else paces_from s (edits ++ e ∷ []) ls) quit))
  by_edit edits e ls false q is quit more same unquit =
      let accepted : accepted_from s edits (Says (Do e) ∷ ls) ≡ accepted_from s edits ls =
      ap (λ z. if z then (if is_quit e then edits ++ e ∷ [] else accepted_from s (edits ++ e ∷ []) ls) else accepted_from s edits ls) is in
      ap (λ z. if z then (if is_quit e then [] else paces_from s (edits ++ e ∷ []) (ls ++ line ∷ [])) else paces_from s edits (ls ++ line ∷ [])) is
      ∙ same (sym (ap (λ l. has_quit l (length l)) accepted) ∙ unquit)
      ∙ sym (ap (λ l. paces_from s edits (Says (Do e) ∷ ls) ++ paces_from s l (line ∷ [])) accepted
      ∙ ap (λ ps. ps ++ paces_from s (accepted_from s edits ls) (line ∷ []))
      (ap (λ z. if z then (if is_quit e then [] else paces_from s (edits ++ e ∷ []) ls) else paces_from s edits ls) is))

  go_on : (edits : List Edit) (ls : List Line) → GoOn edits ls
  go_on edits [] unquit = refl
  go_on edits (Nothing ∷ ls) unquit = go_on edits ls unquit
  go_on edits (Unread why ∷ ls) unquit = go_on edits ls unquit
  go_on edits (Says (Wait n) ∷ ls) unquit = ap (λ ps. Pause n (length edits) ∷ ps) (go_on edits ls unquit)
  go_on edits (Says Sync ∷ ls) unquit = ap (λ ps. Sought (length edits) ∷ ps) (go_on edits ls unquit)
  go_on edits (Says (Do e) ∷ ls) unquit = by_edit edits e ls (accepts_after s edits e) (is_quit e) refl refl (go_on (edits ++ e ∷ []) ls) (go_on edits ls) unquit

pub paces_go_on : PacesGoOn
paces_go_on s lines line unquit = go_on s line [] lines unquit
