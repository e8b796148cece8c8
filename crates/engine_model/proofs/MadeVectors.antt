-- Entries that a process made and that it can't have made.
use Rattle.std.proofs.Common.{◌≡◌, ℕ, zero, suc, List, [], ◌∷◌, ◌++◌, refl, sym, ap, subst, true, false, arith, ◌∙◌}
use Rattle.std.proofs.lemmas.Bool.{true≢false}
use Rattle.std.proofs.lemmas.Option.{same_Some}
use Rattle.std.specs.Prelude.{slice_get, Option, Some, None}
use Rattle.session_model.specs.declared.session.Session.{Session}
use Rattle.session_model.specs.declared.edit.Edit.TheVariants.{Roll, Quit, Recording}
use Rattle.session_model.proofs.SessionVectors.{base, with_track, track, whole}
use Rattle.engine_model.specs.Edits.{has_quit}
use Rattle.engine_model.specs.Editions.{edition}
use Rattle.engine_model.specs.Items.{Kind, Piece, Settled}
use Rattle.engine_model.specs.Journal.{Silent, Heard, Off, Taken, Lost, Stopped, Entry}
use Rattle.engine_model.specs.Made.{Receives, fit_takes, AreMade}
use Rattle.engine_model.proofs.Worked.{overwrite_heard, rolling, unrecorded}

-- ---- takes that fit

abbrev armed : Session
armed = with_track (record (track 0 (whole ∷ [])) { armed = true })

taken_at_first : fit_takes (edition armed (Recording true ∷ Roll ∷ []) 2) true [] 0 (Taken 1 0 ∷ []) ≡ true
taken_at_first = refl

lost_at_first : fit_takes (edition armed (Recording true ∷ Roll ∷ []) 2) true [] 0 (Lost 1 0 0 ∷ []) ≡ true
lost_at_first = refl

nothing_taken : fit_takes (edition armed (Recording true ∷ Roll ∷ []) 2) true [] 0 (Off ∷ []) ≡ false
nothing_taken = refl

taken_at_rest : fit_takes (edition armed (Recording true ∷ Roll ∷ []) 2) false [] 0 (Taken 1 0 ∷ []) ≡ false
taken_at_rest = refl

taken_unarmed : fit_takes (edition base (Recording true ∷ Roll ∷ []) 2) true [] 0 (Taken 1 0 ∷ []) ≡ false
taken_unarmed = refl

-- ---- made entries: `roll`, and an overwrite while the cycle was open

abbrev first_sent : List Kind
first_sent = Piece 0 0 0 0 ∷ Settled 1 0 0 ∷ []

goes_on : (xs more : List Kind) → Receives (xs ∷ []) ((more ++ xs) ∷ [])
goes_on xs more = record { many = refl; each = each }
  where
    each : (t : ℕ) (ys zs : List Kind) → slice_get (xs ∷ []) t ≡ Some ys → slice_get ((more ++ xs) ∷ []) t ≡ Some zs → (new : List Kind) × (zs ≡ new ++ ys)
    each zero ys zs old new = (more, sym (same_Some (more ++ xs) zs new) ∙ ap (λ l. more ++ l) (same_Some xs ys old))
    each (suc t) ys zs old new = absurd (none_is_some old)
      where
        none_is_some : ◌≡◌ {A = Option (List Kind)} None (Some ys) → ⊥
        none_is_some e = cc

-- the entry of edition 1 hears the piece of the overwrite, which came while its cycle was open
heard_ahead : AreMade base overwrite_heard 1 ((Piece 0 0 0 2 ∷ first_sent) ∷ []) (rolling 1 1 0 0 (Heard 2) ∷ [])
heard_ahead = record {
  entered = 1;
  in_time = omega arith;
  unended = refl;
  by = (Piece 0 0 0 2 ∷ first_sent) ∷ [];
  many = refl;
  received = goes_on (Piece 0 0 0 2 ∷ first_sent) [];
  takes = Off ∷ [];
  one_each = refl;
  fit = refl;
  is = refl;
  earlier = refl;
}

-- an entry stays made when more was received since, and the edition is a later one
made_before : AreMade base overwrite_heard 2 ((Settled 2 0 0 ∷ Piece 0 0 0 2 ∷ first_sent) ∷ []) (rolling 1 1 0 0 (Heard 0) ∷ [])
made_before = record {
  entered = 1;
  in_time = omega arith;
  unended = refl;
  by = first_sent ∷ [];
  many = refl;
  received = goes_on first_sent (Settled 2 0 0 ∷ Piece 0 0 0 2 ∷ []);
  takes = Off ∷ [];
  one_each = refl;
  fit = refl;
  is = refl;
  earlier = refl;
}

-- in an edition that the process hasn't entered it makes none,
of_a_later_edition : AreMade base overwrite_heard 1 (first_sent ∷ []) (rolling 2 1 0 0 (Heard 0) ∷ []) → ⊥
of_a_later_edition made = let at : 2 ≡ made.entered = ap (λ (e : Entry). e.edition) made.is in let le = made.in_time in absurd (omega arith)

-- nor in one that has quit
after_the_quit : AreMade base (Quit ∷ []) 1 ([] ∷ []) (record { edition = 1; settled = 0; state = Stopped; notes = unrecorded Silent ∷ [] } ∷ []) → ⊥
after_the_quit made = let at : 1 ≡ made.entered = ap (λ (e : Entry). e.edition) made.is in true≢false (subst (λ k. has_quit (Quit ∷ []) k ≡ false) (sym at) made.unended)
