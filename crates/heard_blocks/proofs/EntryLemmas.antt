-- What a lawful entry says of each track: what is heard was an edition of the edits, and is no older than what was heard last.
use Rattle.std.proofs.Common.{◌≡◌, ℕ, zero, suc, ◌+◌, ◌<◌, ◌≤◌, List, [], ◌∷◌, length, refl, sym, ap, subst, ◌∙◌, arith, true≢false}
use Rattle.std.specs.Prelude.{Bool, true, false, ◌&&◌, ◌==◌, if◌then◌else◌}
use Rattle.std.specs.List.{list_all}
use Rattle.std.proofs.lemmas.Bool.{and_parts, eqb-true, leb-true}
use Rattle.session_model.specs.declared.session.Session.{Session}
use Rattle.session_model.specs.declared.edit.Edit.{Edit}
use Rattle.engine_model.specs.Edits.{generation}
use Rattle.engine_model.specs.Editions.{Edition, edition}
use Rattle.engine_model.specs.Fits.{fits_note, fits_notes, fits_play, fits_state, fits_take, is_heard_after, is_heard_well, is_lawful_after, is_lawful_newest, are_heard_well, next_take, records}
use Rattle.engine_model.specs.Journal.{Entry, Heard, Note, Play, Rolling, Short, Silent, is_rolling, is_rolling_in, note_at, note_of, rolled}
use Rattle.engine_laws.proofs.LawfulLemmas.{Parts, fits_parts, heard_parts, lawful_parts, note_parts, note_well}
use Rattle.heard_blocks.specs.State.{heard_or, last_heard}
use Rattle.heard_blocks.specs.Playing.{MayHear}

-- ---- what was heard before

last_no_newer : (t p : ℕ) (before : List Entry) → list_all (λ old. is_heard_after (note_of t old).play (Heard p)) before ≡ true → last_heard t before ≤ p
last_no_newer t p [] h = omega arith
last_no_newer t p (e ∷ before) h = let parts = and_parts (is_heard_after (note_of t e).play (Heard p)) (list_all (λ old. is_heard_after (note_of t old).play (Heard p)) before) h in
    by_play (note_of t e).play parts.0 (last_no_newer t p before parts.1)
  where
    by_play : (play : Play) → is_heard_after play (Heard p) ≡ true → last_heard t before ≤ p → heard_or play (last_heard t before) ≤ p
    by_play (Heard q) after rest = leb-true q p after
    by_play Silent after rest = rest
    by_play (Short tail) after rest = rest

note_after : (session : Session) (edits : List Edit) (settled t i : ℕ) (before : List Entry) (notes : List Note) → are_heard_well session edits settled before t notes ≡ true →
    i < length notes → list_all (λ old. is_heard_after (note_of (t + i) old).play (note_at i notes).play) before ≡ true
note_after session edits settled t i before [] h lt = absurd (omega arith)
note_after session edits settled t zero before (note ∷ notes) h lt =
    subst (λ u. list_all (λ old. is_heard_after (note_of u old).play note.play) before ≡ true) {x = t} {y = t + 0} (omega arith) (note_parts session edits settled t before note notes h).1
note_after session edits settled t (suc i) before (note ∷ notes) h lt =
    subst (λ u. list_all (λ old. is_heard_after (note_of u old).play (note_at i notes).play) before ≡ true) {x = suc t + i} {y = t + suc i} (omega arith)
    (note_after session edits settled (suc t) i before notes (note_parts session edits settled t before note notes h).2 (omega arith))

note_fits : (now : Edition) (rolling : Bool) (n : ℕ) (before : List Entry) (t i : ℕ) (notes : List Note) → fits_notes now rolling n before t notes ≡ true → i < length notes →
    fits_play rolling n (note_at i notes).play ≡ true
note_fits now rolling n before t i [] h lt = absurd (omega arith)
note_fits now rolling n before t zero (note ∷ notes) h lt = let parts = and_parts (fits_note now rolling n before t note) (fits_notes now rolling n before (suc t) notes) h in
    (and_parts (fits_play rolling n note.play) (fits_take (rolling && records now t) (next_take t before) note.take) parts.0).0
note_fits now rolling n before t (suc i) (note ∷ notes) h lt = note_fits now rolling n before (suc t) i notes
    (and_parts (fits_note now rolling n before t note) (fits_notes now rolling n before (suc t) notes) h).1 (omega arith)

rolled_few : (g : ℕ) (es : List Entry) → rolled g es ≤ length es
rolled_few g [] = omega arith
rolled_few g (e ∷ es) = by_state (is_rolling_in g e.state) (rolled_few g es)
  where
    by_state : (b : Bool) → rolled g es ≤ length es → (if b then suc (rolled g es) else rolled g es) ≤ suc (length es)
    by_state true h = omega (arith, h)
    by_state false h = omega (arith, h)

-- ---- a lawful entry

module _ (s : Session) (edits : List Edit) (before : List Entry) (e : Entry) (lawful : is_lawful_newest s edits (e ∷ before) ≡ true) where
  parts : Parts s edits before e
  parts = lawful_parts s edits before e (and_parts (is_lawful_after s edits before e) (is_lawful_newest s edits before) lawful).0

  pub stands : e.edition ≤ length edits
  stands = (fits_parts s edits before e parts.fit).0

  abbrev now : Edition
  now = edition s edits e.edition

  abbrev many : ℕ
  many = rolled (generation edits e.edition) before

  two : (fits_state now.transport.rolling (length s.tracks.items) (generation edits e.edition) many e.state && length e.notes == length s.tracks.items ≡ true)
      × (fits_notes now (is_rolling e.state) many before 0 e.notes ≡ true)
  two = and_parts (fits_state now.transport.rolling (length s.tracks.items) (generation edits e.edition) many e.state && length e.notes == length s.tracks.items)
      (fits_notes now (is_rolling e.state) many before 0 e.notes) (fits_parts s edits before e parts.fit).2

  one : (fits_state now.transport.rolling (length s.tracks.items) (generation edits e.edition) many e.state ≡ true) × ((length e.notes == length s.tracks.items) ≡ true)
  one = and_parts (fits_state now.transport.rolling (length s.tracks.items) (generation edits e.edition) many e.state) (length e.notes == length s.tracks.items) two.0

  -- a note for each track
  pub each_noted : length e.notes ≡ length s.tracks.items
  each_noted = eqb-true (length e.notes) (length s.tracks.items) one.1

  -- a block that rolls is the next of the edition's generation
  pub rolls_next : (g n : ℕ) → e.state ≡ Rolling g n → (now.transport.rolling ≡ true) × (g ≡ generation edits e.edition) × (n ≡ many)
  rolls_next g n is = let h = sym (ap (fits_state now.transport.rolling (length s.tracks.items) (generation edits e.edition) many) is) ∙ one.0 in
      let outer = and_parts (now.transport.rolling && g == generation edits e.edition) (n == many) h in
      let inner = and_parts now.transport.rolling (g == generation edits e.edition) outer.0 in
      (inner.0, eqb-true g (generation edits e.edition) inner.1, eqb-true n many outer.1)

  pub few_blocks : (g n : ℕ) → e.state ≡ Rolling g n → length before < 100000 → n < 100000
  few_blocks g n is few = let at = (rolls_next g n is).2 in let most = rolled_few (generation edits e.edition) before in omega (arith, at, most, few)

  -- what is played fits the state
  pub play_fits : (t : ℕ) → t < length s.tracks.items → fits_play (is_rolling e.state) many (note_of t e).play ≡ true
  play_fits t lt = note_fits now (is_rolling e.state) many before 0 t e.notes two.1 (subst (λ n. t < n) (sym each_noted) lt)

  pub may_hear : (t : ℕ) → t < length s.tracks.items → MayHear edits (last_heard t before) (note_of t e).play
  may_hear t lt = by_play (note_of t e).play refl
    where
      by_play : (play : Play) → (note_of t e).play ≡ play → MayHear edits (last_heard t before) play
      by_play (Heard p) is = (
        last_no_newer t p before (ap (λ x. list_all (λ old. is_heard_after (note_of t old).play x) before) (sym is)
            ∙ ap (λ u. list_all (λ old. is_heard_after (note_of u old).play (note_at t e.notes).play) before) {x = t} {y = 0 + t} (omega arith)
            ∙ note_after s edits e.settled 0 t before e.notes parts.heard (subst (λ n. t < n) (sym each_noted) lt)),
        (heard_parts s edits e.settled t p (ap (is_heard_well s edits e.settled t) (sym is)
            ∙ ap (λ u. is_heard_well s edits e.settled u (note_at t e.notes).play) {x = t} {y = 0 + t} (omega arith) ∙ note_well s edits e.settled 0 t before e.notes parts.heard)).1,
      )
      by_play Silent is = tt
      by_play (Short tail) is = tt

  -- where nothing rolls nothing is heard
  pub none_heard : is_rolling e.state ≡ false → (t : ℕ) → t < length s.tracks.items → last_heard t (e ∷ before) ≡ last_heard t before
  none_heard rests t lt = by_play (note_of t e).play (ap (λ b. fits_play b many (note_of t e).play) (sym rests) ∙ play_fits t lt)
    where
      by_play : (play : Play) → fits_play false many play ≡ true → heard_or play (last_heard t before) ≡ last_heard t before
      by_play (Heard p) h = absurd (true≢false (sym h))
      by_play Silent h = refl
      by_play (Short tail) h = refl
