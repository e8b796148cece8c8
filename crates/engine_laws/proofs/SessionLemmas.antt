-- What an accepted edit makes, and what the sessions of all editions keep.
use Rattle.std.proofs.Common.{◌≡◌, true≢false, ℕ, zero, suc, List, refl, sym}
use Rattle.std.specs.Prelude.{Bool, true, false, nat_le, Option, Some, None, Ok, Err, slice_get, IsOk}
use Rattle.session_model.specs.declared.edit.Edit.{Edit}
use Rattle.session_model.specs.declared.session.Session.{Session}
use Rattle.engine_model.specs.Refusals.{Edits, Limit, Checked, ◌>>=◌, refused_if}
use Rattle.engine_model.specs.Changes.{Change, made}
use Rattle.engine_model.specs.Commands.{change_of}
use Rattle.engine_model.specs.Editions.{Edition, after_one, apply, changed, edition, taken_up}
use Rattle.engine_model.specs.Transport.{Wrap}

-- the steps of an edit, given whether there is room and what the command changes
abbrev steps : Edition → Edit → Bool → Checked Change → Checked Edition
steps e edit full change = refused_if full (Limit Edits) >>= (λ room. change >>= (λ c. Ok (changed e edit c)))

-- an accepted edit makes some change
pub accepted_makes : (e : Edition) (edit : Edit) → IsOk (apply e edit) → (c : Change) × (change_of e.session e.transport.wrap edit ≡ Ok c) × (apply e edit ≡ Ok (changed e edit c))
accepted_makes e edit ok = by_steps (nat_le 10000 e.number) (change_of e.session e.transport.wrap edit) ok
  where
    by_steps : (full : Bool) (change : Checked Change) → IsOk (steps e edit full change) → (c : Change) × (change ≡ Ok c) × (steps e edit full change ≡ Ok (changed e edit c))
    by_steps true change ok = absurd (true≢false (sym ok))
    by_steps false (Ok c) ok = (c, refl, refl)
    by_steps false (Err why) ok = absurd (true≢false (sym ok))

-- ---- sessions along the edits

-- what an edit leaves of a session: all of it, or what a change makes that the edit names
pub session_after : (P : Session → Type 0) (e : Edition) (edit : Edit) → P e.session → ((c : Change) → change_of e.session e.transport.wrap edit ≡ Ok c → P (made e.session c)) →
    P (taken_up e (apply e edit)).session
session_after P e edit old new = by_steps (nat_le 10000 e.number) (change_of e.session e.transport.wrap edit) new
  where
    by_steps : (full : Bool) (change : Checked Change) → ((c : Change) → change ≡ Ok c → P (made e.session c)) → P (taken_up e (steps e edit full change)).session
    by_steps true change new = old
    by_steps false (Ok c) new = new c refl
    by_steps false (Err why) new = old

-- what each change keeps that an edit of the list names, each edition's session has
pub sessions_keep : (P : Session → Type 0) (session : Session) (edits : List Edit) → P session →
    ((k : ℕ) (edit : Edit) (s : Session) (wrap : Option Wrap) (c : Change) → slice_get edits k ≡ Some edit → change_of s wrap edit ≡ Ok c → P s → P (made s c)) →
    (k : ℕ) → P (edition session edits k).session
sessions_keep P session edits first keeps zero = first
sessions_keep P session edits first keeps (suc k) = by_item (slice_get edits k) refl (sessions_keep P session edits first keeps k)
  where
    by_item : (o : Option Edit) → slice_get edits k ≡ o → P (edition session edits k).session → P (after_one (edition session edits k) o).session
    by_item None here before = before
    by_item (Some edit) here before = session_after P (edition session edits k) edit before
        (λ c e. keeps k edit (edition session edits k).session (edition session edits k).transport.wrap c here e before)
