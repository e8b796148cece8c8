-- What holds of the text of every made session.
use Rattle.std.specs.Prelude.{◌≡◌, ℕ}
use Rattle.made_session.specs.Made.{made_session}
use Rattle.session_text.specs.Session.{as_read}

-- its lists have the rooms that reading gives them
abbrev pub MadeSessionsStay : Type 0
MadeSessionsStay = (n : ℕ) → as_read (made_session n) ≡ made_session n
