-- What holds of every session that is read.
use Rattle.std.specs.Prelude.{◌≡◌, ℕ, List, All, Ok}
use Rattle.sound_model.specs.Regions.{Region, Linear}
use Rattle.session_model.specs.declared.key.Key.TheVariants as key
use Rattle.session_model.specs.declared.session.Session.{Session}
use Rattle.session_model.specs.Valid.{IsValid}
use Rattle.toml.specs.Data.{Members}
use Rattle.session_walk.specs.declared.said.Written.{Written}
use Rattle.session_walk.specs.Text.{document}
use Rattle.session_walk.specs.Says.{SaysTable, SaysWhole, SaysAll}
use Rattle.session_toml.specs.Session.{built, session}

-- an accepted session is one that the engine takes
abbrev pub AcceptedIsValid : Type 0
AcceptedIsValid = (bytes : List ℕ) (s : Session) → session bytes ≡ Ok s → IsValid s

-- an accepted session is what its document says, key by key, and the default where a key is absent
abbrev pub AcceptedIsSaid : Type 0
AcceptedIsSaid = (bytes : List ℕ) (s : Session) → session bytes ≡ Ok s →
    (m : Members) × (w : Written) × (document bytes ≡ Ok m) × SaysAll m w × (s ≡ built w)

-- the text has this version: its table `session` says so
abbrev pub HasVersion : List ℕ → ℕ → Type 0
HasVersion bytes version = (m : Members) × (table : Members) × (document bytes ≡ Ok m) × SaysTable m key.Session table × SaysWhole table key.Version version

-- both fades of a region are linear
pub record IsLinear (r : Region) : Type 0 where
  pub fade_in : r.shape_in ≡ Linear
  pub fade_out : r.shape_out ≡ Linear

-- an accepted session whose text has version 1 has linear fades alone
abbrev pub FirstVersionIsLinear : Type 0
FirstVersionIsLinear = (bytes : List ℕ) (s : Session) → HasVersion bytes 1 → session bytes ≡ Ok s → All (λ k. All IsLinear k.list) s.tracks.items
