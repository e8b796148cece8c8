-- What contracts see of opened sources, and what their files were.
use Rattle.std.specs.Prelude.{◌≡◌, ℕ, ◌*◌, ◌≤◌, List, length, map, slice_get, Some, Ok}
use Rattle.sound_model.specs.Wav.{Head}
use Rattle.ses_io.specs.Files.{Files}
use Rattle.wav_codec.specs.Info.{head_of, IsFound}
use Rattle.wav_codec.specs.declared.info.WavInfo.{WavInfo}
use Rattle.session_model.specs.declared.session.SourceDecl.{SourceDecl}
use Rattle.audio_source.specs.declared.entry.Entry.{Entry}
use Rattle.audio_source.specs.Refusals.{source_head}

-- A head has this rate and these channels.
pub record Fits (frames_a_second many : ℕ) (info : WavInfo) : Type 0 where
  pub rate : info.rate ≡ frames_a_second
  pub channels : info.channels ≡ many

-- the name of a file, and the head that it had
pub record OpenedSource : Type 0 where
  pub file : List ℕ
  pub head : Head

abbrev pub opened_source : Entry → OpenedSource
opened_source e = record { file = e.file; head = head_of e.info }

-- the channels of each source
abbrev pub channels_of : List OpenedSource → List ℕ
channels_of opened = map (λ o. o.head.form.channels) opened

-- two lists of one length, whose items at each place go together
pub record ArePaired {X Y : Type 0} (P : X → Y → Type 0) (xs : List X) (ys : List Y) : Type 0 where
  pub many : length ys ≡ length xs
  pub each : (i : ℕ) (x : X) (y : Y) → slice_get xs i ≡ Some x → slice_get ys i ≡ Some y → P x y

-- A source as it was declared.
pub record IsListedAs (frames_a_second : ℕ) (d : SourceDecl) (o : OpenedSource) : Type 0 where
  pub file : o.file ≡ d.file
  pub rate : o.head.form.rate ≡ frames_a_second
  pub channels : o.head.form.channels ≡ d.channels

-- each source has the name and the channels that were declared, and the session's rate
abbrev pub IsListed : ℕ → List SourceDecl → List OpenedSource → Type 0
IsListed rate list opened = ArePaired (IsListedAs rate) list opened

-- A source as its file is.
pub record IsOpenedAs (files : Files) (rate : ℕ) (d : SourceDecl) (o : OpenedSource) : Type 0 where
  pub file : o.file ≡ d.file
  pub head : source_head rate d.channels (files d.file) ≡ Ok o.head

-- each source has the head of its file
abbrev pub IsOpened : Files → ℕ → List SourceDecl → List OpenedSource → Type 0
IsOpened files rate list opened = ArePaired (IsOpenedAs files rate) list opened

-- A source that can be read, with a buffer for 4,096 of its frames.
pub record IsReadable (bytes : ℕ) (e : Entry) : Type 0 where
  pub found : IsFound e.info
  -- a sample has at most 3 bytes
  pub room : 12288 * e.info.channels ≤ bytes
