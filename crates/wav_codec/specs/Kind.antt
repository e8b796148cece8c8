-- What a chunk is on the walk.
use Rattle.std.specs.Prelude.{◌≡◌, ◌&&◌, ℕ, true, false, List, take, Option, is_none, codes, bytes_eq}
use Rattle.sound_model.specs.Wav.{Form}
use Rattle.wav_codec.specs.declared.scan.chunk.Kind.{Kind}
use Rattle.wav_codec.specs.declared.scan.chunk.Kind.TheVariants.{Sound, FirstFormat, Skipped}

-- what the chunk is that begins with these bytes, with the form found so far
abbrev pub IsKind : Kind → Option Form → List ℕ → Type 0
IsKind Sound form bytes = bytes_eq (take 4 bytes) (codes "data") ≡ true
IsKind FirstFormat form bytes =
    (bytes_eq (take 4 bytes) (codes "data") ≡ false)
    × ((is_none form && bytes_eq (take 4 bytes) (codes "fmt ")) ≡ true)
IsKind Skipped form bytes =
    (bytes_eq (take 4 bytes) (codes "data") ≡ false)
    × ((is_none form && bytes_eq (take 4 bytes) (codes "fmt ")) ≡ false)
