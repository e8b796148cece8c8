-- What the parts of a session keep by their types: names, names of files, gains, lanes and playlists.
use Rattle.std.specs.Prelude.{◌≡◌, ◌≤◌, true, All, IfSome}
use Rattle.ses_units.specs.Name.{is_name}
use Rattle.ses_units.specs.Lane.{IsLane}
use Rattle.session_model.specs.FileName.{is_file_name}
use Rattle.session_model.specs.Playlist.{IsPlaylist}
use Rattle.session_model.specs.declared.route.Route.{Route}
use Rattle.session_model.specs.declared.session.SourceDecl.{SourceDecl}
use Rattle.session_model.specs.declared.session.Session.{Session}
use Rattle.session_text.specs.Said.{track_routes, busses, master}

pub record IsKeptSource (d : SourceDecl) : Type 0 where
  pub name : is_name d.name ≡ true
  pub file : is_file_name d.file ≡ true

-- of any route
pub record IsKeptFader (q : Route) : Type 0 where
  pub gain : q.fader ≤ 262144
  pub lane : IsLane q.lane

-- of a track's and a bus's
pub record IsKeptRoute (q : Route) : Type 0 where
  pub name : is_name q.name ≡ true
  pub left : q.left ≤ 262144
  pub right : q.right ≤ 262144
  pub fader : IsKeptFader q
  pub sends : All (λ l. l.gain ≤ 262144) q.sends.items

pub record IsKept (s : Session) : Type 0 where
  pub takes : is_name s.takes ≡ true
  pub sources : All IsKeptSource s.sources.items
  pub track_routes : All IsKeptRoute (track_routes s)
  pub playlists : All (λ k. IsPlaylist k.list) s.tracks.items
  pub busses : All IsKeptRoute (busses s)
  pub master : IfSome (master s) IsKeptFader
