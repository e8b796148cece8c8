-- The words for a place in a session's text.
use Rattle.std.specs.Prelude.{ℕ, List, [], ◌++◌, codes, decimal}
use Rattle.session_model.specs.declared.refusal.Part.{Part}
use Rattle.session_model.specs.declared.refusal.Part.TheVariants.{Top, Session, Source, Track, Region, TrackSend, Bus, BusSend, Master}
use Rattle.session_model.specs.declared.refusal.Place.{Place}

abbrev pub part_word : Part → List ℕ
part_word Top = codes "top"
part_word Session = codes "session"
part_word Source = codes "source"
part_word Track = codes "track"
part_word Region = codes "region"
part_word TrackSend = codes "track-send"
part_word Bus = codes "bus"
part_word BusSend = codes "bus-send"
part_word Master = codes "master"

-- which region or send it is, and nothing of the other parts
abbrev pub item_words : Part → ℕ → List ℕ
item_words Top item = []
item_words Session item = []
item_words Source item = []
item_words Track item = []
item_words Region item = codes " " ++ decimal item
item_words TrackSend item = codes " " ++ decimal item
item_words Bus item = []
item_words BusSend item = codes " " ++ decimal item
item_words Master item = []

-- the part, its row, and the item of a region or a send
abbrev pub place_words : Place → List ℕ
place_words place = part_word place.part ++ codes " " ++ decimal place.row ++ item_words place.part place.item
