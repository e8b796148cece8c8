-- The words that say why a line isn't read (own).
use Rattle.std.specs.Prelude.{ℕ, List, ◌++◌, codes, decimal}
use Rattle.engine_model.specs.Lines.{LineRefusal, Long, NotText, NotCommand, Words, BadName, Number, Choice}

abbrev pub refusal_text : LineRefusal → List ℕ
refusal_text Long = codes "long"
refusal_text NotText = codes "text"
refusal_text NotCommand = codes "not-command"
refusal_text (Words n) = codes "words " ++ decimal n
refusal_text (BadName i) = codes "name " ++ decimal i
refusal_text (Number i) = codes "number " ++ decimal i
refusal_text (Choice i) = codes "choice " ++ decimal i
