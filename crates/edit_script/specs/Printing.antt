-- The canonical line of an edit: the word of its command and its values, one space before each value (own).
use Rattle.std.specs.Prelude.{ℕ, Bool, true, false, List, [], ◌∷◌, ◌++◌, codes, decimal}
use Rattle.ses_units.specs.declared.mode.Mode.TheVariants.{Manual, Play}
use Rattle.ses_units.specs.declared.shape.Shape.TheVariants.{Linear, Slow}
use Rattle.session_model.specs.declared.edit.Edit.{Edit}
use Rattle.session_model.specs.declared.edit.Edit.TheVariants as edit
use Rattle.edit_script.specs.declared.verb.Transport.TheVariants.{Roll, Stop, Quit, Record, Locate, Loop, LoopOff}
use Rattle.edit_script.specs.declared.verb.Strip.TheVariants as strip
use Rattle.edit_script.specs.declared.verb.Desk.TheVariants.{Point, Unpoint, Connect, Send, Unsend}
use Rattle.edit_script.specs.declared.verb.Region.TheVariants.{Add, Remove, Move, Trim}
use Rattle.edit_script.specs.declared.verb.Blend.TheVariants as blend
use Rattle.edit_script.specs.declared.verb.Verb.{Verb}
use Rattle.edit_script.specs.declared.verb.Verb.TheVariants as verb
use Rattle.edit_script.specs.Forms.{Value, Named, Number, Switch, Mode, Pre, Shape, Off}
use Rattle.edit_script.specs.Table.{word_of}

-- ---- what an edit says

abbrev pub verb_of : Edit → Verb
verb_of edit.Roll = verb.Transport Roll
verb_of edit.Stop = verb.Transport Stop
verb_of edit.Quit = verb.Transport Quit
verb_of (edit.Recording on) = verb.Transport Record
verb_of (edit.Locate to) = verb.Transport Locate
verb_of (edit.Loop from to) = verb.Transport Loop
verb_of edit.LoopOff = verb.Transport LoopOff
verb_of (edit.Arm track on) = verb.Strip strip.Arm
verb_of (edit.Solo track on) = verb.Strip strip.Solo
verb_of (edit.Mute route on) = verb.Strip strip.Mute
verb_of (edit.Gain route gain) = verb.Strip strip.Gain
verb_of (edit.Pan route left right) = verb.Strip strip.Pan
verb_of (edit.Mode route mode) = verb.Strip strip.Mode
verb_of (edit.Point route at gain) = verb.Desk Point
verb_of (edit.Unpoint route at) = verb.Desk Unpoint
verb_of (edit.Connect route target) = verb.Desk Connect
verb_of (edit.Send route target pre gain) = verb.Desk Send
verb_of (edit.Unsend route target) = verb.Desk Unsend
verb_of (edit.Add track id source start long at layer) = verb.Region Add
verb_of (edit.Remove track id) = verb.Region Remove
verb_of (edit.Move track id at) = verb.Region Move
verb_of (edit.Trim track id start long) = verb.Region Trim
verb_of (edit.Layer track id layer) = verb.Blend blend.Layer
verb_of (edit.Opaque track id on) = verb.Blend blend.Opaque
verb_of (edit.RegionGain track id gain) = verb.Blend blend.Gain
verb_of (edit.Fade track id fade_in fade_out) = verb.Blend blend.Fade
verb_of (edit.Shape track id shape_in shape_out) = verb.Blend blend.Shape

abbrev pub values_of : Edit → List Value
values_of edit.Roll = []
values_of edit.Stop = []
values_of edit.Quit = []
values_of (edit.Recording on) = Switch on ∷ []
values_of (edit.Locate to) = Number to ∷ []
values_of (edit.Loop from to) = Number from ∷ Number to ∷ []
values_of edit.LoopOff = Off ∷ []
values_of (edit.Arm track on) = Named track ∷ Switch on ∷ []
values_of (edit.Solo track on) = Named track ∷ Switch on ∷ []
values_of (edit.Mute route on) = Named route ∷ Switch on ∷ []
values_of (edit.Gain route gain) = Named route ∷ Number gain ∷ []
values_of (edit.Pan route left right) = Named route ∷ Number left ∷ Number right ∷ []
values_of (edit.Mode route mode) = Named route ∷ Mode mode ∷ []
values_of (edit.Point route at gain) = Named route ∷ Number at ∷ Number gain ∷ []
values_of (edit.Unpoint route at) = Named route ∷ Number at ∷ []
values_of (edit.Connect route target) = Named route ∷ Named target ∷ []
values_of (edit.Send route target pre gain) = Named route ∷ Named target ∷ Pre pre ∷ Number gain ∷ []
values_of (edit.Unsend route target) = Named route ∷ Named target ∷ []
values_of (edit.Add track id source start long at layer) = Named track ∷ Number id ∷ Named source ∷ Number start ∷ Number long ∷ Number at ∷ Number layer ∷ []
values_of (edit.Remove track id) = Named track ∷ Number id ∷ []
values_of (edit.Move track id at) = Named track ∷ Number id ∷ Number at ∷ []
values_of (edit.Trim track id start long) = Named track ∷ Number id ∷ Number start ∷ Number long ∷ []
values_of (edit.Layer track id layer) = Named track ∷ Number id ∷ Number layer ∷ []
values_of (edit.Opaque track id on) = Named track ∷ Number id ∷ Switch on ∷ []
values_of (edit.RegionGain track id gain) = Named track ∷ Number id ∷ Number gain ∷ []
values_of (edit.Fade track id fade_in fade_out) = Named track ∷ Number id ∷ Number fade_in ∷ Number fade_out ∷ []
values_of (edit.Shape track id shape_in shape_out) = Named track ∷ Number id ∷ Shape shape_in ∷ Shape shape_out ∷ []

-- the command says how a region blends with those round it
abbrev pub is_blend : Verb → Bool
is_blend (verb.Transport v) = false
is_blend (verb.Strip v) = false
is_blend (verb.Desk v) = false
is_blend (verb.Region v) = false
is_blend (verb.Blend v) = true
is_blend verb.Wait = false
is_blend verb.Sync = false

-- ---- its text

-- the word that says a value
abbrev pub text_of : Value → List ℕ
text_of (Named name) = name
text_of (Number n) = decimal n
text_of (Switch true) = codes "on"
text_of (Switch false) = codes "off"
text_of (Mode Manual) = codes "manual"
text_of (Mode Play) = codes "play"
text_of (Pre true) = codes "pre"
text_of (Pre false) = codes "post"
text_of (Shape Linear) = codes "linear"
text_of (Shape Slow) = codes "slow"
text_of Off = codes "off"

-- a line with one word more
abbrev pub with_word : List ℕ → List ℕ → List ℕ
with_word line word = line ++ 32 ∷ word

abbrev pub with_values : List ℕ → List Value → List ℕ
with_values line [] = line
with_values line (value ∷ values) = with_values (with_word line (text_of value)) values

abbrev pub line_of_edit : Edit → List ℕ
line_of_edit e = with_values (word_of (verb_of e)) (values_of e)
