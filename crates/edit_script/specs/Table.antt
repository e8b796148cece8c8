-- The table of the commands: the word of each, the forms of the words behind it, and what it makes of their values (own).
use Rattle.std.specs.Prelude.{ℕ, List, [], ◌∷◌, ◌++◌, map, Option, Some, None, codes}
use Rattle.session_model.specs.declared.edit.Edit.{Edit}
use Rattle.session_model.specs.declared.edit.Edit.TheVariants as edit
use Rattle.edit_script.specs.declared.command.Command.{Command}
use Rattle.edit_script.specs.declared.command.Command.TheVariants.{Do, Wait, Sync}
use Rattle.edit_script.specs.declared.verb.Transport.{Transport}
use Rattle.edit_script.specs.declared.verb.Transport.TheVariants.{Roll, Stop, Quit, Record, Locate, Loop, LoopOff}
use Rattle.edit_script.specs.declared.verb.Strip.{Strip}
use Rattle.edit_script.specs.declared.verb.Strip.TheVariants as strip
use Rattle.edit_script.specs.declared.verb.Desk.{Desk}
use Rattle.edit_script.specs.declared.verb.Desk.TheVariants.{Point, Unpoint, Connect, Send, Unsend}
use Rattle.edit_script.specs.declared.verb.Region.{Region}
use Rattle.edit_script.specs.declared.verb.Region.TheVariants.{Add, Remove, Move, Trim}
use Rattle.edit_script.specs.declared.verb.Blend.{Blend}
use Rattle.edit_script.specs.declared.verb.Blend.TheVariants as blend
use Rattle.edit_script.specs.declared.verb.Verb.{Verb}
use Rattle.edit_script.specs.declared.verb.Verb.TheVariants as verb
use Rattle.edit_script.specs.Forms.{Form, Name, OnOff, ManualPlay, PrePost, LinearSlow, JustOff, any, region_id, long, layer, cycles, Value, Named, Number, Switch, Mode, Pre, Shape, Off}

-- ---- the transport

abbrev pub transport_word : Transport → List ℕ
transport_word Roll = codes "roll"
transport_word Stop = codes "stop"
transport_word Quit = codes "quit"
transport_word Record = codes "record"
transport_word Locate = codes "locate"
transport_word Loop = codes "loop"
transport_word LoopOff = codes "loop"

abbrev pub transport_forms : Transport → List Form
transport_forms Roll = []
transport_forms Stop = []
transport_forms Quit = []
transport_forms Record = OnOff ∷ []
transport_forms Locate = any ∷ []
transport_forms Loop = any ∷ any ∷ []
transport_forms LoopOff = JustOff ∷ []

abbrev pub transport_makes : Transport → List Value → Option Edit
transport_makes Roll [] = Some edit.Roll
transport_makes Stop [] = Some edit.Stop
transport_makes Quit [] = Some edit.Quit
transport_makes Record (Switch on ∷ []) = Some (edit.Recording on)
transport_makes Locate (Number to ∷ []) = Some (edit.Locate to)
transport_makes Loop (Number from ∷ Number to ∷ []) = Some (edit.Loop from to)
transport_makes LoopOff (Off ∷ []) = Some edit.LoopOff
transport_makes _ _ = None

-- ---- the strip of a route

abbrev pub strip_word : Strip → List ℕ
strip_word strip.Arm = codes "arm"
strip_word strip.Solo = codes "solo"
strip_word strip.Mute = codes "mute"
strip_word strip.Gain = codes "gain"
strip_word strip.Pan = codes "pan"
strip_word strip.Mode = codes "mode"

abbrev pub strip_forms : Strip → List Form
strip_forms strip.Arm = Name ∷ OnOff ∷ []
strip_forms strip.Solo = Name ∷ OnOff ∷ []
strip_forms strip.Mute = Name ∷ OnOff ∷ []
strip_forms strip.Gain = Name ∷ any ∷ []
strip_forms strip.Pan = Name ∷ any ∷ any ∷ []
strip_forms strip.Mode = Name ∷ ManualPlay ∷ []

abbrev pub strip_makes : Strip → List Value → Option Edit
strip_makes strip.Arm (Named track ∷ Switch on ∷ []) = Some (edit.Arm track on)
strip_makes strip.Solo (Named track ∷ Switch on ∷ []) = Some (edit.Solo track on)
strip_makes strip.Mute (Named route ∷ Switch on ∷ []) = Some (edit.Mute route on)
strip_makes strip.Gain (Named route ∷ Number gain ∷ []) = Some (edit.Gain route gain)
strip_makes strip.Pan (Named route ∷ Number left ∷ Number right ∷ []) = Some (edit.Pan route left right)
strip_makes strip.Mode (Named route ∷ Mode mode ∷ []) = Some (edit.Mode route mode)
strip_makes _ _ = None

-- ---- lanes, and where routes lead

abbrev pub desk_word : Desk → List ℕ
desk_word Point = codes "point"
desk_word Unpoint = codes "unpoint"
desk_word Connect = codes "connect"
desk_word Send = codes "send"
desk_word Unsend = codes "unsend"

abbrev pub desk_forms : Desk → List Form
desk_forms Point = Name ∷ any ∷ any ∷ []
desk_forms Unpoint = Name ∷ any ∷ []
desk_forms Connect = Name ∷ Name ∷ []
desk_forms Send = Name ∷ Name ∷ PrePost ∷ any ∷ []
desk_forms Unsend = Name ∷ Name ∷ []

abbrev pub desk_makes : Desk → List Value → Option Edit
desk_makes Point (Named route ∷ Number at ∷ Number gain ∷ []) = Some (edit.Point route at gain)
desk_makes Unpoint (Named route ∷ Number at ∷ []) = Some (edit.Unpoint route at)
desk_makes Connect (Named route ∷ Named target ∷ []) = Some (edit.Connect route target)
desk_makes Send (Named route ∷ Named target ∷ Pre pre ∷ Number gain ∷ []) = Some (edit.Send route target pre gain)
desk_makes Unsend (Named route ∷ Named target ∷ []) = Some (edit.Unsend route target)
desk_makes _ _ = None

-- ---- the regions of a track

abbrev pub region_word : Region → List ℕ
region_word Add = codes "add"
region_word Remove = codes "remove"
region_word Move = codes "move"
region_word Trim = codes "trim"

abbrev pub region_forms : Region → List Form
region_forms Add = Name ∷ region_id ∷ Name ∷ any ∷ long ∷ any ∷ layer ∷ []
region_forms Remove = Name ∷ region_id ∷ []
region_forms Move = Name ∷ region_id ∷ any ∷ []
region_forms Trim = Name ∷ region_id ∷ any ∷ long ∷ []

abbrev pub region_makes : Region → List Value → Option Edit
region_makes Add (Named track ∷ Number id ∷ Named source ∷ Number start ∷ Number length ∷ Number at ∷ Number layer ∷ []) =
    Some (edit.Add track id source start length at layer)
region_makes Remove (Named track ∷ Number id ∷ []) = Some (edit.Remove track id)
region_makes Move (Named track ∷ Number id ∷ Number at ∷ []) = Some (edit.Move track id at)
region_makes Trim (Named track ∷ Number id ∷ Number start ∷ Number length ∷ []) = Some (edit.Trim track id start length)
region_makes _ _ = None

-- ---- how a region blends with those round it

abbrev pub blend_word : Blend → List ℕ
blend_word blend.Layer = codes "layer"
blend_word blend.Opaque = codes "opaque"
blend_word blend.Gain = codes "rgain"
blend_word blend.Fade = codes "fade"
blend_word blend.Shape = codes "shape"

abbrev pub blend_forms : Blend → List Form
blend_forms blend.Layer = Name ∷ region_id ∷ layer ∷ []
blend_forms blend.Opaque = Name ∷ region_id ∷ OnOff ∷ []
blend_forms blend.Gain = Name ∷ region_id ∷ any ∷ []
blend_forms blend.Fade = Name ∷ region_id ∷ any ∷ any ∷ []
blend_forms blend.Shape = Name ∷ region_id ∷ LinearSlow ∷ LinearSlow ∷ []

abbrev pub blend_makes : Blend → List Value → Option Edit
blend_makes blend.Layer (Named track ∷ Number id ∷ Number layer ∷ []) = Some (edit.Layer track id layer)
blend_makes blend.Opaque (Named track ∷ Number id ∷ Switch on ∷ []) = Some (edit.Opaque track id on)
blend_makes blend.Gain (Named track ∷ Number id ∷ Number gain ∷ []) = Some (edit.RegionGain track id gain)
blend_makes blend.Fade (Named track ∷ Number id ∷ Number fade_in ∷ Number fade_out ∷ []) = Some (edit.Fade track id fade_in fade_out)
blend_makes blend.Shape (Named track ∷ Number id ∷ Shape shape_in ∷ Shape shape_out ∷ []) = Some (edit.Shape track id shape_in shape_out)
blend_makes _ _ = None

-- ---- every command

-- the commands, in the order of the table
abbrev pub verbs : List Verb
verbs = map verb.Transport (Roll ∷ Stop ∷ Quit ∷ Record ∷ Locate ∷ Loop ∷ LoopOff ∷ [])
    ++ map verb.Strip (strip.Arm ∷ strip.Solo ∷ strip.Mute ∷ strip.Gain ∷ strip.Pan ∷ strip.Mode ∷ [])
    ++ map verb.Desk (Point ∷ Unpoint ∷ Connect ∷ Send ∷ Unsend ∷ [])
    ++ map verb.Region (Add ∷ Remove ∷ Move ∷ Trim ∷ [])
    ++ map verb.Blend (blend.Layer ∷ blend.Opaque ∷ blend.Gain ∷ blend.Fade ∷ blend.Shape ∷ [])
    ++ verb.Wait ∷ verb.Sync ∷ []

abbrev pub word_of : Verb → List ℕ
word_of (verb.Transport v) = transport_word v
word_of (verb.Strip v) = strip_word v
word_of (verb.Desk v) = desk_word v
word_of (verb.Region v) = region_word v
word_of (verb.Blend v) = blend_word v
word_of verb.Wait = codes "wait"
word_of verb.Sync = codes "sync"

-- the forms of the words behind the first
abbrev pub forms_of : Verb → List Form
forms_of (verb.Transport v) = transport_forms v
forms_of (verb.Strip v) = strip_forms v
forms_of (verb.Desk v) = desk_forms v
forms_of (verb.Region v) = region_forms v
forms_of (verb.Blend v) = blend_forms v
forms_of verb.Wait = cycles ∷ []
forms_of verb.Sync = []

abbrev pub done : Option Edit → Option Command
done None = None
done (Some e) = Some (Do e)

-- the command that the values of the words behind the first make; of values of its forms each verb makes one
abbrev pub makes : Verb → List Value → Option Command
makes (verb.Transport v) values = done (transport_makes v values)
makes (verb.Strip v) values = done (strip_makes v values)
makes (verb.Desk v) values = done (desk_makes v values)
makes (verb.Region v) values = done (region_makes v values)
makes (verb.Blend v) values = done (blend_makes v values)
makes verb.Wait (Number n ∷ []) = Some (Wait n)
makes verb.Wait _ = None
makes verb.Sync [] = Some Sync
makes verb.Sync _ = None
