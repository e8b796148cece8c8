-- What lines say, in worked lines.
use Rattle.std.proofs.Common.{◌≡◌, [], ◌∷◌, ◌++◌, refl, true, false, codes}
use Rattle.ses_units.specs.declared.mode.Mode.TheVariants.{Play}
use Rattle.ses_units.specs.declared.shape.Shape.TheVariants.{Linear, Slow}
use Rattle.session_model.specs.declared.edit.Edit.TheVariants as edit
use Rattle.engine_model.specs.Lines.{Nothing, Says}
use Rattle.engine_model.specs.Plain.{Do, Wait, Sync}
use Rattle.edit_script.specs.Words.{words_of}
use Rattle.edit_script.specs.Reading.{read_line, verb_by}

-- ---- words

blanks : words_of (32 ∷ 9 ∷ codes "mute  b" ++ 9 ∷ codes "on ") ≡ codes "mute" ∷ codes "b" ∷ codes "on" ∷ []
blanks = refl

no_words : words_of (codes "  ") ≡ []
no_words = refl

-- ---- nothing

empty : read_line [] ≡ Nothing
unfolding read_line verb_by
empty = refl

blank : read_line (9 ∷ codes "  ") ≡ Nothing
unfolding read_line verb_by
blank = refl

comment : read_line (codes " # roll") ≡ Nothing
unfolding read_line verb_by
comment = refl

comment_alone : read_line (codes "#") ≡ Nothing
unfolding read_line verb_by
comment_alone = refl

-- ---- each command

roll : read_line (codes "roll") ≡ Says (Do edit.Roll)
unfolding read_line verb_by
roll = refl

stop : read_line (codes "stop") ≡ Says (Do edit.Stop)
unfolding read_line verb_by
stop = refl

quit : read_line (codes "quit ") ≡ Says (Do edit.Quit)
unfolding read_line verb_by
quit = refl

record_on : read_line (codes "record on") ≡ Says (Do (edit.Recording true))
unfolding read_line verb_by
record_on = refl

locate : read_line (codes "locate 0099") ≡ Says (Do (edit.Locate 99))
unfolding read_line verb_by
locate = refl

looped : read_line (codes "loop 4 8") ≡ Says (Do (edit.Loop 4 8))
unfolding read_line verb_by
looped = refl

loop_off : read_line (codes "loop off") ≡ Says (Do edit.LoopOff)
unfolding read_line verb_by
loop_off = refl

arm : read_line (codes "arm t on") ≡ Says (Do (edit.Arm (codes "t") true))
unfolding read_line verb_by
arm = refl

solo : read_line (codes "solo t off") ≡ Says (Do (edit.Solo (codes "t") false))
unfolding read_line verb_by
solo = refl

mute : read_line (codes "mute b on") ≡ Says (Do (edit.Mute (codes "b") true))
unfolding read_line verb_by
mute = refl

gain : read_line (codes "gain master 65536") ≡ Says (Do (edit.Gain (codes "master") 65536))
unfolding read_line verb_by
gain = refl

pan : read_line (codes "pan t 1 2") ≡ Says (Do (edit.Pan (codes "t") 1 2))
unfolding read_line verb_by
pan = refl

mode : read_line (codes "mode t play") ≡ Says (Do (edit.Mode (codes "t") Play))
unfolding read_line verb_by
mode = refl

point : read_line (codes "point t 5 6") ≡ Says (Do (edit.Point (codes "t") 5 6))
unfolding read_line verb_by
point = refl

unpoint : read_line (codes "unpoint t 5") ≡ Says (Do (edit.Unpoint (codes "t") 5))
unfolding read_line verb_by
unpoint = refl

connect : read_line (codes "connect t b") ≡ Says (Do (edit.Connect (codes "t") (codes "b")))
unfolding read_line verb_by
connect = refl

send : read_line (codes "send t b post 7") ≡ Says (Do (edit.Send (codes "t") (codes "b") false 7))
unfolding read_line verb_by
send = refl

send_before : read_line (codes "send t b pre 7") ≡ Says (Do (edit.Send (codes "t") (codes "b") true 7))
unfolding read_line verb_by
send_before = refl

unsend : read_line (codes "unsend t b") ≡ Says (Do (edit.Unsend (codes "t") (codes "b")))
unfolding read_line verb_by
unsend = refl

add : read_line (codes "add t 1 a 2 3 4 65535") ≡ Says (Do (edit.Add (codes "t") 1 (codes "a") 2 3 4 65535))
unfolding read_line verb_by
add = refl

remove : read_line (codes "remove t 999999") ≡ Says (Do (edit.Remove (codes "t") 999999))
unfolding read_line verb_by
remove = refl

move : read_line (codes "move t 1 8") ≡ Says (Do (edit.Move (codes "t") 1 8))
unfolding read_line verb_by
move = refl

trim : read_line (codes "trim t 1 0 18446744073709551615") ≡ Says (Do (edit.Trim (codes "t") 1 0 18446744073709551615))
unfolding read_line verb_by
trim = refl

layer : read_line (codes "layer t 1 9") ≡ Says (Do (edit.Layer (codes "t") 1 9))
unfolding read_line verb_by
layer = refl

opaque : read_line (codes "opaque t 1 off") ≡ Says (Do (edit.Opaque (codes "t") 1 false))
unfolding read_line verb_by
opaque = refl

rgain : read_line (codes "rgain t 1 0") ≡ Says (Do (edit.RegionGain (codes "t") 1 0))
unfolding read_line verb_by
rgain = refl

fade : read_line (codes "fade t 1 2 3") ≡ Says (Do (edit.Fade (codes "t") 1 2 3))
unfolding read_line verb_by
fade = refl

shape : read_line (codes "shape t 1 slow linear") ≡ Says (Do (edit.Shape (codes "t") 1 Slow Linear))
unfolding read_line verb_by
shape = refl

wait : read_line (codes "wait 100000") ≡ Says (Wait 100000)
unfolding read_line verb_by
wait = refl

sync : read_line (codes "sync") ≡ Says Sync
unfolding read_line verb_by
sync = refl
