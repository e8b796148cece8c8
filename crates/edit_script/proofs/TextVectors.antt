-- The canonical lines of edits, worked.
use Rattle.std.proofs.Common.{◌≡◌, refl, true, false, codes}
use Rattle.std.specs.Fmt.{digits}
use Rattle.ses_units.specs.declared.mode.Mode.TheVariants.{Manual, Play}
use Rattle.ses_units.specs.declared.shape.Shape.TheVariants.{Linear, Slow}
use Rattle.session_model.specs.declared.edit.Edit.TheVariants as edit
use Rattle.edit_script.specs.Printing.{line_of_edit}

roll : line_of_edit edit.Roll ≡ codes "roll"
roll = refl

record_off : line_of_edit (edit.Recording false) ≡ codes "record off"
record_off = refl

looped : line_of_edit (edit.Loop 0 1099511627775) ≡ codes "loop 0 1099511627775"
unfolding digits
looped = refl

loop_off : line_of_edit edit.LoopOff ≡ codes "loop off"
loop_off = refl

mode : line_of_edit (edit.Mode (codes "t") Manual) ≡ codes "mode t manual"
mode = refl

send : line_of_edit (edit.Send (codes "t") (codes "b") true 65536) ≡ codes "send t b pre 65536"
unfolding digits
send = refl

add : line_of_edit (edit.Add (codes "t") 7 (codes "a") 0 8 16 3) ≡ codes "add t 7 a 0 8 16 3"
unfolding digits
add = refl

fade : line_of_edit (edit.Fade (codes "t") 1 10 200) ≡ codes "fade t 1 10 200"
unfolding digits
fade = refl

shape : line_of_edit (edit.Shape (codes "t") 1 Linear Slow) ≡ codes "shape t 1 linear slow"
unfolding digits
shape = refl

record_on : line_of_edit (edit.Recording true) ≡ codes "record on"
record_on = refl

mode_play : line_of_edit (edit.Mode (codes "t") Play) ≡ codes "mode t play"
mode_play = refl

send_after : line_of_edit (edit.Send (codes "t") (codes "b") false 0) ≡ codes "send t b post 0"
unfolding digits
send_after = refl
