-- The lines of statuses, worked.
use Rattle.std.proofs.Common.{◌≡◌, refl, [], codes}
use Rattle.std.specs.Fmt.{digits}
use Rattle.session_model.specs.declared.key.Key.TheVariants as key
use Rattle.session_model.specs.declared.refusal.Part.TheVariants as part
use Rattle.session_model.specs.declared.refusal.SessionRefusal.TheVariants.{Absent, Unknown, Missing, Range, RegionTwice}
use Rattle.wav_codec.specs.declared.refusal.WavRefusal.TheVariants.{Format, Truncated}
use Rattle.audio_source.specs.declared.refusal.FileRefusal.TheVariants as file
use Rattle.cycle_journal.specs.declared.status.InputRefusal.TheVariants as input
use Rattle.cycle_journal.specs.declared.status.Status.TheVariants.{Done, Usage, Session, SourceFile, ReadFault, OutFault, Refuted, BadInput, TakesExist}
use Rattle.session_walk.specs.Words.{word}
use Rattle.fault_lines.specs.Fault.{fault_line}

done : fault_line Done ≡ []
done = refl

usage : fault_line Usage ≡ codes "error usage\n"
usage = refl

absent : fault_line (Session Absent) ≡ codes "error session absent\n"
absent = refl

unknown : fault_line (Session (Unknown (record { part = part.Region; row = 1; item = 1 }))) ≡ codes "error session unknown region 1 1\n"
unfolding digits
unknown = refl

sent : fault_line (Session (Missing (record { part = part.BusSend; row = 2; item = 8 }) key.To)) ≡ codes "error session missing bus-send 2 8 to\n"
unfolding digits word
sent = refl

ranged : fault_line (Session (Range (record { part = part.Session; row = 1; item = 0 }) key.Block)) ≡ codes "error session range session 1 block\n"
unfolding digits word
ranged = refl

region_twice : fault_line (Session (RegionTwice (codes "t") 7)) ≡ codes "error session region-twice t 7\n"
unfolding digits
region_twice = refl

truncated : fault_line (SourceFile (codes "a") (file.Wav (Truncated 16 10))) ≡ codes "error source a truncated 16 10\n"
unfolding digits
truncated = refl

format : fault_line (SourceFile (codes "a") (file.Wav (Format 3))) ≡ codes "error source a format 3\n"
unfolding digits
format = refl

other_rate : fault_line (SourceFile (codes "a") (file.RateDiffers 44100 48000)) ≡ codes "error source a rate-differs 44100 48000\n"
unfolding digits
other_rate = refl

read_fault : fault_line ReadFault ≡ codes "error read-fault\n"
read_fault = refl

out_fault : fault_line OutFault ≡ []
out_fault = refl

refuted : fault_line (Refuted 12) ≡ codes "error refuted 12\n"
unfolding digits
refuted = refl

input_channels : fault_line (BadInput (input.InputChannels 1 2)) ≡ codes "error input input-channels 1 2\n"
unfolding digits
input_channels = refl

takes_exist : fault_line (TakesExist (codes "take")) ≡ codes "error takes-exist take\n"
takes_exist = refl
