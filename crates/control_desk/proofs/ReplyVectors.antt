-- Reply lines, worked.
use Rattle.std.proofs.Common.{◌≡◌, refl, codes, [], ◌∷◌}
use Rattle.std.specs.Fmt.{digits}
use Rattle.engine_model.specs.Lines.{Words, NotText}
use Rattle.engine_model.specs.Refusals.{Limit, Regions, NoRoute}
use Rattle.engine_model.specs.Replies.{Accepted, Refused, LineRefused, Done, Synced, NotSynced}
use Rattle.control_desk.specs.Texts.{reply_text, reply_texts}

accepted : reply_text (Accepted 12) ≡ codes "ok 12\n"
unfolding digits
accepted = refl

done : reply_text Done ≡ codes "done\n"
done = refl

synced : reply_text (Synced 3 10) ≡ codes "synced 3 10\n"
unfolding digits
synced = refl

not_synced : reply_text (NotSynced 3) ≡ codes "not synced 3\n"
unfolding digits
not_synced = refl

refused : reply_text (Refused (NoRoute (codes "drums"))) ≡ codes "refused no-route drums\n"
refused = refl

limited : reply_text (Refused (Limit Regions)) ≡ codes "refused limit regions 256\n"
limited = refl

line_refused : reply_text (LineRefused (Words 2)) ≡ codes "refused words 2\n"
unfolding digits
line_refused = refl

replies : reply_texts (Accepted 1 ∷ LineRefused NotText ∷ []) ≡ codes "ok 1\nrefused text\n"
unfolding digits
replies = refl
