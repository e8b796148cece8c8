-- The reply lines (own).
use Rattle.std.specs.Prelude.{ℕ, List, [], ◌∷◌, ◌++◌, codes, decimal, Result, Ok, Err}
use Rattle.std.specs.List.{flat_map}
use Rattle.engine_model.specs.Replies as engine
use Rattle.engine_model.specs.Replies.{Accepted, Refused, LineRefused, Done, Synced, NotSynced}
use Rattle.edit_script.specs.Reading as script
use Rattle.edit_script.specs.Refusals as line
use Rattle.edit_resolve.specs.declared.reason.Refusal.{Refusal}
use Rattle.edit_resolve.specs.Reason.{refusal_of}
use Rattle.edit_resolve.specs.Texts as edit
use Rattle.control_desk.specs.declared.reply.Reply as code
use Rattle.control_desk.specs.declared.reply.Reply.TheVariants as reply

-- a reply, in the words of the engine
abbrev pub reply_of : code.Reply → engine.Reply
reply_of (reply.Accepted k) = Accepted k
reply_of (reply.Refused why) = Refused (refusal_of why)
reply_of (reply.LineRefused why) = LineRefused (script.refusal_of why)
reply_of reply.Done = Done
reply_of (reply.Synced k entry) = Synced k entry
reply_of (reply.NotSynced k) = NotSynced k

-- what is answered to an edit
abbrev pub edit_reply : Result ℕ Refusal → engine.Reply
edit_reply (Ok k) = Accepted k
edit_reply (Err why) = Refused (refusal_of why)

-- the words of a reply
abbrev pub reply_words : engine.Reply → List ℕ
reply_words (Accepted k) = codes "ok " ++ decimal k
reply_words (Refused why) = codes "refused " ++ edit.refusal_text why
reply_words (LineRefused why) = codes "refused " ++ line.refusal_text why
reply_words Done = codes "done"
reply_words (Synced k entry) = codes "synced " ++ (decimal k ++ (codes " " ++ decimal entry))
reply_words (NotSynced k) = codes "not synced " ++ decimal k

-- its line
abbrev pub reply_text : engine.Reply → List ℕ
reply_text reply = reply_words reply ++ 10 ∷ []

-- the lines of replies, the first one first
abbrev pub reply_texts : List engine.Reply → List ℕ
reply_texts replies = flat_map reply_text replies
