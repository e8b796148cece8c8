use Rattle.std.proofs.Common.{arith, ap, ◌∙◌}
use Rattle.disk_ring.proofs.Notes.{notes_on, joins_list}
use Rattle.disk_ring.proofs.Sends.{recalls_in}
use Rattle.disk_ring.proofs.tells.tell_heard.Goals as goal

pub split_seat-note-requires : goal.split_seat-note-requires
split_seat-note-requires g c = let q = c.requires.consumer in let words = q.words in (q.table, omega arith, notes_on _ g.T.Roomy.room_of _ _ _)

pub join_seat-requires : goal.join_seat-requires
join_seat-requires g c = let p = c.requires.producer in let words = p.words in let s = c.split_seat-note.ensures in
    (p.table, s.3 ∙ c.requires.consumer.table, ap (λ m. m.1) s.4, omega arith, joins_list _ g.T.Roomy.room_of _ _ _ _ _)

pub load-requires : goal.load-requires
load-requires g c = let p = c.requires.producer in let words = p.words in let j = c.join_seat.ensures in (j.0 ∙ p.table, omega arith, recalls_in _ g.T.Roomy.room_of _ _ _ _ (ap (λ m. m.0.sends) j.2 ∙ p.mine))
