use Rattle.std.proofs.Common.{arith, ap, ◌∙◌}
use Rattle.disk_ring.proofs.Notes.{notes_in, joins}
use Rattle.disk_ring.proofs.Takes.{recalls_out}
use Rattle.disk_ring.proofs.tells.tell_consumer.Goals as goal

pub split_seat-note-requires : goal.split_seat-note-requires
split_seat-note-requires g c = let p = c.requires.producer in let words = p.words in (p.table, omega arith, notes_in _ g.T.Roomy.room_of _ _ _ p.mine)

pub join_seat-requires : goal.join_seat-requires
join_seat-requires g c = let q = c.requires.consumer in let words = q.words in let s = c.split_seat-note.ensures in
    (q.table, s.3 ∙ c.requires.producer.table, ap (λ m. m.1) s.4, omega arith, joins _ g.T.Roomy.room_of _ _ _ _ _)

pub load-requires : goal.load-requires
load-requires g c = let q = c.requires.consumer in let words = q.words in let j = c.join_seat.ensures in (j.0 ∙ q.table, omega arith, recalls_out _ g.T.Roomy.room_of _ _ _ _ (ap (λ m. m.0.takes) j.2 ∙ q.mine))
