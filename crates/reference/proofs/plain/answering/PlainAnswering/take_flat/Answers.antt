use Rattle.std.proofs.Common.{sym, w64}
use Rattle.std.proofs.lemmas.Int.{to_z-of_z}
use Rattle.reference.specs.PlainViews.{world_of}
use Rattle.reference.proofs.CommandSteps.{next_handed}
use Rattle.reference.proofs.WaitingLemmas.{wait_each, waiting_are_next}
use Rattle.reference.proofs.plain.answering.PlainAnswering.take_flat.Goals as goal

pub returns-in_ok-hand_out_flat-in-None-clause-next : goal.returns-in_ok-hand_out_flat-in-None-clause-next
returns-in_ok-hand_out_flat-in-None-clause-next c =
    let p = c.args.self.now in
    let limit = to_z-of_z w64 c.args.limit c.ranges.limit in
    next_handed (world_of p) c.args.query c.args.limit _
    (waiting_are_next p.streams.items p.queries.items (wait_each p.streams.items p.queries.items p.next_wait))
    (sym (simp limit at c.in-None.ensures.first)) (simp limit at c.in_ok-hand_out_flat-in-None.ensures.rows)
