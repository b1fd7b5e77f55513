use Rattle.hub.proofs.KnownLemmas.{settles_alone, settles_and_forgets}
use Rattle.hub.proofs.locked.Locked.settle_and_forget.Goals as goal

pub returns-then-not-settle : goal.returns-then-not-settle
returns-then-not-settle c = settles_alone c.args.self.now c.settle.new.self c.args.seat.now c.settle.new.seat c.settle.result c.args.values c.if-not-settle.true c.settle.ensures

pub returns : goal.returns
returns c =
    settles_and_forgets c.args.self.now c.settle.new.self c.note_change.new.self c.forget_if_due.new.self c.args.seat.now c.settle.new.seat c.settle.result c.args.values c.forget_if_due.result c.if-not-settle.false c.settle.ensures
    c.note_change.ensures c.forget_if_due.ensures
