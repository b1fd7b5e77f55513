use Rattle.std.proofs.Common.{◌∙◌, refl, sym}
use Rattle.served.specs.Serving.{PoolDrains}
use Rattle.programs.proofs.Outcomes.{faults_tell, is_kept, one_tells, only_seat, settling_all, settling_differing, settling_nothing, settling_some, three_tells}
use Rattle.programs.proofs.shared.HubRun.run_forgetting.Goals as goal

pub returns-in_default-clause-shares : goal.returns-in_default-clause-shares
returns-in_default-clause-shares g c =
    settling_nothing (PoolDrains c.args.self.now.workers c.args.self.now.turn) c.lack_memory.result (g.I.Source.left c.args.source.now) (g.O.Sink.taken c.args.sink.now) (g.O.Sink.taken c.args.sink.now) (three_tells c.lack_memory.result c.lack_memory.ensures.status) refl

pub returns-in-Err-clause-shares : goal.returns-in-Err-clause-shares
returns-in-Err-clause-shares g c =
    let one = only_seat c.in-Ok.seats.items c.pop.new.self.items c.in-Some.seat c.in-Ok.ensures.ok.1 c.in-Some.ensures.items in
    settling_some (PoolDrains c.args.self.now.workers c.args.self.now.turn) c.fail.result (g.I.Source.left c.args.source.now) (g.O.Sink.taken c.args.sink.now) (g.O.Sink.taken c.run-ran.new.sink) c.in-Some.seat c.run-ran.new.seat
    one.1 (faults_tell c.in-Err.fault c.fail.result c.fail.ensures.status) (rw c.new-connection.ensures.rows at c.in-Err.ensures.stands)

pub returns-then-are_compared-clause-shares : goal.returns-then-are_compared-clause-shares
returns-then-are_compared-clause-shares g c =
    let one = only_seat c.in-Ok.seats.items c.pop.new.self.items c.in-Some.seat c.in-Ok.ensures.ok.1 c.in-Some.ensures.items in
    let ok = c.in-Ok-close.ensures.ok in
    let none = sym c.in-Ok-close.ensures.by_number ∙ c.are_compared.ensures.all c.if-are_compared.true in
    let kept = is_kept _ _ _ ok.0 c.push_reserved.new.self.items c.pop.new.self.items c.in-Ok.hub c.run-ran.new.seat one.0 c.push_reserved.ensures.items c.in-Ok.ensures.ok.0 c.in-Ok-close.ensures.legal c.in-Ok-close.ensures.opens c.in-Ok-close.ensures.reached ok.1 none in
    settling_all (PoolDrains c.args.self.now.workers c.args.self.now.turn) 0 (g.I.Source.left c.args.source.now) (g.O.Sink.taken c.args.sink.now) (g.O.Sink.taken c.run-ran.new.sink) c.in-Some.seat c.run-ran.new.seat
    c.in-Ok-ran.forgot one.1 kept (rw c.new-connection.ensures.rows at c.in-Ok-ran.ensures.text)

pub returns-in-Ok-close-clause-shares : goal.returns-in-Ok-close-clause-shares
returns-in-Ok-close-clause-shares g c =
    let one = only_seat c.in-Ok.seats.items c.pop.new.self.items c.in-Some.seat c.in-Ok.ensures.ok.1 c.in-Some.ensures.items in
    settling_differing (PoolDrains c.args.self.now.workers c.args.self.now.turn) c.differ.result (g.I.Source.left c.args.source.now) (g.O.Sink.taken c.args.sink.now) (g.O.Sink.taken c.run-ran.new.sink) c.in-Some.seat c.run-ran.new.seat
    c.in-Ok-ran.forgot one.1 (one_tells c.differ.result c.differ.ensures.status) (rw c.new-connection.ensures.rows at c.in-Ok-ran.ensures.text)

pub returns-clause-shares : goal.returns-clause-shares
returns-clause-shares g c =
    let one = only_seat c.in-Ok.seats.items c.pop.new.self.items c.in-Some.seat c.in-Ok.ensures.ok.1 c.in-Some.ensures.items in
    settling_differing (PoolDrains c.args.self.now.workers c.args.self.now.turn) c.differ-in-Err-close.result (g.I.Source.left c.args.source.now) (g.O.Sink.taken c.args.sink.now) (g.O.Sink.taken c.run-ran.new.sink) c.in-Some.seat c.run-ran.new.seat
    c.in-Ok-ran.forgot one.1 (one_tells c.differ-in-Err-close.result c.differ-in-Err-close.ensures.status) (rw c.new-connection.ensures.rows at c.in-Ok-ran.ensures.text)
