use Rattle.std.proofs.Common.{refl}
use Rattle.served.specs.Serving.{PoolDrains}
use Rattle.programs.proofs.Outcomes.{faults_tell, is_alone, one_tells, only_seat, shares_all, shares_differing, shares_nothing, shares_some}
use Rattle.programs.proofs.shared.HubRun.run_shared.Goals as goal

pub returns-in_default-clause-shares : goal.returns-in_default-clause-shares
returns-in_default-clause-shares g c =
    shares_nothing (PoolDrains c.args.self.now.workers c.args.self.now.turn) c.lack_memory.result (g.I.Source.left c.args.source.now) (g.O.Sink.taken c.args.sink.now) (g.O.Sink.taken c.args.sink.now) c.lack_memory.ensures.status refl

pub returns-in-Err-clause-shares : goal.returns-in-Err-clause-shares
returns-in-Err-clause-shares g c =
    let one = only_seat c.in-Ok.seats.items c.pop.new.self.items c.in-Some.seat c.in-Ok.ensures.ok.1 c.in-Some.ensures.items in
    shares_some (PoolDrains c.args.self.now.workers c.args.self.now.turn) c.fail.result (g.I.Source.left c.args.source.now) (g.O.Sink.taken c.args.sink.now) (g.O.Sink.taken c.run_hub-ran.new.sink) c.in-Some.seat c.run_hub-ran.new.seat
    one.1 (faults_tell c.in-Err.fault c.fail.result c.fail.ensures.status) c.in-Err.ensures.stands

pub returns-then-is_whole-clause-shares : goal.returns-then-is_whole-clause-shares
returns-then-is_whole-clause-shares g c =
    let one = only_seat c.in-Ok.seats.items c.pop.new.self.items c.in-Some.seat c.in-Ok.ensures.ok.1 c.in-Some.ensures.items in
    let alone = is_alone c.in-Ok-ran.forgot _ _ _ c.push_reserved.new.self.items c.pop.new.self.items c.in-Ok.hub c.run_hub-ran.new.seat one.0 c.push_reserved.ensures.items c.in-Ok.ensures.ok.0 (c.is_whole.ensures.whole c.if-is_whole.true) c.in-Ok-close.ensures.legal c.in-Ok-close.ensures.opens c.in-Ok-close.ensures.reached (c.in-Ok-close.ensures.unsettled (c.is_whole.ensures.kept c.if-is_whole.true)) in
    shares_all (PoolDrains c.args.self.now.workers c.args.self.now.turn) 0 (g.I.Source.left c.args.source.now) (g.O.Sink.taken c.args.sink.now) (g.O.Sink.taken c.run_hub-ran.new.sink) c.in-Some.seat c.run_hub-ran.new.seat
    c.in-Ok-ran.forgot one.1 alone c.in-Ok-ran.ensures.text

pub returns-in-Ok-close-clause-shares : goal.returns-in-Ok-close-clause-shares
returns-in-Ok-close-clause-shares g c =
    let one = only_seat c.in-Ok.seats.items c.pop.new.self.items c.in-Some.seat c.in-Ok.ensures.ok.1 c.in-Some.ensures.items in
    shares_differing (PoolDrains c.args.self.now.workers c.args.self.now.turn) c.differ.result (g.I.Source.left c.args.source.now) (g.O.Sink.taken c.args.sink.now) (g.O.Sink.taken c.run_hub-ran.new.sink) c.in-Some.seat c.run_hub-ran.new.seat
    c.in-Ok-ran.forgot one.1 (one_tells c.differ.result c.differ.ensures.status) c.in-Ok-ran.ensures.text

pub returns-clause-shares : goal.returns-clause-shares
returns-clause-shares g c =
    let one = only_seat c.in-Ok.seats.items c.pop.new.self.items c.in-Some.seat c.in-Ok.ensures.ok.1 c.in-Some.ensures.items in
    shares_differing (PoolDrains c.args.self.now.workers c.args.self.now.turn) c.differ-in-Err-close.result (g.I.Source.left c.args.source.now) (g.O.Sink.taken c.args.sink.now) (g.O.Sink.taken c.run_hub-ran.new.sink) c.in-Some.seat c.run_hub-ran.new.seat
    c.in-Ok-ran.forgot one.1 (one_tells c.differ-in-Err-close.result c.differ-in-Err-close.ensures.status) c.in-Ok-ran.ensures.text
