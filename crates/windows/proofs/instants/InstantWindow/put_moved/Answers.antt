use Rattle.std.proofs.Common.{map}
use Rattle.op_queue.proofs.GainLemmas.{on_any_err}
use Rattle.windows.specs.Instants.{entering, leaving, near_at}
use Rattle.windows.proofs.GrownLemmas.{grown_by, grown_more, grown_same}
use Rattle.windows.proofs.InstantsLemmas.{all_gained, left_forward, shown_forward, tick_forward}
use Rattle.windows.proofs.instants.InstantWindow.put_moved.Goals as goal

pub put_leaving-requires-clause-forward : goal.put_leaving-requires-clause-forward
put_leaving-requires-clause-forward c = left_forward c.args.self.now c.args.at c.args.queue.now c.requires.forward

pub put_entering-requires-clause-forward : goal.put_entering-requires-clause-forward
put_entering-requires-clause-forward c = shown_forward c.args.self.now c.args.at c.args.queue.now c.put_leaving.new.queue c.in_ok-put_leaving.ensures.gained c.requires.forward

pub push-requires : goal.push-requires
push-requires c =
    tick_forward c.args.self.now c.args.at c.args.queue.now c.put_leaving.new.queue c.put_entering.new.queue c.in_ok-put_leaving.ensures.gained c.in_ok-put_entering.ensures.gained c.requires.forward

pub returns-clause-gained : goal.returns-clause-gained
returns-clause-gained c =
    all_gained c.args.self.now c.args.at c.args.queue.now c.put_leaving.new.queue c.put_entering.new.queue c.push.new.self c.in_ok-put_leaving.ensures.gained c.in_ok-put_entering.ensures.gained c.in_ok-push.ensures.entries c.in_ok-push.ensures.begins

pub returns-in_err-put_entering-clause-err : goal.returns-in_err-put_entering-clause-err
returns-in_err-put_entering-clause-err c =
    let left = grown_by c.args.at (map leaving (near_at c.args.self.now c.args.at).leave) c.args.queue.now c.put_leaving.new.queue c.in_ok-put_leaving.ensures.gained in
    on_any_err c.from_residual-in_err-put_entering.result (grown_more c.args.at c.args.queue.now c.put_leaving.new.queue c.put_entering.new.queue left c.in_err-put_entering.ensures.err)

pub returns-in_err-push-clause-err : goal.returns-in_err-push-clause-err
returns-in_err-push-clause-err c =
    let left = grown_by c.args.at (map leaving (near_at c.args.self.now c.args.at).leave) c.args.queue.now c.put_leaving.new.queue c.in_ok-put_leaving.ensures.gained in
    let shown = grown_by c.args.at (map entering (near_at c.args.self.now c.args.at).enter) c.put_leaving.new.queue c.put_entering.new.queue c.in_ok-put_entering.ensures.gained in
    on_any_err c.from_residual-in_err-push.result
    (grown_same c.args.at c.args.queue.now c.put_entering.new.queue c.push.new.self (grown_more c.args.at c.args.queue.now c.put_leaving.new.queue c.put_entering.new.queue left shown) c.in_err-push.ensures.err)
