use Rattle.std.proofs.Common.{◌≡◌, ℕ, arith, ap, subst, ◌∙◌, ◌++◌, OnOk}
use Rattle.op_queue.specs.Items.{ticks}
use Rattle.op_queue.specs.Queues.{Waiting, each_begins}
use Rattle.op_queue.proofs.BeginLemmas.{queue_begins-longer}
use Rattle.op_queue.proofs.RunLemmas.{IsQueue-longer, length-queue_longer, queue_entries-longer}
use Rattle.op_queue.proofs.CountLemmas.{pieces_apart, pieces_longer, run_pieces-queue}
use Rattle.op_queue.proofs.queue.Queue.push_ticks.Goals as goal

pub overflow_add-self : goal.overflow_add-self
overflow_add-self c =
    omega (arith, length-queue_longer c.args.first c.args.last c.self.inside.pieces.items c.extend_run.new.pieces.items c.self.invariant c.requires.some (omega arith) c.if-extend_run.ensures.longer)

pub invariant_of-self : goal.invariant_of-self
invariant_of-self c =
    IsQueue-longer c.args.first c.args.last c.self.inside.pieces.items c.extend_run.new.pieces.items _ c.self.view_is c.self.invariant c.requires.some (omega arith) c.requires.forward c.if-extend_run.ensures.longer

pub returns-then-extend_run-clause-entries : goal.returns-then-extend_run-clause-entries
returns-then-extend_run-clause-entries c =
    queue_entries-longer c.args.first c.args.last c.self.inside.pieces.items c.extend_run.new.pieces.items c.self.invariant c.requires.some c.if-extend_run.ensures.longer
    ∙ ap (λ (w : Waiting). w.entries ++ ticks c.args.first c.args.last) c.self.view_is

pub returns-then-extend_run-clause-pieces : goal.returns-then-extend_run-clause-pieces
returns-then-extend_run-clause-pieces c =
    pieces_longer c.args.first c.args.last c.self.inside.pieces.items c.extend_run.new.pieces.items _ c.self.view_is c.self.invariant c.if-extend_run.ensures.longer

pub returns-then-extend_run-clause-begins : goal.returns-then-extend_run-clause-begins
returns-then-extend_run-clause-begins c =
    queue_begins-longer c.args.first c.args.last c.self.inside.pieces.items c.extend_run.new.pieces.items c.self.invariant c.requires.some c.if-extend_run.ensures.longer
    ∙ ap (λ (w : Waiting). w.begins ++ each_begins (ticks c.args.first c.args.last)) c.self.view_is

pub push_piece-requires-clause-apart : goal.push_piece-requires-clause-apart
push_piece-requires-clause-apart c =
    run_pieces-queue c.args.first c.self.inside.pieces.items c.extend_run.new.pieces.items c.if-extend_run.ensures.same c.self.invariant c.if-extend_run.ensures.apart

pub returns-else-extend_run-clause-pieces : goal.returns-else-extend_run-clause-pieces
returns-else-extend_run-clause-pieces c =
    let P : ℕ → Type 0 = λ n. OnOk c.push_piece.result (c.push_piece.new.self.pieces ≡ n) in
    subst P
    (pieces_apart c.args.first c.self.inside.pieces.items c.extend_run.new.pieces.items _ c.self.view_is c.if-extend_run.ensures.same c.self.invariant c.if-extend_run.ensures.apart)
    c.push_piece.ensures.pieces
