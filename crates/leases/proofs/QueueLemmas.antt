-- An append changes no queue: what a stream has closed is as it was.
use Rattle.std.proofs.Common.{◌≡◌, ℕ, ℤ, Option, Some, None, Result, Ok, Err, List, [], refl, sym, ap, subst}
use Rattle.std.specs.Prelude.{⊤}
use Rattle.std.specs.Option.{option_map_or}
use Rattle.column.specs.declared.batch.Side.{Side}
use Rattle.operators.specs.Ready.{waiting}
use Rattle.reference.specs.Commands.{Append, after, first_fault}
use Rattle.reference.specs.Machine.{Registered, Stream}
use Rattle.reference.specs.World.{Does, Step, World, append_step, unless}
use Rattle.reference.specs.declared.fault.Fault.{Fault}
use Rattle.laws_queries.specs.Plain.{node_at, operator_at, source_of}
use Rattle.laws_queries.proofs.AppendLemmas.{append_logs}
use Rattle.laws_engine.specs.Calls.{appended}
use Rattle.laws_engine.specs.Engines.{Broken, Dropped, PlainEngine, PlainRemains, Running, query_at, remains_at, world_of}
use Rattle.leases.specs.Queues.{LeavesQueues, queue_in}
use Rattle.leases.specs.Shown.{engine_in}
use Rattle.leases.specs.declared.state.EngineState.{EngineState}
use Rattle.leases.proofs.StreamLemmas.{append_changes, append_changes_not, over_streams}

leaves_all : (e : PlainEngine) → LeavesQueues e e
leaves_all e = record { queues = λ n k side. refl; answers = λ n. refl }

module _ (e : PlainEngine) (s : ℕ) (rows : List (ℤ × List (Option ℤ))) (accepted : first_fault e.machine (Append s rows) ≡ None) where
  queue_left : (q : Registered) (remains : PlainRemains) (k : ℕ) (side : Side) → queue_in (after e.machine (Append s rows) 0) q remains k side ≡ queue_in e.machine q remains k side
  queue_left q (Running p) k side =
      ap (λ log. waiting (operator_at p.operators k) log side) (append_logs e.machine s rows accepted (source_of q (node_at q k)))
  queue_left q (Broken answers upto) k side = refl
  queue_left q Dropped k side = refl

  queue_found : (found : Option Registered) (remains : PlainRemains) (k : ℕ) (side : Side)
      → option_map_or (λ q. queue_in (after e.machine (Append s rows) 0) q remains k side) found [] ≡ option_map_or (λ q. queue_in e.machine q remains k side) found []
  queue_found None remains k side = refl
  queue_found (Some q) remains k side = queue_left q remains k side

  append_leaves : LeavesQueues e (appended e s rows)
  append_leaves = record { queues = λ n k side. queue_found (query_at e n) (remains_at e n) k side; answers = λ n. refl }

was_accepted : (old next new : World) (first : Option Fault) (a : ⊤) → Does (λ (u : ⊤). u) old (unless first old tt next) (Ok a) new → first ≡ None
was_accepted old next new None a h = refl
was_accepted old next new (Some f) a h = absurd (let g : Err f ≡ Ok a = ap (λ (s : Step ⊤). s.0) h in cc)

module _ (s : EngineState) (streams : List Stream) (n : ℕ) (rows : List (ℤ × List (Option ℤ))) where
  pub append_leaves_queues : (r : Result ⊤ Fault) → Does (λ (u : ⊤). u) (world_of (engine_in s)) (append_step (world_of (engine_in s)) n rows) r (world_of (over_streams (engine_in s) streams)) → LeavesQueues (engine_in s) (over_streams (engine_in s) streams)
  unfolding append_step
  append_leaves_queues (Ok a) d =
      subst (LeavesQueues (engine_in s)) (sym (append_changes s streams n rows (Ok a) d))
      (append_leaves (engine_in s) n rows (was_accepted (world_of (engine_in s)) (record (world_of (engine_in s)) { machine = after (engine_in s).machine (Append n rows) 0 }) (world_of (over_streams (engine_in s) streams)) (first_fault (engine_in s).machine (Append n rows)) a d))
  append_leaves_queues (Err f) d = subst (LeavesQueues (engine_in s)) (sym (append_changes_not s streams n rows (Err f) d)) (leaves_all (engine_in s))
