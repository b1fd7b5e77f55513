-- Forgetting changes no queue.
use Rattle.std.proofs.Common.{◌≡◌, ℕ, Option, Some, None, List, [], length, map, get_or, ⊎_elim, refl, sym, ap, ◌∙◌, arith}
use Rattle.std.specs.Option.{option_map, option_map_or}
use Rattle.std.proofs.lemmas.Bool.{cases_lt}
use Rattle.std.proofs.lemmas.List.{get_or_past}
use Rattle.values.specs.Row.{Row}
use Rattle.column.specs.declared.batch.Side.{Side}
use Rattle.column.specs.declared.batch.Side.TheVariants.{Left, Right}
use Rattle.op_queue.specs.Logs.{Closed}
use Rattle.operators.specs.Ready.{waiting}
use Rattle.reference.specs.Machine.{Registered}
use Rattle.reference.specs.Opening.{restart}
use Rattle.laws_queries.specs.Plain.{PlainQuery, log_at, no_operator, operator_at}
use Rattle.laws_engine.specs.Engines.{Broken, Dropped, PlainEngine, PlainRemains, Running}
use Rattle.laws_engine.specs.Engines.{answers_in, query_at, remains_at}
use Rattle.laws_engine.specs.Good.{GoodEngine}
use Rattle.laws_engine.specs.Openings.{forgotten, marks_by}
use Rattle.laws_engine.proofs.ForgottenLemmas.{forgotten_query, forgotten_waits}
use Rattle.laws_engine.proofs.MarkLemmas.{goes}
use Rattle.leases.specs.Queues.{LeavesQueues, queue_at, queue_in}

pub leaves_same : (e new : PlainEngine) → new ≡ e → LeavesQueues e new
leaves_same e new h = record { queues = λ n k side. ap (λ z. queue_at z n k side) h; answers = λ n. ap (λ z. answers_in (remains_at z n)) h }

-- nothing waits for what is no operator
nothing : (log log2 : Closed) (side : Side) → waiting no_operator log2 side ≡ waiting no_operator log side
nothing log log2 Left = refl
nothing log log2 Right = refl

module _ (e : PlainEngine) (g : GoodEngine e) where
  running_left : (n : ℕ) (q : Registered) (p : PlainQuery) → query_at e n ≡ Some q → remains_at e n ≡ Running p → (k : ℕ) (side : Side)
      → waiting (operator_at p.operators k) (log_at (forgotten e).machine q k) side ≡ waiting (operator_at p.operators k) (log_at e.machine q k) side
  running_left n q p r h k side = ⊎_elim
      (λ l. forgotten_waits e g n q p r h k l side)
      (λ l.
      let many : length p.operators ≡ length q.nodes = (goes e g n q p r h).runs.runs.many in
      let none : operator_at p.operators k ≡ no_operator = get_or_past p.operators k no_operator (omega (arith, l, many)) in
      ap (λ o. waiting o (log_at (forgotten e).machine q k) side) none ∙ nothing (log_at e.machine q k) (log_at (forgotten e).machine q k) side ∙ sym (ap (λ o. waiting o (log_at e.machine q k) side) none))
      (cases_lt k (length q.nodes))

  queue_left : (n : ℕ) (q : Registered) (m : Option ℕ) (w : List (ℕ × Row)) (remains : PlainRemains) → query_at e n ≡ Some q → remains_at e n ≡ remains → (k : ℕ) (side : Side)
      → queue_in (forgotten e).machine (restart q m w) remains k side ≡ queue_in e.machine q remains k side
  queue_left n q m w (Running p) r h k side = running_left n q p r h k side
  queue_left n q m w (Broken answers upto) r h k side = refl
  queue_left n q m w Dropped r h k side = refl

  queue_found : (n : ℕ) (m : Option ℕ) (w : List (ℕ × Row)) (found : Option Registered) → query_at e n ≡ found → (k : ℕ) (side : Side)
      → option_map_or (λ q. queue_in (forgotten e).machine q (remains_at e n) k side) (option_map (λ q. restart q m w) found) [] ≡ option_map_or (λ q. queue_in e.machine q (remains_at e n) k side) found []
  queue_found n m w None r k side = refl
  queue_found n m w (Some q) r k side = queue_left n q m w (remains_at e n) r refl k side

  forgetting_leaves : LeavesQueues e (forgotten e)
  forgetting_leaves = record {
    queues = λ n k side.
        ap (λ found. option_map_or (λ q. queue_in (forgotten e).machine q (remains_at e n) k side) found []) (forgotten_query e g n)
        ∙ queue_found n (get_or (marks_by e.machine.queries e.queries) n None) (get_or (map answers_in e.queries) n []) (query_at e n) refl k side;
    answers = λ n. refl;
  }

  pub forgotten_leaves : (new : PlainEngine) → new ≡ forgotten e → LeavesQueues e new
  forgotten_leaves new h = record {
    queues = λ n k side. ap (λ z. queue_at z n k side) h ∙ forgetting_leaves.queues n k side;
    answers = λ n. ap (λ z. answers_in (remains_at z n)) h;
  }
