-- The mark of a running query lies no higher than what its streams have closed, or is its first instant.
use Rattle.std.proofs.Common.{◌≡◌, ℕ, ◌-◌, ◌<◌, ◌≤◌, max, Some, List, ◌++◌, ◌∙◌, sym, ap, subst, arith}
use Rattle.values.specs.Row.{Row}
use Rattle.op_queue.specs.Entries.{Entry}
use Rattle.to_stream.specs.Turns.{State}
use Rattle.reference.specs.Machine.{Machine, Registered, until_for}
use Rattle.laws_dataflow.specs.Laws.{IsGood}
use Rattle.laws_dataflow.specs.Laws as nets
use Rattle.laws_dataflow.specs.Nets.{Cell}
use Rattle.laws_dataflow.specs.Operators.{net_of}
use Rattle.laws_dataflow.specs.Plans.{consumer_of, least_of, value_of, world_of}
use Rattle.laws_dataflow.specs.Roots.{behind, below_root}
use Rattle.laws_dataflow.proofs.AnswerLemmas.{query_laid, query_least, query_planned, shaped}
use Rattle.laws_dataflow.proofs.ForgetLemmas.{opens_ahead}
use Rattle.laws_dataflow.proofs.IdleLemmas.{all_below}
use Rattle.laws_queries.specs.Machines.{widths_of}
use Rattle.laws_queries.specs.Plain.{PlainQuery}
use Rattle.laws_engine.specs.Engines.{PlainEngine, Running, next_of, query_at, remains_at}
use Rattle.laws_engine.specs.Good.{AreRemains, GoodEngine, Goes}
use Rattle.operators.specs.Ready.{last_in}

module _ (vs : List ℕ) (m : Machine) (q : Registered) (st : nets.Stands vs m q) (cells : ℕ → Cell) (s : State) (queue : List (Entry Row)) (given : List (ℕ × Row)) (g : IsGood m q cells s queue given) where
  pub mark_reached : g.root.opens ≤ max q.first (until_for m.streams q.places)
  mark_reached =
      let count : ℕ = below_root q.nodes in
      let some : 0 < count = omega (arith, (shaped vs m q st.plan st.wide).two) in
      let top : count - 1 < count = omega (arith, some) in
      omega (
        arith,
        sym (query_least vs m q st.plan st.wide),
        opens_ahead (world_of m q) (net_of q.nodes) count (value_of m q) (least_of m q) (query_planned vs m q st.plan st.wide) (consumer_of q.nodes) (query_laid vs m q st.plan st.wide) q.start q.earlier cells s queue given g (count - 1) top,
        all_below (world_of m q) (net_of q.nodes) count (value_of m q) (least_of m q) cells (query_planned vs m q st.plan st.wide) g.good (count - 1) top,
      )

module _ (e : PlainEngine) (good : GoodEngine e) (n : ℕ) (q : Registered) (p : PlainQuery) (here : query_at e n ≡ Some q) (runs : remains_at e n ≡ Running p) where
  pub goes : Goes e.machine q p
  goes = subst (AreRemains e.machine q) runs (good.queries n q here)

  pub opens_next : goes.runs.runs.good.root.opens ≡ next_of q p
  opens_next = goes.runs.runs.good.root.mark ∙ ap (λ s. behind q.first (last_in s)) (sym goes.runs.runs.last.runs.state)

  pub opens_reached : goes.runs.runs.good.root.opens ≤ max q.first (until_for e.machine.streams q.places)
  opens_reached = mark_reached (widths_of e.machine.streams q) e.machine q goes.runs.runs.stands goes.runs.runs.cells goes.runs.runs.held goes.runs.runs.queue (goes.taken ++ p.answers) goes.runs.runs.good

  pub next_reached : next_of q p ≤ max q.first (until_for e.machine.streams q.places)
  next_reached = subst (λ k. k ≤ max q.first (until_for e.machine.streams q.places)) opens_next opens_reached
