-- A running query after a turn of its root, which gives answers.
use Rattle.std.proofs.Common.{◌≡◌, ℕ, ◌-◌, List, [], ◌∷◌, ◌++◌, refl, sym, ap, ap₂, ◌∙◌, subst, subst₂, arith}
use Rattle.values.specs.Row.{Row}
use Rattle.values.specs.StreamOperators.{operator_of}
use Rattle.column.specs.declared.batch.Side.{Side}
use Rattle.op_queue.specs.Entries.{Entry, RowAt, TickAt}
use Rattle.op_queue.specs.Items.{entries_of}
use Rattle.op_queue.specs.declared.item.Item.{Item}
use Rattle.to_stream.specs.Turns as root
use Rattle.turn.specs.Turns.{Answered, outs_at}
use Rattle.operators.specs.Operators.{Belongs}
use Rattle.operators.specs.Ready.{PlainOperator}
use Rattle.operators.specs.States.{near_of}
use Rattle.reference.specs.Machine.{Machine, Registered}
use Rattle.laws_dataflow.specs.Nets.{input_of}
use Rattle.laws_dataflow.specs.Plans.{value_of}
use Rattle.laws_dataflow.specs.Roots.{below_root}
use Rattle.laws_queries.specs.Widths.{AreEntries, width_at}
use Rattle.laws_queries.specs.Counts.{most_rows}
use Rattle.laws_queries.specs.Steps.{IsFirst, outs_at_first}
use Rattle.laws_queries.specs.Rooms.{RootHasRoom}
use Rattle.laws_queries.specs.Roots.{RootMade, RootMay, RootStands, RootStep}
use Rattle.laws_queries.specs.Queries.{IsAnswered, IsRunning, MayFinish, RunsAt}
use Rattle.laws_queries.specs.Plain.{log_at, node_at, operator_at}
use Rattle.laws_queries.proofs.QueueLemmas.{first_waits, inbox_within, inboxes_finished}

wide_rest : (w : ℕ) (q r : List (Entry Row)) → AreEntries w (q ++ r) → AreEntries w r
wide_rest w [] r h = h
wide_rest w (RowAt t s ∷ q) r h = wide_rest w q r h.1
wide_rest w (TickAt t ∷ q) r h = wide_rest w q r h

module _ (vs ws : List ℕ) (m : Machine) (q : Registered) (room : RootHasRoom m q) (os : List PlainOperator) (given : List (ℕ × Row)) (r : IsRunning vs ws m q os given) where
  root_stands : RootStands q.first q.start q.earlier (input_of (value_of m q) r.cells (below_root q.nodes - 1)) (most_rows q.nodes (below_root q.nodes - 1)) (operator_at os (below_root q.nodes)) (log_at m q (below_root q.nodes)) r.held r.queue given
  root_stands = record { runs = r.last.runs; room = room r.cells; good = r.good.root; few = r.last.few }

  -- THE ITEM THAT STANDS FIRST may be taken
  pub answer_may : RootMay → (side : Side) (i : Item) → IsFirst (operator_at os (below_root q.nodes)) (log_at m q (below_root q.nodes)) side i → MayFinish (operator_at os (below_root q.nodes)) (log_at m q (below_root q.nodes)) side i
  answer_may may side i first = record {
    belongs = subst₂ Belongs (sym r.last.runs.kind) (sym r.last.runs.state) (r.held, refl);
    may = may q.first q.start q.earlier _ _ _ _ r.held r.queue given side i root_stands first;
    waits = first_waits (operator_at os (below_root q.nodes)) (log_at m q (below_root q.nodes)) side i first;
    within = inbox_within q (log_at m q (below_root q.nodes)) (node_at q (below_root q.nodes)) (operator_at os (below_root q.nodes)) side r.last.inboxes;
  }

  -- and its turn gives answers
  pub answer_gives : (side : Side) (i : Item) → (answers : List (ℕ × Row)) × (outs_at_first (operator_at os (below_root q.nodes)) side i ≡ Answered answers)
  answer_gives side i = (root.out i (root.near r.held i), ap₂ (λ k s. outs_at k side i (near_of s side i)) r.last.runs.kind r.last.runs.state)

  -- A FINISHED TURN of the root
  pub answer_runs : RootStep → (os2 : List PlainOperator) (side : Side) (i : Item) (answers : List (ℕ × Row)) → IsFirst (operator_at os (below_root q.nodes)) (log_at m q (below_root q.nodes)) side i
      → outs_at_first (operator_at os (below_root q.nodes)) side i ≡ Answered answers → IsAnswered m q side i os os2 → IsRunning vs ws m q os2 (given ++ answers)
  answer_runs step os2 side i answers first gives t =
      let made : RootMade q.first q.start q.earlier (input_of (value_of m q) r.cells (below_root q.nodes - 1)) (most_rows q.nodes (below_root q.nodes - 1)) r.held r.queue i (operator_at os2 (below_root q.nodes)) (log_at m q (below_root q.nodes)) (given ++ answers) =
      step q.first q.start q.earlier _ _ _ _ _ r.held r.queue given side i answers root_stands first gives t.finished in
      record {
        stands = r.stands;
        many = t.many ∙ r.many;
        cells = r.cells;
        held = root.next r.held i;
        queue = made.rest;
        good = record { good = r.good.good; root = made.stands.good };
        inner = λ j jc. subst (λ o. RunsAt ws m q j o (r.cells j)) (sym (t.others j (λ e. omega (arith, e, jc)))) (r.inner j jc);
        last = record {
          runs = made.stands.runs;
          operator = ap operator_of made.operator ∙ r.last.operator;
          wide = wide_rest (width_at ws (below_root q.nodes - 1)) (entries_of i) made.rest (subst (AreEntries (width_at ws (below_root q.nodes - 1))) made.taken r.last.wide);
          few = made.stands.few;
          inboxes = inboxes_finished q (log_at m q (below_root q.nodes)) (node_at q (below_root q.nodes)) _ _ side i _ t.finished r.last.inboxes;
        };
      }
