-- A query whose operators have passed to an instant: the engine has passed, and it is sound.
use Rattle.std.proofs.Common.{◌≡◌, ℕ, zero, suc, ◌+◌, ◌-◌, ◌<◌, Bool, true, false, List, [], ◌∷◌, ◌++◌, length, refl, sym, ap, ◌∙◌, subst, arith}
use Rattle.values.specs.Row.{Row}
use Rattle.op_queue.specs.Cursors as cursors
use Rattle.op_queue.specs.Entries.{TickAt}
use Rattle.op_queue.specs.Logs.{Closed}
use Rattle.join.specs.Turns.{marked, with_marks}
use Rattle.join.specs.States.{JoinState, SideState}
use Rattle.to_stream.specs.Turns as root
use Rattle.operators.specs.Inboxes.{is_fed}
use Rattle.operators.specs.Ready.{PlainOperator, entries_in}
use Rattle.operators.specs.Passing as op
use Rattle.operators.specs.Passing.{AreGone, IsPassed, MayLeave, MayPass, state_passed}
use Rattle.operators.specs.declared.inboxes.Inbox.{Inbox}
use Rattle.operators.specs.declared.inboxes.Inbox.TheVariants.{First, Between}
use Rattle.operators.specs.declared.states.State as states
use Rattle.operators.specs.declared.states.State.TheVariants as state
use Rattle.plan.specs.Nodes as plan
use Rattle.laws_dataflow.specs.Nets.{Cell, World, at_join, at_unary, at_window}
use Rattle.laws_dataflow.specs.Plans.{world_of}
use Rattle.laws_dataflow.specs.Roots.{below_root}
use Rattle.laws_dataflow.proofs.AnswerLemmas.{query_laid, shaped}
use Rattle.laws_dataflow.proofs.PlanLemmas.{Shaped}
use Rattle.laws_queries.specs.Passing as passing
use Rattle.laws_queries.specs.Passing.{LeftPasses, Passes, PassesAtRoot, QueryPasses, passed_state}
use Rattle.laws_queries.specs.Queries.{IsLeftInbox, IsRunning}
use Rattle.laws_queries.specs.Plain.{PlainQuery, log_at, node_at, operator_at}
use Rattle.laws_queries.specs.Runs.{Runs, WindowStands}
use Rattle.laws_queries.specs.Widths.{width_at}
use Rattle.reference.specs.Machine.{Machine, Registered}
use Rattle.query_runtime.specs.Passing.{HavePassed, MayPassAll}
use Rattle.query_runtime.specs.Turns.{log_of}

-- THE STATES of operators below the root
not_root : (w : World) (width : ℕ) (node : plan.Node) (o : PlainOperator) (log : Closed) (c : Cell) → Runs w width node o log c → (s : root.State) → o.state ≡ state.Root s → ⊥
not_root w width (plan.Window i) o log (at_window h e b q n) r s is = subst (λ z. WindowStands w.first (w.windows i) n z h) is r.stands
not_root w width (plan.Window i) o log (at_unary q t b n) r s is = absurd r
not_root w width (plan.Window i) o log (at_join q t l m b n x y) r s is = absurd r
not_root w width (plan.Select i cs) o log (at_window h e b q n) r s is = absurd r
not_root w width (plan.Select i cs) o log (at_unary q t b n) r s is = let bad : state.Nothing ≡ state.Root s = sym r.state ∙ is in absurd (cc)
not_root w width (plan.Select i cs) o log (at_join q t l m b n x y) r s is = absurd r
not_root w width (plan.Join i j ks) o log (at_window h e b q n) r s is = absurd r
not_root w width (plan.Join i j ks) o log (at_unary q t b n) r s is = absurd r
not_root w width (plan.Join i j ks) o log (at_join q t l m b n x y) r s is = let bad : state.Join r.held ≡ state.Root s = sym r.state ∙ is in absurd (cc)
not_root w width (plan.Project i cs) o log (at_window h e b q n) r s is = absurd r
not_root w width (plan.Project i cs) o log (at_unary q t b n) r s is = let bad : state.Nothing ≡ state.Root s = sym r.state ∙ is in absurd (cc)
not_root w width (plan.Project i cs) o log (at_join q t l m b n x y) r s is = absurd r
not_root w width (plan.Group i by items) o log (at_window h e b q n) r s is = absurd r
not_root w width (plan.Group i by items) o log (at_unary q t b n) r s is = let bad : state.Groups r.held ≡ state.Root s = sym r.state ∙ is in absurd (cc)
not_root w width (plan.Group i by items) o log (at_join q t l m b n x y) r s is = absurd r
not_root w width (plan.Distinct i) o log (at_window h e b q n) r s is = absurd r
not_root w width (plan.Distinct i) o log (at_unary q t b n) r s is = let bad : state.Groups r.held ≡ state.Root s = sym r.state ∙ is in absurd (cc)
not_root w width (plan.Distinct i) o log (at_join q t l m b n x y) r s is = absurd r
not_root w width (plan.ToStream i o2) o log c r s is = absurd r

unmarked : (h : SideState) → h.ticked ≡ false → marked false h ≡ h
unmarked h no_tick = ap (λ (t : Bool). record { width = h.width; rows = h.rows; ticked = t }) (sym no_tick)

unmarked_both : (s : JoinState) → s.left.ticked ≡ false → s.right.ticked ≡ false → with_marks s false false ≡ s
unmarked_both s l r = ap (λ (h : SideState). record { keys = s.keys; left = h; right = marked false s.right }) (unmarked s.left l) ∙ ap (λ (h : SideState). record { keys = s.keys; left = s.left; right = h }) (unmarked s.right r)

state_is : (n b : ℕ) (st : states.State) → op.IsQuiet n b st → ((s : root.State) → st ≡ state.Root s → ⊥) → state_passed b st ≡ passed_state st
state_is n b (state.Window s) quiet never = refl
state_is n b state.Nothing quiet never = refl
state_is n b (state.Join s) quiet never = ap state.Join (sym (unmarked_both s quiet.0 quiet.1))
state_is n b (state.Groups s) quiet never = refl
state_is n b (state.Root s) quiet never = absurd (never s refl)

quiet_is : (n b : ℕ) (st : states.State) → op.IsQuiet n b st → passing.IsQuiet n b st
quiet_is n b (state.Window s) quiet = quiet
quiet_is n b state.Nothing quiet = tt
quiet_is n b (state.Join s) quiet = tt
quiet_is n b (state.Groups s) quiet = quiet
quiet_is n b (state.Root s) quiet = tt

-- THE QUEUES
same_ticks : (n d : ℕ) → cursors.ticks n d ≡ passing.ticks n d
same_ticks n zero = refl
same_ticks n (suc d) = ap (λ xs. TickAt n ∷ xs) (same_ticks (n + 1) d)

left_is : (n b : ℕ) (log : Closed) (old new : Inbox) → MayLeave n b log old → AreGone b old new → LeftPasses b n log old new
left_is n b log (First c) (First d) may gone =
    let left = gone log may.1 in record {
      before = subst (λ k. k < b) may.0 may.1.before;
      queue = left.entries ∙ ap (λ es. es ++ entries_in (First d) log) (same_ticks c.at (b - c.at) ∙ ap (λ k. passing.ticks k (b - k)) may.0);
      same = refl;
      within = left.within;
      reads_on = left.goes_on;
    }
left_is n b log (First c) (Between q) may gone = absurd gone
left_is n b log (Between q) new may gone = (may, gone)

-- a queue between operators passes wherever it begins
fed_is : (n b : ℕ) (log : Closed) (old new : Inbox) → is_fed old ≡ true → MayLeave n b log old → AreGone b old new → LeftPasses b 0 log old new
fed_is n b log (First c) new fed may gone = absurd (cc)
fed_is n b log (Between q) new fed may gone = (may, gone)

-- THE OPERATORS
module _ (n b : ℕ) (log : Closed) (o o2 : PlainOperator) (may : MayPass n b log o) (passed : IsPassed b o o2) where
  pub passes_below : ((s : root.State) → o.state ≡ state.Root s → ⊥) → Passes b log o o2
  passes_below never = record {
    kind = passed.kind;
    state = passed.state ∙ state_is n b o.state may.quiet never;
    «from» = n;
    quiet = quiet_is n b o.state may.quiet;
    left = left_is n b log o.left o2.left may.left passed.left;
    none = may.right;
    right = passed.right;
  }

  pub passes_at_root : (s : root.State) → o.state ≡ state.Root s → is_fed o.left ≡ true → PassesAtRoot b log o o2
  passes_at_root s is fed =
      let still : root.IsStill s = subst (op.IsQuiet n b) is may.quiet in record {
        held = s;
        is = is;
        still = still.still;
        silent = still.silent;
        kind = passed.kind;
        state = passed.state ∙ ap (state_passed b) is;
        left = fed_is n b log o.left o2.left fed may.left passed.left;
        right = passed.right;
      }

-- THE QUERY
module _ (vs ws : List ℕ) (m : Machine) (q : Registered) (p p2 : PlainQuery) (given : List (ℕ × Row)) (n b : ℕ) (r : IsRunning vs ws m q p.operators given)
    (logs : (k : ℕ) → k < length p.operators → log_of m.streams p k ≡ log_at m q k) (may : MayPassAll n b m.streams p) (passed : HavePassed b p p2) where
  may_at : (k : ℕ) → k < length p.operators → MayPass n b (log_at m q k) (operator_at p.operators k)
  may_at k lt = subst (λ z. MayPass n b z (operator_at p.operators k)) (logs k lt) (may.each k lt)

  some : 0 < below_root q.nodes
  some = (query_laid vs m q r.stands.plan r.stands.wide).some

  root_within : below_root q.nodes < length p.operators
  root_within = omega (arith, some, r.many)

  -- the last node is the root's
  plan_is : Shaped (world_of m q).closed q.meaning q.nodes
  plan_is = shaped vs m q r.stands.plan r.stands.wide

  root_fed : (node : plan.Node) → node ≡ plan.ToStream (length q.nodes - 2) q.meaning.operator → IsLeftInbox q (log_at m q (below_root q.nodes)) node (operator_at p.operators (below_root q.nodes)).left → is_fed (operator_at p.operators (below_root q.nodes)).left ≡ true
  root_fed node e l = subst (λ z. IsLeftInbox q (log_at m q (below_root q.nodes)) z (operator_at p.operators (below_root q.nodes)).left) e l

  pub query_passes : QueryPasses m q b p.operators p2.operators
  query_passes = record {
    many = passed.many;
    below = λ k lt.
        let within : k < length p.operators = omega (arith, lt, root_within) in
        passes_below n b (log_at m q k) (operator_at p.operators k) (operator_at p2.operators k) (may_at k within) (passed.each k within)
        (λ s is. not_root (world_of m q) (width_at ws k) (node_at q k) (operator_at p.operators k) (log_at m q k) (r.cells k) (r.inner k lt).runs s is);
    root = passes_at_root n b (log_at m q (below_root q.nodes)) (operator_at p.operators (below_root q.nodes)) (operator_at p2.operators (below_root q.nodes))
        (may_at (below_root q.nodes) root_within) (passed.each (below_root q.nodes) root_within) r.held r.last.runs.state (root_fed (node_at q (below_root q.nodes)) plan_is.root r.last.inboxes.left);
  }
