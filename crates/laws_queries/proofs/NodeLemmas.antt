-- The laws of all operators together, and of a query that runs by them.
use Rattle.std.proofs.Common.{ℕ, List}
use Rattle.plan.specs.Nodes as plan
use Rattle.plan.specs.Nodes.{Window, Select, Join, Project, Group, Distinct, ToStream}
use Rattle.reference.specs.Machine.{Machine, Registered}
use Rattle.laws_queries.specs.Rooms.{IsBounded}
use Rattle.laws_queries.specs.Steps.{MayLaw, StepLaw}
use Rattle.laws_queries.specs.Laws.{GivesItsAnswers, RootsRun, RunsOnAtAppends, RunsOnAtHeartbeats, TurnsRun}
use Rattle.laws_queries.proofs.AnswerLemmas.{answer_gives, answer_may, answer_runs}
use Rattle.laws_queries.proofs.AppendLemmas.{accepted_later, append_runs}
use Rattle.laws_queries.proofs.GroupSteps.{distinct_may, distinct_steps, group_may, group_steps}
use Rattle.laws_queries.proofs.HeartbeatLemmas.{heartbeat_runs}
use Rattle.laws_queries.proofs.JoinSteps.{join_may, join_steps}
use Rattle.laws_queries.proofs.PlanCounts.{plan_has_room, root_has_room}
use Rattle.laws_queries.proofs.QueryLemmas.{turn_may, turn_may_feed, turn_puts, turn_runs}
use Rattle.laws_queries.proofs.ReadyLemmas.{running_begins, running_complete}
use Rattle.laws_queries.proofs.RootSteps.{root_may, root_step}
use Rattle.laws_queries.proofs.RowSteps.{project_may, project_steps, select_may, select_steps}
use Rattle.laws_queries.proofs.WindowSteps.{window_may, window_steps}

-- a root stands for no cell
pub all_may : (node : plan.Node) → MayLaw node
all_may (Window s) = window_may s
all_may (Select i cs) = select_may i cs
all_may (Join i j ks) = join_may i j ks
all_may (Project i columns) = project_may i columns
all_may (Group i by items) = group_may i by items
all_may (Distinct i) = distinct_may i
all_may (ToStream i op) = λ w ws ns k o log c d e side item s first. absurd s.runs

pub all_steps : (node : plan.Node) → StepLaw node
all_steps (Window s) = window_steps s
all_steps (Select i cs) = select_steps i cs
all_steps (Join i j ks) = join_steps i j ks
all_steps (Project i columns) = project_steps i columns
all_steps (Group i by items) = group_steps i by items
all_steps (Distinct i) = distinct_steps i
all_steps (ToStream i op) = λ w ws ns k o o2 log c d e side item outs s first puts f. absurd s.runs

module _ (vs ws : List ℕ) (m : Machine) (q : Registered) where
  pub turns_run : IsBounded vs m q → TurnsRun vs ws m q
  turns_run b = record {
    may = λ os given k side i r kc first. turn_may vs ws m q all_may all_steps (plan_has_room vs m q b) os given r k side i kc first;
    puts = λ os given k side i r kc. turn_puts vs ws m q all_may all_steps (plan_has_room vs m q b) os given r k side i kc;
    may_feed = λ os given k side i outs o2 r kc first puts f. turn_may_feed vs ws m q all_may all_steps (plan_has_room vs m q b) os given r k side i outs o2 kc first puts f;
    runs = λ os os2 given k side i outs r kc first puts t. turn_runs vs ws m q all_may all_steps (plan_has_room vs m q b) os given r os2 k side i outs kc first puts t;
  }

  pub roots_run : IsBounded vs m q → RootsRun vs ws m q
  roots_run b = record {
    may = λ os given side i r first. answer_may vs ws m q (root_has_room vs m q b) os given r root_may side i first;
    gives = λ os given side i r. answer_gives vs ws m q (root_has_room vs m q b) os given r side i;
    runs = λ os os2 given side i answers r first gives t. answer_runs vs ws m q (root_has_room vs m q b) os given r root_step os2 side i answers first gives t;
  }

  pub gives_its_answers : GivesItsAnswers vs ws m q
  gives_its_answers = record { beginning = λ os given r. running_begins vs ws m q os given r; whole = λ os given r none. running_complete vs ws m q os given r none }

  pub runs_on_at_heartbeats : RunsOnAtHeartbeats vs ws m q
  runs_on_at_heartbeats n at accepted queues reads os given r = heartbeat_runs vs ws m q n at queues (accepted_later m n at accepted) reads os given r

  pub runs_on_at_appends : RunsOnAtAppends vs ws m q
  runs_on_at_appends n rows accepted short stands os given r = append_runs vs ws m q n rows accepted short os given stands r
