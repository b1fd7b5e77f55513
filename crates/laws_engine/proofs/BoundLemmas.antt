-- The answers that a query of a good engine has given fit the machine's numbers: their instants, and how many they are.
use Rattle.std.proofs.Common.{◌≡◌, ℕ, zero, suc, ◌+◌, ◌-◌, ◌*◌, ◌^◌, ◌<◌, ◌≤◌, ◌&&◌, false, true, Some, List, [], ◌∷◌, ◌++◌, map, length, refl, ap, ap₂, subst, arith, length-append, lt-ltb}
use Rattle.std.specs.List.{AllByRecursion}
use Rattle.std.specs.Prelude.{slice_get}
use Rattle.values.specs.Row.{Row}
use Rattle.values.specs.Window.{Element}
use Rattle.values.specs.Answers.{body}
use Rattle.plan.proofs.Lists.{each-append, each-left, each-right}
use Rattle.reference.specs.Inputs.{are_signed}
use Rattle.reference.specs.Machine.{Machine, Registered, answers_from, closed_answers, input_at, until_for}
use Rattle.laws_dataflow.specs.Laws as nets
use Rattle.laws_dataflow.specs.Nets.{Cell, at_unary}
use Rattle.laws_dataflow.specs.Plans.{bags_of, value_of}
use Rattle.laws_dataflow.specs.Roots.{below_root}
use Rattle.laws_dataflow.proofs.AnswerLemmas.{query_value}
use Rattle.laws_queries.specs.Rooms.{HasFewSince}
use Rattle.laws_queries.specs.Machines.{IsMachine, IsQuery, QueriesStand, widths_of}
use Rattle.laws_queries.specs.Counts.{count}
use Rattle.laws_queries.proofs.MachineCounts.{keeps_limit, queries_stand}
use Rattle.laws_queries.proofs.PlanCounts.{count_is, root_has_room}
use Rattle.laws_engine.specs.Engines.{HasGiven, PlainEngine, answers_in, query_at, remains_at}
use Rattle.laws_engine.specs.Good.{GoodEngine}
use Rattle.laws_engine.proofs.AppendedLemmas.{is_query}
use Rattle.laws_engine.proofs.PromiseLemmas.{remains_given}
use Rattle.laws_engine.specs.Bounds.{HasFewEarlier, HaveFewClosed, instants}
use Rattle.laws_engine.proofs.AnswerLemmas.{answers_are_few, answers_lie_below}
use Rattle.laws_engine.proofs.InstantLemmas.{until_few}

abbrev IsSigned : ℕ × Row → Type 0
IsSigned a = a.0 < 2 ^ 63

all_signed : (rows : List (ℕ × Row)) → AllByRecursion IsSigned rows → are_signed rows ≡ true
all_signed [] h = refl
all_signed (a ∷ rows) h = ap₂ (λ b c. b && c) (lt-ltb a.0 (2 ^ 63) h.0) (all_signed rows h.1)

each_signed : (rows : List (ℕ × Row)) → AllByRecursion (λ (a : ℕ × Row). a.0 < instants) rows → AllByRecursion IsSigned rows
each_signed [] h = tt
each_signed (a ∷ rows) h = (omega (arith, h.0), each_signed rows h.1)

few_earlier : (qs : List Registered) (n : ℕ) (q : Registered) → AllByRecursion HasFewEarlier qs → slice_get qs n ≡ Some q → HasFewEarlier q
few_earlier [] n q h e = absurd (cc)
few_earlier (r ∷ qs) zero q h e = let same : r ≡ q = cc in subst HasFewEarlier same h.0
few_earlier (r ∷ qs) (suc n) q h e = few_earlier qs n q h.1 e

-- THE RELATION of a query that keeps its limit has at most as many rows at an instant as its sources have combinations
any_cells : ℕ → Cell
any_cells k = at_unary [] [] [] 0

body_few : (m : Machine) (q : Registered) → IsMachine m → IsQuery m.streams q → HasFewSince m.streams q → (t : ℕ) → length (body q.meaning (bags_of m q t)) ≤ 2 ^ 60
body_few m q machine is since t =
    let vs : List ℕ = widths_of m.streams q in
    let all : QueriesStand m = queries_stand m machine in
    let stands : nets.Stands vs m q = all.stands q is in
    let value : List Row = value_of m q (below_root q.nodes - 1) t in
    let few : count value ≤ 2 ^ 60 = (root_has_room vs m q (all.bounded q is since) any_cells).at_ticks t in
    subst (λ rows. length rows ≤ 2 ^ 60) (query_value vs m q stands.plan stands.wide t) (subst (λ n. n ≤ 2 ^ 60) (count_is value) few)

-- A QUERY of a good engine
module _ (e : PlainEngine) (n : ℕ) (q : Registered) (g : GoodEngine e) (closed : HaveFewClosed e.machine) (here : query_at e n ≡ Some q) where
  abbrev until : ℕ
  until = until_for e.machine.streams q.places

  abbrev inputs : List (List Element)
  inputs = map (input_at e.machine.streams q.first) q.places

  abbrev waiting : List (ℕ × Row)
  waiting = answers_in (remains_at e n)

  given : HasGiven e.machine q waiting
  given = remains_given e.machine q (remains_at e n) (g.queries n q here)

  until_is_few : until ≤ instants
  until_is_few = until_few e.machine.streams q.places closed.streams

  before : HasFewEarlier q
  before = few_earlier e.machine.queries n q closed.queries here

  abbrev later : List (ℕ × Row)
  later = answers_from q.meaning q.first q.start until inputs

  all_below : AllByRecursion IsSigned (closed_answers e.machine q)
  all_below =
      each-append IsSigned q.earlier later
      (each_signed q.earlier before.early)
      (answers_lie_below q.meaning q.first q.start until (2 ^ 63) inputs (omega (arith, until_is_few)))

  -- the instants of what waits are small
  pub waiting_signed : are_signed (answers_in (remains_at e n)) ≡ true
  waiting_signed =
      all_signed waiting
      (each-right IsSigned given.taken waiting (each-left IsSigned (given.taken ++ waiting) given.rest (subst (AllByRecursion IsSigned) given.begins all_below)))

  later_few : q.is_dropped ≡ false → length later ≤ (until - q.start) * 2 ^ 60
  later_few live = answers_are_few q.meaning q.first inputs (2 ^ 60) (body_few e.machine q g.machine (is_query e g n q here) (keeps_limit e.machine g.machine n q here live)) q.start until

  all_few : q.is_dropped ≡ false → length (closed_answers e.machine q) ≤ instants * 2 ^ 60
  all_few live = omega (arith, length-append q.earlier later, before.few, later_few live, until_is_few)

  -- and few were taken and wait, where it was not dropped
  pub taken_room : q.is_dropped ≡ false → q.taken + length (answers_in (remains_at e n)) < 2 ^ 101
  taken_room live =
      omega (
        arith,
        all_few live,
        given.counted,
        ap length given.begins,
        length-append (given.taken ++ waiting) given.rest,
        length-append given.taken waiting,
      )
