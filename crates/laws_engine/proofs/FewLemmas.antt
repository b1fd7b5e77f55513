-- What bounds the answers of a good engine bounds those of the engine that has forgotten.
use Rattle.std.proofs.Common.{◌≡◌, ℕ, zero, suc, ◌-◌, ◌*◌, ◌^◌, ◌<◌, ◌≤◌, false, Some, List, [], ◌∷◌, ◌++◌, map, length, get_or, refl, ap, subst, arith, length-append}
use Rattle.std.specs.Prelude.{slice_get}
use Rattle.std.specs.List.{AllByRecursion}
use Rattle.values.specs.Row.{Row}
use Rattle.values.specs.Window.{Element}
use Rattle.values.specs.Answers.{body}
use Rattle.plan.proofs.Lists.{each-append, each-left, each-right}
use Rattle.reference.specs.Machine.{Machine, Registered, answers_from, input_at, until_for}
use Rattle.reference.specs.Opening.{all_restarted, needs_by, restart}
use Rattle.laws_dataflow.specs.Laws as nets
use Rattle.laws_dataflow.specs.Plans.{bags_of, value_of}
use Rattle.laws_dataflow.specs.Roots.{below_root}
use Rattle.laws_dataflow.proofs.AnswerLemmas.{query_value}
use Rattle.laws_queries.specs.Rooms.{HasFewSince}
use Rattle.laws_queries.specs.Machines.{IsMachine, IsQuery, QueriesStand, widths_of}
use Rattle.laws_queries.specs.Counts.{count}
use Rattle.laws_queries.proofs.MachineCounts.{keeps_limit, queries_stand}
use Rattle.laws_queries.proofs.PlanCounts.{count_is, root_has_room}
use Rattle.laws_engine.specs.Bounds.{HasFewEarlier, HaveFewClosed, instants}
use Rattle.laws_engine.specs.Engines.{Broken, Dropped, HasGiven, PlainEngine, PlainRemains, Running}
use Rattle.laws_engine.specs.Engines.{answers_in, query_at, remains_at}
use Rattle.laws_engine.specs.Good.{GoodEngine}
use Rattle.laws_engine.specs.Openings.{forgotten, mark_in, marks_by}
use Rattle.laws_engine.proofs.AnswerLemmas.{answers_are_few, answers_lie_below}
use Rattle.laws_engine.proofs.AppendedLemmas.{is_query}
use Rattle.laws_engine.proofs.InstantLemmas.{until_few}
use Rattle.laws_engine.proofs.PromiseLemmas.{remains_given}
use Rattle.laws_engine.proofs.MarkBoundLemmas.{any_cells, restarted_few, streams_few}

few_earlier : (qs : List Registered) (n : ℕ) (q : Registered) → AllByRecursion HasFewEarlier qs → slice_get qs n ≡ Some q → HasFewEarlier q
few_earlier [] n q h e = absurd (cc)
few_earlier (r ∷ qs) zero q h e = let same : r ≡ q = cc in subst HasFewEarlier same h.0
few_earlier (r ∷ qs) (suc n) q h e = few_earlier qs n q h.1 e

body_few : (m : Machine) (q : Registered) → IsMachine m → IsQuery m.streams q → HasFewSince m.streams q → (t : ℕ) → length (body q.meaning (bags_of m q t)) ≤ 2 ^ 60
body_few m q machine is since t =
    let vs : List ℕ = widths_of m.streams q in
    let all : QueriesStand m = queries_stand m machine in
    let stands : nets.Stands vs m q = all.stands q is in
    let value : List Row = value_of m q (below_root q.nodes - 1) t in
    let few : count value ≤ 2 ^ 60 = (root_has_room vs m q (all.bounded q is since) any_cells).at_ticks t in
    subst (λ rows. length rows ≤ 2 ^ 60) (query_value vs m q stands.plan stands.wide t) (subst (λ n. n ≤ 2 ^ 60) (count_is value) few)

module _ (e : PlainEngine) (g : GoodEngine e) (closed : HaveFewClosed e.machine) (n : ℕ) (q : Registered) (here : query_at e n ≡ Some q) (gone : (answers : List (ℕ × Row)) (upto : ℕ) → remains_at e n ≡ Broken answers upto → q.is_dropped ≡ false) where
  abbrev before : HasFewEarlier q
  before = few_earlier e.machine.queries n q closed.queries here

  abbrev until : ℕ
  until = until_for e.machine.streams q.places

  abbrev inputs : List (List Element)
  inputs = map (input_at e.machine.streams q.first) q.places

  abbrev later : List (ℕ × Row)
  later = answers_from q.meaning q.first q.start until inputs

  until_is_few : until ≤ instants
  until_is_few = until_few e.machine.streams q.places closed.streams

  early : (ws : List (ℕ × Row)) → HasGiven e.machine q ws → AllByRecursion (λ (a : ℕ × Row). a.0 < instants) ws
  early ws given =
      each-right (λ (a : ℕ × Row). a.0 < instants) given.taken ws
      (each-left (λ (a : ℕ × Row). a.0 < instants) (given.taken ++ ws) given.rest
      (subst (AllByRecursion (λ (a : ℕ × Row). a.0 < instants)) given.begins
      (each-append (λ (a : ℕ × Row). a.0 < instants) q.earlier later before.early (answers_lie_below q.meaning q.first q.start until instants inputs until_is_few))))

  few : q.is_dropped ≡ false → (ws : List (ℕ × Row)) → HasGiven e.machine q ws → length ws ≤ instants * 2 ^ 60
  few live ws given =
      let some : length later ≤ (until - q.start) * 2 ^ 60 = answers_are_few q.meaning q.first inputs (2 ^ 60) (body_few e.machine q g.machine (is_query e g n q here) (keeps_limit e.machine g.machine n q here live)) q.start until in
      omega (
        arith,
        length-append q.earlier later,
        before.few,
        some,
        until_is_few,
        ap length given.begins,
        length-append (given.taken ++ ws) given.rest,
        length-append given.taken ws,
      )

  one : (k : PlainRemains) → remains_at e n ≡ k → HasFewEarlier (restart q (mark_in q k) (answers_in k))
  one (Running p) i = restarted_few e g closed.streams n q p here i before
  one (Broken answers upto) i =
      let given : HasGiven e.machine q answers = subst (λ k. HasGiven e.machine q (answers_in k)) i (remains_given e.machine q (remains_at e n) (g.queries n q here)) in
      let small : length answers ≤ instants * 2 ^ 60 = few (gone answers upto i) answers given in
      record { early = early answers given; few = omega (arith, small) }
  one Dropped i = record { early = tt; few = omega arith }

  pub few_left : HasFewEarlier (restart q (mark_in q (remains_at e n)) (answers_in (remains_at e n)))
  few_left = one (remains_at e n) refl

-- ALL OF THEM
all_few : (qs : List Registered) (ks : List PlainRemains) → length ks ≡ length qs → ((n : ℕ) (q : Registered) → slice_get qs n ≡ Some q → HasFewEarlier (restart q (mark_in q (get_or ks n Dropped)) (answers_in (get_or ks n Dropped))))
    → AllByRecursion HasFewEarlier (all_restarted qs (marks_by qs ks) (map answers_in ks))
all_few [] ks l h = tt
all_few (q ∷ qs) [] l h = absurd (omega (arith, l))
all_few (q ∷ qs) (k ∷ ks) l h = (h 0 q refl, all_few qs ks (omega (arith, l)) (λ n r a. h (suc n) r a))

pub forgotten_few : (e : PlainEngine) → GoodEngine e → HaveFewClosed e.machine → ((n : ℕ) (q : Registered) (answers : List (ℕ × Row)) (upto : ℕ) → query_at e n ≡ Some q → remains_at e n ≡ Broken answers upto → q.is_dropped ≡ false) → HaveFewClosed (forgotten e).machine
forgotten_few e g closed gone = record {
  streams = streams_few (needs_by e.machine.streams e.machine.queries (marks_by e.machine.queries e.queries)) 0 e.machine.streams closed.streams;
  queries = all_few e.machine.queries e.queries g.many (λ n q a. few_left e g closed n q a (λ answers upto i. gone n q answers upto a i));
}
