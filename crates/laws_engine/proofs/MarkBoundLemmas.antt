-- What bounds the answers of a running query bounds those that come behind its mark.
use Rattle.std.proofs.Common.{◌≡◌, ℕ, zero, suc, ◌+◌, ◌-◌, ◌*◌, ◌^◌, ◌<◌, ◌≤◌, Bool, true, false, cond, nat_le, Some, List, [], ◌∷◌, ◌++◌, map, length, flat_map, refl, ap, ◌∙◌, subst, arith, length-append, le_trans}
use Rattle.std.specs.List.{AllByRecursion, range_with_len}
use Rattle.std.proofs.Math.Nat.{suc-mul}
use Rattle.std.proofs.lemmas.List.{length-map}
use Rattle.values.specs.Row.{Row, row_cmp}
use Rattle.values.specs.Window.{Element}
use Rattle.values.specs.Bag.{bag_minus, in_order, insert_in_order, is_above, is_same, without}
use Rattle.values.specs.Answers.{Dstream, Istream, StreamOperator, Rstream, streamed}
use Rattle.values.specs.StreamOperators.{operator_of}
use Rattle.plan.proofs.Lists.{each-append, each-left, each-right}
use Rattle.reference.specs.Machine.{Registered, Stream, answers_from, input_at, until_for}
use Rattle.reference.specs.Opening.{restart, with_kept}
use Rattle.laws_dataflow.specs.Nets.{Cell, at_unary}
use Rattle.laws_dataflow.specs.Plans.{value_of}
use Rattle.laws_dataflow.specs.Roots.{below_root}
use Rattle.laws_dataflow.specs.Queries.{before, given_at, given_from}
use Rattle.laws_queries.specs.Counts.{count}
use Rattle.laws_queries.specs.Machines.{QueriesStand, widths_of}
use Rattle.laws_queries.specs.Plain.{PlainQuery}
use Rattle.laws_queries.proofs.MachineCounts.{keeps_limit, queries_stand}
use Rattle.laws_queries.proofs.PlanCounts.{count_is, root_has_room}
use Rattle.laws_engine.specs.Bounds.{HasFewClosed, HasFewEarlier, instants}
use Rattle.laws_engine.specs.Engines.{HasGiven, PlainEngine, Running, next_of, query_at, remains_at}
use Rattle.laws_engine.specs.Good.{GoodEngine, Goes}
use Rattle.laws_engine.proofs.AnswerLemmas.{answers_lie_below}
use Rattle.laws_engine.proofs.AppendedLemmas.{is_query}
use Rattle.laws_engine.proofs.InstantLemmas.{until_few}
use Rattle.laws_engine.proofs.PromiseLemmas.{remains_given}
use Rattle.laws_engine.proofs.MarkLemmas.{goes, opens_next, opens_reached}

-- HOW MANY ANSWERS a net's values give
inserted_length : (x : Row) (ys : List Row) → length (insert_in_order row_cmp x ys) ≡ suc (length ys)
inserted_length x [] = refl
inserted_length x (y ∷ ys) = here (is_above row_cmp x y) (inserted_length x ys)
  where
    here : (b : Bool) → length (insert_in_order row_cmp x ys) ≡ suc (length ys) → length (cond b (y ∷ insert_in_order row_cmp x ys) (x ∷ y ∷ ys)) ≡ suc (suc (length ys))
    here true e = ap suc e
    here false e = refl

ordered_length : (xs : List Row) → length (in_order row_cmp xs) ≡ length xs
ordered_length [] = refl
ordered_length (x ∷ xs) = inserted_length x (in_order row_cmp xs) ∙ ap suc (ordered_length xs)

without_fewer : (x : Row) (ys : List Row) → length (without row_cmp x ys) ≤ length ys
without_fewer x [] = omega arith
without_fewer x (y ∷ ys) = here (is_same row_cmp x y) (without_fewer x ys)
  where
    here : (b : Bool) → length (without row_cmp x ys) ≤ length ys → length (cond b ys (y ∷ without row_cmp x ys)) ≤ suc (length ys)
    here true h = omega arith
    here false h = omega (arith, h)

minus_fewer : (xs ys : List Row) → length (bag_minus row_cmp xs ys) ≤ length xs
minus_fewer xs [] = omega arith
minus_fewer xs (y ∷ ys) = le_trans (minus_fewer (without row_cmp y xs) ys) (without_fewer y xs)

streamed_few : (most : ℕ) (op : StreamOperator) (before now : List Row) → length before ≤ most → length now ≤ most → length (streamed op before now) ≤ most
streamed_few most Istream before now h k = le_trans (minus_fewer now before) k
streamed_few most Dstream before now h k = le_trans (minus_fewer before now) h
streamed_few most Rstream before now h k = k

module _ (op : StreamOperator) (first : ℕ) (v : ℕ → List Row) (most : ℕ) (few : (t : ℕ) → length (v t) ≤ most) where
  before_few : (t : ℕ) → length (before first v t) ≤ most
  before_few zero = omega arith
  before_few (suc t) = here (nat_le first t)
    where
      here : (b : Bool) → length (cond b (v t) []) ≤ most
      here true = few t
      here false = omega arith

  at_few : (t : ℕ) → length (given_at op first v t) ≤ most
  at_few t =
      let rows : List Row = in_order row_cmp (streamed op (before first v t) (v t)) in
      let told : length (given_at op first v t) ≡ length rows = length-map rows _ in
      omega (arith, told, ordered_length (streamed op (before first v t) (v t)), streamed_few most op (before first v t) (v t) (before_few t) (few t))

  over_few : (start len : ℕ) → length (flat_map (given_at op first v) (range_with_len start len)) ≤ len * most
  over_few start zero = omega arith
  over_few start (suc len) =
      omega (arith, at_few start, over_few (start + 1) len, suc-mul len most, length-append (given_at op first v start) (flat_map (given_at op first v) (range_with_len (start + 1) len)))

  given_few : (start until : ℕ) → length (given_from op first v start until) ≤ (until - start) * most
  given_few start until = over_few start (until - start)

pub any_cells : ℕ → Cell
any_cells k = at_unary [] [] [] 0

-- A RUNNING QUERY of a good engine
module _ (e : PlainEngine) (g : GoodEngine e) (streams : AllByRecursion HasFewClosed e.machine.streams) (n : ℕ) (q : Registered) (p : PlainQuery) (here : query_at e n ≡ Some q) (runs : remains_at e n ≡ Running p) (few : HasFewEarlier q) where
  abbrev until : ℕ
  until = until_for e.machine.streams q.places

  abbrev h : Goes e.machine q p
  h = goes e g n q p here runs

  given : HasGiven e.machine q p.answers
  given = remains_given e.machine q (Running p) h

  until_is_few : until ≤ instants
  until_is_few = until_few e.machine.streams q.places streams

  -- the instants of what waits are few
  early : AllByRecursion (λ (a : ℕ × Row). a.0 < instants) p.answers
  early =
      each-right (λ (a : ℕ × Row). a.0 < instants) given.taken p.answers
      (each-left (λ (a : ℕ × Row). a.0 < instants) (given.taken ++ p.answers) given.rest
      (subst (AllByRecursion (λ (a : ℕ × Row). a.0 < instants)) given.begins
      (each-append (λ (a : ℕ × Row). a.0 < instants) q.earlier (answers_from q.meaning q.first q.start until (map (input_at e.machine.streams q.first) q.places)) few.early
      (answers_lie_below q.meaning q.first q.start until instants (map (input_at e.machine.streams q.first) q.places) until_is_few))))

  value_few : (t : ℕ) → length (value_of e.machine q (below_root q.nodes - 1) t) ≤ 2 ^ 60
  value_few t =
      let vs : List ℕ = widths_of e.machine.streams q in
      let all : QueriesStand e.machine = queries_stand e.machine g.machine in
      let value : List Row = value_of e.machine q (below_root q.nodes - 1) t in
      let small : count value ≤ 2 ^ 60 = (root_has_room vs e.machine q (all.bounded q (is_query e g n q here) (keeps_limit e.machine g.machine n q here h.lives)) any_cells).at_ticks t in
      subst (λ n. n ≤ 2 ^ 60) (count_is value) small

  -- what was taken and waits are no more than the earlier ones, and those from the start to the mark
  given_bound : length h.taken + length p.answers ≤ length q.earlier + (next_of q p - q.start) * 2 ^ 60
  given_bound =
      let root = h.runs.runs.good.root in
      let op : StreamOperator = operator_of h.runs.runs.held.operator in
      let v : ℕ → List Row = value_of e.machine q (below_root q.nodes - 1) in
      let later : length (given_from op q.first v q.start root.opens) ≤ (root.opens - q.start) * 2 ^ 60 = given_few op q.first v (2 ^ 60) value_few q.start root.opens in
      let same : root.opens ≡ next_of q p = opens_next e g n q p here runs in
      omega (arith, ap length root.given_is, length-append h.taken p.answers, length-append q.earlier (given_from op q.first v q.start root.opens), later, same)

  -- where the mark is behind the first instant, it is below the end
  next_bound : (next_of q p - q.start) + (instants - next_of q p) ≤ instants - q.start
  next_bound =
      let root = h.runs.runs.good.root in
      omega (arith, root.began, root.going, opens_reached e g n q p here runs, opens_next e g n q p here runs, until_is_few)

  pub restarted_few : HasFewEarlier (restart q (Some (next_of q p)) p.answers)
  restarted_few = record { early = early; few = omega (arith, given_bound, next_bound, few.few) }

-- THE STREAMS
pub streams_few : (keep : ℕ → Element → Bool) (n : ℕ) (ss : List Stream) → AllByRecursion HasFewClosed ss → AllByRecursion HasFewClosed (with_kept keep n ss)
streams_few keep n [] h = tt
streams_few keep n (s ∷ ss) h = (record { few = h.0.few }, streams_few keep (suc n) ss h.1)
