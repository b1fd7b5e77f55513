-- No call tells a good engine from the one that has forgotten.
use Rattle.std.proofs.Common.{◌≡◌, ℕ, zero, suc, ◌-◌, ◌<◌, ◌++◌, true, false, Option, Some, None, unwrap_or, List, [], ◌∷◌, drop, length, map, refl, sym, ap, ◌∙◌, subst, arith, length-append, true≢false}
use Rattle.std.specs.Prelude.{get_or, slice_get}
use Rattle.std.specs.List.{AllByRecursion}
use Rattle.std.specs.Option.{option_map_or}
use Rattle.std.proofs.Math.Seq.{drop-append_seam}
use Rattle.reference.specs.Alike.{Alike}
use Rattle.reference.specs.Machine.{Registered, Stream}
use Rattle.laws_forgetting.specs.Openings.{AreNumbered, IsMark, MayOpen}
use Rattle.laws_forgetting.specs.Below.{answers_below}
use Rattle.laws_forgetting.specs.Partly.{MayOpenMarked, PartlyAlike, has_mark}
use Rattle.laws_forgetting.proofs.OpeningLemmas.{opened_alike, opened_partly}
use Rattle.laws_forgetting.proofs.PartlyLemmas.{alike_of_fewer}
use Rattle.laws_dataflow.specs.Operators.{net_of}
use Rattle.laws_dataflow.specs.Plans as plans
use Rattle.laws_dataflow.specs.Plans.{consumer_of, inputs_of, least_of, value_of}
use Rattle.laws_dataflow.specs.Roots.{behind, below_root}
use Rattle.laws_dataflow.specs.Queries.{given_from}
use Rattle.laws_dataflow.proofs.AnswerLemmas.{over_is, query_laid, query_least, query_planned, query_value, shaped}
use Rattle.laws_dataflow.proofs.ForgetLemmas.{opens_ahead}
use Rattle.laws_dataflow.proofs.IdleLemmas.{all_below}
use Rattle.laws_queries.specs.Machines.{widths_of}
use Rattle.laws_queries.specs.Queries.{IsRunning}
use Rattle.laws_queries.specs.Plain.{PlainQuery}
use Rattle.laws_queries.specs.Rows.{HasRows}
use Rattle.laws_engine.specs.Engines.{Broken, Dropped, PlainEngine, PlainRemains, Running}
use Rattle.laws_engine.specs.Engines.{answers_in, next_of, query_at, remains_at, world_of}
use Rattle.laws_engine.specs.Good.{GoodEngine, Goes}
use Rattle.operators.specs.Ready.{last_in}
use Rattle.laws_engine.specs.Openings.{forgotten, mark_in, marks_by}
use Rattle.laws_engine.specs.Unbroken.{IsUnbroken, goes_on, is_running}
use Rattle.laws_engine.proofs.ForgottenLemmas.{length-marks, marks_at}
use Rattle.laws_engine.specs.Promises.{AreCompleteUpto, HasGivenBelow}
use Rattle.laws_engine.proofs.UptoLemmas.{upto_again}
use Rattle.laws_engine.proofs.OpenedLemmas.{goes, long_waits, waits_at}

numbered : (ss : List Stream) → AllByRecursion HasRows ss → AreNumbered ss
numbered [] h = tt
numbered (s ∷ ss) h = (h.0.below, numbered ss h.1)

module _ (e : PlainEngine) (g : GoodEngine e) where
  -- what was given of a query that runs is what it answers below the instant after the last tick that its root has taken
  pub complete_upto : AreCompleteUpto e
  complete_upto n q p r k =
      let h : Goes e.machine q p = goes e g (marks_by e.machine.queries e.queries) (length-marks e.machine.queries e.queries) n q p r k in
      let vs : List ℕ = widths_of e.machine.streams q in
      let run : IsRunning (widths_of e.machine.streams q) h.widths e.machine q p.operators (h.taken ++ p.answers) = h.runs.runs in
      let next : run.good.root.opens ≡ next_of q p = run.good.root.mark ∙ ap (λ s. behind q.first (last_in s)) (sym run.last.runs.state) in
      let count : ℕ = below_root q.nodes in
      let given : h.taken ++ p.answers ≡ q.earlier ++ given_from q.meaning.operator q.first (value_of e.machine q (count - 1)) q.start run.good.root.opens =
      run.good.root.given_is
      ∙ ap (λ o. q.earlier ++ given_from o q.first (value_of e.machine q (count - 1)) q.start run.good.root.opens) run.last.operator in
      let all : h.taken ++ p.answers ≡ answers_below e.machine q run.good.root.opens =
      given ∙ ap (λ l. q.earlier ++ l) (over_is q.meaning q.first (inputs_of e.machine q) (value_of e.machine q (count - 1)) (λ t z. query_value vs e.machine q run.stands.plan run.stands.wide t) q.start (run.good.root.opens - q.start) run.good.root.began) in
      record { taken = h.taken; counted = h.counted; all = all ∙ ap (answers_below e.machine q) next }

  -- the instant after the last tick that its root has taken is a mark of a query that runs, with the answers that wait
  running_mark : (n : ℕ) (q : Registered) (p : PlainQuery) → query_at e n ≡ Some q → remains_at e n ≡ Running p → IsMark e.machine q (next_of q p) p.answers
  running_mark n q p r k =
      let h : Goes e.machine q p = goes e g (marks_by e.machine.queries e.queries) (length-marks e.machine.queries e.queries) n q p r k in
      let vs : List ℕ = widths_of e.machine.streams q in
      let run : IsRunning (widths_of e.machine.streams q) h.widths e.machine q p.operators (h.taken ++ p.answers) = h.runs.runs in
      let next : run.good.root.opens ≡ next_of q p = run.good.root.mark ∙ ap (λ s. behind q.first (last_in s)) (sym run.last.runs.state) in
      let count : ℕ = below_root q.nodes in
      let some : 0 < count = omega (arith, (shaped vs e.machine q run.stands.plan run.stands.wide).two) in
      let top : count - 1 < count = omega (arith, some) in
      let below : HasGivenBelow e.machine q p.answers (next_of q p) = complete_upto n q p r k in
      record {
        first = run.good.root.began;
        began = omega (arith, next, run.good.root.going);
        closed = omega (
          arith,
          next,
          sym (query_least vs e.machine q run.stands.plan run.stands.wide),
          opens_ahead (plans.world_of e.machine q) (net_of q.nodes) count (value_of e.machine q) (least_of e.machine q) (query_planned vs e.machine q run.stands.plan run.stands.wide) (consumer_of q.nodes) (query_laid vs e.machine q run.stands.plan run.stands.wide) q.start q.earlier run.cells run.held run.queue (h.taken ++ p.answers) run.good (count - 1) top,
          all_below (plans.world_of e.machine q) (net_of q.nodes) count (value_of e.machine q) (least_of e.machine q) run.cells (query_planned vs e.machine q run.stands.plan run.stands.wide) run.good.good (count - 1) top,
        );
        taken = omega (arith, below.counted, length-append below.taken p.answers, ap length below.all);
        waits = sym (drop-append_seam below.taken p.answers) ∙ ap (λ c. drop c (below.taken ++ p.answers)) below.counted ∙ ap (drop q.taken) below.all;
      }

  -- so each query that was not dropped has its mark
  module _ (u : IsUnbroken e) where
    marked : (n : ℕ) (q : Registered) → query_at e n ≡ Some q → q.is_dropped ≡ false → (remains : PlainRemains) → remains_at e n ≡ remains
        → (next : ℕ) × ((slice_get (marks_by e.machine.queries e.queries) n ≡ Some (Some next)) × IsMark e.machine q next (get_or (map answers_in e.queries) n []))
    marked n q r d (Running p) k = (
      next_of q p,
      (
        marks_at e.machine.queries e.queries n q r ∙ ap (λ z. Some (mark_in q z)) k,
        subst (IsMark e.machine q (next_of q p)) (sym (waits_at e.queries n ∙ ap answers_in k)) (running_mark n q p r k),
      ),
    )
    marked n q r d (Broken answers upto) k = absurd (u.unbroken n answers upto k)
    marked n q r d Dropped k = absurd (true≢false (sym (u.gone n q r k) ∙ d))

    may_open : MayOpen e.machine (marks_by e.machine.queries e.queries) (map answers_in e.queries)
    may_open = record {
      marked = length-marks e.machine.queries e.queries;
      listed = long_waits e g (marks_by e.machine.queries e.queries) (length-marks e.machine.queries e.queries);
      each = λ n q r d. marked n q r d (remains_at e n) refl;
      numbered = numbered e.machine.streams g.rows;
    }

  -- and each mark is one of a query that runs
  mark_in_is : (n next : ℕ) (q : Registered) → query_at e n ≡ Some q → (remains : PlainRemains) → remains_at e n ≡ remains → mark_in q remains ≡ Some next → IsMark e.machine q next (get_or (map answers_in e.queries) n [])
  mark_in_is n next q r (Running p) k i =
      subst (IsMark e.machine q next) (sym (waits_at e.queries n ∙ ap answers_in k)) (subst (λ z. IsMark e.machine q z p.answers) (ap (λ o. unwrap_or o next) i) (running_mark n q p r k))
  mark_in_is n next q r (Broken answers upto) k i = absurd (cc)
  mark_in_is n next q r Dropped k i = absurd (cc)

  may_open_marked : MayOpenMarked e.machine (marks_by e.machine.queries e.queries) (map answers_in e.queries)
  may_open_marked = record {
    marked = length-marks e.machine.queries e.queries;
    listed = long_waits e g (marks_by e.machine.queries e.queries) (length-marks e.machine.queries e.queries);
    each = λ n next q r d i. mark_in_is n next q r (remains_at e n) refl (ap (λ o. unwrap_or o None) (sym (marks_at e.machine.queries e.queries n q r) ∙ i));
    numbered = numbered e.machine.streams g.rows;
  }

-- a query that goes on has a mark
has_one : (qs : List Registered) (ks : List PlainRemains) (n : ℕ) → length ks ≡ length qs → option_map_or is_running (slice_get ks n) true ≡ true → has_mark (marks_by qs ks) n ≡ true
has_one [] [] n l p = refl
has_one [] (k ∷ ks) n l p = absurd (omega (arith, l))
has_one (q ∷ qs) [] n l p = absurd (omega (arith, l))
has_one (q ∷ qs) (Running p ∷ ks) zero l i = refl
has_one (q ∷ qs) (Broken answers upto ∷ ks) zero l i = absurd (true≢false (sym i))
has_one (q ∷ qs) (Dropped ∷ ks) zero l i = absurd (true≢false (sym i))
has_one (q ∷ qs) (k ∷ ks) (suc n) l i = has_one qs ks n (omega (arith, l)) i

pub forgotten_partly : (e : PlainEngine) → GoodEngine e → PartlyAlike (goes_on e) e.machine (forgotten e).machine
forgotten_partly e g =
    let marks : List (Option ℕ) = marks_by e.machine.queries e.queries in
    alike_of_fewer (goes_on e) (has_mark marks) e.machine (forgotten e).machine (λ n i. has_one e.machine.queries e.queries n g.many i) (opened_partly e.machine marks (map answers_in e.queries) (may_open_marked e g))

pub forgotten_alike : (e : PlainEngine) → GoodEngine e → IsUnbroken e → Alike (world_of e) (world_of (forgotten e))
forgotten_alike e g u = record { machines = opened_alike e.machine (marks_by e.machine.queries e.queries) (map answers_in e.queries) (may_open e g u); waiting = refl; upto = upto_again e.machine.queries e.queries (marks_by e.machine.queries e.queries) (map answers_in e.queries) }
