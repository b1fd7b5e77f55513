-- One query after the other.
use Rattle.std.proofs.Common.{⊎_elim, inl, inr, map}
use Rattle.reference.specs.StatusViews.{query_status_in}
use Rattle.leases.proofs.GoingLemmas.{first_markable, later_markable}
use Rattle.leases.proofs.StatusLemmas.{all_status, more_status}
use Rattle.leases.proofs.state.status.query_statuses.Goals as goal

pub push_status-requires : goal.push_status-requires
push_status-requires c = first_markable c.loop-query.query-iterator.a.rest.now c.next.new.self.a.rest.now c.loop-query.query-iterator.b.rest.now c.next.new.self.b.rest.now c.in-Some.query.now c.in-Some.remains.now c.in-Some.ensures.steps.0 c.in-Some.ensures.steps.1 c.loop-query.invariant.0

pub loop-query-preserved : goal.loop-query-preserved
loop-query-preserved c = (
  later_markable c.loop-query.query-iterator.a.rest.now c.next.new.self.a.rest.now c.loop-query.query-iterator.b.rest.now c.next.new.self.b.rest.now c.in-Some.query.now c.in-Some.remains.now c.in-Some.ensures.steps.0 c.in-Some.ensures.steps.1 c.loop-query.invariant.0,
  more_status _ (map query_status_in c.loop-query.all.items) (map query_status_in c.push_status.new.all.items) c.loop-query.query-iterator.a.rest.now c.next.new.self.a.rest.now c.loop-query.query-iterator.b.rest.now c.next.new.self.b.rest.now c.in-Some.query.now c.in-Some.remains.now c.in-Some.ensures.steps.0 c.in-Some.ensures.steps.1
      c.in_ok-push_status.ensures c.loop-query.invariant.1,
)

pub returns : goal.returns
returns c =
    all_status _ (map query_status_in c.loop-query.all.items) c.loop-query.query-iterator.a.rest.now c.loop-query.query-iterator.b.rest.now
    (⊎_elim (λ s. inl s.1.0) (λ s. inr s.1.0) c.in-None.ensures.steps) c.loop-query.invariant.1
