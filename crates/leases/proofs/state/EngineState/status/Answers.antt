-- The queries and the streams, each as far as it is.
use Rattle.std.proofs.Common.{List, sym, map, ap, ap₂, ◌∙◌, subst₂}
use Rattle.reference.specs.Status.{QueryStatus, StreamStatus, stream_status}
use Rattle.leases.specs.Forgets.{AreMarkable}
use Rattle.leases.proofs.MarkLemmas.{markable}
use Rattle.leases.proofs.StatusLemmas.{queries_among}
use Rattle.leases.proofs.state.EngineState.status.Goals as goal

pub query_statuses-requires : goal.query_statuses-requires
query_statuses-requires c = subst₂ AreMarkable (sym c.deref.ensures.value) (sym c.deref-2.ensures.value) (markable c.args.self.now c.requires)

pub returns : goal.returns
returns c =
    ap₂ (λ (x : List QueryStatus) (y : List StreamStatus). record { queries = x; streams = y })
    (c.in_ok-queries.ensures ∙ ap₂ queries_among c.deref.ensures.value c.deref-2.ensures.value) (c.in_ok-streams.ensures ∙ ap (map stream_status) c.all.ensures)
