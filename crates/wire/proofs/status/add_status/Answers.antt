use Rattle.std.proofs.Common.{map, refl, ap}
use Rattle.reference.specs.StatusViews.{query_status_in, status_in, stream_status_in}
use Rattle.wire.specs.Printed.{query_status_text, status_text, stream_status_text, with_commas}
use Rattle.wire.proofs.Printing.{writes_both, write_text}
use Rattle.wire.proofs.status.add_status.Goals as goal

pub returns : goal.returns
unfolding status_text
returns g c =
    let status = c.args.status.now in
    let queries =
    write_text (with_commas query_status_text (map query_status_in status.queries.items)) (ap (λ qs. with_commas query_status_text (map query_status_in qs)) c.as_slice.ensures.value)
    c.add_queries.ensures in
    let streams =
    write_text (with_commas stream_status_text (map stream_status_in status.streams.items))
    (ap (λ ss. with_commas stream_status_text (map stream_status_in ss)) c.as_slice-2.ensures.value) c.add_streams.ensures in
    let all = writes_both (writes_both (writes_both (writes_both c.add.ensures queries) c.add-2.ensures) streams) c.add-3.ensures in
    write_text (status_text (status_in status)) refl all
