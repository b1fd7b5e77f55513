use Rattle.std.proofs.Common.{◌≡◌, ◌++◌, codes, refl, ap, to_z, of_z, w64, arith}
use Rattle.std.specs.Fmt.{signed_decimal}
use Rattle.std.proofs.lemmas.Int.{ints, to_z-of_z}
use Rattle.cql_reader.specs.Names.{name_of}
use Rattle.names.specs.Names.{names_of}
use Rattle.reference.specs.StatusViews.{stream_status_in}
use Rattle.wire.specs.Printed.{name_text, stream_status_text, with_commas}
use Rattle.wire.proofs.Printing.{writes_both, write_text}
use Rattle.wire.proofs.status.add_stream.Goals as goal

pub returns : goal.returns
unfolding stream_status_text
returns g c =
    let stream = c.args.stream.now in
    let last : to_z w64 (of_z w64 stream.closed) ≡ stream.closed = grind (arith, ints, to_z-of_z) in
    let closed = write_text (codes "{\"closed\":" ++ signed_decimal stream.closed) (ap (λ z. codes "{\"closed\":" ++ signed_decimal z) last) c.add_instant.ensures in
    let columns = write_text (with_commas name_text (names_of stream.columns.items)) (ap (λ names. with_commas name_text (names_of names)) c.as_slice.ensures.value) c.add_columns.ensures in
    let name = write_text (name_text (name_of stream.name)) (ap name_text c.as_bytes.ensures) c.add_name.ensures in
    let front = writes_both (writes_both (writes_both (writes_both closed c.add.ensures) columns) c.add-2.ensures) name in
    let all = writes_both (writes_both front c.add_count.ensures) c.add-3.ensures in
    write_text (stream_status_text (stream_status_in stream)) refl all
