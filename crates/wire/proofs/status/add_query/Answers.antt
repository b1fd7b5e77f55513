use Rattle.std.proofs.Common.{◌≡◌, ◌++◌, codes, string_bytes, refl, ap, ◌∙◌, to_z, of_z, w64, arith}
use Rattle.std.specs.Fmt.{signed_decimal}
use Rattle.std.proofs.lemmas.Int.{ints, to_z-of_z}
use Rattle.reference.specs.StatusViews.{query_status_in}
use Rattle.wire.specs.Printed.{name_text, query_status_text}
use Rattle.wire.proofs.Printing.{writes_both, write_text}
use Rattle.wire.proofs.status.add_query.Goals as goal

pub returns : goal.returns
unfolding query_status_text
returns g c =
    let query = c.args.query.now in
    let low : to_z w64 (of_z w64 query.base) ≡ query.base = grind (arith, ints, to_z-of_z) in
    let high : to_z w64 (of_z w64 query.upto) ≡ query.upto = grind (arith, ints, to_z-of_z) in
    let base = write_text (codes "{\"base\":" ++ signed_decimal query.base) (ap (λ z. codes "{\"base\":" ++ signed_decimal z) low) c.add_instant.ensures in
    let name = write_text (name_text (string_bytes query.name)) (ap name_text (c.as_bytes.ensures.value ∙ c.as_str.ensures.value)) c.add_name.ensures in
    let upto = write_text (codes ",\"upto\":" ++ signed_decimal query.upto) (ap (λ z. codes ",\"upto\":" ++ signed_decimal z) high) c.add_instant-2.ensures in
    let front = writes_both (writes_both (writes_both base c.add_broken.ensures) c.add.ensures) name in
    let all = writes_both (writes_both (writes_both (writes_both front c.add_count.ensures) upto) c.add_count-2.ensures) c.add-2.ensures in
    write_text (query_status_text (query_status_in query)) refl all
