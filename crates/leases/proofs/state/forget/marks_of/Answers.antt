use Rattle.std.proofs.Common.{◌≡◌, List, map, ap, ◌∙◌}
use Rattle.std.proofs.lemmas.Result.{IfOk-weaker}
use Rattle.needed_rows.specs.Needed.{PlainReader, elements_of, is_needed_by_some, lists, readers_in}
use Rattle.needed_rows.specs.declared.reader.ClosedRows.{ClosedRows}
use Rattle.leases.proofs.LogLemmas.{columns_stand, marks_made}
use Rattle.leases.proofs.state.forget.marks_of.Goals as goal

pub needed-requires : goal.needed-requires
needed-requires c =
    let rows : ClosedRows = record { instants = c.instants.result; numbers = c.numbers.result; columns = c.deref.result } in
    (columns_stand c.args.log.now rows c.requires c.instants.ensures c.numbers.ensures (ap lists c.deref.ensures.value ∙ c.in_ok-columns.ensures)).0

pub returns : goal.returns
returns c =
    let rows : ClosedRows = record { instants = c.instants.result; numbers = c.numbers.result; columns = c.deref.result } in
    let stand = columns_stand c.args.log.now rows c.requires c.instants.ensures c.numbers.ensures (ap lists c.deref.ensures.value ∙ c.in_ok-columns.ensures) in
    let rs : List PlainReader = readers_in c.args.readers.now in
    IfOk-weaker c.needed.result (λ v. v.items ≡ map (is_needed_by_some (elements_of rows) rs) (elements_of rows)) (λ v. v.items ≡ map (is_needed_by_some c.args.log.now.elements rs) c.args.log.now.elements)
    (λ v is. marks_made c.args.log.now rows rs v.items stand.1 is) c.needed.ensures
