use Rattle.std.proofs.Common.{◌∙◌, ◌++◌, ap, subst, sym, List}
use Rattle.values.specs.Window.{Element}
use Rattle.op_queue.specs.Closings.{IsClosing}
use Rattle.op_queue.specs.Tables.{arrived}
use Rattle.stream_store.proofs.ArrivalLemmas.{given_lists}
use Rattle.stream_store.proofs.CopyLemmas.{closing_chosen, wide_chosen}
use Rattle.stream_store.proofs.closed_rows.copy_marked.Goals as goal

pub close-requires-clause-values : goal.close-requires-clause-values
close-requires-clause-values c =
    let new = c.in_ok-copy.copy in
    let rows = c.in_ok-rows.rows in
    let width = c.in_ok-copy.ensures.width ∙ c.width.ensures in
    let wide = wide_chosen c.args.log.now new c.args.kept.now rows.elements c.in_ok-rows.ensures.rows width c.requires.wide in
    (given_lists new.width rows.elements wide c.instants.result.now c.numbers.result.now c.values.result.now c.instants.ensures c.numbers.ensures c.values.ensures).full

pub close-requires-clause-closing : goal.close-requires-clause-closing
close-requires-clause-closing c =
    let new = c.in_ok-copy.copy in
    let rows = c.in_ok-rows.rows in
    let width = c.in_ok-copy.ensures.width ∙ c.width.ensures in
    let wide = wide_chosen c.args.log.now new c.args.kept.now rows.elements c.in_ok-rows.ensures.rows width c.requires.wide in
    let given = given_lists new.width rows.elements wide c.instants.result.now c.numbers.result.now c.values.result.now c.instants.ensures c.numbers.ensures c.values.ensures in
    subst (λ (es : List Element). IsClosing new es c.until-until.result) (sym given.rows)
    (closing_chosen c.args.log.now new c.args.kept.now rows.elements c.until-until.result c.requires.marks c.in_ok-rows.ensures.rows width c.in_ok-copy.ensures.until c.until-until.ensures.value
    c.requires.wide c.until-until.ensures.ordered c.until-until.ensures.closed)

pub returns-clause-elements : goal.returns-clause-elements
returns-clause-elements c =
    let new = c.in_ok-copy.copy in
    let rows = c.in_ok-rows.rows in
    let width = c.in_ok-copy.ensures.width ∙ c.width.ensures in
    let wide = wide_chosen c.args.log.now new c.args.kept.now rows.elements c.in_ok-rows.ensures.rows width c.requires.wide in
    let given = given_lists new.width rows.elements wide c.instants.result.now c.numbers.result.now c.values.result.now c.instants.ensures c.numbers.ensures c.values.ensures in
    c.in_ok-close.ensures.elements
    ∙ ap (λ (es : List Element). es ++ arrived new.width c.instants.result.now c.numbers.result.now c.values.result.now) c.in_ok-copy.ensures.elements
    ∙ given.rows
    ∙ c.in_ok-rows.ensures.rows
