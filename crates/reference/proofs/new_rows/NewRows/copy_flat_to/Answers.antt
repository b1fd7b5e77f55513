use Rattle.std.proofs.Common.{◌∙◌, ◌++◌, ap, arith, map, length, nat_abs, not}
use Rattle.std.specs.List.{list_all, list_any}
use Rattle.reference.specs.Appended.{instants_of, values_of}
use Rattle.reference.specs.Commands.{is_stream_value, is_instant}
use Rattle.reference.proofs.NewRowLemmas.{length-rows_in, any-instants, all-values}
use Rattle.reference.proofs.StreamLemmas.{not_false}
use Rattle.reference.proofs.KeptLemmas.{instants-flat, values-flat, none-fails}
use Rattle.reference.proofs.new_rows.NewRows.copy_flat_to.Goals as goal

pub copy_instants-requires-clause-good : goal.copy_instants-requires-clause-good
copy_instants-requires-clause-good c =
    let rows = c.self.inside in
    ap (list_all is_instant) c.deref.ensures.value
    ∙ none-fails is_instant rows.instants.items
    (any-instants (λ at. not (is_instant at)) rows.instants.items rows.widths.items rows.values.items c.self.invariant.0
    ∙ ap (list_any (λ r. not (is_instant r.0))) c.self.view_is ∙ c.requires.good_instants)

pub copy_instants-requires-clause-room : goal.copy_instants-requires-clause-room
copy_instants-requires-clause-room c =
    let rows = c.self.inside in
    let count = length-rows_in rows.instants.items rows.widths.items rows.values.items c.self.invariant.0 in
    let seen = ap length c.self.view_is in
    let same = ap length c.deref.ensures.value in
    omega (arith, count, seen, same, c.requires.room_for_instants)

pub copy_values-requires-clause-good : goal.copy_values-requires-clause-good
copy_values-requires-clause-good c =
    let rows = c.self.inside in
    ap (list_all is_stream_value) c.deref-2.ensures.value
    ∙ not_false _
    (all-values is_stream_value rows.instants.items rows.widths.items rows.values.items c.self.invariant.0 c.self.invariant.1
    ∙ ap (list_any (λ r. not (list_all is_stream_value r.1))) c.self.view_is ∙ c.requires.good_values)

pub copy_values-requires-clause-room : goal.copy_values-requires-clause-room
copy_values-requires-clause-room c =
    let rows = c.self.inside in
    let count = ap length (values-flat rows.instants.items rows.widths.items rows.values.items c.self.invariant.0 c.self.invariant.1) in
    let seen = ap (λ rs. length (values_of rs)) c.self.view_is in
    let same = ap length c.deref-2.ensures.value in
    omega (arith, count, seen, same, c.requires.room_for_values)

pub returns-clause-instants : goal.returns-clause-instants
returns-clause-instants c =
    let rows = c.self.inside in
    let old = c.args.instants.now.items in
    c.copy_instants.ensures
    ∙ ap (λ is. old ++ map nat_abs is) c.deref.ensures.value
    ∙ ap (λ is. old ++ is) (instants-flat rows.instants.items rows.widths.items rows.values.items c.self.invariant.0)
    ∙ ap (λ rs. old ++ instants_of rs) c.self.view_is

pub returns-clause-values : goal.returns-clause-values
returns-clause-values c =
    let rows = c.self.inside in
    let old = c.args.values.now.items in
    c.copy_values.ensures
    ∙ ap (λ vs. old ++ vs) c.deref-2.ensures.value
    ∙ ap (λ vs. old ++ vs) (values-flat rows.instants.items rows.widths.items rows.values.items c.self.invariant.0 c.self.invariant.1)
    ∙ ap (λ rs. old ++ values_of rs) c.self.view_is
