use Rattle.std.proofs.Common.{arith, ◌≡◌, ◌∙◌, None, length, sym, ap}
use Rattle.std.specs.Option.{option_copied}
use Rattle.std.proofs.lemmas.List.{length-map}
use Rattle.cql_reader.specs.Views.{query_of, source_of}
use Rattle.names.specs.Resolved.{resolved, widths}
use Rattle.names.specs.Views.{join_keys_of}
use Rattle.plan.specs.Build.{plan_of}
use Rattle.plan.specs.Chart.{given_by, is_bad_chart}
use Rattle.plan.specs.Faults.{after_names, first_fault}
use Rattle.plan.specs.Told.{Told}
use Rattle.plan.specs.Views.{node_of, nodes_of}
use Rattle.plan.specs.declared.fault.PlanError.{PlanError}
use Rattle.plan.proofs.Charted.{have_charts}
use Rattle.plan.proofs.Planned.{keys_ready, rest_ready, shape_ready, fault_told, no_fault, planned, err_kept}
use Rattle.plan.proofs.planner.plan.Goals as goal

pub build-requires-clause-keys : goal.build-requires-clause-keys
build-requires-clause-keys c =
    keys_ready (query_of c.args.query.now) c.args.catalog.now c.in_ok-meaning.ensures.accepted (length c.args.query.now.sources.items) c.deref-2.result.now c.in_ok-meaning.field-0.keys.items c.deref.result.now
    (c.deref-2.ensures.value ∙ c.in_ok-meaning.ensures.widths) c.in_ok-meaning.ensures.keys c.deref.ensures.value

pub build-requires-clause-rest : goal.build-requires-clause-rest
build-requires-clause-rest c =
    rest_ready (query_of c.args.query.now) c.args.catalog.now c.in_ok-meaning.ensures.accepted (length c.args.query.now.sources.items) c.deref-2.result.now c.in_ok-meaning.field-0.rest.items
    (c.deref-2.ensures.value ∙ c.in_ok-meaning.ensures.widths) c.in_ok-meaning.ensures.rest

pub build-requires-clause-shape : goal.build-requires-clause-shape
build-requires-clause-shape c =
    shape_ready (query_of c.args.query.now) c.args.catalog.now c.in_ok-meaning.ensures.accepted c.deref-2.result.now c.in_ok-meaning.field-0.meaning
    (c.deref-2.ensures.value ∙ c.in_ok-meaning.ensures.widths) c.in_ok-meaning.ensures.meaning

pub returns-in_err-measures-clause-err : goal.returns-in_err-measures-clause-err
returns-in_err-measures-clause-err c =
    let nodes : nodes_of c.in_ok-nodes.nodes.items ≡ plan_of (widths (query_of c.args.query.now) c.args.catalog.now) (resolved (query_of c.args.query.now) c.args.catalog.now) =
    c.in_ok-nodes.ensures ∙ planned (query_of c.args.query.now) c.args.catalog.now (length c.args.query.now.sources.items) c.deref-2.result.now _ _ _ _
    (sym (length-map c.args.query.now.sources.items _)) (c.deref-2.ensures.value ∙ c.in_ok-meaning.ensures.widths) c.in_ok-meaning.ensures.meaning c.in_ok-meaning.ensures.own (ap join_keys_of c.deref.ensures.value ∙ c.in_ok-meaning.ensures.keys) c.in_ok-meaning.ensures.rest in
    let told : (error : PlanError) → Told error (after_names None (is_bad_chart (length c.deref-3.result.now) (given_by (option_copied c.args.chart))))
    → Told error (first_fault (query_of c.args.query.now) c.args.catalog.now (given_by (option_copied c.args.chart))) =
    fault_told (query_of c.args.query.now) c.args.catalog.now c.in_ok-meaning.ensures.accepted (given_by (option_copied c.args.chart)) c.in_ok-nodes.nodes.items c.deref-3.result.now c.deref-3.ensures.value nodes in
    err_kept c.from_residual-in_err-measures.result c.in_err-measures.field-0.0 _ c.from_residual-in_err-measures.ensures.1 (told c.in_err-measures.field-0.0 c.in_err-measures.ensures.err)

pub returns-clause-nodes : goal.returns-clause-nodes
returns-clause-nodes c =
    c.in_ok-nodes.ensures ∙ planned (query_of c.args.query.now) c.args.catalog.now (length c.args.query.now.sources.items) c.deref-2.result.now _ _ _ _
    (sym (length-map c.args.query.now.sources.items _)) (c.deref-2.ensures.value ∙ c.in_ok-meaning.ensures.widths) c.in_ok-meaning.ensures.meaning c.in_ok-meaning.ensures.own (ap join_keys_of c.deref.ensures.value ∙ c.in_ok-meaning.ensures.keys) c.in_ok-meaning.ensures.rest

pub returns-clause-accepted : goal.returns-clause-accepted
returns-clause-accepted c =
    no_fault (query_of c.args.query.now) c.args.catalog.now c.in_ok-meaning.ensures.accepted (given_by (option_copied c.args.chart)) c.in_ok-nodes.nodes.items c.deref-3.result.now c.deref-3.ensures.value
    (returns-clause-nodes c) c.in_ok-measures.ensures.good

pub invariant_of-result : goal.invariant_of-result
invariant_of-result c = record {
  charted = have_charts (query_of c.args.query.now) c.args.catalog.now (given_by (option_copied c.args.chart)) c.in_ok-nodes.nodes.items c.deref-3.result.now c.in_ok-measures.measures.items
      (omega (arith, c.requires.few, length-map c.args.query.now.sources.items source_of)) c.deref-3.ensures.value
      (c.in_ok-nodes.ensures ∙ planned (query_of c.args.query.now) c.args.catalog.now (length c.args.query.now.sources.items) c.deref-2.result.now _ _ _ _
      (sym (length-map c.args.query.now.sources.items _)) (c.deref-2.ensures.value ∙ c.in_ok-meaning.ensures.widths) c.in_ok-meaning.ensures.meaning c.in_ok-meaning.ensures.own (ap join_keys_of c.deref.ensures.value ∙ c.in_ok-meaning.ensures.keys) c.in_ok-meaning.ensures.rest)
      (ap (λ n. is_bad_chart n (given_by (option_copied c.args.chart))) (length-map c.deref-3.result.now node_of) ∙ c.in_ok-measures.ensures.good) c.in_ok-measures.ensures.ok;
}
