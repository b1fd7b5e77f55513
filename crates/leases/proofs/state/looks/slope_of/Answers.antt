use Rattle.std.specs.Arc.{arc_value}
use Rattle.std.proofs.Common.{◌≡◌, length, get_or, ap, ◌∙◌, arith}
use Rattle.std.proofs.lemmas.List.{get_or_default}
use Rattle.envelope.specs.Fraction.{fraction}
use Rattle.plan.specs.Paths.{plan_slopes}
use Rattle.plan.specs.Views.{nodes_of}
use Rattle.leases.proofs.LookLemmas.{many_slopes}
use Rattle.leases.proofs.state.looks.slope_of.Goals as goal

pub index-requires : goal.index-requires
index-requires c =
    let many = many_slopes (nodes_of (arc_value c.args.query.now.plan).nodes.items) (arc_value c.args.query.now.plan).measures.items in
    let have : length c.args.query.now.slopes.items ≡ length (plan_slopes (nodes_of (arc_value c.args.query.now.plan).nodes.items) (arc_value c.args.query.now.plan).measures.items) = ap (λ xs. length xs) c.args.query.now.sloped in
    omega (arith, many, have)

pub returns : goal.returns
returns c =
    let many = many_slopes (nodes_of (arc_value c.args.query.now.plan).nodes.items) (arc_value c.args.query.now.plan).measures.items in
    c.index.ensures ∙ ap (λ xs. get_or xs c.args.operator c.index.result.now) c.args.query.now.sloped
    ∙ get_or_default (plan_slopes (nodes_of (arc_value c.args.query.now.plan).nodes.items) (arc_value c.args.query.now.plan).measures.items) c.args.operator c.index.result.now (fraction 0 1) (omega (arith, many))
