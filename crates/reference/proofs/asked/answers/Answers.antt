use Rattle.std.proofs.Common.{◌∙◌, ap, ℕ, nat_abs, pos, ◌+ℤ◌, w64}
use Rattle.std.proofs.lemmas.Int.{to_z-of_z}
use Rattle.values.specs.Answers as cql
use Rattle.reference.specs.Views.{inputs_of}
use Rattle.cql_reader.specs.Views.{query_of}
use Rattle.names.specs.Resolved.{resolved}
use Rattle.reference.proofs.asked.answers.Goals as goal

pub returns-clause-answers : goal.returns-clause-answers
returns-clause-answers c =
    let inputs = inputs_of c.args.inputs.now in
    c.in_ok-answers.ensures
    ∙ ap (λ r. cql.answers r c.first_open-first.result c.first_open-until.result inputs) c.in_ok-named.ensures.meaning
    ∙ ap (λ (n : ℕ). cql.answers (resolved (query_of c.args.query.now) c.args.catalog.now) n c.first_open-until.result inputs) (rw (to_z-of_z w64 c.args.base c.ranges.base) at c.first_open-first.ensures)
    ∙ ap (λ (n : ℕ). cql.answers (resolved (query_of c.args.query.now) c.args.catalog.now) (nat_abs (c.args.base +ℤ pos 1)) n inputs) (rw (to_z-of_z w64 c.args.upto c.ranges.upto) at c.first_open-until.ensures)
