use Rattle.std.proofs.Common.{◌≡◌, ◌∙◌, pos, arith, w64, to_z, of_z}
use Rattle.std.proofs.lemmas.Int.{ints}
use Rattle.cql_reader.specs.Lexis.{number_of}
use Rattle.cql_reader.proofs.Ranges.{tested_above, tested_below, step_capped}
use Rattle.cql_reader.proofs.machine.is_step.Goals as goal

pub returns-then-not-number : goal.returns-then-not-number
returns-then-not-number c =
    let n = c.number_in-number.result in
    let z = number_of c.args.bytes.now in
    let back : to_z w64 (of_z w64 n) ≡ n = omega (arith, ints) in
    tested_above (pos 1) (pos 1099511627777) _ z (back ∙ c.number_in-number.ensures) (step_capped z) c.if-not-number.true

pub returns-else-not-number : goal.returns-else-not-number
returns-else-not-number c =
    let n = c.number_in-number.result in
    let z = number_of c.args.bytes.now in
    let back : to_z w64 (of_z w64 n) ≡ n = omega (arith, ints) in
    tested_below (pos 1) (pos 1099511627777) _ z (back ∙ c.number_in-number.ensures) (step_capped z) c.if-not-number.false
