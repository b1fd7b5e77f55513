-- A plan has the widths of the sources of the one query that was read.
use Rattle.std.proofs.Common.{◌≡◌, ◌∙◌, ℕ, List, Result, Ok, Err, ap}
use Rattle.std.specs.Prelude.{IfOk}
use Rattle.cql_reader.specs.Fault as text
use Rattle.cql_reader.specs.Query as syntax
use Rattle.cql_reader.specs.Judging.{reading}
use Rattle.names.specs.Catalog as catalogs
use Rattle.names.specs.Resolved.{widths}
use Rattle.plan.specs.declared.operators.Plan.{Plan}
use Rattle.reference.specs.declared.fault.Fault.{Fault}

read_once : (a b : syntax.Query) (r : Result syntax.Query text.Fault) → r ≡ Ok a → r ≡ Ok b → a ≡ b
read_once a b (Ok q) e f = cc
read_once a b (Err fault) e f = absurd (cc)

pub found_widths : (found : Result Plan Fault) (source : List ℕ) (catalog : List catalogs.Stream) (q : syntax.Query) → reading source ≡ Ok q → IfOk found (λ p. p.widths.items ≡ widths q catalog)
    → IfOk found (λ p. (query : syntax.Query) → reading source ≡ Ok query → p.widths.items ≡ widths query catalog)
found_widths (Ok p) source catalog q e h = λ query f. h ∙ ap (λ x. widths x catalog) (read_once q query (reading source) e f)
found_widths (Err fault) source catalog q e h = tt
