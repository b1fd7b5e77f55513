use Rattle.std.specs.Prelude.{Bool, Some, [], ◌∷◌}
use Rattle.values.specs.Condition.{keeps}
use Rattle.values.specs.Row.{Row}
use Rattle.row_nodes.proofs.RowLemmas.{select_law, Same-filter}
use Rattle.row_nodes.proofs.laws.select_keeps_its_value.Goals as goal

pub returns-clause-law : goal.returns-clause-law
returns-clause-law c = λ condition steps t xs i i2 o m a. select_law condition steps t xs i i2 o m a

pub returns-clause-lawful : goal.returns-clause-lawful
returns-clause-lawful c = λ condition. let p : Row → Bool = λ r. keeps (Some condition) (r ∷ []) in record { same = Same-filter p }
