use Rattle.row_nodes.specs.Project.{columns_in}
use Rattle.row_nodes.proofs.RowLemmas.{project_law, Same-map}
use Rattle.row_nodes.proofs.laws.project_keeps_its_value.Goals as goal

pub returns-clause-law : goal.returns-clause-law
returns-clause-law c = λ columns t xs i i2 o a. project_law columns t xs i i2 o a

pub returns-clause-lawful : goal.returns-clause-lawful
returns-clause-lawful c = λ columns. record { same = Same-map (columns_in columns) }
