use Rattle.std.proofs.Common.{rules}
use Rattle.to_stream.proofs.StepLemmas.{rows_law}
use Rattle.to_stream.proofs.ToStream.run_rows.Goals as goal

pub returns-clause-law : goal.returns-clause-law
returns-clause-law c = rows_law c.apply_rows.result c.args.self.now _ c.args.batch.now (search rules)
