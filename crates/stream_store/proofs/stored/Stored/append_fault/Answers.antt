use Rattle.stream_store.proofs.BesideLemmas.{passed_limited, refused_limited}
use Rattle.stream_store.proofs.stored.Stored.append_fault.Goals as goal

pub returns-in-Some-clause-first : goal.returns-in-Some-clause-first
returns-in-Some-clause-first c = refused_limited c.args.most c.args.rows.now c.args.self.now c.in-Some.fault c.in-Some.ensures.first

pub returns-in-None-clause-first : goal.returns-in-None-clause-first
returns-in-None-clause-first c = passed_limited c.args.most c.with_rows.result c.args.rows.now c.args.self.now c.limit_fault.result c.in-None.ensures.first c.with_rows.ensures c.limit_fault.ensures.first
