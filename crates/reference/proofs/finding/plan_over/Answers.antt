use Rattle.std.proofs.Common.{◌∙◌, sym}
use Rattle.std.specs.Option.{option_copied}
use Rattle.cql_reader.specs.Views.{query_of}
use Rattle.plan.specs.Chart.{given_by}
use Rattle.reference.proofs.FindingLemmas.{found-ok, narrow, few_sources, streams_count}
use Rattle.reference.proofs.finding.plan_over.Goals as goal

pub plan-requires : goal.plan-requires
plan-requires c =
    record { few = few_sources c.args.query.now c.requires.formed; narrow = narrow c.args.catalog.now c.args.query.now c.requires.formed c.requires.few }

pub returns-in-Ok-clause-finds : goal.returns-in-Ok-clause-finds
returns-in-Ok-clause-finds c =
    found-ok c.args.catalog.now (given_by (option_copied c.args.chart)) (query_of c.args.query.now) c.in-Ok.plan c.in-Ok.ensures.accepted c.in-Ok.ensures.streams c.in-Ok.ensures.meaning c.in-Ok.ensures.nodes c.in-Ok.ensures.measures

pub returns-in-Err-clause-finds : goal.returns-in-Err-clause-finds
returns-in-Err-clause-finds c =
    c.plan_fault.ensures c.args.catalog.now (given_by (option_copied c.args.chart)) (query_of c.args.query.now) c.in-Err.ensures.err

pub returns-in-Ok-clause-sources : goal.returns-in-Ok-clause-sources
returns-in-Ok-clause-sources c =
    c.in-Ok.ensures.counts ∙ sym (streams_count c.args.catalog.now c.args.query.now c.in-Ok.plan.streams.items c.in-Ok.ensures.streams)
