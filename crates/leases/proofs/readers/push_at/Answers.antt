use Rattle.std.proofs.lemmas.Result.{err_from_is_err_and}
use Rattle.leases.proofs.ByStreamLemmas.{gains, stays}
use Rattle.leases.proofs.readers.push_at.Goals as goal

pub returns-clause-ok : goal.returns-clause-ok
returns-clause-ok c = gains c.args.by_stream.now.items c.args.place c.args.reader c.index_mut.result.now c.push.new.self c.requires c.index_mut.ensures.value c.in_ok-push.ensures.items

pub returns-in_err-push-clause-err : goal.returns-in_err-push-clause-err
returns-in_err-push-clause-err c =
    rw (err_from_is_err_and c.from_residual.result c.from_residual.ensures.1).1
    (stays c.args.by_stream.now.items c.args.place c.index_mut.result.now c.push.new.self c.requires c.index_mut.ensures.value c.in_err-push.ensures.items)
