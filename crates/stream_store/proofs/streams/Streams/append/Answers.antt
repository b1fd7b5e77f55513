use Rattle.std.proofs.Common.{sym, refl}
use Rattle.std.specs.Prelude.{⊤, slice_get}
use Rattle.std.proofs.lemmas.Result.{err_from_is_err_and}
use Rattle.reference.specs.Commands.{appended, change, of_stream}
use Rattle.reference.specs.World.{World, append_step}
use Rattle.stream_store.specs.Beside.{IsLimit, limited_tests}
use Rattle.stream_store.proofs.BesideLemmas.{such_refused, such_lacked, such_done, append_is, unlimited}
use Rattle.stream_store.proofs.streams.Streams.append.Goals as goal

pub returns-in_err-put-in-None : goal.returns-in_err-put-in-None
returns-in_err-put-in-None c =
    let p = err_from_is_err_and c.from_residual.result c.from_residual.ensures.1 in
    let old = c.args.self.now in
    rw (p.1, p.2) (such_lacked (IsLimit c.args.stream c.args.most) (λ (u : ⊤). u) (λ (w : World). append_step w c.args.stream c.args.rows.now) old (change c.args.stream (appended c.args.rows.now) old) (tt) (of_stream (limited_tests c.args.most c.args.rows.now) (slice_get old c.args.stream)) (append_is old c.args.stream c.args.most c.args.rows.now) c.put.new.self c.in-None.ensures.first c.in_err-put-in-None.ensures.err)

pub returns-in-Some : goal.returns-in-Some
returns-in-Some c =
    let old = c.args.self.now in
    such_refused (IsLimit c.args.stream c.args.most) (λ (u : ⊤). u) (λ (w : World). append_step w c.args.stream c.args.rows.now) old (change c.args.stream (appended c.args.rows.now) old) (tt) (of_stream (limited_tests c.args.most c.args.rows.now) (slice_get old c.args.stream)) (append_is old c.args.stream c.args.most c.args.rows.now) c.in-Some.fault c.in-Some.ensures.first c.in-Some.ensures.told

pub returns-in_ok-put-in-None : goal.returns-in_ok-put-in-None
returns-in_ok-put-in-None c =
    let old = c.args.self.now in
    such_done (IsLimit c.args.stream c.args.most) (λ (u : ⊤). u) (λ (w : World). append_step w c.args.stream c.args.rows.now) old (change c.args.stream (appended c.args.rows.now) old) (tt) (of_stream (limited_tests c.args.most c.args.rows.now) (slice_get old c.args.stream)) (append_is old c.args.stream c.args.most c.args.rows.now) tt c.put.new.self c.in-None.ensures.first refl c.in_ok-put-in-None.ensures.ok

pub put-requires : goal.put-requires
put-requires c = unlimited c.args.most c.args.rows.now (slice_get c.args.self.now c.args.stream) (sym c.in-None.ensures.first)
