use Rattle.std.proofs.Common.{◌<◌, ◌≤◌, ◌∙◌, ap, arith, subst, refl, ℕ}
use Rattle.std.specs.List.{AllByRecursion}
use Rattle.std.proofs.lemmas.Result.{on_ok_weaker}
use Rattle.values.specs.Window.{Element}
use Rattle.stream_store.specs.LateRows.{lent_rows}
use Rattle.stream_store.specs.Open.{put_rows}
use Rattle.stream_store.proofs.OpenLemmas.{more_risen, more_late}
use Rattle.stream_store.proofs.open_rows.put_run.Goals as goal

pub returns-then-reached-instant-clause-ok : goal.returns-then-reached-instant-clause-ok
returns-then-reached-instant-clause-ok c =
    let risen = c.args.rising.now in
    let late = c.args.late.now.entries in
    let within = subst (λ (k : ℕ). AllByRecursion (λ (e : Element). e.instant ≤ k) risen.rows) c.reached.ensures.value c.reached.ensures.within in
    let later : risen.reached ≤ c.args.instant = omega (arith, c.reached.ensures.value, c.if-reached-instant.true) in
    on_ok_weaker c.push_all.result
    (λ is. more_risen c.args.instant c.args.first (lent_rows risen.width c.args.instants.now c.args.values.now) risen c.push_all.new.self late late c.requires.parts within later c.requires.at is refl) c.push_all.ensures.ok

pub returns-clause-ok : goal.returns-clause-ok
returns-clause-ok c =
    let risen = c.args.rising.now in
    let late = c.args.late.now.entries in
    let rows = lent_rows risen.width c.args.instants.now c.args.values.now in
    let earlier : c.args.instant < risen.reached = omega (arith, c.reached.ensures.value, c.if-reached-instant.false) in
    on_ok_weaker c.put.result
    (λ is. more_late c.args.instant c.args.first rows risen risen late c.put.new.late.entries c.requires.parts earlier c.requires.at c.put.ensures.ordered refl
    (is ∙ ap (λ (k : ℕ). put_rows k c.args.instant c.args.first (lent_rows k c.args.instants.now c.args.values.now) late) c.width.ensures.value)) c.put.ensures.ok
