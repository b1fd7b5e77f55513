use Rattle.std.proofs.Common.{◌∙◌, ◌*◌, ◌++◌, ap, ap₂, length, sym, ℕ, ℤ, List, Option}
use Rattle.std.proofs.lemmas.Result.{on_ok_weaker}
use Rattle.stream_store.specs.LateRows.{RowsAt, rows_in}
use Rattle.stream_store.specs.Open.{elements_at}
use Rattle.stream_store.proofs.late_rows.LateRows.copy_to.Goals as goal

pub push_all-requires : goal.push_all-requires
push_all-requires c =
    let o = c.self.inside in
    let width = ap (λ (r : RowsAt). r.width) c.self.view_is in
    ap length c.deref-2.ensures.value ∙ c.self.invariant.full
    ∙ ap (λ (ns : List ℕ). length ns * o.width) (sym c.deref.ensures.value)
    ∙ ap (λ (w : ℕ). length c.deref.result.now * w) (width ∙ sym c.requires)

pub returns-clause-copies : goal.returns-clause-copies
returns-clause-copies c =
    let o = c.self.inside in
    let old = c.args.rows.now.elements in
    let width = ap (λ (r : RowsAt). r.width) c.self.view_is in
    on_ok_weaker c.push_all.result
    (λ is. is
    ∙ ap (λ (w : ℕ). old ++ elements_at c.args.instant (rows_in w c.deref.result.now c.deref-2.result.now)) (c.requires ∙ sym width)
    ∙ ap₂ (λ (ns : List ℕ) (vs : List (Option ℤ)). old ++ elements_at c.args.instant (rows_in o.width ns vs)) c.deref.ensures.value c.deref-2.ensures.value
    ∙ ap (λ (r : RowsAt). old ++ elements_at c.args.instant r.rows) c.self.view_is) c.push_all.ensures.ok
