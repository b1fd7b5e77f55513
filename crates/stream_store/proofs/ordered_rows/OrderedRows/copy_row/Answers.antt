use Rattle.std.proofs.Common.{◌≡◌, ◌<◌, ◌∙◌, ◌*◌, ◌∷◌, ◌++◌, [], ap, arith, drop, length, sym, take, ℕ}
use Rattle.std.proofs.lemmas.Result.{on_ok_weaker}
use Rattle.values.specs.Window.{Element}
use Rattle.stream_store.specs.OpenRows.{RisenRows, risen_in}
use Rattle.stream_store.proofs.RisingLemmas.{element_at, row_fits, shown_len}
use Rattle.stream_store.proofs.ordered_rows.OrderedRows.copy_row.Goals as goal

pub index-head-requires : goal.index-head-requires
index-head-requires c =
    let o = c.self.inside in
    let len = shown_len o.width o.reached o.heads.items o.values.items c.self.invariant c.args.self.now.rows (ap (λ (r : RisenRows). r.rows) c.self.view_is) in
    omega (arith, len, c.requires.place, o.heads.ok)

pub overflow_mul-place : goal.overflow_mul-place
overflow_mul-place c =
    let o = c.self.inside in
    let rows = ap (λ (r : RisenRows). length r.rows) c.self.view_is in
    let lt : c.args.place < length (risen_in o.width o.heads.items o.values.items) = omega (arith, rows, c.requires.place) in
    omega (arith, row_fits o.width o.reached o.heads.items o.values.items c.self.invariant c.args.place lt)

pub push-requires : goal.push-requires
push-requires c =
    let o = c.self.inside in
    let rows = ap (λ (r : RisenRows). length r.rows) c.self.view_is in
    let lt : c.args.place < length (risen_in o.width o.heads.items o.values.items) = omega (arith, rows, c.requires.place) in
    let width : c.args.rows.now.width ≡ o.width = c.requires.width ∙ sym (ap (λ (r : RisenRows). r.width) c.self.view_is) in
    omega (arith, row_fits o.width o.reached o.heads.items o.values.items c.self.invariant c.args.place lt, width)

pub returns-clause-copy : goal.returns-clause-copy
returns-clause-copy c =
    let o = c.self.inside in
    let h = c.index-head.result.now in
    let old = c.args.rows.now.elements in
    let width : c.args.rows.now.width ≡ o.width = c.requires.width ∙ sym (ap (λ (r : RisenRows). r.width) c.self.view_is) in
    let row = λ (w : ℕ). take w (drop (c.args.place * o.width) o.values.items) in
    on_ok_weaker c.push.result
    (λ is e. is
    ∙ ap (λ (w : ℕ). old ++ record { arrival = h.number; instant = c.instant.result; row = row w } ∷ []) width
    ∙ ap (λ (x : Element). old ++ x ∷ [])
    (element_at o.width o.reached o.heads.items o.values.items c.self.invariant c.args.self.now.rows (ap (λ (r : RisenRows). r.rows) c.self.view_is) c.args.place h c.instant.result e c.requires.place c.index-head.ensures c.instant.ensures)) c.push.ensures.ok
