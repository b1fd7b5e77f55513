use Rattle.std.proofs.Common.{◌≤◌, ◌∙◌, sym, ap, subst, arith, length, drop, ℤ, Option, List}
use Rattle.stream_store.specs.declared.ordered_rows.OrderedHead.{OrderedHead}
use Rattle.stream_store.specs.OpenRows.{RisenRows, IsRisen, risen_in}
use Rattle.stream_store.proofs.RisingLemmas.{values_fit, risen_rest, risen-drop}
use Rattle.stream_store.proofs.ordered_rows.OrderedRows.drop_up_to.Goals as goal

pub overflow_mul-count : goal.overflow_mul-count
overflow_mul-count c =
    let o = c.self.inside in
    let rows = ap (λ (r : RisenRows). length r.rows) c.self.view_is in
    let le : c.place_past-count.result ≤ length (risen_in o.width o.heads.items o.values.items) = omega (arith, rows, c.place_past-count.ensures.within) in
    omega (arith, values_fit o.width o.reached o.heads.items o.values.items c.self.invariant c.place_past-count.result le)

pub invariant_of-self : goal.invariant_of-self
invariant_of-self c =
    let o = c.self.inside in
    let k = c.place_past-count.result in
    let rows = ap (λ (r : RisenRows). length r.rows) c.self.view_is in
    let le : k ≤ length (risen_in o.width o.heads.items o.values.items) = omega (arith, rows, c.place_past-count.ensures.within) in
    subst (λ (hs : List OrderedHead). IsRisen o.width o.reached hs c.leave_values.new.values.items) (sym c.leave_heads.ensures)
    (subst (λ (vs : List (Option ℤ)). IsRisen o.width o.reached (drop k o.heads.items) vs) (sym c.leave_values.ensures)
    (risen_rest o.width o.reached o.heads.items o.values.items c.self.invariant k le))

pub returns-clause-rows : goal.returns-clause-rows
returns-clause-rows c =
    let o = c.self.inside in
    let k = c.place_past-count.result in
    ap (λ (hs : List OrderedHead). risen_in o.width hs c.leave_values.new.values.items) c.leave_heads.ensures
    ∙ ap (λ (vs : List (Option ℤ)). risen_in o.width (drop k o.heads.items) vs) c.leave_values.ensures
    ∙ risen-drop o.width k o.heads.items o.values.items
    ∙ ap (λ (r : RisenRows). drop k r.rows) c.self.view_is
    ∙ c.place_past-count.ensures.behind
