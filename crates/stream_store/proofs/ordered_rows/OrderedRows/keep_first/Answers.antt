use Rattle.std.proofs.Common.{◌≤◌, refl, sym, ap, subst, arith, length, take, ℤ, Option, List}
use Rattle.std.specs.List.{AllByRecursion}
use Rattle.values.specs.Window.{Element}
use Rattle.stream_store.specs.declared.ordered_rows.OrderedHead.{OrderedHead}
use Rattle.stream_store.specs.OpenRows.{RisenRows, IsRisen, risen_in}
use Rattle.stream_store.proofs.RisingLemmas.{values_fit, risen_first, risen-take}
use Rattle.stream_store.proofs.ordered_rows.OrderedRows.keep_first.Goals as goal

pub overflow_mul-count : goal.overflow_mul-count
overflow_mul-count c =
    let o = c.self.inside in
    let rows = ap (λ (r : RisenRows). length r.rows) c.self.view_is in
    let le : c.args.count ≤ length (risen_in o.width o.heads.items o.values.items) = omega (arith, rows, c.requires.some) in
    omega (arith, values_fit o.width o.reached o.heads.items o.values.items c.self.invariant c.args.count le)

pub invariant_of-self : goal.invariant_of-self
invariant_of-self c =
    let o = c.self.inside in
    let rows = ap (λ (r : RisenRows). length r.rows) c.self.view_is in
    let le : c.args.count ≤ length (risen_in o.width o.heads.items o.values.items) = omega (arith, rows, c.requires.some) in
    let low = subst (λ (r : RisenRows). AllByRecursion (λ (e : Element). e.instant ≤ c.args.reached) (take c.args.count r.rows)) (sym c.self.view_is) c.requires.within in
    subst (λ (hs : List OrderedHead). IsRisen o.width c.args.reached hs c.truncate-2.new.self.items) (sym c.truncate.ensures.items)
    (subst (λ (vs : List (Option ℤ)). IsRisen o.width c.args.reached (take c.args.count o.heads.items) vs) (sym c.truncate-2.ensures.items)
    (risen_first o.width o.reached o.heads.items o.values.items c.self.invariant c.args.count c.args.reached le low))

pub returns : goal.returns
returns c =
    let o = c.self.inside in
    rw (c.truncate.ensures.items, c.truncate-2.ensures.items, risen-take, ← c.self.view_is) refl
