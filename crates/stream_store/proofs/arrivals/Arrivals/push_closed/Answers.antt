use Rattle.std.proofs.Common.{◌≡◌, ◌∙◌, ◌*◌, ◌∷◌, ◌++◌, [], ap, arith, get_or, length, refl, sym, ℕ, ℤ, List, Option}
use Rattle.values.specs.Row.{Row}
use Rattle.values.specs.Window.{Element}
use Rattle.stream_store.specs.Arrivals.{Arrived}
use Rattle.stream_store.proofs.ArrivalLemmas.{arrived-one, is_longer, same_lists}
use Rattle.stream_store.proofs.CopyLemmas.{element_shown}
use Rattle.stream_store.proofs.arrivals.Arrivals.push_closed.Goals as goal

pub invariant_of-self-2 : goal.invariant_of-self-2
invariant_of-self-2 c =
    let a = c.self.inside in
    let e : Element = record { arrival = 0; instant = 0; row = [] } in
    let row : Row = (get_or c.args.log.now.elements c.args.place e).row in
    let t : ℕ = get_or c.instants.result.now c.args.place 0 in
    let n : ℕ = get_or c.numbers.result.now c.args.place 0 in
    let width = ap (λ (r : Arrived). r.width) c.self.view_is in
    let wide : length row ≡ a.width = c.requires.wide c.args.place e c.requires.place ∙ sym width in
    let is = c.push_reserved.ensures.items ∙ ap (λ (ts : List ℕ). ts ++ t ∷ []) c.in_ok-reserve.ensures.items in
    let counted = c.push_reserved-2.ensures.items ∙ ap (λ (ns : List ℕ). ns ++ n ∷ []) c.in_ok-reserve-2.ensures.items in
    let valued = c.push_row.ensures e ∙ ap (λ (vs : List (Option ℤ)). vs ++ row) c.in_ok-reserve-3.ensures.items in
    let one : a.width ≡ 1 * a.width = omega arith in
    is_longer a.width 1 a.instants.items (t ∷ []) c.push_reserved.new.self.items a.numbers.items (n ∷ []) c.push_reserved-2.new.self.items a.values.items row c.push_row.new.values.items
    c.self.invariant refl refl (wide ∙ one) is counted valued

pub returns-clause-ok : goal.returns-clause-ok
returns-clause-ok c = λ e.
    let a = c.self.inside in
    let row : Row = (get_or c.args.log.now.elements c.args.place e).row in
    let t : ℕ = get_or c.instants.result.now c.args.place 0 in
    let n : ℕ = get_or c.numbers.result.now c.args.place 0 in
    let width = ap (λ (r : Arrived). r.width) c.self.view_is in
    let wide : length row ≡ a.width = c.requires.wide c.args.place e c.requires.place ∙ sym width in
    let is = c.push_reserved.ensures.items ∙ ap (λ (ts : List ℕ). ts ++ t ∷ []) c.in_ok-reserve.ensures.items in
    let counted = c.push_reserved-2.ensures.items ∙ ap (λ (ns : List ℕ). ns ++ n ∷ []) c.in_ok-reserve-2.ensures.items in
    let valued = c.push_row.ensures e ∙ ap (λ (vs : List (Option ℤ)). vs ++ row) c.in_ok-reserve-3.ensures.items in
    let shown = element_shown c.args.log.now.elements c.args.place e c.instants.result.now c.numbers.result.now c.requires.place c.instants.ensures c.numbers.ensures in
    same_lists a.width (a.instants.items ++ t ∷ []) c.push_reserved.new.self.items (a.numbers.items ++ n ∷ []) c.push_reserved-2.new.self.items (a.values.items ++ row) c.push_row.new.values.items is counted valued
    ∙ arrived-one a.width a.instants.items a.numbers.items a.values.items c.self.invariant t n row wide
    ∙ ap (λ (r : Arrived). r.elements ++ record { arrival = n; instant = t; row = row } ∷ []) c.self.view_is
    ∙ ap (λ (g : Element). c.args.self.now.elements ++ g ∷ []) shown
