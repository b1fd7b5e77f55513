use Rattle.std.proofs.Common.{◌≡◌, ◌∙◌, ◌*◌, ◌∷◌, ◌++◌, [], ap, arith, drop, length, length-drop, refl, take, ℕ, ℤ, List, Option}
use Rattle.std.proofs.lemmas.List.{length-take-le}
use Rattle.stream_store.specs.Arrivals.{Arrived}
use Rattle.stream_store.proofs.ArrivalLemmas.{arrived-one, is_longer, same_lists}
use Rattle.stream_store.proofs.arrivals.Arrivals.push.Goals as goal

pub invariant_of-self-2 : goal.invariant_of-self-2
invariant_of-self-2 c =
    let a = c.self.inside in
    let list = c.args.values.now.items in
    let row = take a.width (drop c.args.start list) in
    let width = ap (λ (r : Arrived). r.width) c.self.view_is in
    let wide : length row ≡ a.width = length-take-le a.width (drop c.args.start list) (omega (arith, length-drop c.args.start list, width, c.requires)) in
    let is = c.push_reserved.ensures.items ∙ ap (λ (ts : List ℕ). ts ++ c.args.instant ∷ []) c.in_ok-reserve.ensures.items in
    let counted = c.push_reserved-2.ensures.items ∙ ap (λ (ns : List ℕ). ns ++ c.args.number ∷ []) c.in_ok-reserve-2.ensures.items in
    let valued = c.push_from.ensures ∙ ap (λ (vs : List (Option ℤ)). vs ++ row) c.in_ok-reserve-3.ensures.items in
    let one : a.width ≡ 1 * a.width = omega arith in
    is_longer a.width 1 a.instants.items (c.args.instant ∷ []) c.push_reserved.new.self.items a.numbers.items (c.args.number ∷ []) c.push_reserved-2.new.self.items a.values.items row c.push_from.new.values.items
    c.self.invariant refl refl (wide ∙ one) is counted valued

pub returns-clause-ok : goal.returns-clause-ok
returns-clause-ok c =
    let a = c.self.inside in
    let list = c.args.values.now.items in
    let row = take a.width (drop c.args.start list) in
    let width = ap (λ (r : Arrived). r.width) c.self.view_is in
    let wide : length row ≡ a.width = length-take-le a.width (drop c.args.start list) (omega (arith, length-drop c.args.start list, width, c.requires)) in
    let is = c.push_reserved.ensures.items ∙ ap (λ (ts : List ℕ). ts ++ c.args.instant ∷ []) c.in_ok-reserve.ensures.items in
    let counted = c.push_reserved-2.ensures.items ∙ ap (λ (ns : List ℕ). ns ++ c.args.number ∷ []) c.in_ok-reserve-2.ensures.items in
    let valued = c.push_from.ensures ∙ ap (λ (vs : List (Option ℤ)). vs ++ row) c.in_ok-reserve-3.ensures.items in
    same_lists a.width (a.instants.items ++ c.args.instant ∷ []) c.push_reserved.new.self.items (a.numbers.items ++ c.args.number ∷ []) c.push_reserved-2.new.self.items (a.values.items ++ row) c.push_from.new.values.items is counted valued
    ∙ arrived-one a.width a.instants.items a.numbers.items a.values.items c.self.invariant c.args.instant c.args.number row wide
    ∙ ap (λ (r : Arrived). r.elements ++ record { arrival = c.args.number; instant = c.args.instant; row = take r.width (drop c.args.start list) } ∷ []) c.self.view_is
