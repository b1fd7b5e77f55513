use Rattle.std.proofs.Common.{◌∙◌, ◌*◌, ◌++◌, ap, length, refl, replicate, sym, ℕ, ℤ, List, Option}
use Rattle.std.proofs.lemmas.List.{length-replicate}
use Rattle.stream_store.specs.Arrivals.{Arrived}
use Rattle.stream_store.specs.LateRows.{rows_in}
use Rattle.stream_store.specs.Open.{elements_at}
use Rattle.stream_store.proofs.ArrivalLemmas.{arrived-run, is_longer, same_lists}
use Rattle.stream_store.proofs.arrivals.Arrivals.push_all.Goals as goal

pub invariant_of-self-2 : goal.invariant_of-self-2
invariant_of-self-2 c =
    let a = c.self.inside in
    let numbers = c.args.numbers.now in
    let values = c.args.values.now in
    let full = c.requires ∙ ap (λ (r : Arrived). length numbers * r.width) (sym c.self.view_is) in
    let is = c.push_instants.ensures ∙ ap (λ (ts : List ℕ). ts ++ replicate (length numbers) c.args.instant) c.in_ok-reserve.ensures.items in
    let counted = c.push_numbers.ensures ∙ ap (λ (ns : List ℕ). ns ++ numbers) c.in_ok-reserve-2.ensures.items in
    let valued = c.push_values.ensures ∙ ap (λ (vs : List (Option ℤ)). vs ++ values) c.in_ok-reserve-3.ensures.items in
    is_longer a.width (length numbers) a.instants.items (replicate (length numbers) c.args.instant) c.push_instants.new.instants.items a.numbers.items numbers c.push_numbers.new.numbers.items a.values.items values c.push_values.new.values.items
    c.self.invariant (length-replicate (length numbers) c.args.instant) refl full is counted valued

pub returns-clause-ok : goal.returns-clause-ok
returns-clause-ok c =
    let a = c.self.inside in
    let numbers = c.args.numbers.now in
    let values = c.args.values.now in
    let full = c.requires ∙ ap (λ (r : Arrived). length numbers * r.width) (sym c.self.view_is) in
    let is = c.push_instants.ensures ∙ ap (λ (ts : List ℕ). ts ++ replicate (length numbers) c.args.instant) c.in_ok-reserve.ensures.items in
    let counted = c.push_numbers.ensures ∙ ap (λ (ns : List ℕ). ns ++ numbers) c.in_ok-reserve-2.ensures.items in
    let valued = c.push_values.ensures ∙ ap (λ (vs : List (Option ℤ)). vs ++ values) c.in_ok-reserve-3.ensures.items in
    same_lists a.width (a.instants.items ++ replicate (length numbers) c.args.instant) c.push_instants.new.instants.items (a.numbers.items ++ numbers) c.push_numbers.new.numbers.items (a.values.items ++ values) c.push_values.new.values.items is counted valued
    ∙ arrived-run a.width a.instants.items a.numbers.items a.values.items c.self.invariant c.args.instant numbers values
    ∙ ap (λ (r : Arrived). r.elements ++ elements_at c.args.instant (rows_in r.width numbers values)) c.self.view_is
