-- What an operator's state says of instants at which it has nothing to do.
use Rattle.std.proofs.Common.{◌≡◌, ℕ, ◌+◌, ◌-◌, ◌<◌, ◌≤◌, ◌^◌, Bool, List, [], ◌∷◌, ◌++◌, map, refl, sym, ap, ◌∙◌, subst, arith, append-nil}
use Rattle.values.specs.Row.{Row, row_cmp}
use Rattle.values.specs.Window.{Element, Window, window_rows}
use Rattle.values.specs.Bag.{in_order}
use Rattle.values.specs.Answers.{streamed}
use Rattle.values.specs.StreamOperators.{operator_of}
use Rattle.values.proofs.Order.{row_order}
use Rattle.values.proofs.Windows.{AllAfter, window_rows-later}
use Rattle.op_queue.specs.Entries.{Entry}
use Rattle.op_queue.specs.Signed.{weigh, Same, Turns}
use Rattle.op_queue.specs.declared.item.Item.TheVariants.{Tick}
use Rattle.op_queue.proofs.SignedLemmas.{Same-from_none, Same-refl, Same-sym, Same-trans}
use Rattle.row_bags.specs.Deltas.{PlainDelta}
use Rattle.row_bags.specs.Lists.{renewed}
use Rattle.row_bags.proofs.DeltaLaws.{delta_between-none}
use Rattle.row_bags.proofs.ListLaws.{renewed-between}
use Rattle.row_bags.proofs.OrderLemmas.{Same-in_order}
use Rattle.group.specs.Groups.{grouped}
use Rattle.group.specs.Turns as group
use Rattle.group.specs.Laws as laws
use Rattle.group.proofs.LawLemmas.{outputs_turn}
use Rattle.to_stream.specs.Turns.{State, shown, ticked}
use Rattle.to_stream.specs.Law.{Stands}
use Rattle.to_stream.proofs.StepLemmas.{step_law}
use Rattle.windows.proofs.WindowLemmas.{Each_append, Each_map}
use Rattle.laws_dataflow.specs.Windows.{opened, AreFrom, GoodWindow}
use Rattle.laws_dataflow.specs.Passes.{Clears, Silent, Moved}
use Rattle.laws_dataflow.proofs.BagLemmas.{same_of}
use Rattle.laws_dataflow.proofs.PassLemmas.{brings_on}
use Rattle.laws_dataflow.proofs.RootLemmas.{listed_same}
use Rattle.laws_dataflow.proofs.WindowLemmas.{Brings_from, opened_from}

-- WINDOWS
-- while its queue brings nothing, its input shows what it holds shows
all_later : (n : ℕ) (es : List Element) → AreFrom (n + 1) es → AllAfter n es
all_later n [] h = tt
all_later n (e ∷ es) h = (omega (arith, h.0), all_later n es h.1)

pub shows_held : (first : ℕ) (w : Window) (input : List Element) (c : ℕ) (held waiting : List Element) (n b : ℕ) (q r : List (Entry Row)) → n ≤ b → b ≤ c → Clears b n q r → GoodWindow first w input c held waiting n q
    → (t : ℕ) → n ≤ t → t < b → Same (window_rows first w t input) (window_rows first w t held)
shows_held first w input c held waiting n b q r le lc clears g t x y =
    Same-trans (same_of (ap (window_rows first w t) (sym (append-nil input))))
    (Same-trans (g.stands t [] tt x) (same_of (window_rows-later first w t held (waiting ++ (opened c input ++ [])) (all_later t (waiting ++ (opened c input ++ [])) later))))
  where
    later : AreFrom (t + 1) (waiting ++ (opened c input ++ []))
    later = Each_append (λ e. t + 1 ≤ e.instant) waiting (opened c input ++ [])
        (Each_map (λ e. b ≤ e.instant) (λ e. t + 1 ≤ e.instant) (λ e i. omega (arith, i, y)) waiting (Brings_from b r waiting c (brings_on b n c q r waiting le lc clears g.brings)))
        (Each_append (λ e. t + 1 ≤ e.instant) (opened c input) [] (Each_map (λ e. c ≤ e.instant) (λ e. t + 1 ≤ e.instant) (λ e i. omega (arith, i, y, lc)) (opened c input) (opened_from c input)) tt)

-- GROUPS, and Distinct: no group was touched since the last tick
pub group_quiet : (s : group.GroupState) (o i : List Row) → laws.Stands s o i → weigh (λ x. 1) i ≤ 2 ^ 62 → s.touched ≡ [] → Same o (grouped s.group i)
group_quiet s o i st few e =
    let P : List (Bool × Row) → Type 0 = λ ys. Turns o ys (grouped s.group i) in
    Same-from_none (subst P (ap (λ (ks : List Rattle.group.specs.Cells.Held). group.outputs s.group (group.near_at s.group.items s.cells ks)) e) (outputs_turn s o i st few)).adds

-- THE ROOT: nothing has entered or left, and it shows nothing
nothing_mapped : {A B : Type 0} (f : A → B) (xs : List A) → [] ≡ map f xs → xs ≡ []
nothing_mapped f [] e = refl
nothing_mapped f (x ∷ xs) e = absurd (cc (e))

pub root_silent : (s : State) (last whole : List Row) → Stands s last whole → s.delta ≡ record { entered = []; left = [] } → shown s.operator s.delta s.whole ≡ [] → Silent s last whole
root_silent s last whole h d n =
    let empty : PlainDelta = record { entered = []; left = [] } in
    let one : renewed (in_order row_cmp last) empty ≡ in_order row_cmp whole = ap (renewed (in_order row_cmp last)) (sym d ∙ h.delta) ∙ renewed-between last whole in
    let two : renewed (in_order row_cmp last) empty ≡ in_order row_cmp last = ap (renewed (in_order row_cmp last)) (sym (delta_between-none last)) ∙ renewed-between last last in
    let same : Same last whole = Same-trans (Same-sym (Same-in_order row_cmp row_order last)) (Same-trans (same_of (sym two ∙ one)) (Same-in_order row_cmp row_order whole)) in
    record {
      unchanged = same;
      gives = listed_same (operator_of s.operator) whole whole last whole (Same-sym same) (Same-refl whole)
          ∙ nothing_mapped (λ (r : Row). (0, r)) (in_order row_cmp (streamed (operator_of s.operator) last whole)) (sym (ap (map (λ (r : Row). (0, r))) n) ∙ (step_law s (Tick 0) last whole h).0);
    }

pub root_moved : (s : State) (b : ℕ) (last whole : List Row) → Stands s last whole → Moved s b whole (ticked s (b - 1))
root_moved s b last whole h = record { operator = refl; last = refl; stands = (step_law s (Tick (b - 1)) last whole h).1 }
