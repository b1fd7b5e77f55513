use Rattle.std.proofs.Common.{true, false, ◌≡◌, ◌∙◌, ℕ, List, Option, None, Some, ap, length, sym, subst, rules}
use Rattle.std.specs.BTreeMap.{is_at}
use Rattle.std.specs.Map.{lookup}
use Rattle.std.specs.Option.{is_some}
use Rattle.std.specs.Result.{IfOk, OnOk}
use Rattle.group.specs.Cells.{Held, held, held_cmp, CellState, cell_zero}
use Rattle.group.specs.Places.{at_place}
use Rattle.group.specs.Plans.{plan_of}
use Rattle.group.specs.Runs.{put_out}
use Rattle.group.specs.Slots.{SlotsState}
use Rattle.group.specs.Turns.{cell_of, has_key}
use Rattle.group.proofs.RunLemmas.{cell_absent}
use Rattle.group.proofs.SlotLemmas.{absent-held, cell-held, occupied}
use Rattle.group.proofs.slots.Slots.plan.Goals as goal

pub cell-cell-requires : goal.cell-cell-requires
cell-cell-requires g c =
    let k : Held = c.args.key.now in
    let f : ℕ → Option (Held × CellState) = at_place c.self.inside.slots in
    let found : lookup (is_at (held_cmp k)) c.self.inside.places.entries ≡ Some c.in-Some.place = sym c.in-Some.ensures in
    let there : is_some (at_place c.self.inside.slots c.in-Some.place) ≡ true = occupied (f c.in-Some.place) k (c.self.invariant.there k c.in-Some.place found) in
    search rules

pub returns-in-Some-clause-plan : goal.returns-in-Some-clause-plan
returns-in-Some-clause-plan g c =
    let k : Held = c.args.key.now in
    let n : ℕ = length c.args.group.now.items in
    let ps : List (Held × ℕ) = c.self.inside.places.entries in
    let found : lookup (is_at (held_cmp k)) ps ≡ Some c.in-Some.place = sym c.in-Some.ensures in
    let same : c.cell-cell.result.now ≡ cell_of n k c.args.self.now.entries =
    c.cell-cell.ensures ∙ sym (cell-held n (at_place c.self.inside.slots) ps k c.in-Some.place found) ∙ ap (λ (s : SlotsState). cell_of n k s.entries) c.self.view_is in
    let P : Held → CellState → Type 0 = λ q d. IfOk c.plan.result (λ plan. plan ≡ plan_of c.args.group.now q d) in
    subst (P k) same (subst (λ (q : Held). P q c.cell-cell.result.now) (ap held c.values.ensures.value) c.plan.ensures.plan)

pub returns-in-Some-clause-rows : goal.returns-in-Some-clause-rows
returns-in-Some-clause-rows g c =
    let k : Held = c.args.key.now in
    let n : ℕ = length c.args.group.now.items in
    let ps : List (Held × ℕ) = c.self.inside.places.entries in
    let found : lookup (is_at (held_cmp k)) ps ≡ Some c.in-Some.place = sym c.in-Some.ensures in
    let same : c.cell-cell.result.now ≡ cell_of n k c.args.self.now.entries =
    c.cell-cell.ensures ∙ sym (cell-held n (at_place c.self.inside.slots) ps k c.in-Some.place found) ∙ ap (λ (s : SlotsState). cell_of n k s.entries) c.self.view_is in
    let P : Held → CellState → Type 0 = λ q d. OnOk c.plan.result (c.plan.new.rows ≡ put_out c.args.group.now q d c.args.rows.now) in
    subst (P k) same (subst (λ (q : Held). P q c.cell-cell.result.now) (ap held c.values.ensures.value) c.plan.ensures.rows)

pub returns-clause-plan : goal.returns-clause-plan
returns-clause-plan g c =
    let k : Held = c.args.key.now in
    let n : ℕ = length c.args.group.now.items in
    let none : lookup (is_at (held_cmp k)) c.self.inside.places.entries ≡ None = search rules in
    let new : has_key k c.args.self.now.entries ≡ false = ap (λ (s : SlotsState). has_key k s.entries) (sym c.self.view_is) ∙ ap is_some (absent-held (at_place c.self.inside.slots) c.self.inside.places.entries k none) in
    let fresh : c.new-cell.result ≡ cell_zero n = search rules in
    let same : c.new-cell.result ≡ cell_of n k c.args.self.now.entries = fresh ∙ sym (cell_absent n k c.args.self.now.entries new) in
    let P : Held → CellState → Type 0 = λ q d. IfOk c.plan-2.result (λ plan. plan ≡ plan_of c.args.group.now q d) in
    subst (P k) same (subst (λ (q : Held). P q c.new-cell.result) (ap held c.values-2.ensures.value) c.plan-2.ensures.plan)

pub returns-clause-rows : goal.returns-clause-rows
returns-clause-rows g c =
    let k : Held = c.args.key.now in
    let n : ℕ = length c.args.group.now.items in
    let none : lookup (is_at (held_cmp k)) c.self.inside.places.entries ≡ None = search rules in
    let new : has_key k c.args.self.now.entries ≡ false = ap (λ (s : SlotsState). has_key k s.entries) (sym c.self.view_is) ∙ ap is_some (absent-held (at_place c.self.inside.slots) c.self.inside.places.entries k none) in
    let fresh : c.new-cell.result ≡ cell_zero n = search rules in
    let same : c.new-cell.result ≡ cell_of n k c.args.self.now.entries = fresh ∙ sym (cell_absent n k c.args.self.now.entries new) in
    let P : Held → CellState → Type 0 = λ q d. OnOk c.plan-2.result (c.plan-2.new.rows ≡ put_out c.args.group.now q d c.args.rows.now) in
    subst (P k) same (subst (λ (q : Held). P q c.new-cell.result) (ap held c.values-2.ensures.value) c.plan-2.ensures.rows)
