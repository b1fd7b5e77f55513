use Rattle.std.proofs.Common.{◌≡◌, ◌≢◌, ◌∙◌, ℕ, List, Option, None, Some, ap, sym, subst}
use Rattle.std.specs.BTreeMap.{is_at, insert_entry}
use Rattle.std.specs.Map.{keys_of, lookup}
use Rattle.std.specs.List.Sorted.{IsStrictlySortedBy}
use Rattle.group.specs.Cells.{Held, held_cmp, CellState}
use Rattle.group.specs.Places.{at_place}
use Rattle.group.specs.Slots.{IsPlaced, SlotsState, held_at}
use Rattle.group.specs.Turns.{has_key}
use Rattle.group.proofs.SlotLemmas.{held_came, none_held, placed_came}
use Rattle.group.proofs.slots.Slots.insert.Goals as goal

pub invariant_of-self-2 : goal.invariant_of-self-2
invariant_of-self-2 g c =
    let k : Held = c.args.key.now in
    let ps : List (Held × ℕ) = c.self.inside.places.entries in
    let f : ℕ → Option (Held × CellState) = at_place c.self.inside.slots in
    let h : ℕ → Option (Held × CellState) = at_place c.put.new.self in
    let p = c.in_ok-place.place in
    let free : f p ≡ None = sym (c.in_ok-place.ensures.same p) ∙ c.in_ok-place.ensures.vacant in
    let now : h p ≡ Some (k, c.args.cell) = c.put.ensures.now ∙ ap Some (c.new.ensures ∙ ap (λ (q : Held). (q, c.args.cell)) c.copied-2.ensures) in
    let others : (q : ℕ) → q ≢ p → h q ≡ f q = λ q no. c.put.ensures.others q no ∙ c.in_ok-place.ensures.same q in
    let came : c.insert.new.self.entries ≡ insert_entry held_cmp ps k p = c.in_ok-insert.ensures.entries ∙ ap (λ (j : Held). insert_entry held_cmp ps j p) c.copied.ensures in
    let new : lookup (is_at (held_cmp k)) ps ≡ None = none_held f ps k (ap (λ (s : SlotsState). has_key k s.entries) c.self.view_is ∙ c.requires.new) in
    let sorted : IsStrictlySortedBy held_cmp (keys_of (insert_entry held_cmp ps k p)) = subst (λ (qs : List (Held × ℕ)). IsStrictlySortedBy held_cmp (keys_of qs)) came c.in_ok-insert.ensures.ordered in
    subst (λ (qs : List (Held × ℕ)). IsPlaced g.row.N qs h) (sym came)
    (placed_came g.row.N ps f h k p c.args.cell c.self.invariant sorted c.requires.fits new free now others)

pub returns-clause-ok : goal.returns-clause-ok
returns-clause-ok g c =
    let k : Held = c.args.key.now in
    let ps : List (Held × ℕ) = c.self.inside.places.entries in
    let f : ℕ → Option (Held × CellState) = at_place c.self.inside.slots in
    let h : ℕ → Option (Held × CellState) = at_place c.put.new.self in
    let p = c.in_ok-place.place in
    let free : f p ≡ None = sym (c.in_ok-place.ensures.same p) ∙ c.in_ok-place.ensures.vacant in
    let now : h p ≡ Some (k, c.args.cell) = c.put.ensures.now ∙ ap Some (c.new.ensures ∙ ap (λ (q : Held). (q, c.args.cell)) c.copied-2.ensures) in
    let others : (q : ℕ) → q ≢ p → h q ≡ f q = λ q no. c.put.ensures.others q no ∙ c.in_ok-place.ensures.same q in
    let came : c.insert.new.self.entries ≡ insert_entry held_cmp ps k p = c.in_ok-insert.ensures.entries ∙ ap (λ (j : Held). insert_entry held_cmp ps j p) c.copied.ensures in
    ap (held_at h) came
    ∙ held_came g.row.N ps f h k p c.args.cell c.self.invariant free now others
    ∙ ap (λ (s : SlotsState). insert_entry held_cmp s.entries k c.args.cell) c.self.view_is
