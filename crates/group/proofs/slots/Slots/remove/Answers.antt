use Rattle.std.proofs.Common.{true, ◌≡◌, ◌∙◌, ℕ, List, Some, ap, sym, subst, rules}
use Rattle.std.specs.BTreeMap.{is_at}
use Rattle.std.specs.Map.{keys_of, lookup, remove_entry}
use Rattle.std.specs.List.Sorted.{IsStrictlySortedBy}
use Rattle.std.specs.Option.{is_some}
use Rattle.group.specs.Places.{at_place}
use Rattle.group.specs.Cells.{Held, held_cmp}
use Rattle.group.specs.Slots.{IsPlaced, SlotsState, held_at}
use Rattle.group.proofs.SlotLemmas.{held-remove, held_went, occupied, placed_went}
use Rattle.group.proofs.slots.Slots.remove.Goals as goal

pub free-requires : goal.free-requires
free-requires g c =
    let k : Held = c.args.key.now in
    let ps : List (Held × ℕ) = c.self.inside.places.entries in
    let found : lookup (is_at (held_cmp k)) ps ≡ Some c.in-Some.place = sym c.in-Some.ensures.value in
    let there : is_some (at_place c.self.inside.slots c.in-Some.place) ≡ true = occupied (at_place c.self.inside.slots c.in-Some.place) k (c.self.invariant.there k c.in-Some.place found) in
    search rules

pub invariant_of-self : goal.invariant_of-self
invariant_of-self g c =
    let k : Held = c.args.key.now in
    let ps : List (Held × ℕ) = c.self.inside.places.entries in
    let found : lookup (is_at (held_cmp k)) ps ≡ Some c.in-Some.place = sym c.in-Some.ensures.value in
    let sorted : IsStrictlySortedBy held_cmp (keys_of (remove_entry (is_at (held_cmp k)) ps)) = subst (λ (qs : List (Held × ℕ)). IsStrictlySortedBy held_cmp (keys_of qs)) c.remove.ensures.entries c.remove.ensures.ordered in
    subst (λ (qs : List (Held × ℕ)). IsPlaced g.row.N qs (at_place c.free.new.self)) (sym c.remove.ensures.entries)
    (placed_went g.row.N ps (at_place c.self.inside.slots) (at_place c.free.new.self) k c.in-Some.place c.self.invariant sorted found c.free.ensures.gone c.free.ensures.others)

pub returns-in-Some : goal.returns-in-Some
returns-in-Some g c =
    let k : Held = c.args.key.now in
    let ps : List (Held × ℕ) = c.self.inside.places.entries in
    let found : lookup (is_at (held_cmp k)) ps ≡ Some c.in-Some.place = sym c.in-Some.ensures.value in
    let sorted : IsStrictlySortedBy held_cmp (keys_of (remove_entry (is_at (held_cmp k)) ps)) = subst (λ (qs : List (Held × ℕ)). IsStrictlySortedBy held_cmp (keys_of qs)) c.remove.ensures.entries c.remove.ensures.ordered in
    ap (held_at (at_place c.free.new.self)) c.remove.ensures.entries
    ∙ held_went g.row.N ps (at_place c.self.inside.slots) (at_place c.free.new.self) k c.in-Some.place c.self.invariant sorted found c.free.ensures.others
    ∙ ap (λ (s : SlotsState). remove_entry (is_at (held_cmp k)) s.entries) c.self.view_is

pub returns-in_default : goal.returns-in_default
returns-in_default g c =
    let k : Held = c.args.key.now in
    let ps : List (Held × ℕ) = c.self.inside.places.entries in
    ap (held_at (at_place c.self.inside.slots)) c.remove.ensures.entries
    ∙ held-remove (at_place c.self.inside.slots) (is_at (held_cmp k)) ps
    ∙ ap (λ (s : SlotsState). remove_entry (is_at (held_cmp k)) s.entries) c.self.view_is
