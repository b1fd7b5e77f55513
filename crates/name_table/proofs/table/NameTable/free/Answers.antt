use Rattle.std.proofs.Common.{◌≡◌, ◌∙◌, sym, ap, subst, ℕ, List, Option, None, Some, position, slice_get, slice_set}
use Rattle.std.specs.Map.{keys_of}
use Rattle.std.specs.List.Sorted.{IsStrictlySortedBy}
use Rattle.std.specs.Option.{IfNone}
use Rattle.std.specs.String.{string_cmp}
use Rattle.name_table.specs.Names.{bears}
use Rattle.name_table.specs.Entries.{IsTable, names_in}
use Rattle.name_table.proofs.EntryLemmas.{Key, found}
use Rattle.name_table.proofs.TableLemmas.{first_number, number-of, names-remove_entry, table-remove_entry}
use Rattle.name_table.proofs.table.NameTable.free.Goals as goal

pub invariant_of-self : goal.invariant_of-self
invariant_of-self c =
    let e = c.remove.ensures.entries in
    let count = c.self.inside.count in
    subst (λ (es : List (Key × ℕ)). IsTable count es) (sym e)
    (table-remove_entry c.args.name.now count c.self.inside.numbers.entries c.self.invariant (subst (λ (es : List (Key × ℕ)). IsStrictlySortedBy string_cmp (keys_of es)) e c.remove.ensures.ordered))

pub returns-clause-freed : goal.returns-clause-freed
returns-clause-freed c = λ number h.
    let count = c.self.inside.count in
    let es = c.self.inside.numbers.entries in
    let g = number-of c.args.name.now count number es c.self.invariant (subst (λ (xs : List (Option (List ℕ))). slice_get xs number ≡ Some (Some c.args.name.now)) (sym c.self.view_is) h) in
    ap (λ (es : List (Key × ℕ)). names_in count es) c.remove.ensures.entries
    ∙ names-remove_entry c.args.name.now count number es c.self.invariant g
    ∙ ap (λ (xs : List (Option (List ℕ))). slice_set xs number None) c.self.view_is

pub returns-clause-unknown : goal.returns-clause-unknown
returns-clause-unknown c = λ h.
    let count = c.self.inside.count in
    let es = c.self.inside.numbers.entries in
    let none : found c.args.name.now es ≡ None =
    sym (first_number c.args.name.now count es c.self.invariant) ∙ ap (λ (xs : List (Option (List ℕ))). position (bears c.args.name.now) xs) c.self.view_is ∙ h in
    let same = subst (λ (r : Option ℕ). IfNone r (c.remove.new.self.entries ≡ es)) (c.remove.ensures.value ∙ none) c.remove.ensures.unchanged in
    ap (λ (es : List (Key × ℕ)). names_in count es) same ∙ c.self.view_is
