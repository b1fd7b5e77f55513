use Rattle.std.proofs.Common.{◌≡◌, ◌∙◌, ◌+◌, ◌++◌, ◌∷◌, [], sym, ap, subst, ℕ, List, Option, None, Some, position, length, arith, string_bytes}
use Rattle.std.specs.Map.{keys_of}
use Rattle.std.specs.List.Sorted.{IsStrictlySortedBy}
use Rattle.std.specs.String.{string_cmp}
use Rattle.name_table.specs.Names.{bears}
use Rattle.name_table.specs.Entries.{IsTable, names_in}
use Rattle.name_table.proofs.EntryLemmas.{Key, found}
use Rattle.name_table.proofs.TableLemmas.{length-names, first_number, names-insert_entry, table-insert_entry}
use Rattle.name_table.proofs.table.NameTable.push.Goals as goal

pub overflow_add-self : goal.overflow_add-self
overflow_add-self c = omega (arith, length-names c.self.inside.count c.self.inside.numbers.entries, ap (λ xs. length xs) c.self.view_is, c.requires.room)

pub invariant_of-self-2 : goal.invariant_of-self-2
invariant_of-self-2 c =
    let e = c.in_ok-insert.ensures.entries in
    let count = c.self.inside.count in
    let es = c.self.inside.numbers.entries in
    let none : found (string_bytes c.in_ok-name.name) es ≡ None =
    ap (λ (z : List ℕ). found z es) c.in_ok-name.ensures.ok ∙ sym (first_number c.args.name.now count es c.self.invariant)
    ∙ ap (λ (xs : List (Option (List ℕ))). position (bears c.args.name.now) xs) c.self.view_is ∙ c.requires.fresh in
    subst (λ (es : List (Key × ℕ)). IsTable (count + 1) es) (sym e)
    (table-insert_entry c.in_ok-name.name count es c.self.invariant none (subst (λ (es : List (Key × ℕ)). IsStrictlySortedBy string_cmp (keys_of es)) e c.in_ok-insert.ensures.ordered))

pub returns-clause-ok : goal.returns-clause-ok
returns-clause-ok c =
    let e = c.in_ok-insert.ensures.entries in
    let count = c.self.inside.count in
    let es = c.self.inside.numbers.entries in
    let none : found (string_bytes c.in_ok-name.name) es ≡ None =
    ap (λ (z : List ℕ). found z es) c.in_ok-name.ensures.ok ∙ sym (first_number c.args.name.now count es c.self.invariant)
    ∙ ap (λ (xs : List (Option (List ℕ))). position (bears c.args.name.now) xs) c.self.view_is ∙ c.requires.fresh in
    ap (λ (es : List (Key × ℕ)). names_in (count + 1) es) e ∙ names-insert_entry c.in_ok-name.name count es c.self.invariant none
    ∙ ap (λ (xs : List (Option (List ℕ))). xs ++ Some (string_bytes c.in_ok-name.name) ∷ []) c.self.view_is
    ∙ ap (λ (z : List ℕ). c.args.self.now ++ Some z ∷ []) c.in_ok-name.ensures.ok
