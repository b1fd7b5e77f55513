use Rattle.std.proofs.Common.{◌≡◌, ◌∙◌, sym, ap, subst, ℕ, List, Option, Some, position, slice_get}
use Rattle.name_table.specs.Names.{bears}
use Rattle.name_table.proofs.TableLemmas.{first_number, number-of}
use Rattle.name_table.proofs.table.NameTable.number.Goals as goal

pub returns-clause-first : goal.returns-clause-first
returns-clause-first c =
    c.copied.ensures ∙ c.get.ensures.value
    ∙ sym (first_number c.args.name.now c.self.inside.count c.self.inside.numbers.entries c.self.invariant)
    ∙ ap (λ (xs : List (Option (List ℕ))). position (bears c.args.name.now) xs) c.self.view_is

pub returns-clause-once : goal.returns-clause-once
returns-clause-once c = λ number h.
    c.copied.ensures ∙ c.get.ensures.value
    ∙ number-of c.args.name.now c.self.inside.count number c.self.inside.numbers.entries c.self.invariant
    (subst (λ (xs : List (Option (List ℕ))). slice_get xs number ≡ Some (Some c.args.name.now)) (sym c.self.view_is) h)
