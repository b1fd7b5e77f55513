use Rattle.std.proofs.Common.{◌∙◌, ap₂, sym}
use Rattle.values.specs.Row.{row_cmp, value_cmp}
use Rattle.group.specs.Cells.{Held}
use Rattle.group.proofs.KeyLemmas.{first_decides}
use Rattle.group.proofs.key.GroupKeyOrd.cmp.Goals as goal

pub returns-then-is_ne : goal.returns-then-is_ne
returns-then-is_ne g c =
    first_decides c.self.inside.values.items c.other.inside.values.items c.cmp-first.result (c.cmp-first.ensures ∙ ap₂ value_cmp c.self.invariant c.other.invariant) (sym c.is_ne.ensures ∙ c.if-is_ne.true)
    ∙ ap₂ (λ (a b : Held). row_cmp a.items b.items) c.self.view_is c.other.view_is
