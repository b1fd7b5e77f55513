use Rattle.std.proofs.Common.{arith, ◌∙◌, ap, ◌++◌, ◌∷◌, [], to_z, of_z, w64}
use Rattle.column.proofs.ColumnLemmas.{length-column, pushed}
use Rattle.column.proofs.column.Column.push.Goals as goal

pub push-requires : goal.push-requires
push-requires c = omega (arith, c.requires, length-column _ _ _ c.self.invariant c.self.view_is)

pub invariant_of-self-2 : goal.invariant_of-self-2
invariant_of-self-2 c =
    (pushed c.self.inside.numbers.items c.self.inside.valid c.number-number.result c.unwrap_or.result c.push_reserved.new.self.items c.push.new.self c.self.invariant c.number-number.ensures.range
    (c.push_reserved.ensures.items ∙ ap (λ l. l ++ to_z w64 (of_z w64 c.unwrap_or.result) ∷ []) c.in_ok-reserve.ensures.items) c.unwrap_or.ensures
    (c.in_ok-push.ensures.ok ∙ ap (λ b. c.self.inside.valid ++ b ∷ []) c.is_some.ensures)).column

pub returns-clause-ok : goal.returns-clause-ok
returns-clause-ok c =
    (pushed c.self.inside.numbers.items c.self.inside.valid c.number-number.result c.unwrap_or.result c.push_reserved.new.self.items c.push.new.self c.self.invariant c.number-number.ensures.range
    (c.push_reserved.ensures.items ∙ ap (λ l. l ++ to_z w64 (of_z w64 c.unwrap_or.result) ∷ []) c.in_ok-reserve.ensures.items) c.unwrap_or.ensures
    (c.in_ok-push.ensures.ok ∙ ap (λ b. c.self.inside.valid ++ b ∷ []) c.is_some.ensures)).seen ∙ ap (λ l. l ++ c.number-number.result ∷ []) c.self.view_is ∙ ap (λ v. c.args.self.now ++ v ∷ []) c.number-number.ensures.value
