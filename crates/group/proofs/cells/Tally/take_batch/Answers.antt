use Rattle.std.proofs.Common.{◌≡◌, ◌∙◌, Bool, sym, ap, subst, refl}
use Rattle.std.specs.List.{All}
use Rattle.std.specs.Result.{OnOk}
use Rattle.values.specs.Ranges.{IsAnswerValue}
use Rattle.values.specs.declared.resolved.ListItem.{ListItem}
use Rattle.values.specs.declared.resolved.ListItem.TheVariants.{Key, CountAll, Of}
use Rattle.group.specs.Cells.{TallyState}
use Rattle.group.specs.Batches.{numbers_read, tally_rows, tally_values, leaving, fields}
use Rattle.group.proofs.BatchLemmas.{none_read, none_in_range, rows_are_values}
use Rattle.group.proofs.cells.Tally.take_batch.Goals as goal

pub returns-in-Key-clause-tally : goal.returns-in-Key-clause-tally
returns-in-Key-clause-tally c = sym (none_read (Key c.in-Key.field-0) c.args.batch.now c.args.self.now (λ r. refl)) ∙ ap (λ (i : ListItem). tally_rows c.args.batch.now i c.args.self.now) (sym c.in-Key.is)

pub returns-in-Key-clause-range : goal.returns-in-Key-clause-range
returns-in-Key-clause-range c = subst (λ (i : ListItem). All IsAnswerValue (numbers_read i c.args.batch.now)) (sym c.in-Key.is) (none_in_range (Key c.in-Key.field-0) c.args.batch.now (λ r. refl))

pub returns-in-CountAll-clause-tally : goal.returns-in-CountAll-clause-tally
returns-in-CountAll-clause-tally c = sym (none_read CountAll c.args.batch.now c.args.self.now (λ r. refl)) ∙ ap (λ (i : ListItem). tally_rows c.args.batch.now i c.args.self.now) (sym c.in-CountAll.is)

pub returns-in-CountAll-clause-range : goal.returns-in-CountAll-clause-range
returns-in-CountAll-clause-range c = subst (λ (i : ListItem). All IsAnswerValue (numbers_read i c.args.batch.now)) (sym c.in-CountAll.is) (none_in_range CountAll c.args.batch.now (λ r. refl))

pub returns-in-Of-clause-tally : goal.returns-in-Of-clause-tally
returns-in-Of-clause-tally c =
    subst (λ (t : TallyState). OnOk c.take_fields.result (c.take_fields.new.self ≡ t))
    (rows_are_values (Of c.in-Of.aggregate c.in-Of.column) c.args.batch.now c.args.self.now ∙ ap (λ (i : ListItem). tally_rows c.args.batch.now i c.args.self.now) (sym c.in-Of.is))
    (subst (λ (b : Bool). OnOk c.take_fields.result (c.take_fields.new.self ≡ tally_values b (leaving c.args.batch.now) (fields c.in-Of.column c.args.batch.now) c.args.self.now)) c.keeps_each.ensures c.take_fields.ensures.tally)
