use Rattle.std.proofs.Common.{◌∙◌, ap, ap₂}
use Rattle.std.specs.BTreeSet.{insert_key}
use Rattle.group.specs.Cells.{held_cmp}
use Rattle.group.specs.Keys.{KeyedState}
use Rattle.group.proofs.PassedLemmas.{more_first}
use Rattle.group.proofs.keyed.Keyed.touch.Goals as goal

pub returns-clause-touched : goal.returns-clause-touched
returns-clause-touched g c =
    more_first c.self.inside.touched.items c.touch.new.touched.items c.self.inside.quiet.items c.args.key.now
    (c.touch.ensures ∙ ap₂ (insert_key held_cmp) c.make_room.ensures.same c.of.ensures)
    ∙ ap (λ (s : KeyedState). insert_key held_cmp s.touched c.args.key.now) c.self.view_is
