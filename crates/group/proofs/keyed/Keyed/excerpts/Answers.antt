use Rattle.std.proofs.Common.{◌≡◌, ◌∙◌, ◌++◌, ap, rules}
use Rattle.group.specs.Keys.{KeyedState, in_set}
use Rattle.group.proofs.keyed.Keyed.excerpts.Goals as goal

pub returns : goal.returns
returns g c =
    let both : c.push_copies-2.new.copies.items ≡ c.self.inside.touched.items ++ c.self.inside.quiet.items = search rules in
    let once : c.settle.new.touched.items ≡ c.args.self.now.touched = c.settle.ensures ∙ ap in_set both ∙ ap (λ (s : KeyedState). s.touched) c.self.view_is in
    search rules
