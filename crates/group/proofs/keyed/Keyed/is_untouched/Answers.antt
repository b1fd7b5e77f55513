use Rattle.std.proofs.Common.{ap, sym}
use Rattle.group.specs.Keys.{KeyedState}
use Rattle.group.proofs.SetLemmas.{are_none, are_some}
use Rattle.group.proofs.keyed.Keyed.is_untouched.Goals as goal

pub returns-then-not-is_empty : goal.returns-then-not-is_empty
returns-then-not-is_empty g c =
    are_some c.self.inside.touched.items c.self.inside.quiet.items _ c.is_empty.result c.args.self.now.touched
    (sym c.self.inside.touched.ok.0) c.is_empty.ensures c.if-not-is_empty.true (ap (λ (s : KeyedState). s.touched) c.self.view_is)

pub returns : goal.returns
returns g c =
    are_none c.self.inside.touched.items c.self.inside.quiet.items _ _ c.is_empty.result c.is_empty-2.result c.args.self.now.touched
    (sym c.self.inside.touched.ok.0) (sym c.self.inside.quiet.ok.0) c.is_empty.ensures c.if-not-is_empty.false c.is_empty-2.ensures (ap (λ (s : KeyedState). s.touched) c.self.view_is)
