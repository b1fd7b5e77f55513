use Rattle.std.proofs.Common.{◌≡◌, ◌∙◌, ap, ◌++◌, rules}
use Rattle.wire.proofs.Printing.{writes_put}
use Rattle.wire.proofs.page.Page.add_to_empty.Goals as goal

pub returns : goal.returns
returns g c =
    let kept : c.try_extend_from_slice.new.self ≡ c.args.self.now.bytes = search rules in
    writes_put _ _ _ _ _ _ c.put.result c.args.bytes.now c.args.bytes.now c.if-not-self.false (ap (λ l. l ++ c.args.bytes.now) c.requires) c.is_ok-self.ensures.value (ap (λ v. v.items) kept ∙ c.requires) c.put.ensures
