use Rattle.std.proofs.Common.{◌∙◌, ap, sym}
use Rattle.row_bags.specs.Lists.{renewed}
use Rattle.row_bags.proofs.ListLaws.{renewed-none}
use Rattle.row_bags.proofs.row_list.RowList.renew.Goals as goal

pub returns-then-is_empty-clause-ok : goal.returns-then-is_empty-clause-ok
returns-then-is_empty-clause-ok c =
    sym (ap (renewed c.args.self.now) (c.is_empty.ensures c.if-is_empty.true) ∙ renewed-none c.args.self.now)
