use Rattle.std.proofs.Common.{rules, ◌==◌, not}
use Rattle.std.proofs.lemmas.Fn.{filter_same}
use Rattle.leases.specs.declared.undropped.RowLimit.{RowLimit}
use Rattle.leases.proofs.undropped.forget_limits.Goals as goal

pub returns : goal.returns
returns c = filter_same _ (λ (l : RowLimit). not (l.query == c.args.query)) _ (λ x b f h. search rules) _ _ c.retain.ensures.filtered
