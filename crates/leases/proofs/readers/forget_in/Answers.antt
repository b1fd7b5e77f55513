use Rattle.std.proofs.Common.{rules, ◌==◌, not}
use Rattle.std.proofs.lemmas.Fn.{filter_same}
use Rattle.leases.specs.declared.reader.WindowReader.{WindowReader}
use Rattle.leases.proofs.readers.forget_in.Goals as goal

pub returns : goal.returns
returns c = filter_same _ (λ (r : WindowReader). not (r.query == c.args.query)) _ (λ x b f h. search rules) _ _ c.retain.ensures.filtered
