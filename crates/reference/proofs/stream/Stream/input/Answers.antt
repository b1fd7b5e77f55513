use Rattle.std.proofs.Common.{ap, length}
use Rattle.reference.specs.Kept.{kept_in}
use Rattle.reference.specs.Machine.{Stream}
use Rattle.reference.proofs.InputLemmas.{if_ok, copied-shows}
use Rattle.reference.proofs.stream.Stream.input.Goals as goal

pub returns : goal.returns
returns c =
    let s = c.self.inside in
    rw (← (ap (λ (t : Stream). t.elements) c.self.view_is))
    (if_ok (λ v h. copied-shows c.args.arrivals c.args.first (kept_in (length s.columns.items) s.instants.items s.values.items) v.items h) c.copy_input.result
    (rw (c.deref.ensures.value, c.deref-2.ensures.value, c.len.ensures, s.columns.ok.0) at c.copy_input.ensures))
