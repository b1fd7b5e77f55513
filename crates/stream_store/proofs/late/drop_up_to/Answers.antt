use Rattle.std.proofs.Common.{◌∙◌, sym}
use Rattle.stream_store.proofs.KeyLemmas.{all_past}
use Rattle.stream_store.proofs.late.drop_up_to.Goals as goal

pub returns-else-instant-at : goal.returns-else-instant-at
returns-else-instant-at c = sym (all_past c.args.at c.in-Some.instant.now c.loop-instant.late.entries c.if-instant-at.false c.in-Some.ensures.all_from) ∙ c.loop-instant.invariant
