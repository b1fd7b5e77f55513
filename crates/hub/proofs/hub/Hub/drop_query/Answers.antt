use Rattle.std.proofs.Common.{◌≡◌}
use Rattle.reference.specs.Replies as replies
use Rattle.histories.specs.Histories.{Told}
use Rattle.hub.proofs.KnownLemmas.{spurned, took}
use Rattle.hub.proofs.hub.Hub.drop_query.Goals as goal

pub returns-clause-ok : goal.returns-clause-ok
returns-clause-ok g c = took (λ (r : Told). r) (λ (r : Told). r.entry.reply ≡ replies.Done) c.drop_query-answer.result _ _ _ _ _ c.drop_query-answer.ensures.ok

pub returns-clause-err : goal.returns-clause-err
returns-clause-err g c = spurned c.drop_query-answer.result _ _ _ _ _ c.drop_query-answer.ensures.err
