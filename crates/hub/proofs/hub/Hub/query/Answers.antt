use Rattle.std.proofs.Common.{◌≡◌, ℕ}
use Rattle.reference.specs.Replies as replies
use Rattle.histories.specs.Histories.{Told}
use Rattle.hub.proofs.KnownLemmas.{spurned, took}
use Rattle.hub.proofs.hub.Hub.query.Goals as goal

pub returns-clause-ok : goal.returns-clause-ok
returns-clause-ok g c = took (λ (r : ℕ × Told). r.1) (λ (r : ℕ × Told). r.1.entry.reply ≡ replies.Number r.0) c.query.result _ _ _ _ _ c.query.ensures.ok

pub returns-clause-err : goal.returns-clause-err
returns-clause-err g c = spurned c.query.result _ _ _ _ _ c.query.ensures.err
