use Rattle.std.proofs.Common.{◌≡◌}
use Rattle.reference.specs.Commands.{Append}
use Rattle.reference.specs.Machine.{stream_named}
use Rattle.reference.specs.Replies as replies
use Rattle.reference.specs.declared.fault.Fault.TheVariants.{UnknownStream}
use Rattle.histories.specs.Histories.{Told}
use Rattle.hub.proofs.KnownLemmas.{spurned_named, took_named}
use Rattle.hub.proofs.hub.Hub.append_named.Goals as goal

pub returns-clause-ok : goal.returns-clause-ok
returns-clause-ok g c =
    took_named stream_named c.args.stream.now (λ n. Append n c.args.rows) c.args.seat.now c.append_named.new.seat (λ (r : Told). r) (λ (r : Told). r.entry.reply ≡ replies.Done) c.append_named.result _ _ c.append_named.ensures.ok

pub returns-clause-err : goal.returns-clause-err
returns-clause-err g c = spurned_named stream_named c.args.stream.now (λ n. Append n c.args.rows) c.args.seat.now c.append_named.new.seat c.append_named.result UnknownStream _ _ c.append_named.ensures.err
