use Rattle.std.proofs.Common.{◌≡◌}
use Rattle.reference.specs.Commands.{Append}
use Rattle.reference.specs.Machine.{stream_named}
use Rattle.reference.specs.Replies as replies
use Rattle.reference.specs.declared.fault.Fault.TheVariants.{UnknownStream}
use Rattle.histories.specs.Histories.{Told}
use Rattle.hub.proofs.KnownLemmas.{accepted_named, declined_named, unnamed}
use Rattle.hub.proofs.locked.Locked.append_named.Goals as goal

pub returns-in-Some-clause-ok : goal.returns-in-Some-clause-ok
returns-in-Some-clause-ok c =
    accepted_named stream_named c.args.stream.now (λ n. Append n c.args.rows) c.args.seat.now c.append.new.seat (λ (r : Told). r) (λ (r : Told). r.entry.reply ≡ replies.Done) c.append.result c.args.self.now c.append.new.self c.in-Some.number c.stream_named.result c.stream_named.ensures.is c.in-Some.is c.append.ensures.ok

pub returns-in-Some-clause-err : goal.returns-in-Some-clause-err
returns-in-Some-clause-err c =
    declined_named stream_named c.args.stream.now (λ n. Append n c.args.rows) c.args.seat.now c.append.new.seat c.append.result UnknownStream c.args.self.now c.append.new.self c.in-Some.number c.stream_named.result c.stream_named.ensures.is c.in-Some.is c.append.ensures.err

pub returns-in-None-clause-err : goal.returns-in-None-clause-err
returns-in-None-clause-err c = unnamed stream_named c.args.stream.now (λ n. Append n c.args.rows) c.args.seat.now UnknownStream c.args.self.now c.stream_named.result c.stream_named.ensures.legal c.stream_named.ensures.is c.in-None.is
