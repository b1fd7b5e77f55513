-- The commands and replies of the code as those of the machine.
use Rattle.std.specs.Prelude.{string_bytes}
use Rattle.plan.specs.Chart.{given_by}
use Rattle.std.specs.Arc.{arc_value}
use Rattle.reference.specs.CallViews.{texts_of}
use Rattle.reference.specs.Commands as machine
use Rattle.reference.specs.Replies as replies
use Rattle.histories.specs.declared.command.CommandKind.{CommandKind}
use Rattle.histories.specs.declared.command.CommandKind.TheVariants as command
use Rattle.histories.specs.declared.reply.ReplyKind.{ReplyKind}
use Rattle.histories.specs.declared.reply.ReplyKind.TheVariants as reply

abbrev pub command_of : CommandKind → machine.Command
command_of (command.Declare name columns start) =
    machine.Declare (string_bytes name) (texts_of columns.items) start
command_of (command.Register name text chart) =
    machine.Register (string_bytes name) (string_bytes text) (given_by chart)
command_of (command.Append stream rows) = machine.Append stream rows
command_of (command.Heartbeat stream at) = machine.Heartbeat stream at
command_of (command.Take query limit) = machine.Take query limit
command_of (command.Drop query) = machine.Drop query

abbrev pub reply_of : ReplyKind → replies.Reply
reply_of (reply.Number number) = replies.Number number
reply_of reply.Done = replies.Done
reply_of (reply.Rows rows) = replies.Rows (arc_value rows)
