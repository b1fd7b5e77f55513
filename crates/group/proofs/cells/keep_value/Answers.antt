use Rattle.std.proofs.Common.{◌+◌, ◌^◌}
use Rattle.group.proofs.RoomLemmas.{count_of-le}
use Rattle.group.proofs.cells.keep_value.Goals as goal

pub add_value-requires-clause-room : goal.add_value-requires-clause-room
add_value-requires-clause-room c = count_of-le (2 ^ 62 + 1024) c.args.value c.args.values.now.entries c.requires.room
