use Rattle.group.proofs.RoomLemmas.{room_same}
use Rattle.group.proofs.state.Group.run_whole.Goals as goal

pub returns-in-Err-clause-room : goal.returns-in-Err-clause-room
returns-in-Err-clause-room c = room_same c.args.self.now c.take_whole.new.self c.in-Err.ensures.err
