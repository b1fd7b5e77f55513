use Rattle.envelope.proofs.Supports.{room_left}
use Rattle.envelope.proofs.path.segment_over.Goals as goal

pub loop-place-preserved : goal.loop-place-preserved
loop-place-preserved c = record {
  room = room_left c.args.points.now c.args.envelope.now c.requires.chart c.requires.envelope c.args.next c.loop-place.place c.requires.within c.loop-place.invariant.room c.loop-place-test.true;
  before = c.loop-place-test.true;
}
