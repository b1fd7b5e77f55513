use Rattle.served.specs.Serving.{PoolDrains}
use Rattle.served.proofs.Requests.{number_led}
use Rattle.served.proofs.connection.Connection.run.Goals as goal

pub returns-clause-seat : goal.returns-clause-seat
returns-clause-seat g c = number_led (PoolDrains c.args.workers c.args.self.now.rows) c.args.seat.now c.answer_requests.new.state c.answer_requests.ensures.leads
