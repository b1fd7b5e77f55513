use Rattle.served.specs.Serving.{ClientDrains}
use Rattle.served.proofs.Requests.{keeps_led}
use Rattle.served.proofs.lines.serve_connection.Goals as goal

pub returns-clause-seat : goal.returns-clause-seat
returns-clause-seat g c = keeps_led (ClientDrains c.args.rows) c.args.seat.now c.answer_requests.new.state c.answer_requests.ensures.leads
