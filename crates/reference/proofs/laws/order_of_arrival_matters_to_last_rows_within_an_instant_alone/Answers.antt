use Rattle.values.proofs.Arrivals.{answers-came_alike}
use Rattle.reference.proofs.laws.order_of_arrival_matters_to_last_rows_within_an_instant_alone.Goals as goal

pub returns : goal.returns
returns c = λ q start until inputs others h. answers-came_alike q start until inputs others h
