use Rattle.std.proofs.Common.{◌∙◌, Bool, Ok, ap, rules}
use Rattle.served.proofs.Requests.{idle_moment}
use Rattle.served.proofs.drains.drain_in_place.Goals as goal
use Rattle.served.proofs.drains.drain_in_place.Goals.{in-None, in-Some+in-Ok-false-drain_some_by_query}

pub returns-in-Ok-false : goal.returns-in-Ok-false
returns-in-Ok-false g c =
    idle_moment c.args.rows c.drain_some_alone.result (c.in-Ok-false.is ∙ ap (λ (b : Bool). Ok b) c.in-Ok-false.field-0-test) c.drain_some_alone.ensures.idle

pub returns : goal.returns
returns g c = elim c.match-next.branch [
  | in-None w ↦ search rules
  | in-Some+in-Ok-false-drain_some_by_query w ↦
      let no = w.in-Ok-false-drain_some_by_query in
      idle_moment c.args.rows w.drain_some_by_query.result (no.is ∙ ap (λ (b : Bool). Ok b) no.field-0-test) w.drain_some_by_query.ensures.idle
]
