use Rattle.std.proofs.Common.{◌∙◌, List, Option, ap}
use Rattle.group.specs.Cells.{Held}
use Rattle.group.specs.Plans.{put_all}
use Rattle.group.proofs.PlanLemmas.{put-all}
use Rattle.group.proofs.keyed.swap_all.Goals as goal

pub returns-clause-cells : goal.returns-clause-cells
returns-clause-cells g c =
    c.show_all.ensures
    ∙ ap (λ (ps : List (Option (Option Held))). put_all c.args.touched.now ps c.begin.new.cells.entries) c.in-Ok.ensures.plans
    ∙ put-all c.args.group.now c.args.touched.now c.begin.new.cells.entries c.requires.sorted c.in_ok-made.ensures.begun.there
    ∙ c.in_ok-made.ensures.begun.cells
