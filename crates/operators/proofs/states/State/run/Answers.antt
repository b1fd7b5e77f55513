use Rattle.operators.proofs.RefusedLemmas.{untaken_err, untaken_grown}
use Rattle.operators.proofs.states.State.run.Goals as goal
use Rattle.operators.proofs.states.State.run.Goals.{in-Window-default, in-Nothing-Select, in-Nothing-Project, in-Join-default, in-Groups-default}

pub returns-clause-grown : goal.returns-clause-grown
returns-clause-grown c =
    elim c.match-self.branch [
      | in-Window-default w ↦ rw w.result-is (rw w.queue-is (untaken_err _ w.run_window.result w.untaken.result w.untaken.ensures w.run_window.ensures.grown))
      | in-Nothing-Select w ↦ rw w.result-is (rw w.queue-is (untaken_grown _ _ w.run_select.result w.untaken-in-Nothing-Select.result w.untaken-in-Nothing-Select.ensures w.run_select.ensures.err))
      | in-Nothing-Project w ↦ rw w.result-is (rw w.queue-is (untaken_grown _ _ w.run_project.result w.untaken-in-Nothing-Project.result w.untaken-in-Nothing-Project.ensures w.run_project.ensures.err))
      | in-Join-default w ↦ rw w.result-is (rw w.queue-is (untaken_err _ w.run.result w.untaken-in-Join-default.result w.untaken-in-Join-default.ensures w.run.ensures.grown))
      | in-Groups-default w ↦ rw w.result-is (rw w.queue-is w.run_groups_item.ensures.grown)
    ]
