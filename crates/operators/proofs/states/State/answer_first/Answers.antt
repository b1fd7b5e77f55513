use Rattle.operators.specs.Ready.{entries_in}
use Rattle.operators.proofs.FrontLemmas.{first_item}
use Rattle.operators.proofs.RootFronts.{root_answers}
use Rattle.operators.proofs.states.State.answer_first.Goals as goal

pub unreachable-requires : goal.unreachable-requires
unreachable-requires c =
    let f = first_item c.args.rows (entries_in c.args.from.now c.args.log.now) c.requires.front.waits c.requires.front.some in
    root_answers c.args.self.now f.0 (c.requires.may f.0 f.1) c.in_default.not-Root
