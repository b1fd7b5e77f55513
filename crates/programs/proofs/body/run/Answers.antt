use Rattle.std.proofs.Common.{◌≡◌, ◌∙◌, false, ap, map, refl, rules}
use Rattle.std.specs.Prelude.{option_map}
use Rattle.clap.specs.Words.{HasKind}
use Rattle.reference.specs.World.{empty}
use Rattle.command_lines.specs.CommandLine.{number_in, refusals}
use Rattle.served.specs.Serving.{PoolDrains}
use Rattle.programs.specs.Run.{turn_of}
use Rattle.programs.proofs.Outcomes.{answers_nothing, is_not_asked, settling_asked, settling_nothing, three_tells, two_tells, plain_answers, engine_answers, lacks_memory, not_on, shares_asked, shares_nothing}
use Rattle.programs.proofs.body.run.Goals as goal

pub returns-in-Err-Words-clause-answers : goal.returns-in-Err-Words-clause-answers
returns-in-Err-Words-clause-answers g c runs alone =
    let kind : HasKind (refusals (map g.S.AsStr.text c.args.words.now)) c.in-Err-Words.error = search rules in
    let lacks = c.refuse.ensures.lacks (lacks_memory _ c.in-Err-Words.error kind runs) in
    answers_nothing _ empty c.refuse.result (g.I.Source.left c.args.source.now) (g.O.Sink.taken c.args.sink.now) (g.O.Sink.taken c.refuse.new.sink) (three_tells c.refuse.result lacks) (ap g.O.Sink.taken (c.refuse.ensures.memory lacks).0)

pub returns-in-Err-Words-clause-shares : goal.returns-in-Err-Words-clause-shares
returns-in-Err-Words-clause-shares g c workers runs asked kept other =
    let kind : HasKind (refusals (map g.S.AsStr.text c.args.words.now)) c.in-Err-Words.error = search rules in
    let lacks = c.refuse.ensures.lacks (lacks_memory _ c.in-Err-Words.error kind runs) in
    shares_nothing (PoolDrains (number_in workers) (turn_of (map g.S.AsStr.text c.args.words.now))) c.refuse.result (g.I.Source.left c.args.source.now) (g.O.Sink.taken c.args.sink.now) (g.O.Sink.taken c.refuse.new.sink) lacks (ap g.O.Sink.taken (c.refuse.ensures.memory lacks).0)

pub returns-then-not-options-clause-answers : goal.returns-then-not-options-clause-answers
returns-then-not-options-clause-answers g c runs alone =
    let off : c.in-Ok.options.is_plain ≡ false = search (rules, c.if-not-options.true, not_on) in
    engine_answers _ (map g.S.AsStr.text c.args.words.now) c.in-Ok.options.is_plain c.in-Ok.ensures.plain.1 off
    empty c.run_made.result (g.I.Source.left c.args.source.now) (g.O.Sink.taken c.args.sink.now) (g.O.Sink.taken c.run_made.new.sink) c.run_made.ensures.answers

pub returns-in-Ok-new-clause-answers : goal.returns-in-Ok-new-clause-answers
returns-in-Ok-new-clause-answers g c runs alone =
    plain_answers (map g.S.AsStr.text c.args.words.now) empty c.run_made-in-Ok-new.result (g.I.Source.left c.args.source.now) (g.O.Sink.taken c.args.sink.now) (g.O.Sink.taken c.run_made-in-Ok-new.new.sink) c.run_made-in-Ok-new.ensures.answers

pub returns-in-Some-clause-shares : goal.returns-in-Some-clause-shares
returns-in-Some-clause-shares g c workers runs asked kept other =
    shares_asked (map g.S.AsStr.text c.args.words.now) workers c.in-Ok.options.workers c.in-Some.workers c.in-Ok.options.turn
    c.run_workers.result (g.I.Source.left c.args.source.now) (g.O.Sink.taken c.args.sink.now) (g.O.Sink.taken c.run_workers.new.sink)
    c.in-Ok.ensures.workers asked c.in-Some.is c.in-Ok.ensures.turn (c.run_workers.ensures.shares (c.in-Ok.ensures.forget ∙ ap (option_map number_in) kept))

pub returns-in-Some-clause-settling : goal.returns-in-Some-clause-settling
returns-in-Some-clause-settling g c workers runs asked forgets other =
    settling_asked (map g.S.AsStr.text c.args.words.now) workers c.in-Ok.options.workers c.in-Some.workers c.in-Ok.options.turn
    c.run_workers.result (g.I.Source.left c.args.source.now) (g.O.Sink.taken c.args.sink.now) (g.O.Sink.taken c.run_workers.new.sink)
    c.in-Ok.ensures.workers asked c.in-Some.is c.in-Ok.ensures.turn (c.run_workers.ensures.settling (λ none. forgets (is_not_asked _ c.in-Ok.options.forget c.in-Ok.ensures.forget none)))

pub returns-in-Err-ForgetWithoutWorkers-clause-answers : goal.returns-in-Err-ForgetWithoutWorkers-clause-answers
returns-in-Err-ForgetWithoutWorkers-clause-answers g c runs alone =
    answers_nothing _ empty c.refuse_to_forget.result (g.I.Source.left c.args.source.now) (g.O.Sink.taken c.args.sink.now) (g.O.Sink.taken c.args.sink.now) (two_tells c.refuse_to_forget.result c.refuse_to_forget.ensures.status) refl

pub returns-in-Err-Words-clause-settling : goal.returns-in-Err-Words-clause-settling
returns-in-Err-Words-clause-settling g c workers runs asked forgets other =
    let kind : HasKind (refusals (map g.S.AsStr.text c.args.words.now)) c.in-Err-Words.error = search rules in
    let lacks = c.refuse.ensures.lacks (lacks_memory _ c.in-Err-Words.error kind runs) in
    settling_nothing (PoolDrains (number_in workers) (turn_of (map g.S.AsStr.text c.args.words.now))) c.refuse.result (g.I.Source.left c.args.source.now) (g.O.Sink.taken c.args.sink.now) (g.O.Sink.taken c.refuse.new.sink) (three_tells c.refuse.result lacks) (ap g.O.Sink.taken (c.refuse.ensures.memory lacks).0)
