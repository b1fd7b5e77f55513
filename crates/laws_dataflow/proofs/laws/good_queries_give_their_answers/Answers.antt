use Rattle.laws_dataflow.proofs.AnswerLemmas.{machine_begins, machine_complete}
use Rattle.laws_dataflow.proofs.laws.good_queries_give_their_answers.Goals as goal

pub returns : goal.returns
returns c = record { beginning = λ vs m q h. machine_begins vs m q h.plan h.wide; whole = λ vs m q h. machine_complete vs m q h.plan h.wide }
