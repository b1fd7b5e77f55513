use Rattle.cql_reader.proofs.OneAnswer.{reading_right, reading_only}
use Rattle.cql_reader.proofs.laws.every_text_has_one_answer.Goals as goal

pub returns-clause-right : goal.returns-clause-right
returns-clause-right c = λ text. reading_right text

pub returns-clause-only : goal.returns-clause-only
returns-clause-only c = λ text answer h. reading_only text answer h
