use Rattle.std.proofs.Common.{◌∙◌, sym, refl}
use Rattle.std.proofs.lemmas.Bool.{false≢true}
use Rattle.cql_reader.proofs.WordFacts.{kind_in_yes, kind_in_no, kind_in_end}
use Rattle.cql_reader.proofs.words.find.Goals as goal

pub returns-then-eq_ignore_ascii_case : goal.returns-then-eq_ignore_ascii_case
returns-then-eq_ignore_ascii_case c =
    sym (kind_in_yes (λ entry. (entry.0.now, entry.1)) c.args.entries.now c.args.word.now c.loop-text.text-index _ c.loop-text-test.true (c.if-eq_ignore_ascii_case.ensures.test.0 refl)) ∙ c.loop-text.invariant

pub loop-text-preserved : goal.loop-text-preserved
loop-text-preserved c =
    sym (kind_in_no (λ entry. (entry.0.now, entry.1)) c.args.entries.now c.args.word.now c.loop-text.text-index _ c.loop-text-test.true (λ h. false≢true (c.if-eq_ignore_ascii_case.ensures.test.1 h))) ∙ c.loop-text.invariant

pub returns : goal.returns
returns c = sym (kind_in_end (λ entry. (entry.0.now, entry.1)) c.args.entries.now c.args.word.now c.loop-text.text-index c.loop-text-test.false) ∙ c.loop-text.invariant
