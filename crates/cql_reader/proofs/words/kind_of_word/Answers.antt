use Rattle.std.proofs.Common.{◌∙◌, sym, ap, length, Option, Some}
use Rattle.std.proofs.lemmas.Bool.{le-leb, lt-leb, cond-true, cond-false}
use Rattle.cql_reader.specs.declared.tokens.TokenKind.{TokenKind}
use Rattle.cql_reader.specs.Lexis.{or_name}
use Rattle.cql_reader.proofs.WordFacts.{word_kind_is, not_name}
use Rattle.cql_reader.proofs.words.kind_of_word.Goals as goal

pub returns-in-Some-clause-kind : goal.returns-in-Some-clause-kind
returns-in-Some-clause-kind c =
    sym (word_kind_is c.args.word.now _ _ c.reserved_words.ensures c.find.ensures ∙ ap (λ (o : Option TokenKind). or_name o (length c.args.word.now)) c.in-Some.is)

pub returns-then-word-le-MAX_NAME-clause-kind : goal.returns-then-word-le-MAX_NAME-clause-kind
returns-then-word-le-MAX_NAME-clause-kind c =
    sym (word_kind_is c.args.word.now _ _ c.reserved_words.ensures c.find.ensures ∙ ap (λ (o : Option TokenKind). or_name o (length c.args.word.now)) c.in-None.is
    ∙ cond-true _ _ _ (le-leb (length c.args.word.now) 32 c.if-word-le-MAX_NAME.true))

pub returns-else-word-le-MAX_NAME-clause-kind : goal.returns-else-word-le-MAX_NAME-clause-kind
returns-else-word-le-MAX_NAME-clause-kind c =
    sym (word_kind_is c.args.word.now _ _ c.reserved_words.ensures c.find.ensures ∙ ap (λ (o : Option TokenKind). or_name o (length c.args.word.now)) c.in-None.is
    ∙ cond-false _ _ _ (lt-leb (length c.args.word.now) 32 c.if-word-le-MAX_NAME.false))

pub returns-in-Some-clause-short : goal.returns-in-Some-clause-short
returns-in-Some-clause-short c h =
    absurd (not_name _ c.args.word.now c.reserved_words.ensures (sym c.find.ensures ∙ c.in-Some.is ∙ ap Some h))
