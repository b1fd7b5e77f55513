use Rattle.std.proofs.Common.{◌≡◌, ◌∙◌, sym, ap, refl, subst, MatchOption, Option, Some, None, List}
use Rattle.cql_reader.specs.declared.symbols.Symbol.{Symbol}
use Rattle.cql_reader.specs.declared.tokens.TokenKind.{TokenKind}
use Rattle.cql_reader.specs.Prediction.{chosen}
use Rattle.cql_reader.proofs.Steps.{chosen_some, chosen_else, chosen_end}
use Rattle.cql_reader.proofs.choice.choose.Goals as goal

pub returns-in-None : goal.returns-in-None
returns-in-None c =
    let e = ap (λ (n : Option TokenKind). chosen c.args.part n) c.in-None.is ∙ chosen_end c.args.part _ _ c.alternatives_of-alternatives.ensures refl in
    subst (λ (v : Option (List Symbol)). MatchOption c.ending.result (v ≡ None) (λ symbols. v ≡ Some symbols.now)) (sym e) c.ending.ensures

pub returns-in-Some-beginning : goal.returns-in-Some-beginning
returns-in-Some-beginning c =
    ap (λ (n : Option TokenKind). chosen c.args.part n) c.in-Some.is ∙ chosen_some c.args.part c.in-Some.kind _ _ c.alternatives_of-alternatives.ensures c.in-Some-beginning.ensures

pub returns-in-None-beginning : goal.returns-in-None-beginning
returns-in-None-beginning c =
    let e = ap (λ (n : Option TokenKind). chosen c.args.part n) c.in-Some.is ∙ chosen_else c.args.part c.in-Some.kind _ _ c.alternatives_of-alternatives.ensures c.in-None-beginning.ensures refl in
    subst (λ (v : Option (List Symbol)). MatchOption c.ending-in-None-beginning.result (v ≡ None) (λ symbols. v ≡ Some symbols.now)) (sym e) c.ending-in-None-beginning.ensures
