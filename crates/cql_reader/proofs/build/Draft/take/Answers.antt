use Rattle.std.proofs.Common.{◌≡◌, ◌<◌, ◌∙◌, arith, subst, true, w64, to_z, of_z}
use Rattle.std.proofs.lemmas.Int.{ints}
use Rattle.std.proofs.lemmas.Bool.{ltb-true}
use Rattle.cql_reader.specs.declared.symbols.Role.{Role}
use Rattle.cql_reader.specs.declared.symbols.Role.TheVariants as r
use Rattle.cql_reader.specs.Lexis.{number_of}
use Rattle.cql_reader.specs.Coded.{draft_of, terms_of}
use Rattle.cql_reader.specs.Grammar.{deepens, in_range, may_open}
use Rattle.cql_reader.proofs.Ranges.{stream_kept}
use Rattle.cql_reader.proofs.Drafts.{take_number}
use Rattle.cql_reader.proofs.build.Draft.take.Goals as goal

pub overflow_add-self : goal.overflow_add-self
unfolding deepens
overflow_add-self c =
    let d = c.args.self.now.depth in
    let h : may_open (r.Deeper c.in-Deeper.field-0) d ≡ true = subst (λ (v : Role). may_open v d ≡ true) c.in-Deeper.is c.requires.depth in
    let l : d < 32 = ltb-true d 32 h in
    omega arith

pub returns-in-Number : goal.returns-in-Number
unfolding in_range
returns-in-Number c =
    let z = number_of c.args.bytes.now in
    let h : in_range r.Number z ≡ true = subst (λ (v : Role). in_range v z ≡ true) c.in-Number.is c.requires.range in
    let n = c.number_in.result in
    let back : to_z w64 (of_z w64 n) ≡ n = omega (arith, ints) in
    let e : to_z w64 (of_z w64 n) ≡ z = back ∙ c.number_in.ensures ∙ stream_kept z h in
    take_number (draft_of c.args.self.now) (terms_of c.push.new.self) c.args.role c.args.bytes.now _ c.in-Number.is e c.push.ensures
