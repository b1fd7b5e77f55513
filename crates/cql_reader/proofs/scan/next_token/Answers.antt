use Rattle.std.proofs.Common.{◌<◌, ◌+◌, length, sym, ◌∙◌, arith}
use Rattle.cql_reader.proofs.Scans.{next_end, next_bad, next_found, behind_within, end_within}
use Rattle.cql_reader.proofs.scan.next_token.Goals as goal

pub returns-then-from-text : goal.returns-then-from-text
returns-then-from-text c =
    (next_end c.args.text.now c.args.place c.blanks.result c.blanks.ensures.len c.if-from-text.true, tt)

pub returns-in-None : goal.returns-in-None
returns-in-None c =
    let text = c.args.text.now in
    let behind = behind_within text c.args.place c.blanks.result c.blanks.ensures.within c.requires c.if-from-text.false in
    next_bad text c.args.place c.blanks.result c.blanks.ensures.len behind (sym c.token_of.ensures.token ∙ c.in-None.is)

pub returns-in-Some : goal.returns-in-Some
returns-in-Some c =
    let text = c.args.text.now in
    let i = c.args.place + c.blanks.result in
    let behind : i < length text = behind_within text c.args.place c.blanks.result c.blanks.ensures.within c.requires c.if-from-text.false in
    let ends = end_within text i c.in-Some.len c.in-Some.ensures.within (omega arith) in (
      next_found text c.args.place c.blanks.result c.in-Some.kind c.in-Some.len c.blanks.ensures.len behind
          (sym c.token_of.ensures.token ∙ c.in-Some.is) c.in-Some.ensures.forward c.in-Some.ensures.within,
      record {
        forward = omega (arith, c.in-Some.ensures.forward);
        within = ends;
        short = λ h. let s = c.in-Some.ensures.short h in omega arith;
      },
    )
