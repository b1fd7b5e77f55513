use Rattle.std.proofs.Common.{◌≡◌, ◌++◌, List, [], Option, None, refl, ap, sym, ◌∙◌, subst, arith, reverse}
use Rattle.std.proofs.lemmas.Result.{err_from_is_err_and}
use Rattle.cql_reader.specs.declared.symbols.Symbol.{Symbol}
use Rattle.cql_reader.specs.declared.tokens.TokenKind.{TokenKind}
use Rattle.cql_reader.specs.declared.tokens.Token.{Token as CodedToken}
use Rattle.cql_reader.specs.declared.ReadFault.{ReadFault}
use Rattle.cql_reader.specs.Scanning.{scan_from}
use Rattle.cql_reader.specs.Grammar.{whole, start}
use Rattle.cql_reader.specs.Prediction.{ahead, chosen, parsed, stopped}
use Rattle.cql_reader.specs.Coded.{Tells, draft_of, rest_of}
use Rattle.cql_reader.proofs.Theory.{effort, effort_emit, effort_rule}
use Rattle.cql_reader.proofs.Runs.{runs_start, runs_emit, runs_rule, stops_rule, stops_closed, popped, emptied}
use Rattle.cql_reader.proofs.Readings.{told_tells, runs_same, bad_told, read_told, read_runs, read_falls}
use Rattle.cql_reader.proofs.machine.parse.Goals as goal

pub returns-in_err-next : goal.returns-in_err-next
returns-in_err-next c =
    let text = c.args.text.now in
    let f : Tells (parsed (scan_from text 0)) c.in_err-next.field-0.0 = bad_told text whole start (scan_from text 0) _ _ c.in_err-next.ensures (runs_start (scan_from text 0)) in
    let p = err_from_is_err_and c.from_residual-in_err-next.result c.from_residual-in_err-next.ensures.1 in
    rw (p.1, p.2) f

pub loop-symbol-init : goal.loop-symbol-init
loop-symbol-init c =
    let text = c.args.text.now in
    let e : c.push.new.self.items ≡ whole = c.in_ok-push.ensures.items ∙ ap (λ (v : List Symbol). v ++ whole) c.new-stack.ensures.items in
    record {
      inside = c.in_ok-next.ensures.1;
      runs = runs_same whole _ start _ (scan_from text 0) _ _ (sym (ap (λ (v : List Symbol). reverse v) e)) (sym c.new-draft.ensures) c.in_ok-next.ensures.0 (runs_start (scan_from text 0));
    }

pub loop-symbol-smaller-in-Continue-branch-3 : goal.loop-symbol-smaller-in-Continue-branch-3
loop-symbol-smaller-in-Continue-branch-3 c =
    let e = popped _ _ _ _ c.in-Some.ensures.items c.in-Emit.is in
    let f = ap effort e in
    omega (arith, f, effort_emit c.in-Emit.mark (reverse c.pop.new.self.items))

pub loop-symbol-preserved-in-Continue-branch-3 : goal.loop-symbol-preserved-in-Continue-branch-3
loop-symbol-preserved-in-Continue-branch-3 c =
    let e = popped _ _ _ _ c.in-Some.ensures.items c.in-Emit.is in
    let xs = reverse c.pop.new.self.items in
    let d = draft_of c.loop-symbol.draft in
    let rest = rest_of c.args.text.now c.loop-symbol.next in
    let r = runs_same _ _ d d rest rest _ e refl refl c.loop-symbol.invariant.runs in
    record {
      inside = c.loop-symbol.invariant.inside;
      runs = runs_same xs xs _ _ rest rest _ refl (sym c.in_ok-finish-in-Emit.ensures) refl (runs_emit c.in-Emit.mark xs d rest _ r);
    }

pub returns-in_err-token-in-Read : goal.returns-in_err-token-in-Read
returns-in_err-token-in-Read c =
    let text = c.args.text.now in
    let e = popped _ _ _ _ c.in-Some.ensures.items c.in-Read.is in
    let d = draft_of c.loop-symbol.draft in
    let rest = rest_of text c.loop-symbol.next in
    let r = runs_same _ _ d d rest rest _ e refl refl c.loop-symbol.invariant.runs in
    let f : Tells (parsed (scan_from text 0)) c.in_err-token-in-Read.field-0.0 = read_told text c.loop-symbol.next c.in-Read.role _ d _ _ c.in_err-token-in-Read.ensures r in
    let p = err_from_is_err_and c.from_residual-in_err-token-in-Read.result c.from_residual-in_err-token-in-Read.ensures.1 in
    rw (p.1, p.2) f

pub returns-in_err-next-in-Read : goal.returns-in_err-next-in-Read
returns-in_err-next-in-Read c =
    let text = c.args.text.now in
    let e = popped _ _ _ _ c.in-Some.ensures.items c.in-Read.is in
    let d = draft_of c.loop-symbol.draft in
    let rest = rest_of text c.loop-symbol.next in
    let r = runs_same _ _ d d rest rest _ e refl refl c.loop-symbol.invariant.runs in
    let s = read_runs text c.loop-symbol.next c.in-Read.role _ d _ _ c.in_ok-token-in-Read.ensures r in
    let f : Tells (parsed (scan_from text 0)) c.in_err-next-in-Read.field-0.0 = bad_told text _ _ _ _ _ c.in_err-next-in-Read.ensures s in
    let p = err_from_is_err_and c.from_residual-in_err-next-in-Read.result c.from_residual-in_err-next-in-Read.ensures.1 in
    rw (p.1, p.2) f

pub loop-symbol-smaller-in-Read : goal.loop-symbol-smaller-in-Read
loop-symbol-smaller-in-Read c =
    let text = c.args.text.now in
    let e = popped _ _ _ _ c.in-Some.ensures.items c.in-Read.is in
    read_falls text c.loop-symbol.next _ c.in-Read.role _ _ _ _ c.in_ok-token-in-Read.ensures c.in_ok-next-in-Read.ensures.0 e

pub loop-symbol-preserved-in-Read : goal.loop-symbol-preserved-in-Read
loop-symbol-preserved-in-Read c =
    let text = c.args.text.now in
    let e = popped _ _ _ _ c.in-Some.ensures.items c.in-Read.is in
    let xs = reverse c.pop.new.self.items in
    let d = draft_of c.loop-symbol.draft in
    let rest = rest_of text c.loop-symbol.next in
    let r = runs_same _ _ d d rest rest _ e refl refl c.loop-symbol.invariant.runs in
    let s = read_runs text c.loop-symbol.next c.in-Read.role xs d _ _ c.in_ok-token-in-Read.ensures r in
    record {
      inside = c.in_ok-next-in-Read.ensures.1;
      runs = runs_same xs xs _ _ _ _ _ refl (sym c.take.ensures) c.in_ok-next-in-Read.ensures.0 s;
    }

pub returns-in-None : goal.returns-in-None
returns-in-None c =
    let text = c.args.text.now in
    let e = popped _ _ _ _ c.in-Some.ensures.items c.in-Rule.is in
    let d = draft_of c.loop-symbol.draft in
    let rest = rest_of text c.loop-symbol.next in
    let r = runs_same _ _ d d rest rest _ e refl refl c.loop-symbol.invariant.runs in
    let h : chosen c.in-Rule.part (ahead rest) ≡ None = ap (λ (n : Option TokenKind). chosen c.in-Rule.part n) (sym c.kind_ahead.ensures) ∙ c.in-None.ensures in
    let t = told_tells (parsed (scan_from text 0)) (stopped rest) (stops_rule c.in-Rule.part _ d rest _ h r) in
    subst (λ (v : ReadFault). Tells (parsed (scan_from text 0)) v) (sym c.unexpected.ensures) t

pub loop-symbol-smaller : goal.loop-symbol-smaller
loop-symbol-smaller c =
    let e = popped _ _ _ _ c.in-Some.ensures.items c.in-Rule.is in
    let f = ap effort e in
    let p = ap effort c.in_ok-push_all-in-Some-choose.ensures in
    let q = c.in-Some-choose.ensures in
    omega (arith, f, p, effort_rule c.in-Rule.part _ _ (reverse c.pop.new.self.items) q)

pub loop-symbol-preserved : goal.loop-symbol-preserved
loop-symbol-preserved c =
    let text = c.args.text.now in
    let e = popped _ _ _ _ c.in-Some.ensures.items c.in-Rule.is in
    let d = draft_of c.loop-symbol.draft in
    let rest = rest_of text c.loop-symbol.next in
    let r = runs_same _ _ d d rest rest _ e refl refl c.loop-symbol.invariant.runs in
    let h = ap (λ (n : Option TokenKind). chosen c.in-Rule.part n) (sym c.kind_ahead.ensures) ∙ c.in-Some-choose.ensures in
    record {
      inside = c.loop-symbol.invariant.inside;
      runs = runs_same _ _ d d rest rest _ (sym c.in_ok-push_all-in-Some-choose.ensures) refl refl (runs_rule c.in-Rule.part _ _ d rest _ h r);
    }

pub returns-in-Some-next : goal.returns-in-Some-next
returns-in-Some-next c =
    let text = c.args.text.now in
    let d = draft_of c.loop-symbol.draft in
    let z = emptied c.loop-symbol.stack.items (omega (arith, c.in_default.ensures.cases.0, c.loop-symbol.stack.ok.0)) in
    let r = runs_same _ [] d d _ _ _ z refl (ap (λ (v : Option CodedToken). rest_of text v) c.in-Some-next.is) c.loop-symbol.invariant.runs in
    stops_closed d _ _ r

pub returns : goal.returns
returns c =
    let text = c.args.text.now in
    let d = draft_of c.loop-symbol.draft in
    let z = emptied c.loop-symbol.stack.items (omega (arith, c.in_default.ensures.cases.0, c.loop-symbol.stack.ok.0)) in
    let r = runs_same _ [] d d _ _ _ z refl (ap (λ (v : Option CodedToken). rest_of text v) c.in-None-next.is) c.loop-symbol.invariant.runs in
    stops_closed d _ _ r
