use Rattle.std.proofs.Common.{◌≡◌, ◌∙◌, length, take, sym, ap, arith, rules}
use Rattle.values.specs.Row.{row_cmp}
use Rattle.row_bags.specs.Bags.{array_cmp}
use Rattle.row_bags.proofs.FrontLemmas.{Array}
use Rattle.row_bags.proofs.KeyLemmas.{inside-cmp, cmp-next, cmp-differs, cmp-end}
use Rattle.row_bags.proofs.key.RowKeyOrd.cmp.Goals as goal

pub loop-place-init : goal.loop-place-init
loop-place-init g c =
    let a = c.self.inside in
    let b = c.other.inside in
    let la : length a.values ≡ g.row.N = search rules in
    let lb : length b.values ≡ g.row.N = search rules in
    inside-cmp a.values b.values a.len b.len g.row.N la lb c.self.invariant.1 c.other.invariant.1 c.self.invariant.2 c.other.invariant.2
    ∙ ap (λ (r : Array). row_cmp r.items (take b.len b.values)) c.self.view_is
    ∙ ap (λ (r : Array). array_cmp c.args.self.now r) c.other.view_is

pub returns-then-is_ne : goal.returns-then-is_ne
returns-then-is_ne g c =
    let a = c.self.inside in
    let b = c.other.inside in
    let la : length a.values ≡ g.row.N = search rules in
    let lb : length b.values ≡ g.row.N = search rules in
    cmp-differs a.values b.values c.loop-place.place a.len b.len g.row.N c.index-self-place.result c.index-other-place.result c.cmp-found.result (array_cmp c.args.self.now c.args.other.now)
    la lb c.loop-place-test.true c.cmp-found.ensures (sym c.is_ne.ensures ∙ c.if-is_ne.true) c.loop-place.invariant

pub loop-place-preserved : goal.loop-place-preserved
loop-place-preserved g c =
    let a = c.self.inside in
    let b = c.other.inside in
    let la : length a.values ≡ g.row.N = search rules in
    let lb : length b.values ≡ g.row.N = search rules in
    cmp-next a.values b.values c.loop-place.place a.len b.len g.row.N c.index-self-place.result c.index-other-place.result c.cmp-found.result (array_cmp c.args.self.now c.args.other.now)
    la lb c.loop-place-test.true c.cmp-found.ensures (sym c.is_ne.ensures ∙ c.if-is_ne.false) c.loop-place.invariant

pub returns : goal.returns
returns g c =
    let a = c.self.inside in
    let b = c.other.inside in
    let la : length a.values ≡ g.row.N = search rules in
    let lb : length b.values ≡ g.row.N = search rules in
    let done : c.loop-place.place ≡ g.row.N = omega (arith, c.loop-place-test.false, c.loop-place.auto.place-end) in
    c.cmp.ensures ∙ cmp-end a.values b.values c.loop-place.place g.row.N a.len b.len (array_cmp c.args.self.now c.args.other.now) la lb done c.loop-place.invariant
