use Rattle.std.proofs.Common.{◌≡◌, ◌∙◌, ◌++◌, ap, ap₂, sym, subst, arith, List, ℕ, Option, ℤ, is_ok, true}
use Rattle.values.specs.Row.{Row}
use Rattle.row_bags.specs.declared.dated_rows.DatedHead.{DatedHead}
use Rattle.row_bags.specs.Dated.{dated_by, AreHeaded}
use Rattle.row_bags.proofs.DatedLemmas.{AreHeaded-append, always, dated_by-append}
use Rattle.row_bags.proofs.dated_rows.DatedRows.append.Goals as goal

pub invariant_of-self-2 : goal.invariant_of-self-2
invariant_of-self-2 c =
    let s = c.self.inside in
    let o = c.other.inside in
    let fits : is_ok c.append-2.result ≡ true = c.append-2.ensures.succeeds (omega (arith, c.in_ok-reserve.ensures.ok, c.len.ensures)) in
    let heads : c.append.new.self.items ≡ s.heads.items ++ o.heads.items = c.in_ok-append.ensures.items in
    let values : c.append-2.new.self.items ≡ s.values.items ++ o.values.items = rw fits at c.append-2.ensures.items ∙ ap (λ (l : List (Option ℤ)). l ++ o.values.items) c.in_ok-reserve.ensures.items in
    subst (λ (l : List DatedHead). AreHeaded l c.append-2.new.self.items) (sym heads) (subst (AreHeaded (s.heads.items ++ o.heads.items)) (sym values) (AreHeaded-append s.heads.items o.heads.items s.values.items o.values.items c.self.invariant c.other.invariant))

pub returns-clause-ok : goal.returns-clause-ok
returns-clause-ok c =
    let s = c.self.inside in
    let o = c.other.inside in
    let fits : is_ok c.append-2.result ≡ true = c.append-2.ensures.succeeds (omega (arith, c.in_ok-reserve.ensures.ok, c.len.ensures)) in
    let heads : c.append.new.self.items ≡ s.heads.items ++ o.heads.items = c.in_ok-append.ensures.items in
    let values : c.append-2.new.self.items ≡ s.values.items ++ o.values.items = rw fits at c.append-2.ensures.items ∙ ap (λ (l : List (Option ℤ)). l ++ o.values.items) c.in_ok-reserve.ensures.items in
    always c.append-2.result
    (ap₂ (λ (l : List DatedHead) (v : List (Option ℤ)). dated_by l v) heads values
    ∙ dated_by-append s.heads.items o.heads.items s.values.items o.values.items c.self.invariant
    ∙ ap₂ (λ (a b : List (ℕ × Row)). a ++ b) c.self.view_is c.other.view_is)
