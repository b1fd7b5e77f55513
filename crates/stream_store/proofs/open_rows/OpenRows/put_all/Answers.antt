use Rattle.std.proofs.Common.{◌≡◌, ◌<◌, ◌∙◌, sym, ap₂, subst, ℕ, List}
use Rattle.std.specs.List.{AllByRecursion}
use Rattle.values.specs.Window.{Element}
use Rattle.stream_store.specs.Open.{Entry}
use Rattle.stream_store.specs.OpenRows.{RisenRows, OpenElements, IsOpen, first_risen, open_in}
use Rattle.stream_store.proofs.OpenLemmas.{kept_first, kept_rows, kept_parts}
use Rattle.stream_store.proofs.open_rows.OpenRows.put_all.Goals as goal

pub invariant_of-self-in-Err : goal.invariant_of-self-in-Err
invariant_of-self-in-Err c =
    let o = c.self.inside in
    let numbered = subst (λ (w : OpenElements). AllByRecursion (λ (e : Element). e.arrival < c.args.first) w.rows) (sym c.self.view_is) c.requires.numbered in
    let first : c.keep_first.new.self ≡ o.rising =
    c.keep_first.ensures
    ∙ ap₂ (λ (n m : ℕ). first_risen n m c.put_runs.new.rising) c.len-count.ensures c.reached-reached.ensures.value
    ∙ kept_first o.rising c.put_runs.new.rising c.put_runs.ensures.width c.put_runs.ensures.rising in
    let entries = c.forget_from.ensures ∙ c.put_runs.ensures.late in
    subst (λ (r : RisenRows). IsOpen r c.forget_from.new.late.entries) (sym first)
    (subst (λ (es : List Entry). IsOpen o.rising es) (sym entries) (kept_parts c.args.first o.rising o.late.entries numbered c.self.invariant))

pub returns-in-Err-clause-err : goal.returns-in-Err-clause-err
returns-in-Err-clause-err c =
    let o = c.self.inside in
    let numbered = subst (λ (w : OpenElements). AllByRecursion (λ (e : Element). e.arrival < c.args.first) w.rows) (sym c.self.view_is) c.requires.numbered in
    let first : c.keep_first.new.self ≡ o.rising =
    c.keep_first.ensures
    ∙ ap₂ (λ (n m : ℕ). first_risen n m c.put_runs.new.rising) c.len-count.ensures c.reached-reached.ensures.value
    ∙ kept_first o.rising c.put_runs.new.rising c.put_runs.ensures.width c.put_runs.ensures.rising in
    let entries = c.forget_from.ensures ∙ c.put_runs.ensures.late in
    ap₂ (λ (r : RisenRows) (es : List Entry). open_in r es) first entries ∙ kept_rows c.args.first o.rising o.late.entries numbered ∙ c.self.view_is
