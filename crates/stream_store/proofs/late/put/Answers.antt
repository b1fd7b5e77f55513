use Rattle.std.proofs.Common.{◌≡◌, ◌∙◌, ◌*◌, length, sym, ap, subst, ℕ, List}
use Rattle.std.specs.BTreeMap.{BTreeMap, is_at, insert_entry}
use Rattle.std.specs.Map.{set_value}
use Rattle.std.specs.Ordering.{nat_cmp}
use Rattle.std.proofs.lemmas.Map.Steps.{set_value_same}
use Rattle.std.proofs.lemmas.Result.{on_err_weaker, on_ok_weaker}
use Rattle.stream_store.specs.Open.{Entry}
use Rattle.stream_store.specs.LateRows.{RowsAt, lent_rows, with_rows}
use Rattle.stream_store.proofs.KeyLemmas.{wide_found, put_rows-found, put_rows-absent}
use Rattle.stream_store.proofs.late.put.Goals as goal

pub push_all-requires-clause-full : goal.push_all-requires-clause-full
push_all-requires-clause-full c =
    let same = wide_found c.args.width c.args.instant c.args.late.now.entries c.in-Some.open.now c.requires.wide (sym c.in-Some.ensures.value) in
    subst (λ k. length c.args.values.now ≡ length c.args.instants.now * k) (sym same) c.requires.full

pub returns-in-Some-clause-ok : goal.returns-in-Some-clause-ok
returns-in-Some-clause-ok c =
    let es = c.args.late.now.entries in
    let test = is_at (nat_cmp c.args.instant) in
    let same = wide_found c.args.width c.args.instant es c.in-Some.open.now c.requires.wide (sym c.in-Some.ensures.value) in
    let pushed = ap (λ k. with_rows c.args.first (lent_rows k c.args.instants.now c.args.values.now) c.in-Some.open.now) same in
    let put = put_rows-found c.args.width c.args.instant c.args.first (lent_rows c.args.width c.args.instants.now c.args.values.now) es c.in-Some.open.now c.in-Some.ensures.ordered (sym c.in-Some.ensures.value) in
    on_ok_weaker c.push_all.result (λ e. (c.get_mut.follows.holds c.push_all.new.self).0 ∙ ap (λ (o : RowsAt). set_value test es o) (e ∙ pushed) ∙ put) c.push_all.ensures.ok

pub returns-in-Some-clause-err : goal.returns-in-Some-clause-err
returns-in-Some-clause-err c =
    let es = c.args.late.now.entries in
    let test = is_at (nat_cmp c.args.instant) in
    let same = set_value_same test es c.in-Some.open.now (sym c.in-Some.ensures.value) in
    on_err_weaker c.push_all.result (λ e. (c.get_mut.follows.holds c.push_all.new.self).0 ∙ ap (λ (o : RowsAt). set_value test es o) e ∙ same) c.push_all.ensures.err

pub returns-clause-ok : goal.returns-clause-ok
returns-clause-ok c =
    let es = c.args.late.now.entries in
    let kept = ap (λ (m : BTreeMap ℕ RowsAt). m.entries) c.get_mut.follows.holds-at-none in
    let pushed = c.in_ok-push_all.ensures.ok ∙ ap (λ (o : RowsAt). with_rows c.args.first (lent_rows o.width c.args.instants.now c.args.values.now) o) c.new-open.ensures in
    c.in_ok-insert.ensures.entries ∙ ap (λ (xs : List Entry). insert_entry nat_cmp xs c.args.instant c.push_all-2.new.self) kept
    ∙ ap (λ (o : RowsAt). insert_entry nat_cmp es c.args.instant o) pushed
    ∙ put_rows-absent c.args.width c.args.instant c.args.first (lent_rows c.args.width c.args.instants.now c.args.values.now) es (sym c.in_default.ensures.value)
