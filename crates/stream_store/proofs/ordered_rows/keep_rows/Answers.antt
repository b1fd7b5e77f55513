use Rattle.std.proofs.Common.{◌≡◌, ◌+◌, ◌-◌, ℕ, suc, arith, subst, sym, List}
use Rattle.values.specs.Window.{Element}
use Rattle.stream_store.specs.OpenRows.{risen_in}
use Rattle.stream_store.specs.Starts.{has_reader}
use Rattle.stream_store.proofs.KeepLemmas.{AreTurned, turned-start, turned-more, turned-end}
use Rattle.stream_store.proofs.RisingLemmas.{length-risen}
use Rattle.stream_store.proofs.ordered_rows.keep_rows.Goals as goal

pub loop-init : goal.loop-init
loop-init c =
    let rows = risen_in c.args.width c.args.heads.now.items c.args.values.now.items in
    record {
      full = c.requires;
      turned = turned-start (has_reader c.args.starts.now) (c.len-count.result - 0) rows (omega (arith, c.len-count.ensures, c.args.heads.now.ok, length-risen c.args.width c.args.heads.now.items c.args.values.now.items));
    }

pub turn_row-requires-clause-some : goal.turn_row-requires-clause-some
turn_row-requires-clause-some c =
    let l = c.loop in
    omega (arith, l.invariant.turned.few, length-risen c.args.width l.heads.items l.values.items, c.loop-test.true)

pub loop-preserved : goal.loop-preserved
loop-preserved c =
    let l = c.loop in
    let p = has_reader c.args.starts.now in
    let old : List Element = risen_in c.args.width c.args.heads.now.items c.args.values.now.items in
    let rows : List Element = risen_in c.args.width l.heads.items l.values.items in
    let left : ℕ = c.len-count.result - (l.counter + 1) in
    let one : c.len-count.result - l.counter ≡ suc left = omega (arith, c.loop-test.true) in
    record {
      full = c.turn_row.ensures.full;
      turned = subst (λ (es : List Element). AreTurned p left old es) (sym c.turn_row.ensures.rows) (turned-more p left old rows (subst (λ n. AreTurned p n old rows) one l.invariant.turned));
    }

pub returns-clause-rows : goal.returns-clause-rows
returns-clause-rows c =
    let l = c.loop in
    turned-end (has_reader c.args.starts.now) (c.len-count.result - l.counter) (risen_in c.args.width c.args.heads.now.items c.args.values.now.items) (risen_in c.args.width l.heads.items l.values.items) (omega arith) l.invariant.turned
