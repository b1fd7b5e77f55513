use Rattle.std.proofs.Common.{◌≡◌, ◌∙◌, ◌<◌, true, false, ap, get_or, length, rules}
use Rattle.std.specs.BTreeMap.{insert_entry}
use Rattle.group.specs.Cells.{Held, held_cmp, CellState, cell_zero}
use Rattle.group.specs.Groups.{no_columns}
use Rattle.group.specs.Turns.{has_key}
use Rattle.group.proofs.PlanLemmas.{begun_first, still_by, still_first}
use Rattle.group.proofs.keyed.begin.Goals as goal

pub returns-then-not-is_whole-clause-begun : goal.returns-then-not-is_whole-clause-begun
returns-then-not-is_whole-clause-begun g c =
    let by : no_columns c.args.group.now.by ≡ false = search rules in
    still_by c.args.group.now c.args.touched.now c.args.cells.now.entries by

pub returns-then-is_some-clause-begun : goal.returns-then-is_some-clause-begun
returns-then-is_some-clause-begun g c =
    let k : Held = c.key-key.result.now in
    let whole : no_columns c.args.group.now.by ≡ true = search rules in
    let first : k ≡ get_or c.args.touched.now 0 k = search rules in
    let has : has_key k c.args.cells.now.entries ≡ true = search rules in
    still_first c.args.group.now c.args.touched.now k c.args.cells.now.entries c.requires.sorted (c.requires.whole whole) first has

pub returns-clause-begun : goal.returns-clause-begun
returns-clause-begun g c =
    let k : Held = c.key-key.result.now in
    let whole : no_columns c.args.group.now.by ≡ true = search rules in
    let first : k ≡ get_or c.args.touched.now 0 k = search rules in
    let new : has_key k c.args.cells.now.entries ≡ false = search rules in
    let some : 0 < length c.args.touched.now = search rules in
    let fresh : c.new.result ≡ cell_zero (length c.args.group.now.items) = search rules in
    begun_first c.args.group.now c.args.touched.now k c.args.cells.now.entries c.insert.new.self.entries whole c.requires.sorted (c.requires.whole whole) some first new
    (c.in_ok-insert.ensures.ok ∙ ap (λ (d : CellState). insert_entry held_cmp c.args.cells.now.entries k d) fresh)
