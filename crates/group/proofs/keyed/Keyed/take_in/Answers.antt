use Rattle.std.proofs.Common.{◌≡◌, ◌∙◌, ◌+◌, ◌^◌, ◌≤◌, ap, sym, subst, length, List, rules}
use Rattle.std.specs.BTreeSet.{insert_key}
use Rattle.values.specs.declared.resolved.SourceColumn.{SourceColumn}
use Rattle.values.specs.declared.resolved.ListItem.{ListItem}
use Rattle.group.specs.Batches.{row_in}
use Rattle.group.specs.Cells.{Held, held, held_cmp, CellRoom, ReadsInRange}
use Rattle.group.specs.Groups.{key_in}
use Rattle.group.specs.Turns.{cell_of, row_key, taken_in}
use Rattle.group.proofs.keyed.Keyed.take_in.Goals as goal

pub at-key-requires : goal.at-key-requires
at-key-requires g c =
    let fits : length c.by.result.now ≤ g.row.N = subst (λ (cs : List SourceColumn). length cs ≤ g.row.N) (sym c.by.ensures.value) c.requires.fits in
    search rules

pub take_key-requires : goal.take_key-requires
take_key-requires g c =
    let r = row_in c.args.batch.now c.args.place in
    let same : c.at-key.result ≡ row_key c.args.group.now r = c.at-key.ensures.value ∙ ap (λ (cs : List SourceColumn). held (key_in cs r.1)) c.by.ensures.value in
    let P : List ListItem → Held → Type 0 = λ js q. CellRoom (2 ^ 62 + 1024) js (cell_of (length js) q c.args.self.now.cells) in
    let room : P c.items.result.now c.at-key.result = subst (λ (js : List ListItem). P js c.at-key.result) (sym c.items.ensures.value) (subst (λ (q : Held). P c.args.group.now.items q) (sym same) c.requires.room) in
    search rules

pub returns-clause-cells : goal.returns-clause-cells
returns-clause-cells g c =
    let r = row_in c.args.batch.now c.args.place in
    let same : c.at-key.result ≡ row_key c.args.group.now r = c.at-key.ensures.value ∙ ap (λ (cs : List SourceColumn). held (key_in cs r.1)) c.by.ensures.value in
    c.in_ok-take_key.ensures.cells
    ∙ ap (λ (js : List ListItem). taken_in js c.at-key.result r c.args.self.now.cells) c.items.ensures.value
    ∙ ap (λ (q : Held). taken_in c.args.group.now.items q r c.args.self.now.cells) same

pub returns-clause-touched : goal.returns-clause-touched
returns-clause-touched g c =
    let r = row_in c.args.batch.now c.args.place in
    let same : c.at-key.result ≡ row_key c.args.group.now r = c.at-key.ensures.value ∙ ap (λ (cs : List SourceColumn). held (key_in cs r.1)) c.by.ensures.value in
    c.in_ok-take_key.ensures.touched ∙ ap (insert_key held_cmp c.args.self.now.touched) same

pub returns-clause-range : goal.returns-clause-range
returns-clause-range g c = subst (λ (js : List ListItem). ReadsInRange js (row_in c.args.batch.now c.args.place)) c.items.ensures.value c.in_ok-take_key.ensures.range
