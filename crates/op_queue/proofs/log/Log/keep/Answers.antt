use Rattle.std.proofs.Common.{◌≡◌, ◌≤◌, ◌∙◌, ℤ, Option, List, ap, arith, length, subst, sym}
use Rattle.std.specs.List.{All}
use Rattle.std.proofs.lemmas.List.{length-map}
use Rattle.column.specs.Bits.{chosen}
use Rattle.op_queue.specs.Logs.{Closed}
use Rattle.op_queue.specs.Tables.{lists}
use Rattle.op_queue.proofs.MarkLemmas.{log-elements, log-kept, marked}
use Rattle.op_queue.proofs.log.Log.keep.Goals as goal

pub keep_columns-requires : goal.keep_columns-requires
keep_columns-requires c =
    let l = c.self.inside in
    let same = marked c.args.kept.now l.len l.instants.items l.numbers.items (lists l.columns.items) l.until c.args.self.now c.self.invariant c.self.view_is c.requires in
    subst (λ n. All (λ c. n ≤ length c) (lists l.columns.items)) (sym same) c.self.invariant.table.has_values

pub keep_numbers-requires : goal.keep_numbers-requires
keep_numbers-requires c =
    let l = c.self.inside in
    omega (arith, marked c.args.kept.now l.len l.instants.items l.numbers.items (lists l.columns.items) l.until c.args.self.now c.self.invariant c.self.view_is c.requires, c.self.invariant.table.has_numbers)

pub keep_numbers-requires-2 : goal.keep_numbers-requires-2
keep_numbers-requires-2 c =
    let l = c.self.inside in
    omega (arith, marked c.args.kept.now l.len l.instants.items l.numbers.items (lists l.columns.items) l.until c.args.self.now c.self.invariant c.self.view_is c.requires, c.self.invariant.table.has_instants)

pub invariant_of-self : goal.invariant_of-self
invariant_of-self c =
    let l = c.self.inside in
    let count : c.len-self-inside.result ≡ length c.keep_numbers.new.numbers.items = omega arith in
    rw (count, c.keep_numbers-2.ensures, c.keep_numbers.ensures, c.keep_columns.ensures)
    (log-kept c.args.kept.now l.len l.instants.items l.numbers.items (lists l.columns.items) l.until c.args.self.now c.self.invariant c.self.view_is c.requires)

pub returns-clause-elements : goal.returns-clause-elements
returns-clause-elements c =
    let l = c.self.inside in
    let count : c.len-self-inside.result ≡ length c.keep_numbers.new.numbers.items = omega arith in
    rw (count, c.keep_numbers-2.ensures, c.keep_numbers.ensures, c.keep_columns.ensures)
    (log-elements c.args.kept.now l.len l.instants.items l.numbers.items (lists l.columns.items) l.until c.args.self.now c.self.invariant c.self.view_is c.requires)

pub returns-clause-width : goal.returns-clause-width
returns-clause-width c =
    let l = c.self.inside in
    let f : List (Option ℤ) → List (Option ℤ) = chosen c.args.kept.now in
    ap length c.keep_columns.ensures ∙ length-map (lists l.columns.items) f ∙ ap (λ (l : Closed). l.width) c.self.view_is
