use Rattle.std.proofs.Common.{◌≡◌, ◌∷◌, ◌++◌, [], List, false, length, ap, rules}
use Rattle.group.specs.Cells.{Held, CellState}
use Rattle.group.specs.Keys.{IsShort}
use Rattle.group.specs.Turns.{has_key}
use Rattle.group.proofs.ShortLemmas.{moved-all, moved-new, moved-none, moved-one, moved-short}
use Rattle.group.proofs.slots.Slots.widened.Goals as goal

pub loop-key-init : goal.loop-key-init
loop-key-init g c = moved-none g.row.N c.new-wider.result.entries c.args.self.now.entries c.new-wider.ensures c.ordered.ensures.sorted c.ordered.ensures.short

pub insert-requires : goal.insert-requires
insert-requires g c =
    let p : Held × CellState = (c.in-Some.key, c.in-Some.cell) in
    let old = c.loop-key.self.entries in
    let rest = c.pop_last.new.self.entries in
    let split : old ≡ rest ++ p ∷ [] = search rules in
    let short : IsShort g.row.N p.0 = moved-short g.row.N old rest c.loop-key.wider.entries c.args.self.now.entries p split c.loop-key.invariant in
    let new : has_key p.0 c.loop-key.wider.entries ≡ false = moved-new g.row.N old rest c.loop-key.wider.entries c.args.self.now.entries p split c.loop-key.invariant in
    search rules

pub loop-key-preserved : goal.loop-key-preserved
loop-key-preserved g c =
    let p : Held × CellState = (c.in-Some.key, c.in-Some.cell) in
    let old = c.loop-key.self.entries in
    let rest = c.pop_last.new.self.entries in
    let split : old ≡ rest ++ p ∷ [] = search rules in
    moved-one g.row.N old rest c.loop-key.wider.entries c.insert.new.self.entries c.args.self.now.entries p c.copied.result split c.copied.ensures c.in_ok-insert.ensures.ok c.loop-key.invariant

pub returns : goal.returns
returns g c =
    let none : c.loop-key.self.entries ≡ [] = search rules in
    ap (λ (es : List (Held × CellState)). record { entries = es }) (moved-all g.row.N c.loop-key.self.entries c.loop-key.wider.entries c.args.self.now.entries (ap (λ (es : List (Held × CellState)). length es) none) c.loop-key.invariant)
