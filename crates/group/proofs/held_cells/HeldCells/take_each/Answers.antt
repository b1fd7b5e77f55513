use Rattle.std.proofs.Common.{◌≡◌, subst, rules}
use Rattle.group.specs.Keys.{KeyedState}
use Rattle.group.specs.Rooms.{kept_in}
use Rattle.group.specs.Runs.{state_with}
use Rattle.group.specs.Turns.{KeepsRoom}
use Rattle.group.proofs.held_cells.HeldCells.take_each.Goals as goal

pub returns-in-One-clause-room : goal.returns-in-One-clause-room
returns-in-One-clause-room c =
    let same : c.in-One.keyed ≡ kept_in c.args.self.now = search rules in
    subst (λ (k : KeyedState). KeepsRoom (state_with c.args.group.now k) (state_with c.args.group.now c.take_each.new.self)) same c.take_each.ensures.room

pub returns-in-Two-clause-room : goal.returns-in-Two-clause-room
returns-in-Two-clause-room c =
    let same : c.in-Two.keyed ≡ kept_in c.args.self.now = search rules in
    subst (λ (k : KeyedState). KeepsRoom (state_with c.args.group.now k) (state_with c.args.group.now c.take_each-in-Two.new.self)) same c.take_each-in-Two.ensures.room

pub returns-in-Four-clause-room : goal.returns-in-Four-clause-room
returns-in-Four-clause-room c =
    let same : c.in-Four.keyed ≡ kept_in c.args.self.now = search rules in
    subst (λ (k : KeyedState). KeepsRoom (state_with c.args.group.now k) (state_with c.args.group.now c.take_each-in-Four.new.self)) same c.take_each-in-Four.ensures.room

pub returns-in-Eight-clause-room : goal.returns-in-Eight-clause-room
returns-in-Eight-clause-room c =
    let same : c.in-Eight.keyed ≡ kept_in c.args.self.now = search rules in
    subst (λ (k : KeyedState). KeepsRoom (state_with c.args.group.now k) (state_with c.args.group.now c.take_each-in-Eight.new.self)) same c.take_each-in-Eight.ensures.room

pub returns-in-Sixteen-clause-room : goal.returns-in-Sixteen-clause-room
returns-in-Sixteen-clause-room c =
    let same : c.in-Sixteen.keyed ≡ kept_in c.args.self.now = search rules in
    subst (λ (k : KeyedState). KeepsRoom (state_with c.args.group.now k) (state_with c.args.group.now c.take_each-in-Sixteen.new.self)) same c.take_each-in-Sixteen.ensures.room

pub returns-in-Widest-clause-room : goal.returns-in-Widest-clause-room
returns-in-Widest-clause-room c =
    let same : c.in-Widest.keyed ≡ kept_in c.args.self.now = search rules in
    subst (λ (k : KeyedState). KeepsRoom (state_with c.args.group.now k) (state_with c.args.group.now c.take_each-in-Widest.new.self)) same c.take_each-in-Widest.ensures.room
