use Rattle.std.proofs.Common.{None, ◌≡◌, ◌+◌, ◌∷◌, [], ◌++◌, refl, ap, ◌∙◌}
use Rattle.run_queue.specs.Changes.{changed}
use Rattle.leases.proofs.LeaseLemmas.{HasGone, first_leases, goes_out, sound_out}
use Rattle.leases.specs.Shown.{engine_in}
use Rattle.turn.specs.declared.turns.Turn.{Turn}
use Rattle.leases.specs.declared.state.EngineState.{EngineState}
use Rattle.leases.proofs.state.EngineState.give_out.Goals as goal

pub turn-requires : goal.turn-requires
turn-requires c = first_leases (engine_in c.args.self.now) c.args.slot.now c.args.rows c.requires.sound.good c.requires.first c.requires.some

-- the state at the return
abbrev after : goal.After-change → EngineState
after c = record {
  alloc = c.args.self.now.alloc;
  streams = c.args.self.now.streams;
  undropped = c.args.self.now.undropped;
  registered = c.args.self.now.registered;
  remains = c.args.self.now.remains;
  readers = c.args.self.now.readers;
  leases = c.push_reserved.new.self;
  next = c.args.self.now.next + 1;
  slots = c.change.new.self;
  stored = c.args.self.now.stored;
  left = c.args.self.now.left;
}

-- what is kept is what goes out
same : (c : goal.After-change) → c.in_ok-kept.kept ≡ c.in_ok-turn.turn
same c = c.in_ok-kept.ensures

-- the slot is updated, and the turn kept
gone : (c : goal.After-change) → c.change.new.self ≡ changed c.args.slot.now None c.args.self.now.slots → HasGone c.args.self.now (after c) c.args.slot.now c.in_ok-turn.turn
gone c slot_updated = record {
  engine = refl;
  leases = c.push_reserved.ensures.items ∙ (ap (λ z. z ++ c.in_ok-kept.kept ∷ []) c.reserve.ensures.items ∙ ap (λ (z : Turn). c.args.self.now.leases.items ++ z ∷ []) (same c));
  slots = slot_updated;
  next = refl;
  undropped = refl;
  readers = refl;
}

pub returns-clause-turn : goal.returns-clause-turn
returns-clause-turn c =
    goes_out c.args.self.now (after c) c.args.slot.now c.args.rows c.in_ok-turn.turn c.requires.sound c.requires.first c.requires.allowed c.in_ok-turn.ensures (gone c c.change.ensures)

pub returns-clause-sound : goal.returns-clause-sound
returns-clause-sound c =
    sound_out c.args.self.now (after c) c.args.slot.now c.args.rows c.in_ok-turn.turn c.requires.sound c.requires.first c.requires.allowed c.in_ok-turn.ensures (gone c c.change.ensures) c.requires.few c.requires.numbers
