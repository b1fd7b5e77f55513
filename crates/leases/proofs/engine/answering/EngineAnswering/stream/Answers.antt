-- The engine over the streams that the declaration leaves.
use Rattle.std.proofs.Common.{◌≡◌, ℕ, OnErr, OnOk, map, refl, subst, w64}
use Rattle.std.proofs.lemmas.Int.{to_z-of_z}
use Rattle.reference.specs.CallViews.{texts_of}
use Rattle.reference.specs.World.{Does, declare_step}
use Rattle.laws_engine.specs.Calls.{declared}
use Rattle.laws_engine.specs.Engines.{answers_in, upto_by}
use Rattle.laws_engine.proofs.PromiseLemmas.{keeps_its_promises}
use Rattle.leases.specs.Shown.{engine_in, world_in}
use Rattle.leases.specs.Sound.{IsSound}
use Rattle.leases.specs.Whole.{HasNumbers, IsWhole}
use Rattle.leases.specs.declared.state.EngineState.{EngineState}
use Rattle.leases.proofs.NumberLemmas.{gives_none, spent}
use Rattle.leases.proofs.StreamLemmas.{at_streams, declare_changes, declare_changes_not, declare_sound}
use Rattle.leases.proofs.WholeLemmas.{whole_same}
use Rattle.leases.proofs.engine.answering.EngineAnswering.stream.Goals as goal

-- the state afterwards
abbrev after : goal.After-declare → EngineState
after c = at_streams c.self.inside.state c.declare.new.self

did : (c : goal.After-declare) → Does (λ (n : ℕ). n) (world_in c.self.inside.state) (declare_step (world_in c.self.inside.state) c.args.name.now (texts_of c.args.columns.now) c.args.from) c.declare.result (world_in (after c))
did c =
    let e = engine_in c.self.inside.state in
    simp (to_z-of_z w64 c.args.from c.ranges.from) at (c.declare.ensures.does e.machine.queries (map answers_in e.queries) (upto_by e.machine.queries e.queries))

changes : (c : goal.After-declare) → OnOk c.declare.result (engine_in (after c) ≡ declared (engine_in c.self.inside.state) c.args.name.now (texts_of c.args.columns.now) c.args.from)
changes c = declare_changes c.self.inside.state c.declare.new.self c.args.name.now (texts_of c.args.columns.now) c.args.from c.declare.result (did c)

changes_not : (c : goal.After-declare) → OnErr c.declare.result (engine_in (after c) ≡ engine_in c.self.inside.state)
changes_not c = declare_changes_not c.self.inside.state c.declare.new.self c.args.name.now (texts_of c.args.columns.now) c.args.from c.declare.result (did c)

sound : (c : goal.After-declare) → IsSound (after c)
sound c = declare_sound c.self.inside.state c.declare.new.self c.args.name.now (texts_of c.args.columns.now) c.args.from c.declare.result c.self.invariant (did c)

pub invariant_of-self : goal.invariant_of-self
invariant_of-self c = sound c

pub returns-clause-does : goal.returns-clause-does
returns-clause-does c =
    subst (λ s. Does (λ (n : ℕ). n) (world_in s) (declare_step (world_in s) c.args.name.now (texts_of c.args.columns.now) c.args.from) c.declare.result (world_in (after c))) c.self.view_is (did c)

pub returns-clause-engine : goal.returns-clause-engine
returns-clause-engine c = subst (λ s. OnOk c.declare.result (engine_in (after c) ≡ declared (engine_in s) c.args.name.now (texts_of c.args.columns.now) c.args.from)) c.self.view_is (changes c)

pub returns-clause-err : goal.returns-clause-err
returns-clause-err c = subst (λ s. OnErr c.declare.result (engine_in (after c) ≡ engine_in s)) c.self.view_is (changes_not c)

pub returns-clause-whole : goal.returns-clause-whole
returns-clause-whole c = subst (λ s. IsWhole s → IsWhole (after c)) c.self.view_is (whole_same c.declare.result (engine_in c.self.inside.state) _ (engine_in (after c)) (changes c) (changes_not c) refl refl)

pub returns-clause-spent : goal.returns-clause-spent
returns-clause-spent c =
    subst (λ s. HasNumbers (after c) → HasNumbers s) c.self.view_is
    (spent (engine_in c.self.inside.state) (engine_in (after c)) (gives_none c.declare.result (engine_in c.self.inside.state) _ (engine_in (after c)) (changes c) (changes_not c) refl))

pub returns-clause-promises : goal.returns-clause-promises
returns-clause-promises c = keeps_its_promises _ (sound c).good
