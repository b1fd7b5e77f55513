-- The engine over the streams that the append leaves, and its count of rows.
use Rattle.std.proofs.Common.{◌≡◌, ℕ, OnErr, OnOk, map, refl, sym, ap, ◌∙◌, subst}
use Rattle.std.specs.Prelude.{⊤}
use Rattle.reference.specs.World.{Does, append_step}
use Rattle.stream_store.specs.Beside.{IsLimit}
use Rattle.laws_engine.specs.Calls.{appended}
use Rattle.laws_engine.specs.Engines.{PlainEngine, answers_in, upto_by, world_of}
use Rattle.laws_engine.proofs.PromiseLemmas.{keeps_its_promises}
use Rattle.leases.specs.Queues.{LeavesQueues}
use Rattle.leases.specs.Shown.{engine_in, world_in}
use Rattle.leases.specs.Sound.{IsSound}
use Rattle.leases.specs.Undropped.{UndroppedQueries, least}
use Rattle.leases.specs.Whole.{HasNumbers, IsWhole}
use Rattle.leases.specs.declared.state.EngineState.{EngineState}
use Rattle.leases.proofs.CountedLemmas.{counted_sound}
use Rattle.leases.proofs.LimitLemmas.{is_limit}
use Rattle.leases.proofs.NumberLemmas.{gives_none, spent}
use Rattle.leases.proofs.QueueLemmas.{append_leaves_queues}
use Rattle.leases.proofs.StreamLemmas.{at_streams, append_changes, append_changes_not, append_sound}
use Rattle.leases.proofs.WholeLemmas.{whole_same}
use Rattle.leases.proofs.engine.answering.EngineAnswering.append.Goals as goal

-- the state over these streams, and the one behind that counts the rows
abbrev over : goal.After-count_stored → EngineState
over c = at_streams c.self.inside.state c.append-answer.new.self

abbrev after : goal.After-count_stored → EngineState
after c = c.count_stored.new.self

-- both are the same engine
same : (c : goal.After-count_stored) → engine_in (after c) ≡ engine_in (over c)
same c = ap engine_in c.count_stored.ensures.same

moved : (c : goal.After-count_stored) (P : PlainEngine → Type 0) → P (engine_in (over c)) → P (engine_in (after c))
moved c P h = subst P (sym (same c)) h

-- the row limit of its queries
limit : (c : goal.After-count_stored) → IsLimit c.args.stream c.most_rows-most.result (engine_in c.self.inside.state).machine.queries
limit c =
    let queries = (engine_in c.self.inside.state).machine.queries in
    subst (λ (most : ℕ). IsLimit c.args.stream most queries) (sym (c.most_rows-most.ensures ∙ ap (λ (u : UndroppedQueries). least c.args.stream u.limits) c.self.invariant.named)) (is_limit c.args.stream queries)

did : (c : goal.After-count_stored) → Does (λ (u : ⊤). u) (world_in c.self.inside.state) (append_step (world_in c.self.inside.state) c.args.stream c.args.rows.now) c.append-answer.result (world_in (over c))
did c =
    let e = engine_in c.self.inside.state in
    c.append-answer.ensures.does e.machine.queries (map answers_in e.queries) (upto_by e.machine.queries e.queries) (limit c)

changes : (c : goal.After-count_stored) → OnOk c.append-answer.result (engine_in (after c) ≡ appended (engine_in c.self.inside.state) c.args.stream c.args.rows.now)
changes c =
    moved c (λ e. OnOk c.append-answer.result (e ≡ appended (engine_in c.self.inside.state) c.args.stream c.args.rows.now))
    (append_changes c.self.inside.state c.append-answer.new.self c.args.stream c.args.rows.now c.append-answer.result (did c))

changes_not : (c : goal.After-count_stored) → OnErr c.append-answer.result (engine_in (after c) ≡ engine_in c.self.inside.state)
changes_not c =
    moved c (λ e. OnErr c.append-answer.result (e ≡ engine_in c.self.inside.state))
    (append_changes_not c.self.inside.state c.append-answer.new.self c.args.stream c.args.rows.now c.append-answer.result (did c))

sound : (c : goal.After-count_stored) → IsSound (after c)
sound c =
    counted_sound (over c) (after c) c.count_stored.ensures.same
    (append_sound c.self.inside.state c.append-answer.new.self c.args.stream c.args.rows.now c.append-answer.result c.self.invariant (did c))

pub invariant_of-self : goal.invariant_of-self
invariant_of-self c = sound c

pub returns-clause-does : goal.returns-clause-does
returns-clause-does c =
    subst (λ s. Does (λ (u : ⊤). u) (world_in s) (append_step (world_in s) c.args.stream c.args.rows.now) c.append-answer.result (world_in (after c))) c.self.view_is
    (moved c (λ e. Does (λ (u : ⊤). u) (world_in c.self.inside.state) (append_step (world_in c.self.inside.state) c.args.stream c.args.rows.now) c.append-answer.result (world_of e)) (did c))

pub returns-clause-engine : goal.returns-clause-engine
returns-clause-engine c = subst (λ s. OnOk c.append-answer.result (engine_in (after c) ≡ appended (engine_in s) c.args.stream c.args.rows.now)) c.self.view_is (changes c)

pub returns-clause-err : goal.returns-clause-err
returns-clause-err c = subst (λ s. OnErr c.append-answer.result (engine_in (after c) ≡ engine_in s)) c.self.view_is (changes_not c)

pub returns-clause-whole : goal.returns-clause-whole
returns-clause-whole c = subst (λ s. IsWhole s → IsWhole (after c)) c.self.view_is (whole_same c.append-answer.result (engine_in c.self.inside.state) _ (engine_in (after c)) (changes c) (changes_not c) refl refl)

pub returns-clause-spent : goal.returns-clause-spent
returns-clause-spent c =
    subst (λ s. HasNumbers (after c) → HasNumbers s) c.self.view_is
    (spent (engine_in c.self.inside.state) (engine_in (after c)) (gives_none c.append-answer.result (engine_in c.self.inside.state) _ (engine_in (after c)) (changes c) (changes_not c) refl))

pub returns-clause-promises : goal.returns-clause-promises
returns-clause-promises c = keeps_its_promises _ (sound c).good

pub returns-clause-queues : goal.returns-clause-queues
returns-clause-queues c =
    subst (λ s. LeavesQueues (engine_in s) (engine_in (after c))) c.self.view_is
    (moved c (λ e. LeavesQueues (engine_in c.self.inside.state) e)
    (append_leaves_queues c.self.inside.state c.append-answer.new.self c.args.stream c.args.rows.now c.append-answer.result (did c)))
