-- What the engine's clauses say of a call that was accepted.
use Rattle.std.proofs.Common.{◌≡◌, ◌∙◌, ℕ, ℤ, List, Option, Ok, length, take, refl, sym, ap, arith, subst}
use Rattle.std.proofs.lemmas.List.{length-take-le, length-map}
use Rattle.std.specs.Prelude.{⊤, slice_get}
use Rattle.values.specs.Row.{Row}
use Rattle.reference.proofs.CommandSteps.{append_is_step, declare_is_step, drop_is_step, heartbeat_is_step, register_is_step}
use Rattle.reference.specs.Commands.{Declare, Register, Append, Heartbeat, Take, Drop, after}
use Rattle.reference.specs.Replies.{Reply, Number, Done, Rows}
use Rattle.reference.specs.Steps.{AreNext}
use Rattle.reference.specs.World.{Does, append_step, declare_step, drop_step, handed, heartbeat_step, register_step}
use Rattle.stream_store.specs.Gains.{QueuesGain}
use Rattle.laws_engine.specs.Calls.{appended, heartbeat_taken, declared, dropped}
use Rattle.laws_engine.specs.Engines.{PlainEngine, answers_in, remains_at, world_of}
use Rattle.leases.specs.Queues.{LeavesQueues, LengthensQueues}
use Rattle.leases.specs.Registering.{Registers}
use Rattle.leases.specs.Takes.{Takes, count_of}
use Rattle.hub.specs.Calls.{Answered}

both : {A B : Type 0} (p : A × B) (a : A) (b : B) → a ≡ p.0 → b ≡ p.1 → p ≡ (a, b)
both p a b e h = rw (e, h) refl

module _ (old new : PlainEngine) where
  pub declare_done : (name : List ℕ) (columns : List (List ℕ)) (start : ℤ) (k : ℕ) → Does (λ (n : ℕ). n) (world_of old) (declare_step (world_of old) name columns start) (Ok k) (world_of new)
      → new ≡ declared old name columns start → Answered old (Declare name columns start) (Number k) new
  declare_done name columns start k does is = record { step = declare_is_step (world_of old) (world_of new) name columns start k does; call = is }

  pub register_done : (name text : List ℕ) (chart : Option (List (ℤ × ℤ))) (k : ℕ) → Does (λ (n : ℕ). n) (world_of old) (register_step (world_of old) name text chart) (Ok k) (world_of new)
      → Registers old name text chart new → Answered old (Register name text chart) (Number k) new
  register_done name text chart k does is = record { step = register_is_step (world_of old) (world_of new) name text chart k does; call = is }

  pub append_done : (s : ℕ) (rows : List (ℤ × List (Option ℤ))) (u : ⊤) → Does (λ u. u) (world_of old) (append_step (world_of old) s rows) (Ok u) (world_of new)
      → new ≡ appended old s rows → LeavesQueues old new → Answered old (Append s rows) Done new
  append_done s rows u does is leaves = record { step = append_is_step (world_of old) (world_of new) s rows does; call = (is, leaves) }

  pub heartbeat_done : (s : ℕ) (at : ℤ) (u : ⊤) → Does (λ u. u) (world_of old) (heartbeat_step (world_of old) s at) (Ok u) (world_of new)
      → new ≡ heartbeat_taken old s at → QueuesGain (slice_get old.machine.streams s) at → LengthensQueues s at old new → Answered old (Heartbeat s at) Done new
  heartbeat_done s at u does is gain lengthens = record { step = heartbeat_is_step (world_of old) (world_of new) s at does; call = (is, gain, lengthens) }

  pub drop_done : (n : ℕ) (u : ⊤) → Ok u ≡ (drop_step (world_of old) n).0 → world_of new ≡ (drop_step (world_of old) n).1 → new ≡ dropped old n → Answered old (Drop n) Done new
  drop_done n u does world is = record { step = drop_is_step (world_of old) (world_of new) n (both _ _ _ does world); call = is }

  -- how many answers are handed out
  handed_many : (n : ℕ) (limit : ℤ) (rows : List (ℤ × Row)) → rows ≡ handed (take (count_of old n limit) (answers_in (remains_at old n))) → length rows ≡ count_of old n limit
  handed_many n limit rows is =
      ap length is ∙ length-map (take (count_of old n limit) (answers_in (remains_at old n))) _ ∙ length-take-le (count_of old n limit) (answers_in (remains_at old n)) (omega arith)

  pub take_done : (n : ℕ) (limit : ℤ) (rows : List (ℤ × Row)) → Takes (λ rs. rs) old n limit (Ok rows) new → AreNext old.machine n limit rows → Answered old (Take n limit) (Rows rows) new
  take_done n limit rows takes next = record {
    step = record {
      accepted = takes.0;
      gives = next;
      after = ap (λ e. e.machine) takes.2 ∙ ap (λ k. after old.machine (Take n limit) k) (sym (handed_many n limit rows takes.1));
    };
    call = takes;
  }

  -- a take answers what a peek showed before it
  pub taken_shown : (n : ℕ) (limit : ℤ) (rows : List (ℤ × Row)) (r : Reply) → r ≡ Rows rows → Takes (λ rs. rs) old n limit (Ok rows) new → AreNext old.machine n limit rows
      → Answered old (Take n limit) r new
  taken_shown n limit rows r is takes next = subst (λ x. Answered old (Take n limit) x new) (sym is) (take_done n limit rows takes next)
