-- The rows that stay, the queries as they go on, and that all is sound.
use Rattle.std.proofs.Common.{length, sym, ap, ap₂, ◌∙◌, subst, subst₂}
use Rattle.std.proofs.lemmas.List.{with_items_is}
use Rattle.leases.specs.Forgets.{AreMarkable, Says, earlier_in, needs_in, restarted_by}
use Rattle.leases.specs.Shown.{engine_in}
use Rattle.leases.specs.Views.{engine_of}
use Rattle.leases.specs.declared.state.EngineState.{EngineState}
use Rattle.leases.proofs.ForgetLemmas.{forgets, forgotten_closed, forgotten_sound}
use Rattle.leases.proofs.MarkLemmas.{markable}
use Rattle.leases.proofs.state.EngineState.forget.Goals as goal

pub keep_rows-requires : goal.keep_rows-requires
keep_rows-requires c = (needs_in (engine_in c.args.self.now), subst (λ v. Says (needs_in (engine_in c.args.self.now)) v c.args.self.now.streams) (sym c.deref.ensures.value) c.in_ok-kept.ensures)

pub restart-requires : goal.restart-requires
restart-requires c = subst₂ AreMarkable (sym c.deref_mut.ensures.value) (sym c.deref-2.ensures.value) (markable c.args.self.now c.requires)

pub returns-clause-ok : goal.returns-clause-ok
returns-clause-ok c =
    ap engine_in c.count_left.ensures.same
    ∙ ap (λ rs. engine_of c.keep_rows.new.streams rs c.args.self.now.remains.items c.args.self.now.leases.items c.args.self.now.next c.args.self.now.slots)
    (with_items_is c.args.self.now.registered c.restart.new.registered (c.restart.auto.registered ∙ ap (λ l. length l) c.deref_mut.ensures.value ∙ sym c.args.self.now.registered.ok.0))
    ∙ forgets c.args.self.now c.keep_rows.new.streams c.restart.new.registered
    (c.keep_rows.ensures (needs_in (engine_in c.args.self.now)) (subst (λ v. Says (needs_in (engine_in c.args.self.now)) v c.args.self.now.streams) (sym c.deref.ensures.value) c.in_ok-kept.ensures))
    (c.restart.ensures ∙ ap₂ (λ x y. restarted_by x y (earlier_in y)) c.deref_mut.ensures.value c.deref-2.ensures.value)

pub returns-clause-sound : goal.returns-clause-sound
returns-clause-sound c =
    forgotten_sound c.args.self.now _ c.requires (forgotten_closed c.args.self.now c.requires) (returns-clause-ok c)
    (ap (λ (s : EngineState). s.leases.items) c.count_left.ensures.same) (ap (λ (s : EngineState). s.next) c.count_left.ensures.same) (ap (λ (s : EngineState). s.undropped) c.count_left.ensures.same) (ap (λ (s : EngineState). s.readers) c.count_left.ensures.same)
