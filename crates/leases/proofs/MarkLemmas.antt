-- Each query that runs has its mark.
use Rattle.std.proofs.Common.{◌≡◌, ◌-◌, ◌<◌, ◌≤◌, ℕ, zero, suc, max, Some, List, [], ◌∷◌, get_or, length, map, slice_get, refl, sym, ap, ◌∙◌, arith}
use Rattle.std.specs.Option.{option_map, option_map_or}
use Rattle.std.proofs.lemmas.List.{length-map}
use Rattle.std.proofs.lemmas.Option.{get_or_from_slice_get, slice_get-map, slice_get_read}
use Rattle.reference.specs.Machine.{Registered}
use Rattle.reference.specs.Opening.{all_instants}
use Rattle.laws_dataflow.proofs.AnswerLemmas.{shaped}
use Rattle.laws_queries.specs.Plain.{PlainQuery}
use Rattle.laws_queries.specs.Machines.{widths_of}
use Rattle.laws_engine.specs.Engines.{Broken, Dropped, PlainEngine, PlainRemains, Running, next_of}
use Rattle.laws_engine.specs.Engines.{query_at, remains_at, upto_in}
use Rattle.laws_engine.specs.Good.{Goes, upto_at}
use Rattle.laws_engine.proofs.InstantLemmas.{until_few}
use Rattle.laws_engine.proofs.MarkLemmas.{goes, next_reached}
use Rattle.leases.specs.Asked.{IsRunningAt}
use Rattle.leases.specs.Forgets.{AreMarkable, IsMarkable}
use Rattle.leases.proofs.TakeLemmas.{remains_is}
use Rattle.leases.specs.Shown.{engine_in}
use Rattle.leases.specs.Sound.{IsSound}
use Rattle.leases.specs.Views.{query_of, remains_of}
use Rattle.leases.specs.declared.registered.Registration.{Registration}
use Rattle.leases.specs.declared.remains.Remains.{Remains}
use Rattle.leases.specs.declared.state.EngineState.{EngineState}

-- EACH HAS ITS MARK
module _ (s : EngineState) (h : IsSound s) where
  abbrev e : PlainEngine
  e = engine_in s

  pub has_mark : (n : ℕ) (q : Registered) (k : PlainRemains) → query_at e n ≡ Some q → remains_at e n ≡ k → IsMarkable q k
  has_mark n q (Running p) here runs =
      let g : Goes e.machine q p = goes e h.good n q p here runs in
      let many : length p.operators ≡ length q.nodes = g.runs.runs.many in
      let stands = g.runs.runs.stands in
      let two : 2 ≤ length q.nodes = (shaped (widths_of e.machine.streams q) e.machine q stands.plan stands.wide).two in
      let low : next_of q p ≤ max q.first all_instants = omega (arith, next_reached e h.good n q p here runs, until_few e.machine.streams q.places h.closed.streams) in
      (omega (arith, many, two), (ap (λ (k : ℕ). k - 1) (sym many), low))
  has_mark n q (Broken answers upto) here broken = tt
  has_mark n q Dropped here dropped = tt

  pub markable : AreMarkable s.registered.items s.remains.items
  markable =
      let ms : List Remains = s.remains.items in
      let qs : List Registration = s.registered.items in (
        sym (length-map ms remains_of) ∙ h.good.many ∙ length-map qs query_of,
        λ n q k here left. has_mark n (query_of q) (remains_of k) (slice_get-map query_of qs n ∙ ap (option_map query_of) here)
            (get_or_from_slice_get (map remains_of ms) n (remains_of k) Dropped (slice_get-map remains_of ms n ∙ ap (option_map remains_of) left)),
      )

-- OF ONE THAT RUNS
running_within : (ks : List Remains) (n : ℕ) (p : PlainQuery) → get_or (map remains_of ks) n Dropped ≡ Running p → n < length ks
running_within [] n p h = absurd (cc)
running_within (k ∷ ks) zero p h = omega arith
running_within (k ∷ ks) (suc n) p h = omega (arith, running_within ks n p h)

module _ (s : EngineState) (n : ℕ) (marks : AreMarkable s.registered.items s.remains.items) (runs : IsRunningAt (engine_in s) n) (q : Registration) (k : Remains) (here : q ≡ get_or s.registered.items n q) (left : k ≡ get_or s.remains.items n k) where
  within : n < length s.remains.items
  within = running_within s.remains.items n runs.0 runs.1

  there : slice_get s.registered.items n ≡ Some q
  there = slice_get_read s.registered.items (length s.registered.items) n q refl (omega (arith, within, marks.0)) here

  pub marked : IsMarkable (query_of q) (remains_of k)
  marked = marks.1 n q k there (slice_get_read s.remains.items (length s.remains.items) n k refl within left)

  pub reached : upto_in (query_of q) (remains_of k) ≡ upto_at (engine_in s) n
  reached =
      ap (upto_in (query_of q)) (sym (remains_is s n k within left))
      ∙ sym (ap (λ o. option_map_or (λ (r : Registered). upto_in r (remains_at (engine_in s) n)) o 0) (slice_get-map query_of s.registered.items n ∙ ap (option_map query_of) there))
