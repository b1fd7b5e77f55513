-- A query that is made of the plan of an accepted text runs.
use Rattle.std.proofs.Common.{◌≡◌, ℕ, zero, suc, Option, None, List, [], ◌∷◌, ◌++◌, map, get_or, refl, sym, ap, ◌∙◌, subst}
use Rattle.std.specs.Prelude.{ℤ, Result, Ok}
use Rattle.physical_plans.specs.Beginnings.{AreMade}
use Rattle.physical_plans.specs.Beginnings as made
use Rattle.plan.specs.Nodes as plan
use Rattle.plan.specs.declared.operators.Plan.{Plan}
use Rattle.names.specs.Faults.{first_of}
use Rattle.reference.specs.Commands.{Found, Register, after, first_fault, found, place_at, query_tests, register_tests, registered, registered_as}
use Rattle.reference.specs.Machine.{Machine, Registered}
use Rattle.reference.specs.Standing.{found_of}
use Rattle.reference.specs.declared.fault.QueryFault.{QueryFault}
use Rattle.laws_queries.specs.Machines.{IsQuery, widths_of}
use Rattle.laws_queries.specs.Queries.{IsRunning}
use Rattle.laws_queries.specs.Plain.{PlainQuery, source_of}
use Rattle.laws_queries.specs.Registrations.{HaveColumnNames, IsCoded, IsFit, IsFresh, IsNewest, MayMake, Starts, lengths_of}
use Rattle.laws_queries.proofs.MachineCounts.{queries_stand}
use Rattle.laws_queries.proofs.NewestLemmas.{registrations_stand}
use Rattle.laws_queries.proofs.StartLemmas.{queries_start}
use Rattle.query_runtime.specs.Turns.{source_among}
use Rattle.laws_engine.specs.Calls.{IsRegistration, with_queries}
use Rattle.laws_engine.specs.Engines.{PlainEngine}
use Rattle.laws_engine.specs.Good.{Goes, GoodEngine}
use Rattle.laws_engine.proofs.AgainLemmas.{runs_again}
use Rattle.laws_engine.specs.Accepted.{GoodMachine, IsBegun, IsPlanOfText, newest}
use Rattle.laws_engine.proofs.FoundLemmas.{found_fits, is_found, place_widths}
use Rattle.laws_engine.proofs.NameLemmas.{MeansFit}

-- A REGISTRATION is accepted where its text is, and nothing else is at fault
pub found_accepted : (m : Machine) (name text : List ℕ) (chart : Option (List (ℤ × ℤ))) (f : Found) → first_of (register_tests m name) ≡ None → found m text chart ≡ Ok f → first_fault m (Register name text chart) ≡ None
found_accepted m name text chart f none is = ap (λ r. first_of (register_tests m name ++ query_tests r)) is ∙ none

-- THE NEWEST QUERY fits
ok_same : (g f : Found) → ◌≡◌ {A = Result Found QueryFault} (Ok g) (Ok f) → g ≡ f
ok_same g f h = cc

-- what was found is a query of the machine, for which nothing counts yet
pub record IsFoundQuery (m : Machine) (name : List ℕ) (f : Found) : Type 0 where
  pub query : IsQuery m.streams (registered_as m name f)
  pub fresh : IsFresh m (registered_as m name f)

found_query : (m : Machine) (name text : List ℕ) (chart : Option (List (ℤ × ℤ))) (f : Found) → GoodMachine m → first_fault m (Register name text chart) ≡ None → found m text chart ≡ Ok f → IsFoundQuery m name f
found_query m name text chart f sound accepted is =
    let one : IsNewest m name text chart = registrations_stand.newest m name text chart accepted sound.machine sound.rows in
    let same : one.found_as ≡ f = ok_same one.found_as f (sym one.is ∙ is) in
    subst (λ z. IsFoundQuery m name z) same (record { query = one.query; fresh = one.fresh })

-- what an accepted text means fits its sources, whatever it says: each has a column or more, and they have at most MAX_COLUMNS together; no window
-- has a longer list; the condition needs at most 67 truths at a time; and a row of the query has 1 to MAX_COLUMNS columns
pub texts_fit : (m : Machine) (name text : List ℕ) (chart : Option (List (ℤ × ℤ))) (f : Found) → GoodMachine m → first_fault m (Register name text chart) ≡ None → found m text chart ≡ Ok f
    → IsFit (widths_of m.streams (registered_as m name f)) f.meaning
texts_fit m name text chart f sound accepted is =
    let one : IsFoundQuery m name f = found_query m name text chart f sound accepted is in
    let fits : MeansFit f.meaning = found_fits m text f sound.columns (is_found _ chart text f is) in
    record {
      some = registrations_stand.some m (registered_as m name f) sound.columns one.query;
      together = registrations_stand.together m (registered_as m name f) sound.columns one.query;
      windows = fits.windows;
      condition = fits.condition;
      shown = fits.shown;
      narrow = fits.narrow;
    }

pub starts : (m : Machine) (name text : List ℕ) (chart : Option (List (ℤ × ℤ))) (f : Found) → GoodMachine m → first_fault m (Register name text chart) ≡ None → found m text chart ≡ Ok f
    → Starts (widths_of m.streams (registered_as m name f)) m (registered_as m name f)
starts m name text chart f sound accepted is =
    let q : Registered = registered_as m name f in
    let one : IsFoundQuery m name f = found_query m name text chart f sound accepted is in
    queries_start (widths_of m.streams q) m q (texts_fit m name text chart f sound accepted is) ((queries_stand m sound.machine).stands q one.query)

-- THE PLAN of the text is coded by its own nodes and windows
coded : (m : Machine) (name : List ℕ) (p : Plan) → IsCoded p.meaning.windows.items p.nodes.items (newest m name p)
coded m name p = record { shows = refl; runs = refl }

plan_widths : (m : Machine) (name text : List ℕ) (chart : Option (List (ℤ × ℤ))) (p : Plan) → IsPlanOfText m text chart p → widths_of m.streams (newest m name p) ≡ p.widths.items
plan_widths m name text chart p of = place_widths m p.streams.items ∙ sym of.widths

-- what is asked of a plan from which a running query is made
pub plans_may_be_made : (m : Machine) (name text : List ℕ) (chart : Option (List (ℤ × ℤ))) (p : Plan) → GoodMachine m → first_fault m (Register name text chart) ≡ None → IsPlanOfText m text chart p
    → MayMake p.meaning.windows.items p.widths.items p.nodes.items
plans_may_be_made m name text chart p sound accepted of =
    subst (λ vs. MayMake p.meaning.windows.items vs p.nodes.items) (plan_widths m name text chart p of)
    ((starts m name text chart (found_of p) sound accepted of.finds).may p.meaning.windows.items p.nodes.items (coded m name p))

-- ITS SOURCES are the streams that were found
stream_at : (m : Machine) (ns : List ℕ) (s : ℕ) → get_or ns s 0 ≡ (get_or (map (place_at m) ns) s (record { stream = 0; arrivals = 0 })).stream
stream_at m [] s = refl
stream_at m (n ∷ ns) zero = refl
stream_at m (n ∷ ns) (suc s) = stream_at m ns s

source_is : (m : Machine) (name : List ℕ) (f : Found) (node : plan.Node) → source_among f.streams node ≡ source_of (registered_as m name f) node
source_is m name f (plan.Window s) = stream_at m f.streams s
source_is m name f (plan.Select i cs) = stream_at m f.streams 0
source_is m name f (plan.Join i j ks) = stream_at m f.streams 0
source_is m name f (plan.Project i columns) = stream_at m f.streams 0
source_is m name f (plan.Group i by items) = stream_at m f.streams 0
source_is m name f (plan.Distinct i) = stream_at m f.streams 0
source_is m name f (plan.ToStream i op) = stream_at m f.streams 0

sources_are : (m : Machine) (name : List ℕ) (f : Found) (nodes : List plan.Node) → map (source_among f.streams) nodes ≡ map (source_of (registered_as m name f)) nodes
sources_are m name f [] = refl
sources_are m name f (n ∷ nodes) = ap (λ s. s ∷ map (source_among f.streams) nodes) (source_is m name f n) ∙ ap (λ ss. source_of (registered_as m name f) n ∷ ss) (sources_are m name f nodes)

-- IT RUNS
registers : (m : Machine) (name text : List ℕ) (chart : Option (List (ℤ × ℤ))) (f : Found) → found m text chart ≡ Ok f
    → after m (Register name text chart) 0 ≡ with_queries m (m.queries ++ registered_as m name f ∷ [])
registers m name text chart f is = ap (registered m name) is

module _ (m : Machine) (name text : List ℕ) (chart : Option (List (ℤ × ℤ))) (p : Plan) (sound : GoodMachine m) (accepted : first_fault m (Register name text chart) ≡ None) (of : IsPlanOfText m text chart p) where
  abbrev q : Registered
  q = newest m name p

  abbrev vs : List ℕ
  vs = widths_of m.streams q

  abbrev ws : List ℕ
  ws = made.widths_of vs p.nodes.items

  begun : (running : PlainQuery) → IsBegun p q running → AreMade p.meaning.windows.items vs ws (lengths_of q) q.first p.nodes.items running.operators
  begun running is =
      subst (λ us. AreMade p.meaning.windows.items us (made.widths_of us p.nodes.items) (lengths_of q) q.first p.nodes.items running.operators) (sym (plan_widths m name text chart p of)) is.operators

  runs : (running : PlainQuery) → IsBegun p q running → IsRunning vs ws m q running.operators []
  runs running is =
      (starts m name text chart (found_of p) sound accepted of.finds).runs p.meaning.windows.items p.nodes.items running.operators (coded m name p)
      (found_query m name text chart (found_of p) sound accepted of.finds).fresh (begun running is)

  goes : (running : PlainQuery) → IsBegun p q running → (qs : List Registered) → Goes (with_queries m qs) q running
  goes running is qs = record {
    lives = refl;
    widths = ws;
    sources = (starts m name text chart (found_of p) sound accepted of.finds).reads p.meaning.windows.items p.nodes.items (coded m name p) refl;
    taken = [];
    counted = refl;
    runs = record {
      wires = is.wires;
      sources = is.sources ∙ sources_are m name (found_of p) q.nodes;
      runs = subst (IsRunning vs ws (with_queries m qs) q running.operators) (sym is.answers) (runs_again vs ws m qs q 0 0 running.operators [] (runs running is));
    };
  }

-- what is made of the plan, with the numbers of its sources' streams, how long these are, and the query's first instant: a good engine may register the query with it
pub registrations_run : (e : PlainEngine) (name text : List ℕ) (chart : Option (List (ℤ × ℤ))) (p : Plan) (running : PlainQuery) → GoodEngine e → HaveColumnNames e.machine
    → first_fault e.machine (Register name text chart) ≡ None → IsPlanOfText e.machine text chart p → IsBegun p (newest e.machine name p) running
    → IsRegistration e name text chart (newest e.machine name p) running
registrations_run e name text chart p running good columns accepted of is =
    let sound : GoodMachine e.machine = record { machine = good.machine; rows = good.rows; columns = columns } in
    record {
      accepted = accepted;
      registers = registers e.machine name text chart (found_of p) of.finds;
      goes = goes e.machine name text chart p sound accepted of running is (e.machine.queries ++ newest e.machine name p ∷ []);
    }
