-- TO BELIEVE: the theorem rests on these definitions, and no proof can check them.
-- An engine whose machine is replaced by its opening.
use Rattle.std.specs.Prelude.{ℕ, Option, Some, None, List, [], ◌∷◌, map}
use Rattle.reference.specs.Machine.{Registered}
use Rattle.reference.specs.Opening.{opening}
use Rattle.laws_engine.specs.Engines.{Broken, Dropped, PlainEngine, PlainRemains, Running}
use Rattle.laws_engine.specs.Engines.{answers_in, next_of}

-- queues, turns that are out and answers that wait are as they were
abbrev pub opened : PlainEngine → List (Option ℕ) → PlainEngine
opened e marks = record e { machine = opening e.machine marks (map answers_in e.queries) }

-- THE MARKS
-- the instant after the mark of a running query, from which it goes on
abbrev pub mark_in : Registered → PlainRemains → Option ℕ
mark_in q (Running p) = Some (next_of q p)
mark_in q (Broken answers upto) = None
mark_in q Dropped = None

abbrev pub marks_by : List Registered → List PlainRemains → List (Option ℕ)
marks_by [] remains = []
marks_by (q ∷ qs) [] = None ∷ marks_by qs []
marks_by (q ∷ qs) (k ∷ remains) = mark_in q k ∷ marks_by qs remains

-- FORGETTING
abbrev pub forgotten : PlainEngine → PlainEngine
forgotten e = opened e (marks_by e.machine.queries e.queries)
