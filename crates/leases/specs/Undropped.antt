-- What an engine keeps of the queries that were not dropped: their
-- names, and the row limits of those of three and four sources.
use Rattle.std.specs.Prelude.{ℕ, suc, ◌+◌, ◌==◌, ◌&&◌, not, cond, fold, min, nat_lt, Option, List}
use Rattle.std.specs.Prelude.{Some, [], ◌∷◌, ◌++◌, length, map}
use Rattle.reference.specs.Commands.{rows_of_each}
use Rattle.reference.specs.Machine.{Place, Registered}
use Rattle.reference.specs.Named.{name_of_registered}
use Rattle.reference.specs.declared.limits.TheConstants.{MAX_STREAM_ROWS}
use Rattle.leases.specs.declared.undropped.RowLimit.{RowLimit}

-- by the queries' numbers the name of each that was not dropped, and the limits of their sources
pub record UndroppedQueries : Type 0 where
  pub names : List (Option (List ℕ))
  pub limits : List RowLimit

-- THE LIMIT of a source of the query n, which may count so
-- many rows of each: to its stream so many may come in all
abbrev pub limit_at : ℕ → ℕ → Place → RowLimit
limit_at n rows p = record {
  stream = p.stream;
  query = n;
  most = min (p.arrivals + rows) MAX_STREAM_ROWS;
}

-- those of the query n, if it was not dropped and has three or four sources
abbrev pub limits_in : ℕ → Registered → List RowLimit
limits_in n q = cond (not q.is_dropped && nat_lt 2 (length q.places))
    (map (limit_at n (rows_of_each (length q.places))) q.places) []

-- those of all queries, of which the first has the number n
abbrev pub limits_from : ℕ → List Registered → List RowLimit
limits_from n [] = []
limits_from n (q ∷ qs) = limits_in n q ++ limits_from (suc n) qs

-- WHAT THE ENGINE KEEPS of the machine's queries
abbrev pub undropped_of : List Registered → UndroppedQueries
undropped_of qs = record { names = map name_of_registered qs; limits = limits_from 0 qs }

-- with the query n, which has this name
abbrev pub with_name : UndroppedQueries → List ℕ → ℕ → Registered → UndroppedQueries
with_name u name n q = record {
  names = u.names ++ Some name ∷ [];
  limits = u.limits ++ limits_in n q;
}

-- the least limit of the stream of a number, and no more than any stream may have
abbrev pub tightened : ℕ → ℕ → RowLimit → ℕ
tightened n most l = cond (l.stream == n) (min most l.most) most

abbrev pub least : ℕ → List RowLimit → ℕ
least n ls = fold (tightened n) MAX_STREAM_ROWS ls
