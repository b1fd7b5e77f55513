-- The windows of running queries, listed by the streams that they read.
use Rattle.std.specs.Prelude.{ℕ, ◌≡◌, ◌==◌, ◌++◌, ◌∷◌, [], List, filter, get_or, map, not, set}
use Rattle.std.specs.Global.{Vec}
use Rattle.leases.specs.declared.reader.WindowReader.{WindowReader}

-- THOSE over the stream s
abbrev pub over_stream : ℕ → List WindowReader → List WindowReader
over_stream s rs = filter (λ r. r.stream == s) rs

-- those of all queries but n
abbrev pub but_query : ℕ → List WindowReader → List WindowReader
but_query n rs = filter (λ r. not (r.query == n)) rs

abbrev pub lists : List (Vec WindowReader) → List (List WindowReader)
lists vs = map (λ v. v.items) vs

-- BY STREAM: at the number of each stream stand those over it
abbrev pub AreByStream : List (List WindowReader) → List WindowReader → Type 0
AreByStream ls rs = (s : ℕ) → get_or ls s [] ≡ over_stream s rs

-- at each number stands the same, or nothing in both
abbrev pub AreAlike : List (List WindowReader) → List (List WindowReader) → Type 0
AreAlike ls ls2 = (s : ℕ) → get_or ls2 s [] ≡ get_or ls s []

-- the list at a place has one more
abbrev pub gained : ℕ → WindowReader → List (List WindowReader) → List (List WindowReader)
gained s r ls = set ls s (get_or ls s [] ++ r ∷ [])
