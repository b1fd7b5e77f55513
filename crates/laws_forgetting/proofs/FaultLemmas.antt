-- Partly alike machines accept the same commands.
use Rattle.std.proofs.Common.{◌≡◌, ℕ, ℤ, suc, ◌+◌, Bool, true, false, cond, not, ◌||◌, Option, Some, None, List, [], ◌∷◌, ◌++◌, map, length, count_by, refl, sym, ap, ap₂, ◌∙◌, arith, position}
use Rattle.std.specs.Prelude.{slice_get, option_and_then, is_some}
use Rattle.std.specs.List.{list_any}
use Rattle.std.specs.Option.{option_map}
use Rattle.std.specs.Str.{bytes_eq}
use Rattle.std.proofs.lemmas.List.{length-map}
use Rattle.std.proofs.lemmas.List.Recursion.{is_count_by}
use Rattle.std.proofs.lemmas.Option.{slice_get-map}
use Rattle.std.proofs.lemmas.Simd.{map-map}
use Rattle.names.specs.Catalog as catalogs
use Rattle.names.specs.Faults.{first_of}
use Rattle.cql_reader.specs.Judging.{reading}
use Rattle.reference.specs.Machine.{Machine, Registered, Stream, is_called, query_at, query_named, stream_named, unless_dropped}
use Rattle.reference.specs.Commands.{Command, Declare, Register, Append, Heartbeat, Take, Drop, append_tests, catalog_of, count_undropped, declare_tests, first_fault, found, found_of, heartbeat_tests, is_crowded, new_query_tests, of_query, of_stream, query_tests, register_tests, rows_tests, take_tests}
use Rattle.reference.specs.declared.fault.Fault.{Fault}
use Rattle.reference.specs.declared.fault.Fault.TheVariants.{StreamFull}
use Rattle.reference.proofs.NameLemmas.{position-map}
use Rattle.reference.specs.Alike.{bare, bare_query}
use Rattle.laws_forgetting.specs.Partly.{ArePartlyAlike, PartlyAlike}

-- LISTS that are the same as a function shows them
module _ {A B : Type 0} (f : A → B) where
  pub same_length : (xs ys : List A) → map f xs ≡ map f ys → length xs ≡ length ys
  same_length xs ys h = sym (length-map xs f) ∙ ap length h ∙ length-map ys f

  same_position : (p : B → Bool) (xs ys : List A) → map f xs ≡ map f ys → position (λ x. p (f x)) xs ≡ position (λ x. p (f x)) ys
  same_position p xs ys h = sym (position-map p f xs) ∙ ap (position p) h ∙ position-map p f ys

  any-map : (p : B → Bool) (xs : List A) → list_any p (map f xs) ≡ list_any (λ x. p (f x)) xs
  any-map p [] = refl
  any-map p (x ∷ xs) = ap (λ b. p (f x) || b) (any-map p xs)

  same_any : (p : B → Bool) (xs ys : List A) → map f xs ≡ map f ys → list_any (λ x. p (f x)) xs ≡ list_any (λ x. p (f x)) ys
  same_any p xs ys h = sym (any-map p xs) ∙ ap (list_any p) h ∙ any-map p ys

  pub same_get : (xs ys : List A) → map f xs ≡ map f ys → (k : ℕ) → option_map f (slice_get xs k) ≡ option_map f (slice_get ys k)
  same_get xs ys h k = sym (slice_get-map f xs k) ∙ ap (λ zs. slice_get zs k) h ∙ slice_get-map f ys k

-- the queries without their answers are the same
pub bare_queries : (passes : ℕ → Bool) (m n : Machine) (qs rs : List Registered) → ArePartlyAlike passes m n qs rs → map bare_query qs ≡ map bare_query rs
bare_queries passes m n [] [] h = refl
bare_queries passes m n [] (r ∷ rs) h = absurd h
bare_queries passes m n (q ∷ qs) [] h = absurd h
bare_queries passes m n (q ∷ qs) (r ∷ rs) h = ap₂ (λ x xs. x ∷ xs) h.0.bare (bare_queries (λ k. passes (suc k)) m n qs rs h.1)

undropped : List Registered → ℕ
undropped [] = 0
undropped (q ∷ qs) = cond (not q.is_dropped) (suc (undropped qs)) (undropped qs)

undropped_is : (qs : List Registered) → undropped qs ≡ count_by (λ q. not q.is_dropped) qs
unfolding undropped
undropped_is = is_count_by undropped (λ q. not q.is_dropped) refl (λ q qs. ap (λ v. cond (not q.is_dropped) v (undropped qs)) (omega arith))

undropped_bare : (qs : List Registered) → undropped (map bare_query qs) ≡ undropped qs
unfolding undropped
undropped_bare [] = refl
undropped_bare (q ∷ qs) = ap (λ k. cond (not q.is_dropped) (suc k) k) (undropped_bare qs)

same_undropped : (qs rs : List Registered) → map bare_query qs ≡ map bare_query rs → count_by (λ q. not q.is_dropped) qs ≡ count_by (λ q. not q.is_dropped) rs
same_undropped qs rs h = sym (undropped_is qs) ∙ sym (undropped_bare qs) ∙ ap undropped h ∙ undropped_bare rs ∙ undropped_is rs

-- a test of a stream goes by the bare one
of_bare : (tests : Stream → List (Bool × Fault)) → ((s : Stream) → tests s ≡ tests (bare s)) → (o : Option Stream) → of_stream tests o ≡ of_stream tests (option_map bare o)
of_bare tests e None = refl
of_bare tests e (Some s) = ap first_of (e s)

of_bare_query : (tests : List (Bool × Fault)) (o : Option Registered) → of_query tests (option_and_then unless_dropped o) ≡ of_query tests (option_and_then unless_dropped (option_map bare_query o))
of_bare_query tests None = refl
of_bare_query tests (Some q) = here q.is_dropped
  where
    here : (b : Bool) → of_query tests (cond b None (Some q)) ≡ of_query tests (cond b None (Some (bare_query q)))
    here true = refl
    here false = refl

module _ (passes : ℕ → Bool) (m n : Machine) (h : PartlyAlike passes m n) where
  pub queries_same : map bare_query m.queries ≡ map bare_query n.queries
  queries_same = bare_queries passes m n m.queries n.queries h.queries

  of_stream_same : (tests : Stream → List (Bool × Fault)) → ((s : Stream) → tests s ≡ tests (bare s)) → (k : ℕ) → of_stream tests (slice_get m.streams k) ≡ of_stream tests (slice_get n.streams k)
  of_stream_same tests e k = of_bare tests e (slice_get m.streams k) ∙ ap (of_stream tests) (same_get bare m.streams n.streams h.streams k) ∙ sym (of_bare tests e (slice_get n.streams k))

  of_query_same : (tests : List (Bool × Fault)) (k : ℕ) → of_query tests (query_at m k) ≡ of_query tests (query_at n k)
  of_query_same tests k =
      of_bare_query tests (slice_get m.queries k)
      ∙ ap (λ o. of_query tests (option_and_then unless_dropped o)) (same_get bare_query m.queries n.queries queries_same k)
      ∙ sym (of_bare_query tests (slice_get n.queries k))

  pub catalogs_same : catalog_of m.streams ≡ catalog_of n.streams
  catalogs_same =
      let named : Stream → catalogs.Stream = λ s. record { name = s.name; columns = s.columns } in
      sym (map-map named bare m.streams) ∙ ap (map named) h.streams ∙ map-map named bare n.streams

  pub stream_named_same : (name : List ℕ) → stream_named m name ≡ stream_named n name
  stream_named_same name = same_position bare (λ s. bytes_eq s.name name) m.streams n.streams h.streams

  pub query_named_same : (name : List ℕ) → query_named m name ≡ query_named n name
  query_named_same name = same_position bare_query (is_called name) m.queries n.queries queries_same

  pub streams_many : length m.streams ≡ length n.streams
  streams_many = same_length bare m.streams n.streams h.streams

  pub queries_many : length m.queries ≡ length n.queries
  queries_many = same_length bare_query m.queries n.queries queries_same

  pub found_same : (source : List ℕ) (given : Option (List (ℤ × ℤ))) → found m source given ≡ found n source given
  found_same source given = ap (λ c. found_of c given (reading source)) catalogs_same

  -- an append crowds the same queries of both
  crowded_same : (k arrivals : ℕ) → list_any (is_crowded k arrivals) m.queries ≡ list_any (is_crowded k arrivals) n.queries
  crowded_same k arrivals = same_any bare_query (is_crowded k arrivals) m.queries n.queries queries_same

  -- THEY ACCEPT THE SAME COMMANDS, and refuse the others for the same fault
  pub faults_same : (c : Command) → first_fault m c ≡ first_fault n c
  faults_same (Declare name columns start) = ap₂ (λ a b. first_of (declare_tests (is_some a) b name columns start)) (stream_named_same name) streams_many
  faults_same (Register name source given) = ap₂ (λ tests f. first_of (tests ++ query_tests f)) tests_same (found_same source given)
    where
      tests_same : register_tests m name ≡ register_tests n name
      tests_same =
          ap₂ (λ a b. new_query_tests (is_some a) b (length m.queries) name) (query_named_same name) (same_undropped m.queries n.queries queries_same)
          ∙ ap (λ k. new_query_tests (is_some (query_named n name)) (count_undropped n) k name) queries_many
  faults_same (Append k rows) =
      of_stream_same (rows_tests m.queries k rows) (λ s. refl) k
      ∙ each_stream (slice_get n.streams k)
    where
      each_stream : (o : Option Stream) → of_stream (rows_tests m.queries k rows) o ≡ of_stream (rows_tests n.queries k rows) o
      each_stream None = refl
      each_stream (Some s) = ap (λ b. first_of (append_tests s rows ++ (b, StreamFull) ∷ [])) (crowded_same k (s.arrivals + length rows))
  faults_same (Heartbeat k at) = of_stream_same (λ s. heartbeat_tests s at) (λ s. refl) k
  faults_same (Take k limit) = of_query_same (take_tests limit) k
  faults_same (Drop k) = of_query_same [] k
