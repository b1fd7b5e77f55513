-- Names and their lengths, and what an accepted declaration names.
use Rattle.std.proofs.Common.{◌≡◌, ◌≤◌, ◌<◌, ℕ, zero, suc, Bool, true, false, not, ◌&&◌, nat_le, nat_lt, None, is_some, List, [], ◌∷◌, length, map, get_or, position, refl, arith, ℤ, String, string_bytes}
use Rattle.std.specs.List.{list_all, position_or_len}
use Rattle.std.specs.declared.alloc.Global.{Global}
use Rattle.std.proofs.lemmas.List.{length-map}
use Rattle.std.proofs.lemmas.Bool.{leb-true}
use Rattle.cql_reader.specs.Lexis.{is_name, is_letter, first_byte, all_word, is_reserved}
use Rattle.names.specs.Faults.{has_repeat}
use Rattle.reference.specs.CallViews.{texts_of}
use Rattle.reference.specs.Machine.{Machine, stream_named}
use Rattle.reference.specs.Commands.{declare_fault, are_columns, is_instant}
use Rattle.reference.specs.declared.fault.Fault.{Fault}
use Rattle.reference.specs.declared.fault.Fault.TheVariants.{BadName, NameTaken, BadColumns, InstantRange, TooMany}
use Rattle.reference.specs.declared.limits.TheConstants.{MAX_STREAMS, MAX_STREAM_COLUMNS}
use Rattle.reference.proofs.StreamLemmas.{none_first, none_later}

place-map : {X Y : Type 0} (p : Y → Bool) (f : X → Y) (xs : List X) → position_or_len p (map f xs) ≡ position_or_len (λ x. p (f x)) xs
place-map p f [] = refl
place-map p f (x ∷ xs) = rw (place-map p f xs) refl

pub position-map : {X Y : Type 0} (p : Y → Bool) (f : X → Y) (xs : List X) → position p (map f xs) ≡ position (λ x. p (f x)) xs
position-map p f xs = rw (place-map p f xs, length-map xs f) refl

left : (a b : Bool) → (a && b) ≡ true → a ≡ true
left true b h = refl
left false b h = h

right : (a b : Bool) → (a && b) ≡ true → b ≡ true
right true b h = h
right false b h = cc

was_true : (b : Bool) → not b ≡ false → b ≡ true
was_true true h = refl
was_true false h = cc

-- a name is short
pub short : (name : List ℕ) → is_name name ≡ true → length name ≤ 32
unfolding is_name
short name h =
    leb-true (length name) 32
    (right (is_letter (first_byte name) && all_word name) (nat_le (length name) 32)
    (left ((is_letter (first_byte name) && all_word name) && nat_le (length name) 32) (not (is_reserved name)) h))

pub short_at : (texts : List (String Global)) (i : ℕ) (d : String Global) → list_all is_name (texts_of texts) ≡ true → i < length texts
    → length (string_bytes (get_or texts i d)) ≤ 32
short_at [] i d h lt = absurd (omega arith)
short_at (x ∷ xs) zero d h lt = short (string_bytes x) (left (is_name (string_bytes x)) (list_all is_name (texts_of xs)) h)
short_at (x ∷ xs) (suc i) d h lt = short_at xs i d (right (is_name (string_bytes x)) (list_all is_name (texts_of xs)) h) (omega arith)

-- an accepted declaration gives names
module _ (m : Machine) (name : List ℕ) (columns : List (List ℕ)) (start : ℤ) (h : declare_fault m name columns start ≡ None) where
  pub declared_name : is_name name ≡ true
  declared_name = was_true (is_name name) (none_first (not (is_name name)) BadName
      ((is_some (stream_named m name), NameTaken) ∷ (not (are_columns columns), BadColumns) ∷ (not (is_instant start), InstantRange) ∷ (nat_le MAX_STREAMS (length m.streams), TooMany) ∷ []) h)

  pub declared_columns : list_all is_name columns ≡ true
  declared_columns =
      let last : List (Bool × Fault) = (not (is_instant start), InstantRange) ∷ (nat_le MAX_STREAMS (length m.streams), TooMany) ∷ [] in
      let rest : List (Bool × Fault) = (not (are_columns columns), BadColumns) ∷ last in
      let after_name = none_later (not (is_name name)) BadName ((is_some (stream_named m name), NameTaken) ∷ rest) h in
      let after_taken = none_later (is_some (stream_named m name)) NameTaken rest after_name in
      let good = was_true (are_columns columns) (none_first (not (are_columns columns)) BadColumns last after_taken) in
      right (nat_lt 0 (length columns) && nat_le (length columns) MAX_STREAM_COLUMNS) (list_all is_name columns)
      (left ((nat_lt 0 (length columns) && nat_le (length columns) MAX_STREAM_COLUMNS) && list_all is_name columns) (not (has_repeat columns)) good)
