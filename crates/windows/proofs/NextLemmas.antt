-- A window has a next state.
use Rattle.std.proofs.Common.{◌≡◌, ◌∙◌, ℕ, Bool, true, false, cond, Option, Some, unwrap_or, List, [], ◌∷◌, ◌++◌, ap, refl, sym}
use Rattle.std.specs.Map.{lookup}
use Rattle.std.specs.BTreeMap.{is_at}
use Rattle.values.specs.Row.{Row, same_row}
use Rattle.op_queue.specs.declared.item.Item.{Item}
use Rattle.op_queue.specs.declared.item.Item.TheVariants.{Rows, Tick}
use Rattle.windows.specs.Instants as instants
use Rattle.windows.specs.Latest.{IsAfterItem, LatestState, all_after, held_after, held_in, key_cmp, key_in, last_of, next, part}
use Rattle.windows.specs.Widths.{OneRow}
use Rattle.windows.proofs.EnterLemmas.{enter_is}
use Rattle.windows.proofs.PartLemmas.{same_exact}
use Rattle.windows.specs.Windows.{IsNext, WindowState}
use Rattle.windows.specs.declared.window.Holding.TheVariants.{Instants, Latest}

same_swap : (r s : Row) → same_row r s ≡ same_row s r
same_swap r s = here (same_row r s) refl (same_row s r) refl
  where
    here : (b : Bool) → same_row r s ≡ b → (c : Bool) → same_row s r ≡ c → same_row r s ≡ same_row s r
    here true h true k = h ∙ sym k
    here true h false k = let e = same_exact r s h in rw e refl
    here false h true k = let e = same_exact s r k in rw e refl
    here false h false k = h ∙ sym k

found : (b : Bool) (v : List Row) (rest : Option (List Row)) → unwrap_or (cond b (Some v) rest) [] ≡ cond b v (unwrap_or rest [])
found true v rest = refl
found false v rest = refl

-- what is held with the partition of a key as a row makes it
abbrev entered : List ℕ → ℕ → List (OneRow × List Row) → Row → List (OneRow × List Row)
entered columns n es row = (record { items = key_in columns row }, last_of n (held_in es (key_in columns row) ++ row ∷ [])) ∷ es

held_entered : (columns : List ℕ) (n : ℕ) (es : List (OneRow × List Row)) (row k : Row) → held_in (entered columns n es row) k ≡ held_after columns n (held_in es) row k
held_entered columns n es row k =
    let key : OneRow = record { items = key_in columns row } in
    let v : List Row = last_of n (held_in es (key_in columns row) ++ row ∷ []) in
    enter_is columns n es (entered columns n es row) key (record { items = row })
    (λ q. found (same_row q.items key.items) v (lookup (is_at (key_cmp q)) es) ∙ ap (λ b. cond b v (part q es)) (same_swap q.items key.items))
    refl k

abbrev all_entered : List ℕ → ℕ → List (OneRow × List Row) → List (Bool × Row) → List (OneRow × List Row)
all_entered columns n es [] = es
all_entered columns n es (x ∷ xs) = all_entered columns n (entered columns n es x.1) xs

after_same : (columns : List ℕ) (n : ℕ) (held other : Row → List Row) (xs : List (Bool × Row)) → ((k : Row) → held k ≡ other k) → (k : Row) → all_after columns n held xs k ≡ all_after columns n other xs k
after_same columns n held other [] e k = e k
after_same columns n held other (x ∷ xs) e k =
    after_same columns n (held_after columns n held x.1) (held_after columns n other x.1) xs
    (λ q. ap (λ rows. cond (same_row (key_in columns x.1) q) (last_of n (rows ++ x.1 ∷ [])) rows) (e q)) k

held_all : (columns : List ℕ) (n : ℕ) (es : List (OneRow × List Row)) (xs : List (Bool × Row)) (k : Row) → held_in (all_entered columns n es xs) k ≡ all_after columns n (held_in es) xs k
held_all columns n es [] k = refl
held_all columns n es (x ∷ xs) k =
    held_all columns n (entered columns n es x.1) xs k
    ∙ after_same columns n (held_in (entered columns n es x.1)) (held_after columns n (held_in es) x.1) xs (held_entered columns n es x.1) k

abbrev entries_next : LatestState → Item → List (OneRow × List Row)
entries_next s (Rows t b) = all_entered s.columns s.count s.entries b
entries_next s (Tick t) = s.entries

held_next : (s : LatestState) (i : Item) (k : Row) → held_in (entries_next s i) k ≡ next s i k
held_next s (Rows t b) k = held_all s.columns s.count s.entries b k
held_next s (Tick t) k = refl

abbrev latest_next : LatestState → Item → LatestState
latest_next s i = record { columns = s.columns; count = s.count; width = s.width; entries = entries_next s i }

latest_after : (s : LatestState) (i : Item) → IsAfterItem s i (latest_next s i)
latest_after s i = record { columns = refl; count = refl; width = refl; held = held_next s i }

abbrev pub window_next : WindowState → Item → WindowState
window_next (Instants s) i = Instants (instants.next s i)
window_next (Latest s) i = Latest (latest_next s i)

pub window_is_next : (s : WindowState) (i : Item) → IsNext s i (window_next s i)
window_is_next (Instants s) i = refl
window_is_next (Latest s) i = latest_after s i
