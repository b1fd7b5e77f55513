-- The one group without Group By.
use Rattle.std.proofs.Common.{◌≡◌, suc, true, Bool, List, [], ◌∷◌, refl, arith}
use Rattle.std.specs.declared.cmp.Ordering.{Ordering}
use Rattle.std.specs.declared.cmp.Ordering.TheVariants.{Less, Equal, Greater}
use Rattle.std.specs.Ordering.{match_ordering}
use Rattle.std.specs.BTreeSet.{insert_key}
use Rattle.std.proofs.lemmas.List.Elements.{All-cons}
use Rattle.values.specs.Row.{Row}
use Rattle.values.specs.declared.resolved.SourceColumn.{SourceColumn}
use Rattle.group.specs.Groups.{key_in, no_columns}
use Rattle.group.specs.Cells.{Held, held, held_cmp}
use Rattle.group.specs.Keys.{AreWhole}
use Rattle.group.specs.Turns.{GroupState, row_after, row_key, rows_after}

whole_rest : (j : Held) (ks : List Held) → AreWhole (j ∷ ks) → AreWhole ks
whole_rest j ks a = λ i d lt. a (suc i) d (omega (arith, lt))

pub whole_more : (k : Held) (ks : List Held) → k ≡ held [] → AreWhole ks → AreWhole (insert_key held_cmp ks k)
whole_more k [] e a = All-cons (λ (j : Held). j ≡ held []) k [] e a
whole_more k (j ∷ ks) e a = here (held_cmp k j) (whole_more k ks e (whole_rest j ks a))
  where
    here : (o : Ordering) → AreWhole (insert_key held_cmp ks k) → AreWhole (match_ordering o (k ∷ j ∷ ks) (j ∷ ks) (j ∷ insert_key held_cmp ks k))
    here Less ih = All-cons (λ (j : Held). j ≡ held []) k (j ∷ ks) e a
    here Equal ih = a
    here Greater ih = All-cons (λ (j : Held). j ≡ held []) j (insert_key held_cmp ks k) (a 0 j (omega arith)) ih

whole_key : (by : List SourceColumn) (r : Row) → no_columns by ≡ true → held (key_in by r) ≡ held []
whole_key [] r e = refl
whole_key (c ∷ by) r e = cc

pub whole_rows : (s : GroupState) (rs : List (Bool × Row)) → no_columns s.group.by ≡ true → AreWhole s.touched → AreWhole (rows_after s rs).touched
whole_rows s [] e a = a
whole_rows s (r ∷ rs) e a = whole_rows (row_after s r) rs e (whole_more (row_key s.group r) s.touched (whole_key s.group.by r.1 e) a)
