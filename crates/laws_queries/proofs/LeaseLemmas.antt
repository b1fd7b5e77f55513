-- An item that is cut from a ready side stands first there, and goes on to, whatever comes behind it.
use Rattle.std.proofs.Common.{◌≡◌, ℕ, ◌<◌, ◌≤◌, Bool, true, false, cond, Option, Some, None, List, [], ◌∷◌, ◌++◌, length, drop, refl, sym, ap, ◌∙◌, subst, arith, append_assoc, take-append-drop}
use Rattle.std.specs.Option.{option_map}
use Rattle.values.specs.Row.{Row}
use Rattle.column.specs.declared.batch.Side.{Side}
use Rattle.column.specs.declared.batch.Side.TheVariants.{Left, Right}
use Rattle.op_queue.specs.Entries.{Entry, RowAt, TickAt, front_of}
use Rattle.op_queue.specs.Items.{IsFrontPart, entries_of}
use Rattle.op_queue.specs.Logs.{Closed}
use Rattle.op_queue.specs.declared.item.Item.{Item}
use Rattle.operators.specs.Ready.{PlainOperator, first_ready, front_instant, ready_at, usable, waiting}
use Rattle.laws_queries.specs.Leases.{IsReady, LeasesStandFirst}
use Rattle.laws_queries.specs.Steps.{IsFirst}

front_some : (es : List (Entry Row)) (t : ℕ) → option_map front_instant (front_of es) ≡ Some t → 0 < length es
front_some [] t e = absurd (cc)
front_some (RowAt n s ∷ es) t e = omega arith
front_some (TickAt n ∷ es) t e = omega arith

side_ready : (o : PlainOperator) (log : Closed) (side : Side) (t : ℕ) (b : Bool) → usable o.state side ≡ b → cond b (option_map front_instant (front_of (waiting o log side))) None ≡ Some t → IsReady o log side
side_ready o log side t true u e = record { can = u; waits = front_some (waiting o log side) t e }
side_ready o log side t false u e = absurd (cc)

at_side : (o : PlainOperator) (log : Closed) (side : Side) (t : ℕ) → ready_at o log side ≡ Some t → IsReady o log side
at_side o log side t e = side_ready o log side t (usable o.state side) refl e

chosen : (o : PlainOperator) (log : Closed) (a b : Option ℕ) → ready_at o log Left ≡ a → ready_at o log Right ≡ b → (side : Side) (t : ℕ) → first_ready a b ≡ Some (side, t) → IsReady o log side
chosen o log (Some n) b l r side t e = let s : side ≡ Left = sym (ap (λ (x : Option (Side × ℕ)). side_or x) e) in subst (IsReady o log) (sym s) (at_side o log Left n l)
  where
    side_or : Option (Side × ℕ) → Side
    side_or None = Left
    side_or (Some p) = p.0
chosen o log None (Some n) l r side t e = let s : side ≡ Right = sym (ap (λ (x : Option (Side × ℕ)). side_or x) e) in subst (IsReady o log) (sym s) (at_side o log Right n r)
  where
    side_or : Option (Side × ℕ) → Side
    side_or None = Right
    side_or (Some p) = p.0
chosen o log None None l r side t e = absurd (cc)

cut_first : (o : PlainOperator) (log : Closed) (side : Side) (rows : ℕ) (i : Item) → IsReady o log side → rows ≤ 1024 → IsFrontPart rows (waiting o log side) i → IsFirst o log side i
cut_first o log side rows i r few p = record {
  rest = drop (length (entries_of i)) (waiting o log side);
  some = p.some;
  few = omega (arith, p.few, few);
  is = sym (take-append-drop (length (entries_of i)) (waiting o log side)) ∙ ap (λ es. es ++ drop (length (entries_of i)) (waiting o log side)) (sym p.first);
  usable = r.can;
}

stays_first : (o o2 : PlainOperator) (log log2 : Closed) (side : Side) (i : Item) (more : List (Entry Row)) → o2.state ≡ o.state → waiting o2 log2 side ≡ waiting o log side ++ more → IsFirst o log side i → IsFirst o2 log2 side i
stays_first o o2 log log2 side i more e w f = record {
  rest = f.rest ++ more;
  some = f.some;
  few = f.few;
  is = w ∙ ap (λ es. es ++ more) f.is ∙ append_assoc (entries_of i) f.rest more;
  usable = ap (λ s. usable s side) e ∙ f.usable;
}

pub leases_stand_first : LeasesStandFirst
leases_stand_first = record { named = λ o log side t e. chosen o log (ready_at o log Left) (ready_at o log Right) refl refl side t e; cut = cut_first; stays = stays_first }
