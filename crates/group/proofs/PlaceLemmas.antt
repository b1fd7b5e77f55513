-- What stands at the places of a list.
use Rattle.std.proofs.Common.{◌≡◌, ◌∙◌, ℕ, zero, suc, true, List, [], ◌∷◌, get_or, slice_index_or, slice_set, refl, sym, ap}
use Rattle.std.specs.Option.{is_some}
use Rattle.std.specs.Result.{OnErr}
use Rattle.std.proofs.Common.{Result, Ok, Err}
use Rattle.group.specs.declared.slot_list.ListPlace.{ListPlace}
use Rattle.group.specs.Places.{at_place, slot_of}

-- a group that is read at its place
pub standing : {m : ℕ} (xs : List (ListPlace m)) (p : ℕ) (x : ListPlace m) → is_some (at_place xs p) ≡ true → get_or xs p x ≡ x → slot_of x ≡ at_place xs p
standing [] p x h e = cc
standing (y ∷ xs) zero x h e = ap slot_of (sym e)
standing (y ∷ xs) (suc p) x h e = standing xs p x h e

-- a place written with the group that stood there
pub standing-still : {m : ℕ} (xs : List (ListPlace m)) (p : ℕ) (x y : ListPlace m) → x ≡ slice_index_or xs p x → slot_of y ≡ slot_of x → (q : ℕ) → at_place (slice_set xs p y) q ≡ at_place xs q
standing-still [] p x y e f q = refl
standing-still (z ∷ xs) zero x y e f zero = f ∙ ap slot_of e
standing-still (z ∷ xs) zero x y e f (suc q) = refl
standing-still (z ∷ xs) (suc p) x y e f zero = refl
standing-still (z ∷ xs) (suc p) x y e f (suc q) = standing-still xs p x y e f q

-- what holds whatever the result
pub on_err : {T E : Type 0} (r : Result T E) (P : Type 0) → P → OnErr r P
on_err (Ok x) P p = tt
on_err (Err e) P p = p
