-- Streams without what came to them.
use Rattle.std.proofs.Common.{◌≡◌, ℕ, ◌≤◌, ◌&&◌, nat_le, Bool, true, false, cond, max, min, Option, Some, None, unwrap_or, List, [], ◌∷◌, filter, map, refl, sym, ap, ap₂, ◌∙◌, arith, leb-false}
use Rattle.std.specs.Prelude.{slice_get}
use Rattle.std.specs.List.{reduce}
use Rattle.std.specs.Option.{option_map, option_map_or}
use Rattle.std.proofs.lemmas.Bool.{lt-leb}
use Rattle.std.proofs.lemmas.Option.{slice_get-map}
use Rattle.values.specs.Window.{Element, input_of}
use Rattle.reference.specs.Machine.{Place, Stream, opens, until_for, first_for}
use Rattle.reference.specs.Alike.{bare}

-- those of higher numbers are among those of lower ones
pub filter_more : (a b : ℕ) → a ≤ b → (es : List Element) → filter (λ e. nat_le b e.arrival) es ≡ filter (λ e. nat_le b e.arrival) (filter (λ e. nat_le a e.arrival) es)
filter_more a b l [] = refl
filter_more a b l (e ∷ es) = here (nat_le a e.arrival) refl (filter_more a b l es)
  where
    rest : List Element
    rest = filter (λ (f : Element). nat_le a f.arrival) es

    here : (c : Bool) → nat_le a e.arrival ≡ c → filter (λ f. nat_le b f.arrival) es ≡ filter (λ f. nat_le b f.arrival) rest
        → cond (nat_le b e.arrival) (e ∷ filter (λ f. nat_le b f.arrival) es) (filter (λ f. nat_le b f.arrival) es) ≡ filter (λ f. nat_le b f.arrival) (cond c (e ∷ rest) rest)
    here true i k = ap (λ (l : List Element). cond (nat_le b e.arrival) (e ∷ l) l) k
    here false i k = let n : nat_le b e.arrival ≡ false = lt-leb b e.arrival (omega (arith, leb-false a e.arrival i, l)) in rw n k

-- what counts for a query that is registered now is in the stream without what came
pub input_bare : (a first : ℕ) (es : List Element) → input_of a first es ≡ input_of a first (filter (λ e. nat_le a e.arrival) es)
input_bare a first [] = refl
input_bare a first (e ∷ es) = here (nat_le a e.arrival) refl (input_bare a first es)
  where
    rest : List Element
    rest = filter (λ (f : Element). nat_le a f.arrival) es

    here : (c : Bool) → nat_le a e.arrival ≡ c → input_of a first es ≡ input_of a first rest
        → cond (nat_le a e.arrival && nat_le first e.instant) (e ∷ input_of a first es) (input_of a first es) ≡ input_of a first (cond c (e ∷ rest) rest)
    here true i k = ap (λ (l : List Element). cond (nat_le a e.arrival && nat_le first e.instant) (e ∷ l) l) k
    here false i k = rw i k

-- WHAT GOES BY THE BARE STREAMS is the same where these are
pub by_bare : {A : Type 0} (f : Stream → A) (d : A) → ((s : Stream) → f s ≡ f (bare s)) → (ss ts : List Stream) → map bare ss ≡ map bare ts → (k : ℕ) → option_map_or f (slice_get ss k) d ≡ option_map_or f (slice_get ts k) d
by_bare f d e ss ts h k = one (slice_get ss k) ∙ ap (λ o. option_map_or f o d) (sym (slice_get-map bare ss k) ∙ ap (λ us. slice_get us k) h ∙ slice_get-map bare ts k) ∙ sym (one (slice_get ts k))
  where
    one : (o : Option Stream) → option_map_or f o d ≡ option_map_or f (option_map bare o) d
    one None = refl
    one (Some s) = e s

module _ (ss ts : List Stream) (h : map bare ss ≡ map bare ts) where
  pub open_same : (k : ℕ) → option_map_or (λ (s : Stream). s.first_open) (slice_get ss k) 0 ≡ option_map_or (λ (s : Stream). s.first_open) (slice_get ts k) 0
  open_same k = by_bare (λ (s : Stream). s.first_open) 0 (λ s. refl) ss ts h k

  pub opens_same : (ps : List Place) → opens ss ps ≡ opens ts ps
  opens_same [] = refl
  opens_same (p ∷ ps) = ap₂ (λ x xs. x ∷ xs) (open_same p.stream) (opens_same ps)

  pub untils_same : (ps : List Place) → until_for ss ps ≡ until_for ts ps
  untils_same ps = ap (λ os. unwrap_or (reduce min os) 0) (opens_same ps)

  pub firsts_same : (ps : List Place) → first_for ss ps ≡ first_for ts ps
  firsts_same ps = ap (λ os. unwrap_or (reduce max os) 0) (opens_same ps)

-- LISTS
pub map_each : {A B : Type 0} (f g : A → B) (xs : List A) → ((x : A) → f x ≡ g x) → map f xs ≡ map g xs
map_each f g [] h = refl
map_each f g (x ∷ xs) h = ap₂ (λ y ys. y ∷ ys) (h x) (map_each f g xs h)
