-- One step of each of the tests that go over a list.
use Rattle.std.proofs.Common.{◌≡◌, true, false, sym, refl, ap, ◌∙◌, ◌||◌, ◌&&◌, Bool, List, ◌∷◌, drop, get_or, length, map, Option, Some, None, cond, ◌<◌, ◌≤◌, ◌+◌, ℕ}
use Rattle.std.proofs.lemmas.List.{at_drop_more, at_drop_all}
use Rattle.cql_reader.specs.declared.tokens.TokenKind.{TokenKind}
use Rattle.cql_reader.specs.declared.symbols.Role.{Role}
use Rattle.cql_reader.specs.declared.symbols.Part.{Part}
use Rattle.cql_reader.specs.declared.symbols.Mark.{Mark}
use Rattle.cql_reader.specs.declared.symbols.Symbol.{Symbol}
use Rattle.cql_reader.specs.declared.symbols.Symbol.TheVariants.{Read, Rule, Emit}
use Rattle.cql_reader.specs.Prediction.{has, same_kind, firsts, ends, first, nullable, pick, chosen, or_else}
use Rattle.cql_reader.specs.Grammar.{alternatives, kind_of}

pub false_or : (x y : Bool) → x ≡ false → (x || y) ≡ y
false_or false y h = refl
false_or true y h = cc

pub true_and : (x y : Bool) → x ≡ true → (x && y) ≡ y
true_and true y h = refl
true_and false y h = cc

pub has_step : (kinds : List TokenKind) (kind : TokenKind) (i : ℕ) (d : TokenKind) → i < length kinds → has (drop i kinds) kind ≡ (same_kind (get_or kinds i d) kind || has (drop (i + 1) kinds) kind)
unfolding has
has_step kinds kind i d h = at_drop_more (λ (xs : List TokenKind). has xs kind) kinds i d h

pub has_end : (kinds : List TokenKind) (kind : TokenKind) (i : ℕ) → length kinds ≤ i → has (drop i kinds) kind ≡ false
unfolding has
has_end kinds kind i h = at_drop_all (λ (xs : List TokenKind). has xs kind) kinds i h

pub ends_step : (xs : List Symbol) (i : ℕ) (d : Symbol) → i < length xs → ends (drop i xs) ≡ ends (get_or xs i d ∷ drop (i + 1) xs)
ends_step xs i d h = at_drop_more ends xs i d h

pub ends_read : (xs : List Symbol) (role : Role) → ends (Read role ∷ xs) ≡ false
unfolding ends
ends_read xs role = refl

pub ends_rule : (xs : List Symbol) (q : Part) → ends (Rule q ∷ xs) ≡ (nullable q && ends xs)
unfolding ends
ends_rule xs q = refl

pub ends_emit : (xs : List Symbol) (m : Mark) → ends (Emit m ∷ xs) ≡ ends xs
unfolding ends
ends_emit xs m = refl

pub ends_end : (xs : List Symbol) (i : ℕ) → length xs ≤ i → ends (drop i xs) ≡ true
unfolding ends
ends_end xs i h = at_drop_all ends xs i h

pub firsts_step : (xs : List Symbol) (kind : TokenKind) (i : ℕ) (d : Symbol) → i < length xs → firsts (drop i xs) kind ≡ firsts (get_or xs i d ∷ drop (i + 1) xs) kind
firsts_step xs kind i d h = at_drop_more (λ (v : List Symbol). firsts v kind) xs i d h

pub firsts_read : (xs : List Symbol) (kind : TokenKind) (role : Role) → firsts (Read role ∷ xs) kind ≡ same_kind (kind_of role) kind
unfolding firsts
firsts_read xs kind role = refl

pub firsts_rule : (xs : List Symbol) (kind : TokenKind) (q : Part) → firsts (Rule q ∷ xs) kind ≡ (has (first q) kind || (nullable q && firsts xs kind))
unfolding firsts
firsts_rule xs kind q = refl

pub firsts_emit : (xs : List Symbol) (kind : TokenKind) (m : Mark) → firsts (Emit m ∷ xs) kind ≡ firsts xs kind
unfolding firsts
firsts_emit xs kind m = refl

pub firsts_end : (xs : List Symbol) (kind : TokenKind) (i : ℕ) → length xs ≤ i → firsts (drop i xs) kind ≡ false
unfolding firsts
firsts_end xs kind i h = at_drop_all (λ (v : List Symbol). firsts v kind) xs i h

-- the same where the symbol is known
pub ends_at_read : (xs : List Symbol) (i : ℕ) (d : Symbol) (role : Role) → i < length xs → get_or xs i d ≡ Read role → ends (drop i xs) ≡ false
unfolding ends
ends_at_read xs i d role h e = ends_step xs i d h ∙ ap (λ (v : Symbol). ends (v ∷ drop (i + 1) xs)) e

pub ends_at_rule : (xs : List Symbol) (i : ℕ) (d : Symbol) (q : Part) → i < length xs → get_or xs i d ≡ Rule q → ends (drop i xs) ≡ (nullable q && ends (drop (i + 1) xs))
unfolding ends
ends_at_rule xs i d q h e = ends_step xs i d h ∙ ap (λ (v : Symbol). ends (v ∷ drop (i + 1) xs)) e

pub ends_at_emit : (xs : List Symbol) (i : ℕ) (d : Symbol) (m : Mark) → i < length xs → get_or xs i d ≡ Emit m → ends (drop i xs) ≡ ends (drop (i + 1) xs)
unfolding ends
ends_at_emit xs i d m h e = ends_step xs i d h ∙ ap (λ (v : Symbol). ends (v ∷ drop (i + 1) xs)) e

pub firsts_at_read : (xs : List Symbol) (kind : TokenKind) (i : ℕ) (d : Symbol) (role : Role) → i < length xs → get_or xs i d ≡ Read role → firsts (drop i xs) kind ≡ same_kind (kind_of role) kind
unfolding firsts
firsts_at_read xs kind i d role h e = firsts_step xs kind i d h ∙ ap (λ (v : Symbol). firsts (v ∷ drop (i + 1) xs) kind) e

pub firsts_at_rule : (xs : List Symbol) (kind : TokenKind) (i : ℕ) (d : Symbol) (q : Part) → i < length xs → get_or xs i d ≡ Rule q → firsts (drop i xs) kind ≡ (has (first q) kind || (nullable q && firsts (drop (i + 1) xs) kind))
unfolding firsts
firsts_at_rule xs kind i d q h e = firsts_step xs kind i d h ∙ ap (λ (v : Symbol). firsts (v ∷ drop (i + 1) xs) kind) e

pub firsts_at_emit : (xs : List Symbol) (kind : TokenKind) (i : ℕ) (d : Symbol) (m : Mark) → i < length xs → get_or xs i d ≡ Emit m → firsts (drop i xs) kind ≡ firsts (drop (i + 1) xs) kind
unfolding firsts
firsts_at_emit xs kind i d m h e = firsts_step xs kind i d h ∙ ap (λ (v : Symbol). firsts (v ∷ drop (i + 1) xs) kind) e

pub pick_step : {A : Type 0} (view : A → List Symbol) (f : List Symbol → Bool) (xs : List A) (i : ℕ) (d : A) → i < length xs → pick f (map view (drop i xs)) ≡ cond (f (view (get_or xs i d))) (Some (view (get_or xs i d))) (pick f (map view (drop (i + 1) xs)))
unfolding pick
pick_step view f xs i d h = at_drop_more (λ v. pick f (map view v)) xs i d h

pub pick_end : {A : Type 0} (view : A → List Symbol) (f : List Symbol → Bool) (xs : List A) (i : ℕ) → length xs ≤ i → pick f (map view (drop i xs)) ≡ None
unfolding pick
pick_end view f xs i h = at_drop_all (λ v. pick f (map view v)) xs i h

pub chosen_some : (part : Part) (kind : TokenKind) (yss : List (List Symbol)) (ys : List Symbol) → yss ≡ alternatives part → pick (λ zs. firsts zs kind) yss ≡ Some ys → chosen part (Some kind) ≡ Some ys
unfolding chosen
chosen_some part kind yss ys e h = ap (λ (o : Option (List Symbol)). or_else o (pick ends (alternatives part))) (ap (λ (v : List (List Symbol)). pick (λ zs. firsts zs kind) v) (sym e) ∙ h)

pub chosen_else : (part : Part) (kind : TokenKind) (yss : List (List Symbol)) (o : Option (List Symbol)) → yss ≡ alternatives part → pick (λ zs. firsts zs kind) yss ≡ None → pick ends yss ≡ o → chosen part (Some kind) ≡ o
unfolding chosen
chosen_else part kind yss o e h r = ap (λ (o : Option (List Symbol)). or_else o (pick ends (alternatives part))) (ap (λ (v : List (List Symbol)). pick (λ zs. firsts zs kind) v) (sym e) ∙ h) ∙ ap (pick ends) (sym e) ∙ r

pub chosen_end : (part : Part) (yss : List (List Symbol)) (o : Option (List Symbol)) → yss ≡ alternatives part → pick ends yss ≡ o → chosen part None ≡ o
unfolding chosen
chosen_end part yss o e r = ap (pick ends) (sym e) ∙ r
