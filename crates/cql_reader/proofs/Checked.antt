-- What the tables are checked for, by computation.
use Rattle.std.proofs.Common.{◌≡◌, ◌+◌, Bool, true, false, not, ◌&&◌, ◌||◌, List, [], ◌∷◌, Option, Some, None, refl, ap, sym, ◌∙◌, ◌⊎◌, inl, inr, subst, cond, ltb}
use Rattle.std.proofs.lemmas.Bool.{and_parts, or_cases, false≢true, cases_Bool, cond-true, cond-false}
use Rattle.cql_reader.specs.declared.tokens.TokenKind.{TokenKind}
use Rattle.cql_reader.specs.declared.tokens.TokenKind.TheVariants as k
use Rattle.cql_reader.specs.declared.symbols.Part.{Part}
use Rattle.cql_reader.specs.declared.symbols.Part.TheVariants as p
use Rattle.cql_reader.specs.declared.symbols.Symbol.{Symbol}
use Rattle.cql_reader.specs.declared.symbols.Symbol.TheVariants.{Read, Rule, Emit}
use Rattle.cql_reader.specs.Grammar.{alternatives, Among, kind_of, deepens}
use Rattle.cql_reader.specs.Prediction.{has, first, nullable, firsts, ends, pick, or_else, chosen, weight, weights}

-- a test of each of a list
unfoldable pub each : {A : Type 0} → (A → Bool) → List A → Bool
each f [] = true
each f (x ∷ xs) = f x && each f xs

pub each_at : {A : Type 0} (f : A → Bool) (xs : List A) (x : A) → each f xs ≡ true → Among x xs → f x ≡ true
unfolding each
each_at f [] x e a = absurd a
each_at f (y ∷ ys) x e (inl h) = let P : _ = λ z. f z ≡ true in subst P (sym h) (and_parts (f y) _ e).0
each_at f (y ∷ ys) x e (inr h) = each_at f ys x (and_parts (f y) _ e).1 h

-- some one of a list
unfoldable pub some : {A : Type 0} → (A → Bool) → List A → Bool
some f [] = false
some f (x ∷ xs) = f x || some f xs

pub some_at : {A : Type 0} (f : A → Bool) (xs : List A) → some f xs ≡ true → (x : A) × Among x xs × (f x ≡ true)
unfolding some
some_at f [] e = absurd (false≢true e)
some_at f (x ∷ xs) e = elim (or_cases (f x) _ e) [ inl h ↦ (x, inl refl, h) | inr h ↦ (let r = some_at f xs h in (r.0, inr r.1, r.2)) ]

abbrev pub implies : Bool → Bool → Bool
implies a b = cond a b true

pub implied : (a b : Bool) → implies a b ≡ true → a ≡ true → b ≡ true
implied true b e h = e
implied false b e h = absurd (false≢true h)

unfoldable pub kinds : List TokenKind
kinds = k.Select ∷ k.Distinct ∷ k.Istream ∷ k.Dstream ∷ k.Rstream ∷ k.From ∷ k.As ∷ k.Where ∷ k.Group ∷ k.By ∷ k.And ∷ k.Or ∷ k.Not ∷ k.Range ∷ k.Rows ∷ k.Partition ∷ k.Now ∷ k.Unbounded ∷ k.Slide ∷ k.Count ∷ k.Sum ∷ k.Min ∷ k.Max ∷ k.Name ∷ k.Word ∷ k.Number ∷ k.Open ∷ k.Close ∷ k.Left ∷ k.Right ∷ k.Comma ∷ k.Dot ∷ k.Semicolon ∷ k.Star ∷ k.Equal ∷ k.Unequal ∷ k.Less ∷ k.AtMost ∷ k.Greater ∷ k.AtLeast ∷ []

every_kind : (kind : TokenKind) → Among kind kinds
unfolding kinds
every_kind k.Select = inl refl
every_kind k.Distinct = inr (inl refl)
every_kind k.Istream = inr (inr (inl refl))
every_kind k.Dstream = inr (inr (inr (inl refl)))
every_kind k.Rstream = inr (inr (inr (inr (inl refl))))
every_kind k.From = inr (inr (inr (inr (inr (inl refl)))))
every_kind k.As = inr (inr (inr (inr (inr (inr (inl refl))))))
every_kind k.Where = inr (inr (inr (inr (inr (inr (inr (inl refl)))))))
every_kind k.Group = inr (inr (inr (inr (inr (inr (inr (inr (inl refl))))))))
every_kind k.By = inr (inr (inr (inr (inr (inr (inr (inr (inr (inl refl)))))))))
every_kind k.And = inr (inr (inr (inr (inr (inr (inr (inr (inr (inr (inl refl))))))))))
every_kind k.Or = inr (inr (inr (inr (inr (inr (inr (inr (inr (inr (inr (inl refl)))))))))))
every_kind k.Not = inr (inr (inr (inr (inr (inr (inr (inr (inr (inr (inr (inr (inl refl))))))))))))
every_kind k.Range = inr (inr (inr (inr (inr (inr (inr (inr (inr (inr (inr (inr (inr (inl refl)))))))))))))
every_kind k.Rows = inr (inr (inr (inr (inr (inr (inr (inr (inr (inr (inr (inr (inr (inr (inl refl))))))))))))))
every_kind k.Partition = inr (inr (inr (inr (inr (inr (inr (inr (inr (inr (inr (inr (inr (inr (inr (inl refl)))))))))))))))
every_kind k.Now = inr (inr (inr (inr (inr (inr (inr (inr (inr (inr (inr (inr (inr (inr (inr (inr (inl refl))))))))))))))))
every_kind k.Unbounded = inr (inr (inr (inr (inr (inr (inr (inr (inr (inr (inr (inr (inr (inr (inr (inr (inr (inl refl)))))))))))))))))
every_kind k.Slide = inr (inr (inr (inr (inr (inr (inr (inr (inr (inr (inr (inr (inr (inr (inr (inr (inr (inr (inl refl))))))))))))))))))
every_kind k.Count = inr (inr (inr (inr (inr (inr (inr (inr (inr (inr (inr (inr (inr (inr (inr (inr (inr (inr (inr (inl refl)))))))))))))))))))
every_kind k.Sum = inr (inr (inr (inr (inr (inr (inr (inr (inr (inr (inr (inr (inr (inr (inr (inr (inr (inr (inr (inr (inl refl))))))))))))))))))))
every_kind k.Min = inr (inr (inr (inr (inr (inr (inr (inr (inr (inr (inr (inr (inr (inr (inr (inr (inr (inr (inr (inr (inr (inl refl)))))))))))))))))))))
every_kind k.Max = inr (inr (inr (inr (inr (inr (inr (inr (inr (inr (inr (inr (inr (inr (inr (inr (inr (inr (inr (inr (inr (inr (inl refl))))))))))))))))))))))
every_kind k.Name = inr (inr (inr (inr (inr (inr (inr (inr (inr (inr (inr (inr (inr (inr (inr (inr (inr (inr (inr (inr (inr (inr (inr (inl refl)))))))))))))))))))))))
every_kind k.Word = inr (inr (inr (inr (inr (inr (inr (inr (inr (inr (inr (inr (inr (inr (inr (inr (inr (inr (inr (inr (inr (inr (inr (inr (inl refl))))))))))))))))))))))))
every_kind k.Number = inr (inr (inr (inr (inr (inr (inr (inr (inr (inr (inr (inr (inr (inr (inr (inr (inr (inr (inr (inr (inr (inr (inr (inr (inr (inl refl)))))))))))))))))))))))))
every_kind k.Open = inr (inr (inr (inr (inr (inr (inr (inr (inr (inr (inr (inr (inr (inr (inr (inr (inr (inr (inr (inr (inr (inr (inr (inr (inr (inr (inl refl))))))))))))))))))))))))))
every_kind k.Close = inr (inr (inr (inr (inr (inr (inr (inr (inr (inr (inr (inr (inr (inr (inr (inr (inr (inr (inr (inr (inr (inr (inr (inr (inr (inr (inr (inl refl)))))))))))))))))))))))))))
every_kind k.Left = inr (inr (inr (inr (inr (inr (inr (inr (inr (inr (inr (inr (inr (inr (inr (inr (inr (inr (inr (inr (inr (inr (inr (inr (inr (inr (inr (inr (inl refl))))))))))))))))))))))))))))
every_kind k.Right = inr (inr (inr (inr (inr (inr (inr (inr (inr (inr (inr (inr (inr (inr (inr (inr (inr (inr (inr (inr (inr (inr (inr (inr (inr (inr (inr (inr (inr (inl refl)))))))))))))))))))))))))))))
every_kind k.Comma = inr (inr (inr (inr (inr (inr (inr (inr (inr (inr (inr (inr (inr (inr (inr (inr (inr (inr (inr (inr (inr (inr (inr (inr (inr (inr (inr (inr (inr (inr (inl refl))))))))))))))))))))))))))))))
every_kind k.Dot = inr (inr (inr (inr (inr (inr (inr (inr (inr (inr (inr (inr (inr (inr (inr (inr (inr (inr (inr (inr (inr (inr (inr (inr (inr (inr (inr (inr (inr (inr (inr (inl refl)))))))))))))))))))))))))))))))
every_kind k.Semicolon = inr (inr (inr (inr (inr (inr (inr (inr (inr (inr (inr (inr (inr (inr (inr (inr (inr (inr (inr (inr (inr (inr (inr (inr (inr (inr (inr (inr (inr (inr (inr (inr (inl refl))))))))))))))))))))))))))))))))
every_kind k.Star = inr (inr (inr (inr (inr (inr (inr (inr (inr (inr (inr (inr (inr (inr (inr (inr (inr (inr (inr (inr (inr (inr (inr (inr (inr (inr (inr (inr (inr (inr (inr (inr (inr (inl refl)))))))))))))))))))))))))))))))))
every_kind k.Equal = inr (inr (inr (inr (inr (inr (inr (inr (inr (inr (inr (inr (inr (inr (inr (inr (inr (inr (inr (inr (inr (inr (inr (inr (inr (inr (inr (inr (inr (inr (inr (inr (inr (inr (inl refl))))))))))))))))))))))))))))))))))
every_kind k.Unequal = inr (inr (inr (inr (inr (inr (inr (inr (inr (inr (inr (inr (inr (inr (inr (inr (inr (inr (inr (inr (inr (inr (inr (inr (inr (inr (inr (inr (inr (inr (inr (inr (inr (inr (inr (inl refl)))))))))))))))))))))))))))))))))))
every_kind k.Less = inr (inr (inr (inr (inr (inr (inr (inr (inr (inr (inr (inr (inr (inr (inr (inr (inr (inr (inr (inr (inr (inr (inr (inr (inr (inr (inr (inr (inr (inr (inr (inr (inr (inr (inr (inr (inl refl))))))))))))))))))))))))))))))))))))
every_kind k.AtMost = inr (inr (inr (inr (inr (inr (inr (inr (inr (inr (inr (inr (inr (inr (inr (inr (inr (inr (inr (inr (inr (inr (inr (inr (inr (inr (inr (inr (inr (inr (inr (inr (inr (inr (inr (inr (inr (inl refl)))))))))))))))))))))))))))))))))))))
every_kind k.Greater = inr (inr (inr (inr (inr (inr (inr (inr (inr (inr (inr (inr (inr (inr (inr (inr (inr (inr (inr (inr (inr (inr (inr (inr (inr (inr (inr (inr (inr (inr (inr (inr (inr (inr (inr (inr (inr (inr (inl refl))))))))))))))))))))))))))))))))))))))
every_kind k.AtLeast = inr (inr (inr (inr (inr (inr (inr (inr (inr (inr (inr (inr (inr (inr (inr (inr (inr (inr (inr (inr (inr (inr (inr (inr (inr (inr (inr (inr (inr (inr (inr (inr (inr (inr (inr (inr (inr (inr (inr (inl refl)))))))))))))))))))))))))))))))))))))))

pub at_each_kind : (f : TokenKind → Bool) → each f kinds ≡ true → (kind : TokenKind) → f kind ≡ true
at_each_kind f e kind = each_at f kinds kind e (every_kind kind)

-- first and nullable cover the alternatives
check_first : Part → Bool
check_first part = each (λ ys. implies (ends ys) (nullable part) && each (λ kind. implies (firsts ys kind) (has (first part) kind)) kinds) (alternatives part)

first_checked : (part : Part) → check_first part ≡ true
unfolding check_first each ends nullable kinds firsts kind_of has first alternatives
first_checked p.Query = refl
first_checked p.Form = refl
first_checked p.Op = refl
first_checked p.Body = refl
first_checked p.OptDistinct = refl
first_checked p.List = refl
first_checked p.ItemTail = refl
first_checked p.Item = refl
first_checked p.Value = refl
first_checked p.Counted = refl
first_checked p.OptAs = refl
first_checked p.Column = refl
first_checked p.ColumnTail = refl
first_checked p.Rest = refl
first_checked p.OptSource = refl
first_checked p.OptThird = refl
first_checked p.OptFourth = refl
first_checked p.Source = refl
first_checked p.SourceTail = refl
first_checked p.OptAlias = refl
first_checked p.Alias = refl
first_checked p.OptWindow = refl
first_checked p.Window = refl
first_checked p.Frame = refl
first_checked p.Span = refl
first_checked p.OptSlide = refl
first_checked p.Last = refl
first_checked p.Columns = refl
first_checked p.ColumnsTail = refl
first_checked p.OptWhere = refl
first_checked p.Or = refl
first_checked p.OrTail = refl
first_checked p.And = refl
first_checked p.AndTail = refl
first_checked p.Not = refl
first_checked p.Operand = refl
first_checked p.Compare = refl
first_checked p.OptGroup = refl
first_checked p.End = refl

-- the kinds that can follow a part
unfoldable pub follow : Part → List TokenKind
follow p.Query = []
follow p.Form = k.Semicolon ∷ []
follow p.Op = k.Open ∷ []
follow p.Body = k.From ∷ k.Close ∷ []
follow p.OptDistinct = k.Count ∷ k.Sum ∷ k.Min ∷ k.Max ∷ k.Name ∷ k.Star ∷ []
follow p.List = k.From ∷ k.Close ∷ []
follow p.ItemTail = k.From ∷ k.Close ∷ []
follow p.Item = k.From ∷ k.Close ∷ k.Comma ∷ []
follow p.Value = k.From ∷ k.As ∷ k.Close ∷ k.Comma ∷ []
follow p.Counted = k.Close ∷ []
follow p.OptAs = k.From ∷ k.Close ∷ k.Comma ∷ []
follow p.Column = k.From ∷ k.As ∷ k.Group ∷ k.And ∷ k.Or ∷ k.Rows ∷ k.Close ∷ k.Comma ∷ k.Semicolon ∷ k.Equal ∷ k.Unequal ∷ k.Less ∷ k.AtMost ∷ k.Greater ∷ k.AtLeast ∷ []
follow p.ColumnTail = k.From ∷ k.As ∷ k.Group ∷ k.And ∷ k.Or ∷ k.Rows ∷ k.Close ∷ k.Comma ∷ k.Semicolon ∷ k.Equal ∷ k.Unequal ∷ k.Less ∷ k.AtMost ∷ k.Greater ∷ k.AtLeast ∷ []
follow p.Rest = k.Close ∷ k.Semicolon ∷ []
follow p.OptSource = k.Where ∷ k.Group ∷ k.Close ∷ k.Semicolon ∷ []
follow p.OptThird = k.Where ∷ k.Group ∷ k.Close ∷ k.Semicolon ∷ []
follow p.OptFourth = k.Where ∷ k.Group ∷ k.Close ∷ k.Semicolon ∷ []
follow p.Source = k.Where ∷ k.Group ∷ k.Close ∷ k.Comma ∷ k.Semicolon ∷ []
follow p.SourceTail = k.Where ∷ k.Group ∷ k.Close ∷ k.Comma ∷ k.Semicolon ∷ []
follow p.OptAlias = k.Where ∷ k.Group ∷ k.Close ∷ k.Comma ∷ k.Semicolon ∷ []
follow p.Alias = k.Where ∷ k.Group ∷ k.Close ∷ k.Left ∷ k.Comma ∷ k.Semicolon ∷ []
follow p.OptWindow = k.Where ∷ k.Group ∷ k.Close ∷ k.Comma ∷ k.Semicolon ∷ []
follow p.Window = k.As ∷ k.Where ∷ k.Group ∷ k.Name ∷ k.Close ∷ k.Comma ∷ k.Semicolon ∷ []
follow p.Frame = k.Right ∷ []
follow p.Span = k.Right ∷ []
follow p.OptSlide = k.Right ∷ []
follow p.Last = k.Right ∷ []
follow p.Columns = k.Rows ∷ k.Close ∷ k.Semicolon ∷ []
follow p.ColumnsTail = k.Rows ∷ k.Close ∷ k.Semicolon ∷ []
follow p.OptWhere = k.Group ∷ k.Close ∷ k.Semicolon ∷ []
follow p.Or = k.Group ∷ k.Close ∷ k.Semicolon ∷ []
follow p.OrTail = k.Group ∷ k.Close ∷ k.Semicolon ∷ []
follow p.And = k.Group ∷ k.Or ∷ k.Close ∷ k.Semicolon ∷ []
follow p.AndTail = k.Group ∷ k.Or ∷ k.Close ∷ k.Semicolon ∷ []
follow p.Not = k.Group ∷ k.And ∷ k.Or ∷ k.Close ∷ k.Semicolon ∷ []
follow p.Operand = k.Group ∷ k.And ∷ k.Or ∷ k.Close ∷ k.Semicolon ∷ k.Equal ∷ k.Unequal ∷ k.Less ∷ k.AtMost ∷ k.Greater ∷ k.AtLeast ∷ []
follow p.Compare = k.Name ∷ k.Number ∷ []
follow p.OptGroup = k.Close ∷ k.Semicolon ∷ []
follow p.End = []

-- what follows in an alternative is covered by follow
unfoldable pub fits : Part → List Symbol → Bool
fits part [] = true
fits part (Read role ∷ xs) = fits part xs
fits part (Emit mark ∷ xs) = fits part xs
fits part (Rule q ∷ xs) = each (λ kind. implies (firsts xs kind || (ends xs && has (follow part) kind)) (has (follow q) kind)) kinds && fits part xs

check_follow : Part → Bool
check_follow part = each (fits part) (alternatives part)

follow_checked : (part : Part) → check_follow part ≡ true
unfolding check_follow fits each ends nullable kinds firsts kind_of has first follow alternatives
follow_checked p.Query = refl
follow_checked p.Form = refl
follow_checked p.Op = refl
follow_checked p.Body = refl
follow_checked p.OptDistinct = refl
follow_checked p.List = refl
follow_checked p.ItemTail = refl
follow_checked p.Item = refl
follow_checked p.Value = refl
follow_checked p.Counted = refl
follow_checked p.OptAs = refl
follow_checked p.Column = refl
follow_checked p.ColumnTail = refl
follow_checked p.Rest = refl
follow_checked p.OptSource = refl
follow_checked p.OptThird = refl
follow_checked p.OptFourth = refl
follow_checked p.Source = refl
follow_checked p.SourceTail = refl
follow_checked p.OptAlias = refl
follow_checked p.Alias = refl
follow_checked p.OptWindow = refl
follow_checked p.Window = refl
follow_checked p.Frame = refl
follow_checked p.Span = refl
follow_checked p.OptSlide = refl
follow_checked p.Last = refl
follow_checked p.Columns = refl
follow_checked p.ColumnsTail = refl
follow_checked p.OptWhere = refl
follow_checked p.Or = refl
follow_checked p.OrTail = refl
follow_checked p.And = refl
follow_checked p.AndTail = refl
follow_checked p.Not = refl
follow_checked p.Operand = refl
follow_checked p.Compare = refl
follow_checked p.OptGroup = refl
follow_checked p.End = refl

-- at most one passes
unfoldable single : (List Symbol → Bool) → List (List Symbol) → Bool
single f [] = true
single f (ys ∷ yss) = implies (f ys) (each (λ zs. implies (f zs) false) yss) && single f yss

check_apart : Part → Bool
check_apart part = single ends (alternatives part) && each (λ kind. single (λ ys. firsts ys kind) (alternatives part)) kinds

apart_checked : (part : Part) → check_apart part ≡ true
unfolding check_apart single each ends nullable kinds firsts kind_of has first alternatives
apart_checked p.Query = refl
apart_checked p.Form = refl
apart_checked p.Op = refl
apart_checked p.Body = refl
apart_checked p.OptDistinct = refl
apart_checked p.List = refl
apart_checked p.ItemTail = refl
apart_checked p.Item = refl
apart_checked p.Value = refl
apart_checked p.Counted = refl
apart_checked p.OptAs = refl
apart_checked p.Column = refl
apart_checked p.ColumnTail = refl
apart_checked p.Rest = refl
apart_checked p.OptSource = refl
apart_checked p.OptThird = refl
apart_checked p.OptFourth = refl
apart_checked p.Source = refl
apart_checked p.SourceTail = refl
apart_checked p.OptAlias = refl
apart_checked p.Alias = refl
apart_checked p.OptWindow = refl
apart_checked p.Window = refl
apart_checked p.Frame = refl
apart_checked p.Span = refl
apart_checked p.OptSlide = refl
apart_checked p.Last = refl
apart_checked p.Columns = refl
apart_checked p.ColumnsTail = refl
apart_checked p.OptWhere = refl
apart_checked p.Or = refl
apart_checked p.OrTail = refl
apart_checked p.And = refl
apart_checked p.AndTail = refl
apart_checked p.Not = refl
apart_checked p.Operand = refl
apart_checked p.Compare = refl
apart_checked p.OptGroup = refl
apart_checked p.End = refl

-- no alternative begins with what follows a part that can be empty
check_empty : Part → Bool
check_empty part = each (λ ys. implies (ends ys) (each (λ kind. implies (has (follow part) kind) (each (λ zs. implies (firsts zs kind) false) (alternatives part))) kinds)) (alternatives part)

empty_checked : (part : Part) → check_empty part ≡ true
unfolding check_empty each ends nullable kinds firsts kind_of has first follow alternatives
empty_checked p.Query = refl
empty_checked p.Form = refl
empty_checked p.Op = refl
empty_checked p.Body = refl
empty_checked p.OptDistinct = refl
empty_checked p.List = refl
empty_checked p.ItemTail = refl
empty_checked p.Item = refl
empty_checked p.Value = refl
empty_checked p.Counted = refl
empty_checked p.OptAs = refl
empty_checked p.Column = refl
empty_checked p.ColumnTail = refl
empty_checked p.Rest = refl
empty_checked p.OptSource = refl
empty_checked p.OptThird = refl
empty_checked p.OptFourth = refl
empty_checked p.Source = refl
empty_checked p.SourceTail = refl
empty_checked p.OptAlias = refl
empty_checked p.Alias = refl
empty_checked p.OptWindow = refl
empty_checked p.Window = refl
empty_checked p.Frame = refl
empty_checked p.Span = refl
empty_checked p.OptSlide = refl
empty_checked p.Last = refl
empty_checked p.Columns = refl
empty_checked p.ColumnsTail = refl
empty_checked p.OptWhere = refl
empty_checked p.Or = refl
empty_checked p.OrTail = refl
empty_checked p.And = refl
empty_checked p.AndTail = refl
empty_checked p.Not = refl
empty_checked p.Operand = refl
empty_checked p.Compare = refl
empty_checked p.OptGroup = refl
empty_checked p.End = refl

-- symbols that can always be completed: none asks to go deeper
unfoldable pub plain : List Symbol → Bool
plain [] = true
plain (Read role ∷ xs) = not (deepens role) && plain xs
plain (Emit mark ∷ xs) = plain xs
plain (Rule q ∷ xs) = plain xs

-- the same behind a token
unfoldable pub plain_behind : List Symbol → Bool
plain_behind (Read role ∷ xs) = plain xs
plain_behind (Emit mark ∷ xs) = plain xs
plain_behind (Rule q ∷ xs) = plain xs
plain_behind [] = true

check_plain : Part → Bool
check_plain part = each plain_behind (alternatives part)

plain_checked : (part : Part) → check_plain part ≡ true
unfolding check_plain plain_behind plain deepens each alternatives
plain_checked p.Query = refl
plain_checked p.Form = refl
plain_checked p.Op = refl
plain_checked p.Body = refl
plain_checked p.OptDistinct = refl
plain_checked p.List = refl
plain_checked p.ItemTail = refl
plain_checked p.Item = refl
plain_checked p.Value = refl
plain_checked p.Counted = refl
plain_checked p.OptAs = refl
plain_checked p.Column = refl
plain_checked p.ColumnTail = refl
plain_checked p.Rest = refl
plain_checked p.OptSource = refl
plain_checked p.OptThird = refl
plain_checked p.OptFourth = refl
plain_checked p.Source = refl
plain_checked p.SourceTail = refl
plain_checked p.OptAlias = refl
plain_checked p.Alias = refl
plain_checked p.OptWindow = refl
plain_checked p.Window = refl
plain_checked p.Frame = refl
plain_checked p.Span = refl
plain_checked p.OptSlide = refl
plain_checked p.Last = refl
plain_checked p.Columns = refl
plain_checked p.ColumnsTail = refl
plain_checked p.OptWhere = refl
plain_checked p.Or = refl
plain_checked p.OrTail = refl
plain_checked p.And = refl
plain_checked p.AndTail = refl
plain_checked p.Not = refl
plain_checked p.Operand = refl
plain_checked p.Compare = refl
plain_checked p.OptGroup = refl
plain_checked p.End = refl

-- an alternative by which the part is completed
unfoldable pub least : Part → List Symbol → Bool
least part ys = plain ys && ltb (weights ys) (weight part)

check_least : Part → Bool
check_least part = some (least part) (alternatives part)

least_checked : (part : Part) → check_least part ≡ true
unfolding check_least least some weights weight plain deepens each alternatives
least_checked p.Query = refl
least_checked p.Form = refl
least_checked p.Op = refl
least_checked p.Body = refl
least_checked p.OptDistinct = refl
least_checked p.List = refl
least_checked p.ItemTail = refl
least_checked p.Item = refl
least_checked p.Value = refl
least_checked p.Counted = refl
least_checked p.OptAs = refl
least_checked p.Column = refl
least_checked p.ColumnTail = refl
least_checked p.Rest = refl
least_checked p.OptSource = refl
least_checked p.OptThird = refl
least_checked p.OptFourth = refl
least_checked p.Source = refl
least_checked p.SourceTail = refl
least_checked p.OptAlias = refl
least_checked p.Alias = refl
least_checked p.OptWindow = refl
least_checked p.Window = refl
least_checked p.Frame = refl
least_checked p.Span = refl
least_checked p.OptSlide = refl
least_checked p.Last = refl
least_checked p.Columns = refl
least_checked p.ColumnsTail = refl
least_checked p.OptWhere = refl
least_checked p.Or = refl
least_checked p.OrTail = refl
least_checked p.And = refl
least_checked p.AndTail = refl
least_checked p.Not = refl
least_checked p.Operand = refl
least_checked p.Compare = refl
least_checked p.OptGroup = refl
least_checked p.End = refl

-- What the checks say.

pub firsts_covered : (part : Part) (ys : List Symbol) → Among ys (alternatives part) → (kind : TokenKind) → firsts ys kind ≡ true → has (first part) kind ≡ true
unfolding check_first
firsts_covered part ys a kind h =
    let here = (and_parts _ _ (each_at _ (alternatives part) ys (first_checked part) a)).1 in
    implied _ _ (at_each_kind _ here kind) h

pub ends_covered : (part : Part) (ys : List Symbol) → Among ys (alternatives part) → ends ys ≡ true → nullable part ≡ true
unfolding check_first
ends_covered part ys a h = implied _ _ (and_parts _ _ (each_at _ (alternatives part) ys (first_checked part) a)).0 h

pub fits_at : (part : Part) (ys : List Symbol) → Among ys (alternatives part) → fits part ys ≡ true
unfolding check_follow
fits_at part ys a = each_at _ (alternatives part) ys (follow_checked part) a

pick_only : (f : List Symbol → Bool) (yss : List (List Symbol)) (ys : List Symbol) → single f yss ≡ true → Among ys yss → f ys ≡ true → pick f yss ≡ Some ys
unfolding single pick
pick_only f [] ys e a h = absurd a
pick_only f (zs ∷ zss) ys e (inl q) h = let hz : f zs ≡ true = subst (λ (v : List Symbol). f v ≡ true) q h in cond-true _ _ _ hz ∙ ap Some (sym q)
pick_only f (zs ∷ zss) ys e (inr q) h =
    let both = and_parts _ _ e in
    elim (cases_Bool (f zs)) [
      | inl hz ↦ absurd (false≢true (implied _ _ (each_at (λ vs. implies (f vs) false) zss ys (implied _ _ both.0 hz) q) h))
      | inr hz ↦ cond-false _ _ _ hz ∙ pick_only f zss ys both.1 q h
    ]

pick_none : (f : List Symbol → Bool) (yss : List (List Symbol)) → each (λ zs. implies (f zs) false) yss ≡ true → pick f yss ≡ None
unfolding each pick
pick_none f [] e = refl
pick_none f (zs ∷ zss) e =
    let both = and_parts _ _ e in
    elim (cases_Bool (f zs)) [
      | inl hz ↦ absurd (false≢true (implied _ _ both.0 hz))
      | inr hz ↦ cond-false _ _ _ hz ∙ pick_none f zss both.1
    ]

pick_among : (f : List Symbol → Bool) (yss : List (List Symbol)) (ys : List Symbol) → pick f yss ≡ Some ys → Among ys yss
unfolding pick
pick_among f [] ys e = cc
pick_among f (zs ∷ zss) ys e =
    elim (cases_Bool (f zs)) [
      | inl hz ↦ (let same : Some zs ≡ Some ys = sym (cond-true _ _ _ hz) ∙ e in inl cc)
      | inr hz ↦ inr (pick_among f zss ys (sym (cond-false _ _ _ hz) ∙ e))
    ]

-- At the end, or before this kind of token, a part is written by this alternative and what may follow it.
unfoldable pub CanStand : Part → List Symbol → Option TokenKind → Type 0
CanStand part ys None = ends ys ≡ true
CanStand part ys (Some kind) = (firsts ys kind ≡ true) ⊎ ((ends ys ≡ true) × (has (follow part) kind ≡ true))

-- an alternative that can stand at the next token is the chosen one
pub choose : (part : Part) (next : Option TokenKind) (ys : List Symbol) → Among ys (alternatives part) → CanStand part ys next → chosen part next ≡ Some ys
unfolding chosen CanStand check_apart check_empty
choose part None ys a h = pick_only ends (alternatives part) ys (and_parts _ _ (apart_checked part)).0 a h
choose part (Some kind) ys a (inl h) =
    ap (λ (o : Option (List Symbol)). or_else o (pick ends (alternatives part))) (pick_only (λ zs. firsts zs kind) (alternatives part) ys (at_each_kind (λ k. single (λ zs. firsts zs k) (alternatives part)) (and_parts _ _ (apart_checked part)).1 kind) a h)
choose part (Some kind) ys a (inr h) =
    let at_ys = implied _ _ (each_at (λ zs. implies (ends zs) (each (λ k. implies (has (follow part) k) (each (λ vs. implies (firsts vs k) false) (alternatives part))) kinds)) (alternatives part) ys (empty_checked part) a) h.0 in
    let none = implied _ _ (at_each_kind (λ k. implies (has (follow part) k) (each (λ vs. implies (firsts vs k) false) (alternatives part))) at_ys kind) h.1 in
    ap (λ (o : Option (List Symbol)). or_else o (pick ends (alternatives part))) (pick_none (λ zs. firsts zs kind) (alternatives part) none)
    ∙ pick_only ends (alternatives part) ys (and_parts _ _ (apart_checked part)).0 a h.0

or_else_among : (a b : Option (List Symbol)) (ys : List Symbol) (yss : List (List Symbol)) → (a ≡ Some ys → Among ys yss) → (b ≡ Some ys → Among ys yss) → or_else a b ≡ Some ys → Among ys yss
or_else_among None b ys yss f g e = g e
or_else_among (Some x) b ys yss f g e = f e

pub chosen_among : (part : Part) (next : Option TokenKind) (ys : List Symbol) → chosen part next ≡ Some ys → Among ys (alternatives part)
unfolding chosen
chosen_among part None ys e = pick_among ends (alternatives part) ys e
chosen_among part (Some kind) ys e = or_else_among _ _ ys (alternatives part) (pick_among (λ zs. firsts zs kind) (alternatives part) ys) (pick_among ends (alternatives part) ys) e

pub plain_behind_at : (part : Part) (ys : List Symbol) → Among ys (alternatives part) → plain_behind ys ≡ true
unfolding check_plain
plain_behind_at part ys a = each_at _ (alternatives part) ys (plain_checked part) a

pub least_at : (part : Part) → (ys : List Symbol) × Among ys (alternatives part) × (least part ys ≡ true)
unfolding check_least
least_at part = some_at (least part) (alternatives part) (least_checked part)

-- without reading, a part becomes lighter; with a token it grows by at most 64
unfoldable pub light : Part → List Symbol → Bool
light part [] = ltb 0 (weight part)
light part (Read role ∷ xs) = ltb (weights (Read role ∷ xs)) (weight part + 64)
light part (Emit mark ∷ xs) = ltb (weights (Emit mark ∷ xs)) (weight part)
light part (Rule q ∷ xs) = ltb (weights (Rule q ∷ xs)) (weight part)

check_light : Part → Bool
check_light part = each (light part) (alternatives part)

light_checked : (part : Part) → check_light part ≡ true
unfolding check_light light each weights weight alternatives
light_checked p.Query = refl
light_checked p.Form = refl
light_checked p.Op = refl
light_checked p.Body = refl
light_checked p.OptDistinct = refl
light_checked p.List = refl
light_checked p.ItemTail = refl
light_checked p.Item = refl
light_checked p.Value = refl
light_checked p.Counted = refl
light_checked p.OptAs = refl
light_checked p.Column = refl
light_checked p.ColumnTail = refl
light_checked p.Rest = refl
light_checked p.OptSource = refl
light_checked p.OptThird = refl
light_checked p.OptFourth = refl
light_checked p.Source = refl
light_checked p.SourceTail = refl
light_checked p.OptAlias = refl
light_checked p.Alias = refl
light_checked p.OptWindow = refl
light_checked p.Window = refl
light_checked p.Frame = refl
light_checked p.Span = refl
light_checked p.OptSlide = refl
light_checked p.Last = refl
light_checked p.Columns = refl
light_checked p.ColumnsTail = refl
light_checked p.OptWhere = refl
light_checked p.Or = refl
light_checked p.OrTail = refl
light_checked p.And = refl
light_checked p.AndTail = refl
light_checked p.Not = refl
light_checked p.Operand = refl
light_checked p.Compare = refl
light_checked p.OptGroup = refl
light_checked p.End = refl

pub light_at : (part : Part) (ys : List Symbol) → Among ys (alternatives part) → light part ys ≡ true
unfolding check_light
light_at part ys a = each_at _ (alternatives part) ys (light_checked part) a
