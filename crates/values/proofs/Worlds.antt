-- Windows that show the same bags give the same answers.
use Rattle.std.proofs.Common.{◌≡◌, ℕ, zero, suc, ◌+◌, ◌-◌, ◌<◌, ◌≤◌, Bool, true, false, cond, nat_le, List, [], ◌∷◌, ◌++◌, map, filter, flat_map, filter_map, refl, sym, ap, ◌∙◌, arith, length, Option, Some, None, ℤ, pos, ◌+ℤ◌, fold}
use Rattle.std.specs.List.{reduce, range_with_len, cons_option}
use Rattle.std.specs.Option.{option_map}
use Rattle.std.specs.Int.{int_min, int_max}
use Rattle.std.proofs.lemmas.Int.{ints, clamps}
use Rattle.std.proofs.lemmas.Bool.{leb-true}
use Rattle.std.proofs.lemmas.Grind.{flat_map-append}
use Rattle.values.specs.Value.{clamp_answer}
use Rattle.values.specs.Row.{Row, row_cmp, same_row}
use Rattle.values.proofs.Order.{row_order}
use Rattle.values.specs.Bag.{distinct}
use Rattle.values.specs.Perm.{Perm, same, keep, flip, join}
use Rattle.values.specs.Tables.{SameTables}
use Rattle.values.specs.Window.{Element}
use Rattle.values.specs.Condition.{SourceColumn, field, keeps}
use Rattle.values.specs.declared.resolved.Aggregate.{Aggregate}
use Rattle.values.specs.declared.resolved.Aggregate.TheVariants.{Count, Sum, Min, Max}
use Rattle.values.specs.Relation.{Shape, ListItem, Listed, Grouped, Key, CountAll, Of, combinations, numbers, aggregated, item_value, key_of, keys_of, group_row, shaped}
use Rattle.values.specs.Answers.{Resolved, StreamOperator, Istream, Dstream, Rstream, body, shown_at, relation, relation_before, streamed, answers_at, answers}
use Rattle.values.proofs.Perms.{perm-filter, perm-map, perm-flat_map, perm-flat_map_each, perm-distinct, perm-bag_minus, perm-in_order}

module _ {X : Type 0} where
  perm-length : (xs ys : List X) → Perm xs ys → length xs ≡ length ys
  perm-length xs ys (same us) = refl
  perm-length xs ys (keep x us vs p) = ap suc (perm-length us vs p)
  perm-length xs ys (flip x y us) = refl
  perm-length xs ys (join us vs ws p q) = perm-length us vs p ∙ perm-length vs ws q

module _ {X Y : Type 0} (h : X → Option Y) where
  option_kept : (o : Option Y) (us vs : List Y) → Perm us vs → Perm (cons_option o us) (cons_option o vs)
  option_kept None us vs p = p
  option_kept (Some y) us vs p = keep y us vs p

  option_flipped : (o p : Option Y) (us : List Y) → Perm (cons_option o (cons_option p us)) (cons_option p (cons_option o us))
  option_flipped None p us = same (cons_option p us)
  option_flipped (Some x) None us = same (x ∷ us)
  option_flipped (Some x) (Some y) us = flip x y us

  perm-filter_map : (xs ys : List X) → Perm xs ys → Perm (filter_map h xs) (filter_map h ys)
  perm-filter_map xs ys (same us) = same (filter_map h us)
  perm-filter_map xs ys (keep x us vs p) = option_kept (h x) (filter_map h us) (filter_map h vs) (perm-filter_map us vs p)
  perm-filter_map xs ys (flip x y us) = option_flipped (h x) (h y) (filter_map h us)
  perm-filter_map xs ys (join us vs ws p q) = join (filter_map h us) (filter_map h vs) (filter_map h ws) (perm-filter_map us vs p) (perm-filter_map vs ws q)

module _ (f : ℤ → ℤ → ℤ) (swaps : (a b c : ℤ) → f (f a b) c ≡ f (f a c) b) (turns : (a b : ℤ) → f a b ≡ f b a) where
  perm-fold : (xs ys : List ℤ) (a : ℤ) → Perm xs ys → fold f a xs ≡ fold f a ys
  perm-fold xs ys a (same us) = refl
  perm-fold xs ys a (keep x us vs p) = perm-fold us vs (f a x) p
  perm-fold xs ys a (flip x y us) = ap (λ b. fold f b us) (swaps a x y)
  perm-fold xs ys a (join us vs ws p q) = perm-fold us vs a p ∙ perm-fold vs ws a q

  perm-reduce : (xs ys : List ℤ) → Perm xs ys → reduce f xs ≡ reduce f ys
  perm-reduce xs ys (same us) = refl
  perm-reduce xs ys (keep x us vs p) = ap (λ (v : ℤ). Some v) (perm-fold us vs x p)
  perm-reduce xs ys (flip x y us) = ap (λ (v : ℤ). Some (fold f v us)) (turns x y)
  perm-reduce xs ys (join us vs ws p q) = perm-reduce us vs p ∙ perm-reduce vs ws q

pub perm-combinations : (ws vs : List (List Row)) → SameTables ws vs → Perm (combinations ws) (combinations vs)
perm-combinations [] [] h = same ([] ∷ [])
perm-combinations [] (v ∷ vs) h = absurd h
perm-combinations (w ∷ ws) [] h = absurd h
perm-combinations (w ∷ ws) (v ∷ vs) h =
    let each : List (List Row) → Row → List (List Row) = λ rests r. map (λ rest. r ∷ rest) rests in
    join (flat_map (each (combinations ws)) w) (flat_map (each (combinations ws)) v) (flat_map (each (combinations vs)) v)
    (perm-flat_map (each (combinations ws)) w v h.0)
    (perm-flat_map_each (each (combinations ws)) (each (combinations vs)) v
    (λ r. perm-map (λ rest. r ∷ rest) (combinations ws) (combinations vs) (perm-combinations ws vs h.1)))

perm-aggregated : (a : Aggregate) (ms ns : List ℤ) → Perm ms ns → aggregated a ms ≡ aggregated a ns
perm-aggregated Count ms ns p = ap (λ n. Some (pos n)) (perm-length ms ns p)
perm-aggregated Sum ms ns p = ap (option_map clamp_answer) (perm-reduce ◌+ℤ◌ (λ x y z. omega (arith, ints)) (λ x y. omega (arith, ints)) ms ns p)
perm-aggregated Min ms ns p = perm-reduce int_min (λ x y z. omega (arith, ints, clamps)) (λ x y. omega (arith, ints, clamps)) ms ns p
perm-aggregated Max ms ns p = perm-reduce int_max (λ x y z. omega (arith, ints, clamps)) (λ x y. omega (arith, ints, clamps)) ms ns p

pub same-item_value : (key : Row) (g h : List (List Row)) → Perm g h → (i : ListItem) → item_value key g i ≡ item_value key h i
same-item_value key g h p (Key k) = refl
same-item_value key g h p CountAll = ap (λ n. Some (pos n)) (perm-length g h p)
same-item_value key g h p (Of a c) = perm-aggregated a (numbers c g) (numbers c h) (perm-filter_map (λ rows. field rows c) g h p)

same-items : (key : Row) (g h : List (List Row)) → Perm g h → (items : List ListItem) → map (item_value key g) items ≡ map (item_value key h) items
same-items key g h p [] = refl
same-items key g h p (i ∷ items) = ap (λ v. v ∷ map (item_value key g) items) (same-item_value key g h p i) ∙ ap (λ v. item_value key h i ∷ v) (same-items key g h p items)

same-group_row : (by : List SourceColumn) (items : List ListItem) (g h : List (List Row)) → Perm g h → (key : Row) → group_row by items g key ≡ group_row by items h key
same-group_row by items g h p key =
    let t : List Row → Bool = λ rows. same_row key (key_of by rows) in
    same-items key (filter t g) (filter t h) (perm-filter t g h p) items

perm-keys_of : (by : List SourceColumn) (g h : List (List Row)) → Perm g h → Perm (keys_of by g) (keys_of by h)
perm-keys_of [] g h p = same ([] ∷ [])
perm-keys_of (c ∷ by) g h p =
    perm-distinct row_cmp row_order (map (key_of (c ∷ by)) g) (map (key_of (c ∷ by)) h) (perm-map (key_of (c ∷ by)) g h p)

map_same : (f g : Row → Row) (xs : List Row) → ((x : Row) → f x ≡ g x) → map f xs ≡ map g xs
map_same f g [] h = refl
map_same f g (x ∷ xs) h = ap (λ v. v ∷ map f xs) (h x) ∙ ap (λ v. g x ∷ v) (map_same f g xs h)

pub perm-shaped : (shape : Shape) (g h : List (List Row)) → Perm g h → Perm (shaped shape g) (shaped shape h)
perm-shaped (Listed columns) g h p = perm-map (λ rows. map (field rows) columns) g h p
perm-shaped (Grouped by items) g h p =
    rw (map_same (group_row by items g) (group_row by items h) (keys_of by g) (same-group_row by items g h p))
    (perm-map (group_row by items h) (keys_of by g) (keys_of by h) (perm-keys_of by g h p))

perm-once : (b : Bool) (xs ys : List Row) → Perm xs ys → Perm (cond b (distinct row_cmp xs) xs) (cond b (distinct row_cmp ys) ys)
perm-once true xs ys p = perm-distinct row_cmp row_order xs ys p
perm-once false xs ys p = p

-- the relation of a query is a function of its windows' bags
pub perm-body : (q : Resolved) (ws vs : List (List Row)) → SameTables ws vs → Perm (body q ws) (body q vs)
perm-body q ws vs h =
    perm-once q.is_distinct (shaped q.shape (filter (keeps q.condition) (combinations ws))) (shaped q.shape (filter (keeps q.condition) (combinations vs)))
    (perm-shaped q.shape (filter (keeps q.condition) (combinations ws)) (filter (keeps q.condition) (combinations vs))
    (perm-filter (keeps q.condition) (combinations ws) (combinations vs) (perm-combinations ws vs h)))

-- so are its answers
pub perm-streamed : (op : StreamOperator) (a b c d : List Row) → Perm a c → Perm b d → Perm (streamed op a b) (streamed op c d)
perm-streamed Istream a b c d p q = perm-bag_minus row_cmp row_order b d a c q p
perm-streamed Dstream a b c d p q = perm-bag_minus row_cmp row_order a c b d p q
perm-streamed Rstream a b c d p q = q

module _ (q : Resolved) (from : ℕ) (is js : List (List Element)) where
  -- the windows show the same bags at the instant
  abbrev pub ShowSame : ℕ → Type 0
  ShowSame t = SameTables (shown_at from q.windows t is) (shown_at from q.windows t js)

  pub perm-relation : (t : ℕ) → (from ≤ t → ShowSame t) → Perm (relation q from is t) (relation q from js t)
  perm-relation t h = go (nat_le from t) refl
    where
      go : (b : Bool) → nat_le from t ≡ b → Perm (cond b (body q (shown_at from q.windows t is)) []) (cond b (body q (shown_at from q.windows t js)) [])
      go true e = perm-body q (shown_at from q.windows t is) (shown_at from q.windows t js) (h (leb-true from t e))
      go false e = same []

  perm-relation_before : (t : ℕ) → ((u : ℕ) → u < t → from ≤ u → ShowSame u) → Perm (relation_before q from is t) (relation_before q from js t)
  perm-relation_before zero h = same []
  perm-relation_before (suc t) h = perm-relation t (h t (omega arith))

  same-answers_at : (t : ℕ) → ((u : ℕ) → u ≤ t → from ≤ u → ShowSame u) → answers_at q from is t ≡ answers_at q from js t
  same-answers_at t h =
      ap (map (λ r. (t, r)))
      (perm-in_order row_cmp row_order (streamed q.operator (relation_before q from is t) (relation q from is t)) (streamed q.operator (relation_before q from js t) (relation q from js t))
      (perm-streamed q.operator (relation_before q from is t) (relation q from is t) (relation_before q from js t) (relation q from js t)
      (perm-relation_before t (λ u lt. h u (omega arith))) (perm-relation t (h t (omega arith)))))

  pub same_over : (a n : ℕ) → ((u : ℕ) → u < a + n → from ≤ u → ShowSame u) → flat_map (answers_at q from is) (range_with_len a n) ≡ flat_map (answers_at q from js) (range_with_len a n)
  same_over a zero h = refl
  same_over a (suc n) h =
      ap (λ v. v ++ flat_map (answers_at q from is) (range_with_len (a + 1) n)) (same-answers_at a (λ u le. h u (omega arith)))
      ∙ ap (λ v. answers_at q from js a ++ v) (same_over (a + 1) n (λ u lt. h u (omega arith)))

  -- the law of two worlds
  pub same-answers : (until : ℕ) → ((t : ℕ) → from ≤ t → t < until → ShowSame t) → answers q from until is ≡ answers q from until js
  same-answers until h = same_over from (until - from) (λ u lt le. h u le (omega arith))

  -- answers only grow
  pub range_split : (a m n : ℕ) → range_with_len a (m + n) ≡ range_with_len a m ++ range_with_len (a + m) n
  range_split a zero n = let e : zero + n ≡ n = omega arith in let k : a + zero ≡ a = omega arith in ap (range_with_len a) e ∙ sym (ap (λ b. range_with_len b n) k)
  range_split a (suc m) n =
      let e : suc m + n ≡ suc (m + n) = omega arith in let k : a + 1 + m ≡ a + suc m = omega arith in
      ap (range_with_len a) e ∙ ap (λ v. a ∷ v) (range_split (a + 1) m n ∙ ap (λ b. range_with_len (a + 1) m ++ range_with_len b n) k)

  pub answers-more : (u v : ℕ) → from ≤ u → u ≤ v → answers q from v is ≡ answers q from u is ++ flat_map (answers_at q from is) (range_with_len u (v - u))
  answers-more u v h k =
      let e : v - from ≡ (u - from) + (v - u) = omega arith in let f : from + (u - from) ≡ u = omega arith in
      ap (λ n. flat_map (answers_at q from is) (range_with_len from n)) e
      ∙ ap (flat_map (answers_at q from is)) (range_split from (u - from) (v - u) ∙ ap (λ b. range_with_len from (u - from) ++ range_with_len b (v - u)) f)
      ∙ flat_map-append (answers_at q from is) (range_with_len from (u - from)) (range_with_len u (v - u))
