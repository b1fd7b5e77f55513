-- How wide the rows of a plan's operators are, and that what the operators speak of is there.
use Rattle.std.proofs.Common.{◌≡◌, ℕ, zero, suc, ◌+◌, ◌-◌, ◌<◌, ◌≤◌, ◌==◌, Bool, true, false, cond, ◌&&◌, Option, None, Some, List, [], ◌∷◌, ◌++◌, map, filter, length, drop, sum, get_or, refl, sym, ap, ◌∙◌, subst, arith, length-append}
use Rattle.std.specs.List.{AllByRecursion, list_all, range_with_len}
use Rattle.std.proofs.lemmas.Bool.{eqb-true, and_parts}
use Rattle.std.proofs.lemmas.List.{length-map}
use Rattle.std.proofs.lemmas.List.FromFn.{length-map-range_with_len}
use Rattle.std.proofs.lemmas.List.Sums.{sum_by-cons}
use Rattle.values.specs.declared.TheConstants.{MAX_COLUMNS}
use Rattle.values.specs.Condition.{SourceColumn, Operand, Field, Number, Condition, Compared, Not, And, Or}
use Rattle.values.specs.Relation.{Shape, Listed, Grouped}
use Rattle.values.specs.Answers.{StreamOperator, Resolved}
use Rattle.names.specs.Split.{all_conjuncts, columns_of, conjuncts, is_own, is_some_column, join_keys, join_keys_of, own, own_of, remaining, remains}
use Rattle.row_nodes.specs.Steps.{IsOver, OperandIsOver, truths_needed}
use Rattle.plan.specs.Build.{alone, all_alone, end_nodes, join_nodes, joins_of, joins_top, key_placed, moved, nodes_over, offset, operand_moved, placed, plan_of, rest_nodes, rest_top, shape_node, source_nodes, top_of, tops}
use Rattle.plan.specs.Nodes as plan
use Rattle.plan.specs.Nodes.{Key, Window, Select, Join, Project, Group, Distinct, ToStream}
use Rattle.plan.specs.Scope.{InScope, Scoped, ShapeInScope}
use Rattle.plan.proofs.Lists.{by_test, each-append, each-filter, each-left, each-map, each-right, each-weaken}
use Rattle.plan.proofs.Numbers.{Below, Rises}
use Rattle.plan.proofs.Offsets.{offset-below}
use Rattle.plan.proofs.Owns.{AllInScope, all_scope}
use Rattle.plan.proofs.Whole.{tops-length}
use Rattle.laws_queries.specs.Registrations.{IsFit, IsNarrowShape, NeedsFewTruths, shape_width}

-- HOW WIDE, of each operator by those before it
abbrev pub width_by : List ℕ → List ℕ → plan.Node → ℕ
width_by vs done (Window s) = get_or vs s 0
width_by vs done (Select i cs) = get_or done i 0
width_by vs done (Join i j keys) = get_or done i 0 + get_or done j 0
width_by vs done (Project i columns) = length columns
width_by vs done (Group i by items) = length items
width_by vs done (Distinct i) = get_or done i 0
width_by vs done (ToStream i op) = get_or done i 0

abbrev pub all_widths : List ℕ → List ℕ → List plan.Node → List ℕ
all_widths vs done [] = done
all_widths vs done (n ∷ ns) = all_widths vs (done ++ width_by vs done n ∷ []) ns

-- the first condition needs no more truths than n, and each further one fewer
abbrev pub AreShort : ℕ → List Condition → Type 0
AreShort n [] = Unit {0}
AreShort n (c ∷ cs) = (truths_needed c ≤ n) × AllByRecursion (λ d. truths_needed d + 1 ≤ n) cs

-- WHAT AN OPERATOR SPEAKS OF is there
abbrev pub NodeFits : List ℕ → List ℕ → plan.Node → Type 0
NodeFits vs done (Window s) = s < length vs
NodeFits vs done (Select i []) = ⊥
NodeFits vs done (Select i (c ∷ cs)) = AllByRecursion (IsOver (get_or done i 0)) (c ∷ cs) × AreShort 67 (c ∷ cs)
NodeFits vs done (Join i j keys) = Unit {0}
NodeFits vs done (Project i columns) = AllByRecursion (λ c. c.column < get_or done i 0) columns
NodeFits vs done (Group i by items) = length by ≤ MAX_COLUMNS
NodeFits vs done (Distinct i) = 0 < get_or done i 0
NodeFits vs done (ToStream i op) = Unit {0}

abbrev pub AllFit : List ℕ → List ℕ → List plan.Node → Type 0
AllFit vs done [] = Unit {0}
AllFit vs done (n ∷ ns) = NodeFits vs done n × (width_by vs done n ≤ MAX_COLUMNS) × AllFit vs (done ++ width_by vs done n ∷ []) ns

-- LISTS OF WIDTHS
stay_append : (done more : List ℕ) (k : ℕ) → k < length done → get_or (done ++ more) k 0 ≡ get_or done k 0
stay_append [] more k l = absurd (omega (arith, l))
stay_append (x ∷ done) more zero l = refl
stay_append (x ∷ done) more (suc k) l = stay_append done more k (omega (arith, l))

end_append : (done : List ℕ) (w k : ℕ) → length done ≡ k → get_or (done ++ w ∷ []) k 0 ≡ w
end_append [] w zero e = refl
end_append [] w (suc k) e = absurd (omega (arith, e))
end_append (x ∷ done) w zero e = absurd (omega (arith, e))
end_append (x ∷ done) w (suc k) e = end_append done w k (omega (arith, e))

long_append : (done : List ℕ) (w k : ℕ) → length done ≡ k → length (done ++ w ∷ []) ≡ suc k
long_append done w k e = omega (arith, e, length-append done (w ∷ []))

widths_stay : (vs done : List ℕ) (ns : List plan.Node) (k : ℕ) → k < length done → get_or (all_widths vs done ns) k 0 ≡ get_or done k 0
widths_stay vs done [] k l = refl
widths_stay vs done (n ∷ ns) k l =
    let w : ℕ = width_by vs done n in
    widths_stay vs (done ++ w ∷ []) ns k (omega (arith, l, length-append done (w ∷ []))) ∙ stay_append done (w ∷ []) k l

pub widths_long : (vs done : List ℕ) (ns : List plan.Node) → length (all_widths vs done ns) ≡ length done + length ns
widths_long vs done [] = omega arith
widths_long vs done (n ∷ ns) =
    let w : ℕ = width_by vs done n in
    omega (arith, widths_long vs (done ++ w ∷ []) ns, length-append done (w ∷ []))

widths_append : (vs done : List ℕ) (ns ms : List plan.Node) → all_widths vs done (ns ++ ms) ≡ all_widths vs (all_widths vs done ns) ms
widths_append vs done [] ms = refl
widths_append vs done (n ∷ ns) ms = widths_append vs (done ++ width_by vs done n ∷ []) ns ms

fit_append : (vs done : List ℕ) (ns ms : List plan.Node) → AllFit vs done ns → AllFit vs (all_widths vs done ns) ms → AllFit vs done (ns ++ ms)
fit_append vs done [] ms h k = k
fit_append vs done (n ∷ ns) ms h k = (h.0, h.1, fit_append vs (done ++ width_by vs done n ∷ []) ns ms h.2 k)

narrow_append : (done : List ℕ) (w : ℕ) → AllByRecursion (λ v. v ≤ MAX_COLUMNS) done → w ≤ MAX_COLUMNS → AllByRecursion (λ v. v ≤ MAX_COLUMNS) (done ++ w ∷ [])
narrow_append [] w h l = (l, tt)
narrow_append (x ∷ done) w h l = (h.0, narrow_append done w h.1 l)

narrow_widths : (vs done : List ℕ) (ns : List plan.Node) → AllFit vs done ns → AllByRecursion (λ v. v ≤ MAX_COLUMNS) done → AllByRecursion (λ v. v ≤ MAX_COLUMNS) (all_widths vs done ns)
narrow_widths vs done [] f h = h
narrow_widths vs done (n ∷ ns) f h = narrow_widths vs (done ++ width_by vs done n ∷ []) ns f.2 (narrow_append done (width_by vs done n) h f.1)

narrow_of : (ws : List ℕ) → AllByRecursion (λ v. v ≤ MAX_COLUMNS) ws → (k : ℕ) → get_or ws k 0 ≤ MAX_COLUMNS
narrow_of [] h k = omega arith
narrow_of (w ∷ ws) h zero = h.0
narrow_of (w ∷ ws) h (suc k) = narrow_of ws h.1 k

pub narrow_at : (vs : List ℕ) (ns : List plan.Node) → AllFit vs [] ns → (k : ℕ) → get_or (all_widths vs [] ns) k 0 ≤ MAX_COLUMNS
narrow_at vs ns f k = narrow_of (all_widths vs [] ns) (narrow_widths vs [] ns f tt) k

-- EACH OPERATOR by all widths
fits_same : (vs done all : List ℕ) (n : ℕ) → ((k : ℕ) → k < n → get_or all k 0 ≡ get_or done k 0) → (x : plan.Node) → Below n x → NodeFits vs done x → NodeFits vs all x
fits_same vs done all n h (Window s) b f = f
fits_same vs done all n h (Select i []) b f = f
fits_same vs done all n h (Select i (c ∷ cs)) b f = (subst (λ w. AllByRecursion (IsOver w) (c ∷ cs)) (sym (h i b)) f.0, f.1)
fits_same vs done all n h (Join i j keys) b f = f
fits_same vs done all n h (Project i columns) b f = subst (λ w. AllByRecursion (λ (c : SourceColumn). c.column < w) columns) (sym (h i b)) f
fits_same vs done all n h (Group i by items) b f = f
fits_same vs done all n h (Distinct i) b f = omega (arith, f, h i b)
fits_same vs done all n h (ToStream i op) b f = f

width_same : (vs done all : List ℕ) (n : ℕ) → ((k : ℕ) → k < n → get_or all k 0 ≡ get_or done k 0) → (x : plan.Node) → Below n x → width_by vs done x ≡ width_by vs all x
width_same vs done all n h (Window s) b = refl
width_same vs done all n h (Select i cs) b = sym (h i b)
width_same vs done all n h (Join i j keys) b = omega (arith, h i b.0, h j b.1)
width_same vs done all n h (Project i columns) b = refl
width_same vs done all n h (Group i by items) b = refl
width_same vs done all n h (Distinct i) b = sym (h i b)
width_same vs done all n h (ToStream i op) b = sym (h i b)

pub record FitsAt (vs ws : List ℕ) (k : ℕ) (x : plan.Node) : Type 0 where
  pub fits : NodeFits vs ws x
  pub width : get_or ws k 0 ≡ width_by vs ws x

fit_from : (vs done : List ℕ) (ns : List plan.Node) (n i : ℕ) (d : plan.Node) → length done ≡ n → Rises n ns → AllFit vs done ns → i < length ns → FitsAt vs (all_widths vs done ns) (n + i) (get_or ns i d)
fit_from vs done [] n i d e r f l = absurd (omega (arith, l))
fit_from vs done (x ∷ ns) n zero d e r f l =
    let w : ℕ = width_by vs done x in
    let all : List ℕ = all_widths vs (done ++ w ∷ []) ns in
    let j : n + zero ≡ n = omega arith in
    let stays : (k : ℕ) → k < n → get_or all k 0 ≡ get_or done k 0 = λ k b. widths_stay vs done (x ∷ ns) k (omega (arith, e, b)) in
    record {
      fits = fits_same vs done all n stays x r.0 f.0;
      width = ap (λ k. get_or all k 0) j ∙ widths_stay vs (done ++ w ∷ []) ns n (omega (arith, e, length-append done (w ∷ []))) ∙ end_append done w n e ∙ width_same vs done all n stays x r.0;
    }
fit_from vs done (x ∷ ns) n (suc i) d e r f l =
    let w : ℕ = width_by vs done x in
    let j : n + suc i ≡ suc n + i = omega arith in
    subst (λ k. FitsAt vs (all_widths vs (done ++ w ∷ []) ns) k (get_or ns i d)) (sym j) (fit_from vs (done ++ w ∷ []) ns (suc n) i d (long_append done w n e) r.1 f.2 (omega (arith, l)))

pub fit_at : (vs : List ℕ) (ns : List plan.Node) (i : ℕ) (d : plan.Node) → Rises 0 ns → AllFit vs [] ns → i < length ns → FitsAt vs (all_widths vs [] ns) i (get_or ns i d)
fit_at vs ns i d r f l =
    let j : 0 + i ≡ i = omega arith in
    subst (λ k. FitsAt vs (all_widths vs [] ns) k (get_or ns i d)) j (fit_from vs [] ns 0 i d refl r f l)

-- CONDITIONS
short_weaken : (n : ℕ) (cs : List Condition) → AreShort n cs → AllByRecursion (λ d. truths_needed d + 1 ≤ n + 1) cs
short_weaken n [] h = tt
short_weaken n (c ∷ cs) h =
    let l : truths_needed c ≤ n = h.0 in
    (omega (arith, l), each-weaken (λ d. truths_needed d + 1 ≤ n) (λ d. truths_needed d + 1 ≤ n + 1) (λ d k. omega (arith, k)) cs h.1)

short_append : (n : ℕ) (cs ds : List Condition) → AreShort n cs → AllByRecursion (λ d. truths_needed d + 1 ≤ n) ds → AreShort n (cs ++ ds)
short_append n [] [] h k = tt
short_append n [] (d ∷ ds) h k = let l : truths_needed d + 1 ≤ n = k.0 in (omega (arith, l), k.1)
short_append n (c ∷ cs) ds h k = (h.0, each-append (λ d. truths_needed d + 1 ≤ n) cs ds h.1 k)

short_conjuncts : (n : ℕ) (c : Condition) → truths_needed c ≤ n → AreShort n (conjuncts c)
short_conjuncts n (Compared a how b) l = (l, tt)
short_conjuncts n (Not c) l = (l, tt)
short_conjuncts zero (And c d) l = absurd (omega (arith, l))
short_conjuncts (suc n) (And c d) l =
    let e : n + 1 ≡ suc n = omega arith in
    short_append (suc n) (conjuncts c) (conjuncts d) (short_conjuncts (suc n) c (omega (arith, l)))
    (subst (λ k. AllByRecursion (λ x. truths_needed x + 1 ≤ k) (conjuncts d)) e (short_weaken n (conjuncts d) (short_conjuncts n d (omega (arith, l)))))
short_conjuncts n (Or c d) l = (l, tt)

short_all : (o : Option Condition) → NeedsFewTruths o → AreShort 67 (all_conjuncts o)
short_all None h = tt
short_all (Some c) h = short_conjuncts 67 c h

short_tail : (n : ℕ) (p : Condition → Bool) (cs : List Condition) → AllByRecursion (λ d. truths_needed d + 1 ≤ n) cs → AreShort n (filter p cs)
short_tail n p [] h = tt
short_tail n p (c ∷ cs) h =
    let l : truths_needed c + 1 ≤ n = h.0 in
    here (p c) l (short_tail n p cs h.1) (each-filter (λ d. truths_needed d + 1 ≤ n) p cs h.1)
  where
    here : (b : Bool) → truths_needed c + 1 ≤ n → AreShort n (filter p cs) → AllByRecursion (λ d. truths_needed d + 1 ≤ n) (filter p cs) → AreShort n (cond b (c ∷ filter p cs) (filter p cs))
    here true l s f = (omega (arith, l), f)
    here false l s f = s

short_filter : (n : ℕ) (p : Condition → Bool) (cs : List Condition) → AreShort n cs → AreShort n (filter p cs)
short_filter n p [] h = tt
short_filter n p (c ∷ cs) h = here (p c) h.0 (short_tail n p cs h.1) (each-filter (λ d. truths_needed d + 1 ≤ n) p cs h.1)
  where
    here : (b : Bool) → truths_needed c ≤ n → AreShort n (filter p cs) → AllByRecursion (λ d. truths_needed d + 1 ≤ n) (filter p cs) → AreShort n (cond b (c ∷ filter p cs) (filter p cs))
    here true l s f = (l, f)
    here false l s f = s

moved_truths : (f : SourceColumn → SourceColumn) (c : Condition) → truths_needed (moved f c) ≡ truths_needed c
moved_truths f (Compared a how b) = refl
moved_truths f (Not c) = moved_truths f c
moved_truths f (And c d) = omega (arith, moved_truths f c, moved_truths f d)
moved_truths f (Or c d) = omega (arith, moved_truths f c, moved_truths f d)

short_map : (n : ℕ) (f : SourceColumn → SourceColumn) (cs : List Condition) → AreShort n cs → AreShort n (map (moved f) cs)
short_map n f [] h = tt
short_map n f (c ∷ cs) h =
    let l : truths_needed c ≤ n = h.0 in (
      omega (arith, l, moved_truths f c),
      each-map (λ d. truths_needed d + 1 ≤ n) (moved f) cs (each-weaken (λ d. truths_needed d + 1 ≤ n) (λ d. truths_needed (moved f d) + 1 ≤ n) (λ d k. omega (arith, k, moved_truths f d)) cs h.1),
    )

-- columns that are moved to the one row that goes between operators
module _ (f : SourceColumn → SourceColumn) (w : ℕ) (one : (k : SourceColumn) → (f k).source ≡ 0) where
  operand_over : (a : Operand) → AllByRecursion (λ k. (f k).column < w) (Rattle.names.specs.Split.columns_of_operand a) → OperandIsOver w (operand_moved f a)
  operand_over (Field k) h = (one k, h.0)
  operand_over (Number z) h = tt

  over_moved : (c : Condition) → AllByRecursion (λ k. (f k).column < w) (columns_of c) → IsOver w (moved f c)
  over_moved (Compared a how b) h = (
    operand_over a (each-left (λ k. (f k).column < w) (Rattle.names.specs.Split.columns_of_operand a) (Rattle.names.specs.Split.columns_of_operand b) h),
    operand_over b (each-right (λ k. (f k).column < w) (Rattle.names.specs.Split.columns_of_operand a) (Rattle.names.specs.Split.columns_of_operand b) h),
  )
  over_moved (Not c) h = over_moved c h
  over_moved (And c d) h = (over_moved c (each-left (λ k. (f k).column < w) (columns_of c) (columns_of d) h), over_moved d (each-right (λ k. (f k).column < w) (columns_of c) (columns_of d) h))
  over_moved (Or c d) h = (over_moved c (each-left (λ k. (f k).column < w) (columns_of c) (columns_of d) h), over_moved d (each-right (λ k. (f k).column < w) (columns_of c) (columns_of d) h))

-- THE SOURCES' OWN
all_each : {X : Type 0} (t : X → Bool) (xs : List X) → list_all t xs ≡ true → AllByRecursion (λ x. t x ≡ true) xs
all_each t [] h = tt
all_each t (x ∷ xs) h = let both = and_parts (t x) (list_all t xs) h in (both.0, all_each t xs both.1)

own_columns : (vs : List ℕ) (n s : ℕ) → n ≡ length vs → s < n → (c : Condition) → AllByRecursion (InScope vs) (columns_of c) → is_own n s c ≡ true
    → AllByRecursion (λ k. k.source ≡ s) (columns_of c)
own_columns vs n s e l c scope h =
    by_test (n == 1)
    (λ t. each-weaken (InScope vs) (λ k. k.source ≡ s) (λ k i. omega (arith, eqb-true n 1 t, i.source, e, l)) (columns_of c) scope)
    (λ f. let g : (is_some_column (columns_of c) && list_all (λ k. k.source == s) (columns_of c)) ≡ true = rw f at h in
    each-weaken (λ k. (k.source == s) ≡ true) (λ k. k.source ≡ s) (λ k i. eqb-true k.source s i) (columns_of c)
    (all_each (λ k. k.source == s) (columns_of c) (and_parts (is_some_column (columns_of c)) (list_all (λ k. k.source == s) (columns_of c)) g).1))

both_each : {X : Type 0} (P Q R : X → Type 0) → ((x : X) → P x → Q x → R x) → (xs : List X) → AllByRecursion P xs → AllByRecursion Q xs → AllByRecursion R xs
both_each P Q R f [] h k = tt
both_each P Q R f (x ∷ xs) h k = (f x h.0 k.0, both_each P Q R f xs h.1 k.1)

own_over : (vs : List ℕ) (n s : ℕ) → n ≡ length vs → s < n → (cs : List Condition) → AllInScope vs cs → AllByRecursion (IsOver (get_or vs s 0)) (map (moved alone) (own n cs s))
own_over vs n s e l [] h = tt
own_over vs n s e l (c ∷ cs) h =
    by_test (is_own n s c)
    (λ t. rw t (
      over_moved alone (get_or vs s 0) (λ k. refl) c
          (both_each (InScope vs) (λ k. k.source ≡ s) (λ k. k.column < get_or vs s 0) (λ k i j. subst (λ x. k.column < get_or vs x 0) j i.column) (columns_of c) h.0 (own_columns vs n s e l c h.0 t)),
      own_over vs n s e l cs h.1,
    ))
    (λ f. rw f (own_over vs n s e l cs h.1))

abbrev AreOwn : List ℕ → List (List Condition) → Type 0
AreOwn [] [] = Unit {0}
AreOwn [] (cs ∷ each) = ⊥
AreOwn (v ∷ vs) [] = ⊥
AreOwn (v ∷ vs) (cs ∷ each) = AllByRecursion (IsOver v) cs × AreShort 67 cs × AreOwn vs each

drop_head : (all : List ℕ) (s v : ℕ) (vs : List ℕ) → drop s all ≡ v ∷ vs → (s < length all) × (get_or all s 0 ≡ v) × (drop (suc s) all ≡ vs)
drop_head [] zero v vs e = absurd (cc)
drop_head [] (suc s) v vs e = absurd (cc)
drop_head (x ∷ all) zero v vs e = (omega arith, cc, cc)
drop_head (x ∷ all) (suc s) v vs e = let r = drop_head all s v vs e in (omega (arith, r.0), r.1, r.2)

own_from : (all : List ℕ) (n s : ℕ) (vs : List ℕ) (cs : List Condition) → n ≡ length all → drop s all ≡ vs → AllInScope all cs → AreShort 67 cs
    → AreOwn vs (map (map (moved alone)) (map (own n cs) (range_with_len s (length vs))))
own_from all n s [] cs e d scope short = tt
own_from all n s (v ∷ vs) cs e d scope short =
    let r = drop_head all s v vs d in
    let one : s + 1 ≡ suc s = omega arith in (
      subst (λ w. AllByRecursion (IsOver w) (map (moved alone) (own n cs s))) r.1 (own_over all n s e (omega (arith, e, r.0)) cs scope),
      short_map 67 alone (own n cs s) (short_filter 67 (is_own n s) cs short),
      rw one (own_from all n (suc s) vs cs e r.2 scope short),
    )

-- OPERATORS OF THE SOURCES
abbrev AreTops : List ℕ → List ℕ → List ℕ → Type 0
AreTops done [] [] = Unit {0}
AreTops done [] (v ∷ vs) = ⊥
AreTops done (t ∷ ts) [] = ⊥
AreTops done (t ∷ ts) (v ∷ vs) = (t < length done) × (get_or done t 0 ≡ v) × AreTops done ts vs

record SourcesFit (all : List ℕ) (s n : ℕ) (done vs : List ℕ) (each : List (List Condition)) : Type 0 where
  fit : AllFit all done (source_nodes n s each)
  tops : AreTops (all_widths all done (source_nodes n s each)) (tops n each) vs

sources_fit : (all : List ℕ) (s n : ℕ) (done vs : List ℕ) (each : List (List Condition)) → drop s all ≡ vs → length done ≡ n → AllByRecursion (λ v. v ≤ MAX_COLUMNS) vs → AreOwn vs each → SourcesFit all s n done vs each
sources_fit all s n done [] [] d e h o = record { fit = tt; tops = tt }
sources_fit all s n done [] (cs ∷ each) d e h o = elim o [ ]
sources_fit all s n done (v ∷ vs) [] d e h o = elim o [ ]
sources_fit all s n done (v ∷ vs) ([] ∷ each) d e h o =
    let r = drop_head all s v vs d in
    let w : ℕ = get_or all s 0 in
    let long : length (done ++ w ∷ []) ≡ suc n = long_append done w n e in
    let rest = sources_fit all (suc s) (suc n) (done ++ w ∷ []) vs each r.2 long h.1 o.2 in
    let ns : List plan.Node = source_nodes (suc n) (suc s) each in
    record {
      fit = (r.0, subst (λ x. x ≤ MAX_COLUMNS) (sym r.1) h.0, rest.fit);
      tops = (
        omega (arith, widths_long all (done ++ w ∷ []) ns, long),
        widths_stay all (done ++ w ∷ []) ns n (omega (arith, long)) ∙ end_append done w n e ∙ r.1,
        rest.tops,
      );
    }
sources_fit all s n done (v ∷ vs) ((c ∷ cs) ∷ each) d e h o =
    let r = drop_head all s v vs d in
    let w : ℕ = get_or all s 0 in
    let two : List ℕ = done ++ w ∷ [] in
    let u : ℕ = get_or two n 0 in
    let long : length two ≡ suc n = long_append done w n e in
    let longer : length (two ++ u ∷ []) ≡ suc (suc n) = long_append two u (suc n) long in
    let is : u ≡ v = end_append done w n e ∙ r.1 in
    let rest = sources_fit all (suc s) (suc (suc n)) (two ++ u ∷ []) vs each r.2 longer h.1 o.2 in
    let ns : List plan.Node = source_nodes (suc (suc n)) (suc s) each in
    record {
      fit = (r.0, subst (λ x. x ≤ MAX_COLUMNS) (sym r.1) h.0, ((subst (λ x. AllByRecursion (IsOver x) (c ∷ cs)) (sym is) o.0, o.1), subst (λ x. x ≤ MAX_COLUMNS) (sym is) h.0, rest.fit));
      tops = (
        omega (arith, widths_long all (two ++ u ∷ []) ns, longer),
        widths_stay all (two ++ u ∷ []) ns (suc n) (omega (arith, longer)) ∙ end_append two u (suc n) long ∙ is,
        rest.tops,
      );
    }

-- THE JOINS
tops_stay : (done more ts vs : List ℕ) → AreTops done ts vs → AreTops (done ++ more) ts vs
tops_stay done more [] [] h = tt
tops_stay done more [] (v ∷ vs) h = h
tops_stay done more (t ∷ ts) [] h = h
tops_stay done more (t ∷ ts) (v ∷ vs) h = (omega (arith, h.0, length-append done more), stay_append done more t h.0 ∙ h.1, tops_stay done more ts vs h.2)

-- of these operators, behind such widths, the one of the number `top` has rows so wide
record TopFits (all done : List ℕ) (ns : List plan.Node) (top total : ℕ) : Type 0 where
  fit : AllFit all done ns
  low : top < length (all_widths all done ns)
  width : get_or (all_widths all done ns) top 0 ≡ total

joins_fit : (all : List ℕ) (n left w total : ℕ) (done ts vs : List ℕ) (keys : List (List Key)) → length done ≡ n → left < n → get_or done left 0 ≡ w → AreTops done ts vs → length keys ≡ length ts
    → w + sum vs ≡ total → total ≤ MAX_COLUMNS → TopFits all done (join_nodes n left ts keys) (joins_top n left ts keys) total
joins_fit all n left w total done [] [] keys e l is h k s m = record { fit = tt; low = omega (arith, l, e); width = omega (arith, is, s) }
joins_fit all n left w total done [] (v ∷ vs) keys e l is h k s m = elim h [ ]
joins_fit all n left w total done (t ∷ ts) [] keys e l is h k s m = elim h [ ]
joins_fit all n left w total done (t ∷ ts) (v ∷ vs) [] e l is h k s m = absurd (omega (arith, k))
joins_fit all n left w total done (t ∷ ts) (v ∷ vs) (ks ∷ keys) e l is h k s m =
    let u : ℕ = get_or done left 0 + get_or done t 0 in
    let both : u ≡ w + v = omega (arith, is, h.1) in
    let more : sum (v ∷ vs) ≡ v + sum vs = sum_by-cons (λ x. x) v vs in
    let rest = joins_fit all (suc n) n (w + v) total (done ++ u ∷ []) ts vs keys (long_append done u n e) (omega arith) (end_append done u n e ∙ both) (tops_stay done (u ∷ []) ts vs h.2) (omega (arith, k))
    (omega (arith, s, more)) m in
    record { fit = (tt, omega (arith, both, s, more, m), rest.fit); low = rest.low; width = rest.width }

joins_all : (all : List ℕ) (n : ℕ) (done ts vs : List ℕ) (keys : List (List Key)) → length done ≡ n → AreTops done ts vs → 0 < length vs → length keys ≡ length ts - 1 → sum vs ≤ MAX_COLUMNS
    → TopFits all done (joins_of n ts keys) (top_of n ts keys) (sum vs)
joins_all all n done [] [] keys e h some k m = absurd (omega (arith, some))
joins_all all n done [] (v ∷ vs) keys e h some k m = elim h [ ]
joins_all all n done (t ∷ ts) [] keys e h some k m = elim h [ ]
joins_all all n done (t ∷ ts) (v ∷ vs) keys e h some k m =
    joins_fit all n t v (sum (v ∷ vs)) done ts vs keys e (omega (arith, h.0, e)) h.1 h.2 (omega (arith, k)) (sym (sum_by-cons (λ x. x) v vs)) m

-- WHAT REMAINS
rest_fit : (all done : List ℕ) (n top total : ℕ) (rest : List Condition) → length done ≡ n → top < n → get_or done top 0 ≡ total → total ≤ MAX_COLUMNS → AllByRecursion (IsOver total) rest → AreShort 67 rest
    → TopFits all done (rest_nodes top rest) (rest_top n top rest) total
rest_fit all done n top total [] e l is m over short = record { fit = tt; low = omega (arith, l, e); width = is }
rest_fit all done n top total (c ∷ cs) e l is m over short = record {
  fit = ((subst (λ w. AllByRecursion (IsOver w) (c ∷ cs)) (sym is) over, short), omega (arith, is, m), tt);
  low = omega (arith, long_append done (get_or done top 0) n e);
  width = end_append done (get_or done top 0) n e ∙ is;
}

-- THE END
end_fit : (all done : List ℕ) (b : Bool) (shape : plan.Node) (op : StreamOperator) (n : ℕ) → length done ≡ n → NodeFits all done shape → 0 < width_by all done shape → width_by all done shape ≤ MAX_COLUMNS → AllFit all done (end_nodes b shape op n)
end_fit all done true shape op n e f some m =
    let w : ℕ = width_by all done shape in
    let two : List ℕ = done ++ w ∷ [] in
    let u : ℕ = get_or two n 0 in
    let is : u ≡ w = end_append done w n e in
    let last : get_or (two ++ u ∷ []) (suc n) 0 ≡ u = end_append two u (suc n) (long_append done w n e) in
    (f, m, (omega (arith, some, is), omega (arith, is, m), (tt, omega (arith, last, is, m), tt)))
end_fit all done false shape op n e f some m =
    let w : ℕ = width_by all done shape in
    let is : get_or (done ++ w ∷ []) n 0 ≡ w = end_append done w n e in
    (f, m, (tt, omega (arith, is, m), tt))

shape_fits : (vs done : List ℕ) (top : ℕ) (shape : Shape) → get_or done top 0 ≡ sum vs → ShapeInScope vs shape → IsNarrowShape shape → NodeFits vs done (shape_node (placed vs) top shape)
shape_fits vs done top (Listed columns) is scope narrow =
    each-map (λ (c : SourceColumn). c.column < get_or done top 0) (placed vs) columns
    (each-weaken (InScope vs) (λ c. offset vs c.source c.column < get_or done top 0) (λ c i. omega (arith, is, offset-below vs c.source c.column i.source i.column)) columns scope)
shape_fits vs done top (Grouped by items) is scope narrow = omega (arith, narrow.0, length-map by (placed vs))

shape_width_is : (vs done : List ℕ) (top : ℕ) (shape : Shape) → width_by vs done (shape_node (placed vs) top shape) ≡ shape_width shape
shape_width_is vs done top (Listed columns) = length-map columns (placed vs)
shape_width_is vs done top (Grouped by items) = length-map items (Rattle.plan.specs.Build.item_moved (placed vs))

shape_narrow : (shape : Shape) → IsNarrowShape shape → shape_width shape ≤ MAX_COLUMNS
shape_narrow (Listed columns) h = h
shape_narrow (Grouped by items) h = h.1

-- A LIST of sources, none wider than all together
each_below : (vs : List ℕ) → AllByRecursion (λ v. v ≤ sum vs) vs
each_below [] = tt
each_below (v ∷ vs) =
    let e : sum (v ∷ vs) ≡ v + sum vs = sum_by-cons (λ x. x) v vs in
    (omega (arith, e), each-weaken (λ x. x ≤ sum vs) (λ x. x ≤ sum (v ∷ vs)) (λ x l. omega (arith, e, l)) vs (each_below vs))

-- THE PLAN
over_rest : (vs : List ℕ) (cs : List Condition) → AllInScope vs cs → AllByRecursion (IsOver (sum vs)) (map (moved (placed vs)) cs)
over_rest vs cs h =
    each-map (IsOver (sum vs)) (moved (placed vs)) cs
    (each-weaken (λ c. AllByRecursion (InScope vs) (columns_of c)) (λ c. IsOver (sum vs) (moved (placed vs) c))
    (λ c s. over_moved (placed vs) (sum vs) (λ k. refl) c (each-weaken (InScope vs) (λ k. offset vs k.source k.column < sum vs) (λ k i. offset-below vs k.source k.column i.source i.column) (columns_of c) s)) cs h)

pub plan_fits : (vs : List ℕ) (q : Resolved) → 0 < length vs → Scoped vs q → IsFit vs q → AllFit vs [] (plan_of vs q)
plan_fits vs q some scoped fit =
    let n : ℕ = length q.windows in
    let cs : List Condition = all_conjuncts q.condition in
    let each : List (List Condition) = all_alone (own_of n cs) in
    let keys : List (List Key) = map (map (key_placed vs)) (join_keys_of n cs) in
    let rest : List Condition = map (moved (placed vs)) (remaining n cs) in
    let scope : AllInScope vs cs = all_scope vs q.condition scoped.condition in
    let short : AreShort 67 cs = short_all q.condition fit.condition in
    let owns : AreOwn vs each = subst (λ k. AreOwn vs (map (map (moved alone)) (map (own n cs) (range_with_len 0 k)))) (sym scoped.sources) (own_from vs n 0 vs cs scoped.sources refl scope short) in
    let ss : List plan.Node = source_nodes 0 0 each in
    let done : List ℕ = all_widths vs [] ss in
    let long : length done ≡ length ss = omega (arith, widths_long vs [] ss) in
    let sources = sources_fit vs 0 0 [] vs each refl refl (each-weaken (λ x. x ≤ sum vs) (λ x. x ≤ MAX_COLUMNS) (λ x l. omega (arith, l, fit.together)) vs (each_below vs)) owns in
    let ts : List ℕ = tops 0 each in
    let own_long : length each ≡ n = length-map (own_of n cs) (map (moved alone)) ∙ length-map-range_with_len (own n cs) 0 n in
    let keys_long : length keys ≡ n - 1 = length-map (join_keys_of n cs) (map (key_placed vs)) ∙ length-map-range_with_len (join_keys cs) 1 (n - 1) in
    let many : length keys ≡ length ts - 1 = omega (arith, keys_long, own_long, tops-length 0 each) in
    let joins = joins_all vs (length ss) done ts vs keys long sources.tops some many fit.together in
    let js : List plan.Node = joins_of (length ss) ts keys in
    let top : ℕ = top_of (length ss) ts keys in
    let done2 : List ℕ = all_widths vs done js in
    let long2 : length done2 ≡ length (ss ++ js) = omega (arith, widths_long vs done js, long, length-append ss js) in
    let rests = rest_fit vs done2 (length (ss ++ js)) top (sum vs) rest long2 (omega (arith, joins.low, long2)) joins.width fit.together
    (over_rest vs (remaining n cs) (each-filter (λ c. AllByRecursion (InScope vs) (columns_of c)) (remains n) cs scope)) (short_map 67 (placed vs) (remaining n cs) (short_filter 67 (remains n) cs short)) in
    let sel : List plan.Node = rest_nodes top rest in
    let done3 : List ℕ = all_widths vs done2 sel in
    let last : ℕ = rest_top (length (ss ++ js)) top rest in
    let k : ℕ = length (ss ++ (js ++ sel)) in
    let long3 : length done3 ≡ k = omega (arith, widths_long vs done2 sel, long2, length-append ss js, length-append ss (js ++ sel), length-append js sel) in
    let shape : plan.Node = shape_node (placed vs) last q.shape in
    let is : width_by vs done3 shape ≡ shape_width q.shape = shape_width_is vs done3 last q.shape in
    let ends = end_fit vs done3 q.is_distinct shape q.operator k long3 (shape_fits vs done3 last q.shape rests.width scoped.shape fit.narrow) (omega (arith, is, fit.shown)) (omega (arith, is, shape_narrow q.shape fit.narrow)) in
    let e : List plan.Node = end_nodes q.is_distinct shape q.operator k in
    fit_append vs [] ss (js ++ (sel ++ e)) sources.fit (fit_append vs done js (sel ++ e) joins.fit (fit_append vs done2 sel e rests.fit ends))

-- NO OPERATOR BUT THE LAST is a root
abbrev pub IsInner : plan.Node → Type 0
IsInner (Window s) = Unit {0}
IsInner (Select i cs) = Unit {0}
IsInner (Join i j keys) = Unit {0}
IsInner (Project i columns) = Unit {0}
IsInner (Group i by items) = Unit {0}
IsInner (Distinct i) = Unit {0}
IsInner (ToStream i op) = ⊥

abbrev IsInnerBefore : plan.Node → List plan.Node → Type 0
IsInnerBefore n [] = Unit {0}
IsInnerBefore n (m ∷ ms) = IsInner n

abbrev ButLast : List plan.Node → Type 0
ButLast [] = Unit {0}
ButLast (n ∷ ns) = IsInnerBefore n ns × ButLast ns

inner_before : (n : plan.Node) (ns : List plan.Node) → IsInner n → IsInnerBefore n ns
inner_before n [] h = tt
inner_before n (m ∷ ms) h = h

but_append : (ns ms : List plan.Node) → AllByRecursion IsInner ns → ButLast ms → ButLast (ns ++ ms)
but_append [] ms h k = k
but_append (n ∷ ns) ms h k = (inner_before n (ns ++ ms) h.0, but_append ns ms h.1 k)

but_at : (ns : List plan.Node) (k : ℕ) → ButLast ns → k < length ns - 1 → IsInner (get_or ns k (Window 0))
but_at [] k h l = absurd (omega (arith, l))
but_at (n ∷ []) k h l = absurd (omega (arith, l))
but_at (n ∷ m ∷ ms) zero h l = h.0
but_at (n ∷ m ∷ ms) (suc k) h l = but_at (m ∷ ms) k h.1 (omega (arith, l))

sources_inner : (n s : ℕ) (each : List (List Condition)) → AllByRecursion IsInner (source_nodes n s each)
sources_inner n s [] = tt
sources_inner n s ([] ∷ each) = (tt, sources_inner (suc n) (suc s) each)
sources_inner n s ((c ∷ cs) ∷ each) = (tt, (tt, sources_inner (suc (suc n)) (suc s) each))

join_inner : (n left : ℕ) (ts : List ℕ) (keys : List (List Key)) → AllByRecursion IsInner (join_nodes n left ts keys)
join_inner n left [] keys = tt
join_inner n left (t ∷ ts) [] = tt
join_inner n left (t ∷ ts) (ks ∷ keys) = (tt, join_inner (suc n) n ts keys)

joins_inner : (n : ℕ) (ts : List ℕ) (keys : List (List Key)) → AllByRecursion IsInner (joins_of n ts keys)
joins_inner n [] keys = tt
joins_inner n (t ∷ ts) keys = join_inner n t ts keys

rest_inner : (top : ℕ) (rest : List Condition) → AllByRecursion IsInner (rest_nodes top rest)
rest_inner top [] = tt
rest_inner top (c ∷ cs) = (tt, tt)

shape_inner : (f : SourceColumn → SourceColumn) (top : ℕ) (shape : Shape) → IsInner (shape_node f top shape)
shape_inner f top (Listed columns) = tt
shape_inner f top (Grouped by items) = tt

end_but : (b : Bool) (shape : plan.Node) (op : StreamOperator) (n : ℕ) → IsInner shape → ButLast (end_nodes b shape op n)
end_but true shape op n h = (h, (tt, (tt, tt)))
end_but false shape op n h = (h, (tt, tt))

nodes_but : (own : List (List Condition)) (keys : List (List Key)) (rest : List Condition) (b : Bool) (f : SourceColumn → SourceColumn) (shape : Shape) (op : StreamOperator)
    → ButLast (nodes_over own keys rest b (λ top. shape_node f top shape) op)
nodes_but own keys rest b f shape op =
    let ss : List plan.Node = source_nodes 0 0 own in
    let js : List plan.Node = joins_of (length ss) (tops 0 own) keys in
    let top : ℕ = top_of (length ss) (tops 0 own) keys in
    let sel : List plan.Node = rest_nodes top rest in
    let last : ℕ = rest_top (length (ss ++ js)) top rest in
    let k : ℕ = length (ss ++ (js ++ sel)) in
    let e : List plan.Node = end_nodes b (shape_node f last shape) op k in
    but_append ss (js ++ (sel ++ e)) (sources_inner 0 0 own)
    (but_append js (sel ++ e) (joins_inner (length ss) (tops 0 own) keys) (but_append sel e (rest_inner top rest) (end_but b (shape_node f last shape) op k (shape_inner f last shape))))

pub inner_at : (vs : List ℕ) (q : Resolved) (k : ℕ) → k < length (plan_of vs q) - 1 → IsInner (get_or (plan_of vs q) k (Window 0))
inner_at vs q k l =
    let n : ℕ = length q.windows in
    let cs : List Condition = all_conjuncts q.condition in
    but_at (plan_of vs q) k (nodes_but (all_alone (own_of n cs)) (map (map (key_placed vs)) (join_keys_of n cs)) (map (moved (placed vs)) (remaining n cs)) q.is_distinct (placed vs) q.shape q.operator) l
