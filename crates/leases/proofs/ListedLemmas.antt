-- The list of readers is exact, whatever comes to the queries.
use Rattle.std.proofs.Common.{◌≡◌, ◌<◌, ◌≤◌, ◌+◌, ◌==◌, ℕ, zero, suc, not, Bool, true, false, cond, inl, inr, Option, Some, List, [], ◌∷◌, ◌++◌, drop, filter, get_or, length, map, set, refl, sym, ap, ap₂, ◌∙◌, subst, arith, append_assoc, append-nil, drop-cons, eqb-true, eq-eqb}
use Rattle.std.specs.Prelude.{slice_get}
use Rattle.std.specs.Option.{option_to_list}
use Rattle.std.proofs.lemmas.Bool.{ne_eqb}
use Rattle.std.proofs.lemmas.List.{drop_all}
use Rattle.std.proofs.lemmas.List.Elements.{filter-append}
use Rattle.plan.specs.Nodes as plan
use Rattle.reference.specs.Commands.{change}
use Rattle.reference.specs.Machine.{Place, Registered}
use Rattle.laws_queries.specs.Plain.{PlainQuery, node_at, place_of}
use Rattle.laws_engine.specs.Calls.{is_reading}
use Rattle.laws_engine.specs.Engines.{Dropped, PlainEngine, PlainRemains, Running}
use Rattle.laws_engine.specs.Good.{IsIn}
use Rattle.laws_engine.specs.Resting.{IsResting}
use Rattle.leases.specs.Readers.{reader, reader_in, readers_from, readers_of, runs, windows_from}
use Rattle.leases.specs.declared.reader.WindowReader.{WindowReader}

-- A WINDOW of a query that runs is listed
in_left : (xs ys : List WindowReader) (x : WindowReader) → IsIn xs x → IsIn (xs ++ ys) x
in_left [] ys x h = absurd h
in_left (y ∷ xs) ys x (inl e) = inl e
in_left (y ∷ xs) ys x (inr i) = inr (in_left xs ys x i)

in_right : (xs ys : List WindowReader) (x : WindowReader) → IsIn ys x → IsIn (xs ++ ys) x
in_right [] ys x h = h
in_right (y ∷ xs) ys x h = inr (in_right xs ys x h)

first_in : (q : Registered) (s n k : ℕ) (node : plan.Node) (rest : List WindowReader) → is_reading q s node ≡ true → IsIn (option_to_list (reader_in q n k node) ++ rest) (reader s n k)
first_in q s n k (plan.Window j) rest h = inl (ap (λ z. reader z n k) (eqb-true (place_of q j).stream s h))
first_in q s n k (plan.Select i cs) rest h = absurd (cc)
first_in q s n k (plan.Join i j ks) rest h = absurd (cc)
first_in q s n k (plan.Project i columns) rest h = absurd (cc)
first_in q s n k (plan.Group i by items) rest h = absurd (cc)
first_in q s n k (plan.Distinct i) rest h = absurd (cc)
first_in q s n k (plan.ToStream i op) rest h = absurd (cc)

window_in : (q : Registered) (s n k j x : ℕ) (nodes : List plan.Node) → x ≡ k + j → j < length nodes → is_reading q s (get_or nodes j (plan.Window 0)) ≡ true → IsIn (windows_from q n k nodes) (reader s n x)
window_in q s n k j x [] at l h = absurd (omega (arith, l))
window_in q s n k zero x (node ∷ nodes) at l h =
    let here : k ≡ x = omega (arith, at) in
    subst (λ z. IsIn (windows_from q n k (node ∷ nodes)) (reader s n z)) here (first_in q s n k node (windows_from q n (suc k) nodes) h)
window_in q s n k (suc j) x (node ∷ nodes) at l h =
    in_right (option_to_list (reader_in q n k node)) (windows_from q n (suc k) nodes) (reader s n x) (window_in q s n (suc k) j x nodes (omega (arith, at)) (omega (arith, l)) h)

some_query : {a b : Registered} → Some a ≡ Some b → a ≡ b
some_query e = cc

listed : (qs : List Registered) (ks : List PlainRemains) (s m n k x : ℕ) (q : Registered) (p : PlainQuery) → x ≡ m + n → slice_get qs n ≡ Some q → get_or ks n Dropped ≡ Running p → k < length q.nodes → is_reading q s (node_at q k) ≡ true
    → IsIn (readers_from m qs (map runs ks)) (reader s x k)
listed [] ks s m n k x q p at here running within reads = absurd (cc)
listed (r ∷ qs) [] s m n k x q p at here running within reads = absurd (cc)
listed (r ∷ qs) (remains ∷ ks) s m zero k x q p at here running within reads =
    let same : r ≡ q = some_query here in
    let number : m ≡ x = omega (arith, at) in
    let live : runs remains ≡ true = ap runs running in
    let first : IsIn (windows_from q m 0 q.nodes) (reader s m k) = window_in q s m 0 k k q.nodes (omega arith) within reads in
    let all : IsIn (cond (runs remains) (windows_from q m 0 q.nodes) [] ++ readers_from (suc m) qs (map runs ks)) (reader s m k) =
    subst (λ b. IsIn (cond b (windows_from q m 0 q.nodes) [] ++ readers_from (suc m) qs (map runs ks)) (reader s m k)) (sym live) (in_left (windows_from q m 0 q.nodes) (readers_from (suc m) qs (map runs ks)) (reader s m k) first) in
    subst (λ z. IsIn (readers_from m (r ∷ qs) (map runs (remains ∷ ks))) (reader s z k)) number
    (subst (λ (z : Registered). IsIn (cond (runs remains) (windows_from z m 0 z.nodes) [] ++ readers_from (suc m) qs (map runs ks)) (reader s m k)) (sym same) all)
listed (r ∷ qs) (remains ∷ ks) s m (suc n) k x q p at here running within reads =
    in_right (cond (runs remains) (windows_from r m 0 r.nodes) []) (readers_from (suc m) qs (map runs ks)) (reader s x k) (listed qs ks s (suc m) n k x q p (omega (arith, at)) here running within reads)

pub resting_listed : (e : PlainEngine) (s n k : ℕ) → IsResting e s n k → IsIn (readers_of e) (reader s n k)
resting_listed e s n k is = listed e.machine.queries e.queries s 0 n k n is.query is.plain (omega arith) is.registered is.running is.within is.reads

-- A CHANGE OF A QUERY that leaves its sources and its nodes leaves the list
reader_same : (q r : Registered) (n k : ℕ) (node : plan.Node) → ((j : ℕ) → place_of r j ≡ place_of q j) → reader_in r n k node ≡ reader_in q n k node
reader_same q r n k (plan.Window j) h = ap (λ (p : Place). Some (reader p.stream n k)) (h j)
reader_same q r n k (plan.Select i cs) h = refl
reader_same q r n k (plan.Join i j ks) h = refl
reader_same q r n k (plan.Project i columns) h = refl
reader_same q r n k (plan.Group i by items) h = refl
reader_same q r n k (plan.Distinct i) h = refl
reader_same q r n k (plan.ToStream i op) h = refl

windows_same : (q r : Registered) (n k : ℕ) (nodes : List plan.Node) → ((j : ℕ) → place_of r j ≡ place_of q j) → windows_from r n k nodes ≡ windows_from q n k nodes
windows_same q r n k [] h = refl
windows_same q r n k (node ∷ nodes) h = ap₂ (λ x xs. option_to_list x ++ xs) (reader_same q r n k node h) (windows_same q r n (suc k) nodes h)

pub readers_changed : (f : Registered → Registered) → ((q : Registered) (j : ℕ) → place_of (f q) j ≡ place_of q j) → ((q : Registered) → (f q).nodes ≡ q.nodes) → (m n : ℕ) (qs : List Registered) (bs : List Bool) → readers_from m (change n f qs) bs ≡ readers_from m qs bs
readers_changed f places nodes m n [] bs = refl
readers_changed f places nodes m zero (q ∷ qs) [] = refl
readers_changed f places nodes m (suc n) (q ∷ qs) [] = refl
readers_changed f places nodes m zero (q ∷ qs) (b ∷ bs) =
    ap (λ ws. cond b ws [] ++ readers_from (suc m) qs bs) (ap (windows_from (f q) m 0) (nodes q) ∙ windows_same q (f q) m 0 q.nodes (places q))
readers_changed f places nodes m (suc n) (q ∷ qs) (b ∷ bs) = ap (λ rs. cond b (windows_from q m 0 q.nodes) [] ++ rs) (readers_changed f places nodes (suc m) n qs bs)

-- THE WINDOWS of a query that breaks or is dropped leave
abbrev is_other : ℕ → WindowReader → Bool
is_other x r = not (r.query == x)

reader_stays : (q : Registered) (n x k : ℕ) (node : plan.Node) → (n == x) ≡ false → filter (is_other x) (option_to_list (reader_in q n k node)) ≡ option_to_list (reader_in q n k node)
reader_stays q n x k (plan.Window j) f = ap (λ (b : Bool). cond (not b) (reader (place_of q j).stream n k ∷ []) []) f
reader_stays q n x k (plan.Select i cs) f = refl
reader_stays q n x k (plan.Join i j ks) f = refl
reader_stays q n x k (plan.Project i columns) f = refl
reader_stays q n x k (plan.Group i by items) f = refl
reader_stays q n x k (plan.Distinct i) f = refl
reader_stays q n x k (plan.ToStream i op) f = refl

windows_stay : (q : Registered) (n x k : ℕ) (nodes : List plan.Node) → (n == x) ≡ false → filter (is_other x) (windows_from q n k nodes) ≡ windows_from q n k nodes
windows_stay q n x k [] f = refl
windows_stay q n x k (node ∷ nodes) f =
    filter-append (is_other x) (option_to_list (reader_in q n k node)) (windows_from q n (suc k) nodes)
    ∙ ap₂ (λ a b. a ++ b) (reader_stays q n x k node f) (windows_stay q n x (suc k) nodes f)

reader_leaves : (q : Registered) (n x k : ℕ) (node : plan.Node) → (n == x) ≡ true → filter (is_other x) (option_to_list (reader_in q n k node)) ≡ []
reader_leaves q n x k (plan.Window j) t = ap (λ (b : Bool). cond (not b) (reader (place_of q j).stream n k ∷ []) []) t
reader_leaves q n x k (plan.Select i cs) t = refl
reader_leaves q n x k (plan.Join i j ks) t = refl
reader_leaves q n x k (plan.Project i columns) t = refl
reader_leaves q n x k (plan.Group i by items) t = refl
reader_leaves q n x k (plan.Distinct i) t = refl
reader_leaves q n x k (plan.ToStream i op) t = refl

windows_leave : (q : Registered) (n x k : ℕ) (nodes : List plan.Node) → (n == x) ≡ true → filter (is_other x) (windows_from q n k nodes) ≡ []
windows_leave q n x k [] t = refl
windows_leave q n x k (node ∷ nodes) t =
    filter-append (is_other x) (option_to_list (reader_in q n k node)) (windows_from q n (suc k) nodes)
    ∙ ap₂ (λ a b. a ++ b) (reader_leaves q n x k node t) (windows_leave q n x (suc k) nodes t)

-- those of a query that runs, and none of another
if_stay : (x : ℕ) (ws : List WindowReader) (b : Bool) → filter (is_other x) ws ≡ ws → filter (is_other x) (cond b ws []) ≡ cond b ws []
if_stay x ws true h = h
if_stay x ws false h = refl

if_leave : (x : ℕ) (ws : List WindowReader) (b : Bool) → filter (is_other x) ws ≡ [] → filter (is_other x) (cond b ws []) ≡ []
if_leave x ws true h = h
if_leave x ws false h = refl

later_stay : (x m : ℕ) (qs : List Registered) (bs : List Bool) → x < m → filter (is_other x) (readers_from m qs bs) ≡ readers_from m qs bs
later_stay x m [] bs l = refl
later_stay x m (q ∷ qs) [] l = refl
later_stay x m (q ∷ qs) (b ∷ bs) l =
    let other : (m == x) ≡ false = ne_eqb m x (λ e. omega (arith, l, e)) in
    filter-append (is_other x) (cond b (windows_from q m 0 q.nodes) []) (readers_from (suc m) qs bs)
    ∙ ap₂ (λ a b. a ++ b) (if_stay x (windows_from q m 0 q.nodes) b (windows_stay q m x 0 q.nodes other)) (later_stay x (suc m) qs bs (omega (arith, l)))

-- none is of a query with a later number
pub earlier_stay : (x m : ℕ) (qs : List Registered) (bs : List Bool) → m + length qs ≤ x → filter (is_other x) (readers_from m qs bs) ≡ readers_from m qs bs
earlier_stay x m [] bs l = refl
earlier_stay x m (q ∷ qs) [] l = refl
earlier_stay x m (q ∷ qs) (b ∷ bs) l =
    let other : (m == x) ≡ false = ne_eqb m x (λ e. omega (arith, l, e)) in
    filter-append (is_other x) (cond b (windows_from q m 0 q.nodes) []) (readers_from (suc m) qs bs)
    ∙ ap₂ (λ a b. a ++ b) (if_stay x (windows_from q m 0 q.nodes) b (windows_stay q m x 0 q.nodes other)) (earlier_stay x (suc m) qs bs (omega (arith, l)))

pub readers_left : (x m n : ℕ) (qs : List Registered) (bs : List Bool) → x ≡ m + n → filter (λ (r : WindowReader). not (r.query == x)) (readers_from m qs bs) ≡ readers_from m qs (set bs n false)
readers_left x m n [] bs at = refl
readers_left x m zero (q ∷ qs) [] at = refl
readers_left x m (suc n) (q ∷ qs) [] at = refl
readers_left x m zero (q ∷ qs) (b ∷ bs) at =
    let own : (m == x) ≡ true = eq-eqb m x (omega (arith, at)) in
    filter-append (is_other x) (cond b (windows_from q m 0 q.nodes) []) (readers_from (suc m) qs bs)
    ∙ ap₂ (λ a b. a ++ b) (if_leave x (windows_from q m 0 q.nodes) b (windows_leave q m x 0 q.nodes own)) (later_stay x (suc m) qs bs (omega (arith, at)))
readers_left x m (suc n) (q ∷ qs) (b ∷ bs) at =
    let other : (m == x) ≡ false = ne_eqb m x (λ e. omega (arith, at, e)) in
    filter-append (is_other x) (cond b (windows_from q m 0 q.nodes) []) (readers_from (suc m) qs bs)
    ∙ ap₂ (λ a b. a ++ b) (if_stay x (windows_from q m 0 q.nodes) b (windows_stay q m x 0 q.nodes other)) (readers_left x (suc m) n qs bs (omega (arith, at)))

-- a window of the query that comes is none of the others'
pub own_comes : (q : Registered) (n k : ℕ) (node : plan.Node) (rs : List WindowReader) (r : WindowReader) → reader_in q n k node ≡ Some r → filter (is_other n) (rs ++ r ∷ []) ≡ filter (is_other n) rs
own_comes q n k node rs r is =
    filter-append (is_other n) rs (r ∷ [])
    ∙ ap (λ (o : Option WindowReader). filter (is_other n) rs ++ filter (is_other n) (option_to_list o)) (sym is)
    ∙ ap (λ l. filter (is_other n) rs ++ l) (reader_leaves q n n k node (eq-eqb n n refl))
    ∙ append-nil (filter (is_other n) rs)

-- and with all of them gone those of the others are left
pub others_left : (q : Registered) (n : ℕ) (rs all left : List WindowReader) → filter (is_other n) rs ≡ rs → all ≡ rs ++ windows_from q n 0 q.nodes → left ≡ filter (is_other n) all → left ≡ rs
others_left q n rs all left others is are =
    are ∙ ap (filter (is_other n)) is
    ∙ filter-append (is_other n) rs (windows_from q n 0 q.nodes)
    ∙ ap₂ (λ a b. a ++ b) others (windows_leave q n n 0 q.nodes (eq-eqb n n refl))
    ∙ append-nil rs

-- A REGISTRATION brings those of its query
pub readers_added : (m x : ℕ) (qs : List Registered) (ks : List PlainRemains) (q : Registered) (p : PlainQuery) → x ≡ m + length qs → length ks ≡ length qs
    → readers_from m (qs ++ q ∷ []) (map runs (ks ++ Running p ∷ [])) ≡ readers_from m qs (map runs ks) ++ windows_from q x 0 q.nodes
readers_added m x [] [] q p at many =
    let number : m ≡ x = omega (arith, at) in
    append-nil (windows_from q m 0 q.nodes) ∙ ap (λ z. windows_from q z 0 q.nodes) number
readers_added m x [] (k ∷ ks) q p at many = absurd (omega (arith, many))
readers_added m x (r ∷ qs) [] q p at many = absurd (omega (arith, many))
readers_added m x (r ∷ qs) (k ∷ ks) q p at many =
    ap (λ rs. cond (runs k) (windows_from r m 0 r.nodes) [] ++ rs) (readers_added (suc m) x qs ks q p (omega (arith, at)) (omega (arith, many)))
    ∙ sym (append_assoc (cond (runs k) (windows_from r m 0 r.nodes) []) (readers_from (suc m) qs (map runs ks)) (windows_from q x 0 q.nodes))

-- one after the other
pub windows_next : (q : Registered) (n k : ℕ) (mid new all : List WindowReader) → k < length q.nodes → mid ++ windows_from q n k (drop k q.nodes) ≡ all → new ≡ mid ++ option_to_list (reader_in q n k (node_at q k))
    → new ++ windows_from q n (k + 1) (drop (k + 1) q.nodes) ≡ all
windows_next q n k mid new all lt before is =
    let one : k + 1 ≡ suc k = omega arith in
    let front : drop k q.nodes ≡ node_at q k ∷ drop (suc k) q.nodes = drop-cons q.nodes k (plan.Window 0) lt in
    ap (λ z. new ++ windows_from q n z (drop z q.nodes)) one
    ∙ ap (λ z. z ++ windows_from q n (suc k) (drop (suc k) q.nodes)) is
    ∙ append_assoc mid (option_to_list (reader_in q n k (node_at q k))) (windows_from q n (suc k) (drop (suc k) q.nodes))
    ∙ ap (λ z. mid ++ windows_from q n k z) (sym front)
    ∙ before

pub windows_end : (q : Registered) (n k : ℕ) (mid all : List WindowReader) → length q.nodes ≤ k → mid ++ windows_from q n k (drop k q.nodes) ≡ all → mid ≡ all
windows_end q n k mid all l h = sym (append-nil mid) ∙ ap (λ z. mid ++ windows_from q n k z) (sym (drop_all k q.nodes l)) ∙ h
