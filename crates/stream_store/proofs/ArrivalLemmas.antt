-- Rows on their way into a log: more behind them, and what their lists say of them.
use Rattle.std.proofs.Common.{◌≡◌, ◌<◌, ◌≤◌, ◌+◌, ◌-◌, ◌*◌, ℕ, ℤ, suc, replicate, Option, List, [], ◌∷◌, ◌++◌, take, drop, length, map, refl, sym, ap, ap₂, subst, ◌∙◌, arith, length-append, length-drop, get_or, append_assoc}
use Rattle.std.specs.List.{All, flat_map}
use Rattle.std.proofs.Math.Nat.{add-mul}
use Rattle.std.proofs.lemmas.List.{get_or-drop, length-map, take_more, take-append-drop, take-append-le, drop-append-le, take_all, drop_all}
use Rattle.std.proofs.lemmas.List.Elements.{All-head, All-tail}
use Rattle.values.specs.Row.{Row}
use Rattle.values.specs.Window.{Element}
use Rattle.op_queue.specs.Tables.{arrived}
use Rattle.stream_store.specs.Arrivals.{IsArrived}
use Rattle.stream_store.specs.LateRows.{rows_in}
use Rattle.stream_store.specs.Open.{elements_at}
use Rattle.stream_store.proofs.FlatLemmas.{first_full, rest_full}

-- ---- what the lists say of the rows
pub arrived-values : (width : ℕ) (instants numbers : List ℕ) (values : List (Option ℤ)) → length numbers ≡ length instants → length values ≡ length instants * width
    → flat_map (λ e. e.row) (arrived width instants numbers values) ≡ values
arrived-values width [] numbers [] h full = refl
arrived-values width [] numbers (v ∷ values) h full = absurd (omega (arith, full))
arrived-values width (t ∷ instants) [] values h full = cc
arrived-values width (t ∷ instants) (n ∷ numbers) values h full =
    ap (λ (vs : List (Option ℤ)). take width values ++ vs) (arrived-values width instants numbers (drop width values) (omega (arith, h)) (rest_full width (length instants) values full))
    ∙ take-append-drop width values

-- rows of one width are known from their lists
pub arrived-back : (width : ℕ) (es : List Element) → All (λ e. length e.row ≡ width) es
    → arrived width (map (λ e. e.instant) es) (map (λ e. e.arrival) es) (flat_map (λ e. e.row) es) ≡ es
arrived-back width [] h = refl
arrived-back width (e ∷ es) h =
    let wide : length e.row ≡ width = All-head (λ (g : Element). length g.row ≡ width) e es h in
    let others : List (Option ℤ) = flat_map (λ (g : Element). g.row) es in
    let front : take width (e.row ++ others) ≡ e.row = take-append-le width e.row others (omega (arith, wide)) ∙ take_all width e.row (omega (arith, wide)) in
    let back : drop width (e.row ++ others) ≡ others =
    drop-append-le width e.row others (omega (arith, wide)) ∙ ap (λ (vs : List (Option ℤ)). vs ++ others) (drop_all width e.row (omega (arith, wide))) in
    ap₂ (λ (row : Row) (vs : List (Option ℤ)). record { arrival = e.arrival; instant = e.instant; row = row } ∷ arrived width (map (λ (g : Element). g.instant) es) (map (λ (g : Element). g.arrival) es) vs) front back
    ∙ ap (λ (gs : List Element). e ∷ gs) (arrived-back width es (All-tail (λ (g : Element). length g.row ≡ width) e es h))

pub flat-rows : (width : ℕ) (es : List Element) → All (λ e. length e.row ≡ width) es → length (flat_map (λ e. e.row) es) ≡ length es * width
flat-rows width [] h = let none : 0 ≡ 0 * width = omega arith in none
flat-rows width (e ∷ es) h =
    let more : suc (length es) * width ≡ width + length es * width = omega arith in
    length-append e.row (flat_map (λ (g : Element). g.row) es)
    ∙ omega (arith, more, All-head (λ (g : Element). length g.row ≡ width) e es h, flat-rows width es (All-tail (λ (g : Element). length g.row ≡ width) e es h))

-- ---- more rows
module _ (width : ℕ) where
  arrived-append : (instants more numbers also : List ℕ) (values longer : List (Option ℤ)) → length numbers ≡ length instants → length values ≡ length instants * width
      → arrived width (instants ++ more) (numbers ++ also) (values ++ longer) ≡ arrived width instants numbers values ++ arrived width more also longer
  arrived-append [] more [] also [] longer h full = refl
  arrived-append [] more (n ∷ numbers) also values longer h full = cc
  arrived-append [] more [] also (v ∷ values) longer h full = absurd (omega (arith, full))
  arrived-append (t ∷ instants) more [] also values longer h full = cc
  arrived-append (t ∷ instants) more (n ∷ numbers) also values longer h full =
      let within = first_full width (length instants) values full in
      let rest = rest_full width (length instants) values full in
      rw (take-append-le, drop-append-le)
      (ap (λ (es : List Element). record { arrival = n; instant = t; row = take width values } ∷ es) (arrived-append instants more numbers also (drop width values) longer (omega (arith, h)) rest))

  -- of one instant
  arrived-at : (t : ℕ) (numbers : List ℕ) (values : List (Option ℤ)) → arrived width (replicate (length numbers) t) numbers values ≡ elements_at t (rows_in width numbers values)
  arrived-at t [] values = refl
  arrived-at t (n ∷ numbers) values = ap (λ (es : List Element). record { arrival = n; instant = t; row = take width values } ∷ es) (arrived-at t numbers (drop width values))

  module _ (instants numbers : List ℕ) (values : List (Option ℤ)) (was : IsArrived width instants numbers values) where
    pub arrived-run : (t : ℕ) (also : List ℕ) (longer : List (Option ℤ))
        → arrived width (instants ++ replicate (length also) t) (numbers ++ also) (values ++ longer) ≡ arrived width instants numbers values ++ elements_at t (rows_in width also longer)
    arrived-run t also longer =
        arrived-append instants (replicate (length also) t) numbers also values longer was.counted was.full
        ∙ ap (λ (es : List Element). arrived width instants numbers values ++ es) (arrived-at t also longer)

    pub arrived-one : (t n : ℕ) (row : List (Option ℤ)) → length row ≡ width
        → arrived width (instants ++ t ∷ []) (numbers ++ n ∷ []) (values ++ row) ≡ arrived width instants numbers values ++ record { arrival = n; instant = t; row = row } ∷ []
    arrived-one t n row wide =
        arrived-append instants (t ∷ []) numbers (n ∷ []) values row was.counted was.full
        ∙ ap (λ (r : Row). arrived width instants numbers values ++ record { arrival = n; instant = t; row = r } ∷ []) (take_all width row (omega (arith, wide)))

    pub longer_arrived : (count : ℕ) (more also : List ℕ) (longer : List (Option ℤ)) → length more ≡ count → length also ≡ count → length longer ≡ count * width
        → IsArrived width (instants ++ more) (numbers ++ also) (values ++ longer)
    longer_arrived count more also longer a b c = record {
      counted = omega (arith, length-append instants more, length-append numbers also, a, b, was.counted);
      full = length-append values longer ∙ omega (arith, was.full, c, add-mul (length instants) count width)
          ∙ ap (λ k. k * width) (sym (length-append instants more ∙ ap (λ k. length instants + k) a));
    }

-- ---- rows that are handed to a log
pub record IsGiven (width : ℕ) (es : List Element) (instants numbers : List ℕ) (values : List (Option ℤ)) : Type 0 where
  pub counted : length numbers ≡ length instants
  pub full : length values ≡ length instants * width
  pub rows : arrived width instants numbers values ≡ es

pub given_lists : (width : ℕ) (es : List Element) → All (λ e. length e.row ≡ width) es → (instants numbers : List ℕ) (values : List (Option ℤ)) → instants ≡ map (λ e. e.instant) es → numbers ≡ map (λ e. e.arrival) es
    → values ≡ flat_map (λ e. e.row) es → IsGiven width es instants numbers values
given_lists width es wide instants numbers values is was holds =
    let one : length instants ≡ length es = ap length is ∙ length-map es (λ (e : Element). e.instant) in
    let two : length numbers ≡ length es = ap length was ∙ length-map es (λ (e : Element). e.arrival) in
    record {
      counted = two ∙ sym one;
      full = ap length holds ∙ flat-rows width es wide ∙ ap (λ k. k * width) (sym one);
      rows = ap (λ (ts : List ℕ). arrived width ts numbers values) is
          ∙ ap₂ (λ (ns : List ℕ) (vs : List (Option ℤ)). arrived width (map (λ (e : Element). e.instant) es) ns vs) was holds
          ∙ arrived-back width es wide;
    }

-- ---- what a push leaves
pub one_value : (start place : ℕ) (list : List (Option ℤ)) (v : Option ℤ) (front old new : List (Option ℤ)) → start ≤ place → place < length list → v ≡ get_or list place v → new ≡ old ++ v ∷ []
    → old ≡ front ++ take (place - start) (drop start list) → new ≡ front ++ take (place + 1 - start) (drop start list)
one_value start place list v front old new le lt is pushed sofar =
    let k : ℕ = place - start in
    let here : start + k ≡ place = omega (arith, le) in
    let more : place + 1 - start ≡ k + 1 = omega (arith, le) in
    let within : k < length (drop start list) = omega (arith, length-drop start list, lt, le) in
    pushed
    ∙ ap (λ (vs : List (Option ℤ)). vs ++ v ∷ []) sofar
    ∙ append_assoc front (take k (drop start list)) (v ∷ [])
    ∙ ap (λ (x : Option ℤ). front ++ (take k (drop start list) ++ x ∷ [])) (is ∙ ap (λ n. get_or list n v) (sym here) ∙ sym (get_or-drop start list k v))
    ∙ ap (λ (vs : List (Option ℤ)). front ++ vs) (sym (take_more (drop start list) k v within))
    ∙ ap (λ n. front ++ take n (drop start list)) (sym more)

pub is_longer : (width count : ℕ) (instants ts more numbers ns also : List ℕ) (values vs longer : List (Option ℤ)) → IsArrived width instants numbers values → length ts ≡ count → length ns ≡ count → length vs ≡ count * width
    → more ≡ instants ++ ts → also ≡ numbers ++ ns → longer ≡ values ++ vs → IsArrived width more also longer
is_longer width count instants ts more numbers ns also values vs longer was a b c is counted valued =
    subst (λ (xs : List ℕ). IsArrived width xs also longer) (sym is)
    (subst (λ (xs : List ℕ). IsArrived width (instants ++ ts) xs longer) (sym counted)
    (subst (λ (xs : List (Option ℤ)). IsArrived width (instants ++ ts) (numbers ++ ns) xs) (sym valued)
    (longer_arrived width instants numbers values was count ts ns vs a b c)))

pub same_lists : (width : ℕ) (instants more numbers also : List ℕ) (values longer : List (Option ℤ)) → more ≡ instants → also ≡ numbers → longer ≡ values → arrived width more also longer ≡ arrived width instants numbers values
same_lists width instants more numbers also values longer is counted valued =
    ap₂ (λ (ts ns : List ℕ). arrived width ts ns longer) is counted ∙ ap (λ (vs : List (Option ℤ)). arrived width instants numbers vs) valued
