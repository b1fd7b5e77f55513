-- Walks over the operators of a plan, one operator more.
use Rattle.std.proofs.Common.{◌≡◌, ℕ, suc, ◌+◌, ◌<◌, ◌≤◌, Bool, true, false, cond, List, [], ◌∷◌, ◌++◌, drop, length, get_or, refl, sym, ap, ◌∙◌, arith, append_assoc, length-append}
use Rattle.std.proofs.lemmas.List.{drop_more}
use Rattle.std.proofs.Math.Seq.{get_or-append_seam}
use Rattle.envelope.specs.declared.chart.Point.{Point}
use Rattle.envelope.specs.Chart.{IsChart, at, origin, greatest_time}
use Rattle.plan.specs.Chart.{measure}
use Rattle.plan.specs.Paths.{takes, is_window, onward, windows, points_after, measures_on, points_of}
use Rattle.plan.specs.Views.{node_of, nodes_of}
use Rattle.plan.specs.declared.chart.Measure.{Measure}
use Rattle.plan.specs.declared.node.Node.{Node}
use Rattle.plan.proofs.Lists.{by_test}

windows_more : (nodes : List Node) (i : ℕ) (d : Node) (b : Bool) → i < length nodes → b ≡ is_window (node_of (get_or nodes i d))
    → windows i (nodes_of (drop i nodes)) ≡ cond b (i ∷ []) [] ++ windows (i + 1) (nodes_of (drop (i + 1) nodes))
windows_more nodes i d b l e =
    let s : suc i ≡ i + 1 = omega arith in
    ap (λ xs. windows i (nodes_of xs)) (drop_more nodes i d l)
    ∙ by_test b (λ t. let f : is_window (node_of (get_or nodes i d)) ≡ true = sym e ∙ t in rw (t, f, s) refl) (λ t. let f : is_window (node_of (get_or nodes i d)) ≡ false = sym e ∙ t in rw (t, f, s) refl)

pub windows_next : (nodes : List Node) (i : ℕ) (d : Node) (b : Bool) (before after all : List ℕ) → i < length nodes → b ≡ is_window (node_of (get_or nodes i d))
    → before ++ windows i (nodes_of (drop i nodes)) ≡ all → after ≡ before ++ cond b (i ∷ []) []
    → after ++ windows (i + 1) (nodes_of (drop (i + 1) nodes)) ≡ all
windows_next nodes i d b before after all l e h a =
    ap (λ xs. xs ++ windows (i + 1) (nodes_of (drop (i + 1) nodes))) a
    ∙ append_assoc before (cond b (i ∷ []) []) (windows (i + 1) (nodes_of (drop (i + 1) nodes)))
    ∙ ap (λ xs. before ++ xs) (sym (windows_more nodes i d b l e)) ∙ h

onward_more : (nodes : List Node) (i last : ℕ) (d : Node) (b : Bool) → i < length nodes → b ≡ takes last (node_of (get_or nodes i d))
    → onward last i (nodes_of (drop i nodes)) ≡ cond b (i ∷ []) [] ++ onward (cond b i last) (i + 1) (nodes_of (drop (i + 1) nodes))
onward_more nodes i last d b l e =
    let s : suc i ≡ i + 1 = omega arith in
    ap (λ xs. onward last i (nodes_of xs)) (drop_more nodes i d l)
    ∙ by_test b (λ t. let f : takes last (node_of (get_or nodes i d)) ≡ true = sym e ∙ t in rw (t, f, s) refl) (λ t. let f : takes last (node_of (get_or nodes i d)) ≡ false = sym e ∙ t in rw (t, f, s) refl)

pub path_next : (nodes : List Node) (i last next : ℕ) (d : Node) (b : Bool) (before after all : List ℕ) → i < length nodes → b ≡ takes last (node_of (get_or nodes i d))
    → before ++ onward last i (nodes_of (drop i nodes)) ≡ all → after ≡ before ++ cond b (i ∷ []) [] → next ≡ cond b i last
    → after ++ onward next (i + 1) (nodes_of (drop (i + 1) nodes)) ≡ all
path_next nodes i last next d b before after all l e h a n =
    ap (λ j. after ++ onward j (i + 1) (nodes_of (drop (i + 1) nodes))) n
    ∙ ap (λ xs. xs ++ onward (cond b i last) (i + 1) (nodes_of (drop (i + 1) nodes))) a
    ∙ append_assoc before (cond b (i ∷ []) []) (onward (cond b i last) (i + 1) (nodes_of (drop (i + 1) nodes)))
    ∙ ap (λ xs. before ++ xs) (sym (onward_more nodes i last d b l e)) ∙ h

pub points_more : (measures : List Measure) (path : List ℕ) (i t : ℕ) (before all : List Point) → i < length path
    → before ++ points_after t (measures_on measures (drop i path)) ≡ all
    → before ++ record { t = t + (get_or measures (get_or path i 0) (measure 0 0)).cost; s = (get_or measures (get_or path i 0) (measure 0 0)).size }
    ∷ points_after (t + (get_or measures (get_or path i 0) (measure 0 0)).cost) (measures_on measures (drop (i + 1) path)) ≡ all
points_more measures path i t before all l h = ap (λ xs. before ++ points_after t (measures_on measures xs)) (sym (drop_more path i 0 l)) ∙ h

-- the time of a point that is not there yet
pub point_room : (measures : List Measure) (path : List ℕ) (i t : ℕ) (before : List Point) → i < length path → IsChart (points_of measures path)
    → before ++ points_after t (measures_on measures (drop i path)) ≡ points_of measures path
    → t + (get_or measures (get_or path i 0) (measure 0 0)).cost ≤ greatest_time
point_room measures path i t before l chart h =
    let m : Measure = get_or measures (get_or path i 0) (measure 0 0) in
    let rest : List Point = points_after (t + m.cost) (measures_on measures (drop (i + 1) path)) in
    let p : Point = record { t = t + m.cost; s = m.size } in
    let e : before ++ p ∷ rest ≡ points_of measures path = points_more measures path i t before (points_of measures path) l h in
    let long : length (points_of measures path) ≡ length before + suc (length rest) = ap length (sym e) ∙ length-append before (p ∷ rest) in
    let here : at (points_of measures path) (length before) ≡ p = ap (λ xs. at xs (length before)) (sym e) ∙ get_or-append_seam before p rest origin in
    let bound : (at (points_of measures path) (length before)).t ≤ greatest_time = chart.times (length before) (omega (arith, long)) in
    rw here at bound
