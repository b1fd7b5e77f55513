-- Copies of queries without their earlier answers go on as the queries do.
use Rattle.std.proofs.Common.{◌≡◌, ℕ, zero, suc, Some, None, List, [], ◌∷◌, drop, get_or, length, map, refl, sym, ap, ap₂, ◌∙◌, subst, arith}
use Rattle.std.specs.Prelude.{slice_get, unwrap_or}
use Rattle.std.proofs.lemmas.List.{length-map}
use Rattle.values.specs.Row.{Row}
use Rattle.reference.specs.Machine.{Registered}
use Rattle.reference.specs.Opening.{all_restarted, restart}
use Rattle.laws_engine.specs.Engines.{Broken, Dropped, PlainRemains, Running}
use Rattle.laws_engine.specs.Openings.{mark_in, marks_by}
use Rattle.leases.specs.Forgets.{AreMarkable, IsMarkable, restarted_by, without_earlier}
use Rattle.leases.specs.Views.{query_of, remains_of}
use Rattle.leases.specs.declared.registered.Registration.{Registration}
use Rattle.leases.specs.declared.remains.Remains.{Remains}

abbrev pub AreBare : List Registration → List Registration → Type 0
AreBare copies registered = map query_of copies ≡ map without_earlier (map query_of registered)

-- THEY GO ON alike
same_mark : (q : Registered) (k : PlainRemains) → mark_in (without_earlier q) k ≡ mark_in q k
same_mark q (Running p) = refl
same_mark q (Broken answers upto) = refl
same_mark q Dropped = refl

same_restarts : (qs : List Registered) (ks : List PlainRemains) (ws : List (List (ℕ × Row))) → length ws ≡ length qs → all_restarted (map without_earlier qs) (marks_by (map without_earlier qs) ks) ws ≡ all_restarted qs (marks_by qs ks) ws
same_restarts [] ks ws l = refl
same_restarts (q ∷ qs) [] [] l = absurd (omega (arith, l))
same_restarts (q ∷ qs) [] (w ∷ ws) l = ap (λ z. restart q None w ∷ z) (same_restarts qs [] ws (omega (arith, l)))
same_restarts (q ∷ qs) (k ∷ ks) [] l = absurd (omega (arith, l))
same_restarts (q ∷ qs) (k ∷ ks) (w ∷ ws) l = ap₂ (λ m z. restart q m w ∷ z) (same_mark q k) (same_restarts qs ks ws (omega (arith, l)))

pub bare_restarts : (copies registered : List Registration) (remains : List Remains) (ws : List (List (ℕ × Row))) → AreBare copies registered → length ws ≡ length registered → restarted_by copies remains ws ≡ restarted_by registered remains ws
bare_restarts copies registered remains ws bare many =
    ap (λ qs. all_restarted qs (marks_by qs (map remains_of remains)) ws) bare
    ∙ same_restarts (map query_of registered) (map remains_of remains) ws (many ∙ sym (length-map registered query_of))

-- THEY HAVE their marks
bare_markable : (q : Registered) (k : PlainRemains) → IsMarkable q k → IsMarkable (without_earlier q) k
bare_markable q (Running p) h = h
bare_markable q (Broken answers upto) h = h
bare_markable q Dropped h = h

copied_from : (copies registered : List Registration) (n : ℕ) (q : Registration) → AreBare copies registered → slice_get copies n ≡ Some q → (r : Registration) × ((slice_get registered n ≡ Some r) × (query_of q ≡ without_earlier (query_of r)))
copied_from [] registered n q e h = absurd (cc)
copied_from (c ∷ cs) [] n q e h = absurd (let l = ap length e in omega (arith, l))
copied_from (c ∷ cs) (r ∷ rs) zero q e h =
    let same : c ≡ q = ap (λ o. unwrap_or o c) h in
    (r, (refl, ap query_of (sym same) ∙ ap (λ z. get_or z 0 (query_of c)) e))
copied_from (c ∷ cs) (r ∷ rs) (suc n) q e h = copied_from cs rs n q (ap (drop 1) e) h

pub bare_many : (copies registered : List Registration) → AreBare copies registered → length copies ≡ length registered
bare_many copies registered bare = sym (length-map copies query_of) ∙ ap length bare ∙ length-map (map query_of registered) without_earlier ∙ length-map registered query_of

pub copies_markable : (copies registered : List Registration) (remains : List Remains) → AreBare copies registered → AreMarkable registered remains → AreMarkable copies remains
copies_markable copies registered remains bare h = (
  h.0 ∙ sym (bare_many copies registered bare),
  λ n q k here left.
      let from = copied_from copies registered n q bare here in
      subst (λ z. IsMarkable z (remains_of k)) (sym from.1.1) (bare_markable (query_of from.0) (remains_of k) (h.1 n from.0 k from.1.0 left)),
)
