use Rattle.std.proofs.Common.{◌≡◌, ◌∙◌, ◌≤◌, ℕ, List, ap, arith, get_or, length, subst, sym}
use Rattle.std.proofs.lemmas.Grind.{get_or_default_zero}
use Rattle.values.specs.declared.TheConstants.{MAX_COLUMNS}
use Rattle.group.specs.Lists.{begin}
use Rattle.group.proofs.ListsLemmas.{list-at, part-is}
use Rattle.group.proofs.lists.JoinedLists.get.Goals as goal

pub begin_of-begin-requires : goal.begin_of-begin-requires
begin_of-begin-requires g c =
    let at = list-at _ _ _ c.args.place c.self.invariant c.self.view_is c.requires in
    omega (arith, at.ended, ap length c.deref.ensures.value)

pub index-requires : goal.index-requires
index-requires g c =
    let at = list-at _ _ _ c.args.place c.self.invariant c.self.view_is c.requires in
    omega (arith, at.ended, c.self.inside.ends.ok.0)

pub part-requires-clause-forward : goal.part-requires-clause-forward
part-requires-clause-forward g c =
    let es = c.self.inside.ends.items in
    let at = list-at _ _ _ c.args.place c.self.invariant c.self.view_is c.requires in
    let first : c.begin_of-begin.result ≡ begin 0 es c.args.place = c.begin_of-begin.ensures ∙ ap (λ (fs : List ℕ). begin 0 fs c.args.place) c.deref.ensures.value in
    let last : c.index.result.now ≡ get_or es c.args.place 0 = c.index.ensures ∙ get_or_default_zero es c.args.place c.index.result.now at.ended in
    omega (arith, first, last, at.forward)

pub part-requires-clause-within : goal.part-requires-clause-within
part-requires-clause-within g c =
    let es = c.self.inside.ends.items in
    let at = list-at _ _ _ c.args.place c.self.invariant c.self.view_is c.requires in
    let last : c.index.result.now ≡ get_or es c.args.place 0 = c.index.ensures ∙ get_or_default_zero es c.args.place c.index.result.now at.ended in
    omega (arith, last, at.within, ap length c.deref-2.ensures.value)

pub returns-clause-value : goal.returns-clause-value
returns-clause-value g c =
    let s = c.self.inside in
    let at = list-at _ _ _ c.args.place c.self.invariant c.self.view_is c.requires in
    part-is s.ends.items s.items.items c.deref-2.result.now c.part.result.now c.args.self.now c.args.place c.begin_of-begin.result c.index.result.now at
    (c.begin_of-begin.ensures ∙ ap (λ (es : List ℕ). begin 0 es c.args.place) c.deref.ensures.value)
    (c.index.ensures ∙ get_or_default_zero s.ends.items c.args.place c.index.result.now at.ended) c.deref-2.ensures.value c.part.ensures

pub returns-clause-few : goal.returns-clause-few
returns-clause-few g c =
    let s = c.self.inside in
    let at = list-at _ _ _ c.args.place c.self.invariant c.self.view_is c.requires in
    let is = part-is s.ends.items s.items.items c.deref-2.result.now c.part.result.now c.args.self.now c.args.place c.begin_of-begin.result c.index.result.now at
    (c.begin_of-begin.ensures ∙ ap (λ (es : List ℕ). begin 0 es c.args.place) c.deref.ensures.value)
    (c.index.ensures ∙ get_or_default_zero s.ends.items c.args.place c.index.result.now at.ended) c.deref-2.ensures.value c.part.ensures in
    subst (λ (l : List g.row.T.Denot). length l ≤ MAX_COLUMNS) (sym is) at.few
