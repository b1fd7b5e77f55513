use Rattle.std.proofs.Common.{◌∙◌, ap, arith, subst, sym, List}
use Rattle.std.specs.BTreeMap.{is_at}
use Rattle.std.specs.Map.{lookup}
use Rattle.std.specs.Option.{is_some, option_map}
use Rattle.values.specs.Row.{Row}
use Rattle.windows.specs.Back.{rows_back}
use Rattle.windows.specs.Fallen.{IsBeside}
use Rattle.windows.specs.Latest.{held_in, key_cmp, part}
use Rattle.windows.specs.Widths.{AreWide, OneRow}
use Rattle.windows.proofs.BackLemmas.{back_absent, some_kept, some_left, some_part, wide_kept, wide_left}
use Rattle.windows.proofs.keyed_parts.KeyedParts.take_back.Goals as goal

pub returns-then-not-contains_key-clause-back : goal.returns-then-not-contains_key-clause-back
returns-then-not-contains_key-clause-back g c =
    let key = c.args.key.now in
    let none = ap (λ l. is_some (lookup (is_at (key_cmp key)) l)) (sym c.self.view_is) ∙ sym c.contains_key.ensures ∙ c.if-not-contains_key.true in
    sym (back_absent key (option_map (λ r. r.items) c.args.fallen.now) c.args.self.now none)

pub take_back_at-requires : goal.take_back_at-requires
take_back_at-requires g c =
    let key = c.args.key.now in
    let es = c.self.inside.parts.entries in
    let has = sym c.contains_key.ensures ∙ c.if-not-contains_key.false in
    let beside = subst (λ (l : List (OneRow × List Row)). IsBeside (option_map (λ r. r.items) c.args.fallen.now) (part key l)) (sym c.self.view_is) c.requires in
    (omega (arith, c.self.invariant.narrow), (has, (some_part key es c.self.invariant.some has, beside)))

pub invariant_of-self : goal.invariant_of-self
invariant_of-self g c =
    let key = c.args.key.now in
    let es = c.self.inside.parts.entries in
    let rows = rows_back (option_map (λ r. r.items) c.args.fallen.now) (part key es) in
    record {
      narrow = c.self.invariant.narrow;
      some = some_left key rows es c.take_back_at.new.parts.entries c.remove_at.new.parts.entries c.self.invariant.some c.take_back_at.ensures.entries c.remove_at.ensures.entries;
    }

pub invariant_of-self-else-take_back_at-eq0 : goal.invariant_of-self-else-take_back_at-eq0
invariant_of-self-else-take_back_at-eq0 g c =
    let key = c.args.key.now in
    let es = c.self.inside.parts.entries in
    let f = option_map (λ r. r.items) c.args.fallen.now in
    record {
      narrow = c.self.invariant.narrow;
      some = some_kept key f es c.take_back_at.new.parts.entries c.self.invariant.some (omega (arith, c.take_back_at.ensures.count)) c.take_back_at.ensures.entries;
    }

pub returns-then-take_back_at-eq0-clause-wide : goal.returns-then-take_back_at-eq0-clause-wide
returns-then-take_back_at-eq0-clause-wide g c = λ w fits wide k.
    let key = c.args.key.now in
    let es = c.self.inside.parts.entries in
    let middle = c.take_back_at.new.parts.entries in
    let has = sym c.contains_key.ensures ∙ c.if-not-contains_key.false in
    let before = λ (i : Row). subst (λ (l : List (OneRow × List Row)). AreWide w (held_in l i)) (sym c.self.view_is) (wide i) in
    wide_left w key middle c.remove_at.new.parts.entries k c.remove_at.ensures.updates
    (wide_kept w key (option_map (λ r. r.items) c.args.fallen.now) es middle k has c.take_back_at.ensures.entries fits before)

pub returns-else-take_back_at-eq0-clause-wide : goal.returns-else-take_back_at-eq0-clause-wide
returns-else-take_back_at-eq0-clause-wide g c = λ w fits wide k.
    let key = c.args.key.now in
    let es = c.self.inside.parts.entries in
    let has = sym c.contains_key.ensures ∙ c.if-not-contains_key.false in
    let before = λ (i : Row). subst (λ (l : List (OneRow × List Row)). AreWide w (held_in l i)) (sym c.self.view_is) (wide i) in
    wide_kept w key (option_map (λ r. r.items) c.args.fallen.now) es c.take_back_at.new.parts.entries k has c.take_back_at.ensures.entries fits before
