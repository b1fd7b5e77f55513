use Rattle.std.proofs.Common.{◌≡◌, ◌∙◌, ◌++◌, ◌∷◌, ap, arith, sym, cond, false, length, List, []}
use Rattle.std.specs.Ordering.{is_eq}
use Rattle.std.specs.Option.{IsSome, is_some}
use Rattle.std.specs.Map.{lookup}
use Rattle.std.specs.BTreeMap.{is_at}
use Rattle.values.specs.Row.{Row}
use Rattle.windows.specs.Latest.{key_cmp, last_of, part}
use Rattle.windows.proofs.PartLemmas.{part-set_value, part-update, part-none, same_self}
use Rattle.windows.proofs.BackLemmas.{back_insert, back_set, insert_some, none_enters, set_some}
use Rattle.windows.proofs.keyed_parts.KeyedParts.enter.Goals as goal

pub returns-then-contains_key-clause-ok : goal.returns-then-contains_key-clause-ok
returns-then-contains_key-clause-ok g c = λ k.
    let key = c.args.key in
    let es = c.self.inside.parts.entries in
    let some : IsSome (lookup (is_at (key_cmp key)) es) = sym c.contains_key.ensures ∙ c.if-contains_key.true in
    rw (← c.self.view_is) (ap (part k) c.in_ok-enter_at.ensures.ok ∙ part-set_value key k es (last_of c.args.count (part key es ++ c.args.row.now.items ∷ [])) some)

pub returns-then-contains_key-clause-back : goal.returns-then-contains_key-clause-back
returns-then-contains_key-clause-back g c = λ some.
    let key = c.args.key in
    let es = c.self.inside.parts.entries in
    let has : IsSome (lookup (is_at (key_cmp key)) es) = sym c.contains_key.ensures ∙ c.if-contains_key.true in
    rw (← c.self.view_is)
    (back_set c.args.count key c.args.row.now.items es c.enter_at.new.parts.entries some (omega (arith, c.requires.few, ap (λ l. length (part key l)) c.self.view_is)) c.self.invariant.some has c.in_ok-enter_at.ensures.ok)

pub returns-clause-back : goal.returns-clause-back
returns-clause-back g c = λ some.
    let key = c.args.key in
    let es = c.self.inside.parts.entries in
    let none : is_some (lookup (is_at (key_cmp key)) es) ≡ false = sym c.contains_key.ensures ∙ c.if-contains_key.false in
    let rows = c.in_ok-enter.ensures.ok ∙ ap (λ (xs : List Row). last_of c.args.count (xs ++ c.args.row.now.items ∷ [])) (c.new-last.ensures ∙ sym (part-none key es none)) in
    let now = part-update key key _ (lookup (is_at (key_cmp key)) es) (lookup (is_at (key_cmp key)) c.insert.new.self.entries) (c.in_ok-insert.ensures.updates.0 key)
    ∙ ap (λ b. cond b c.enter.new.self (part key es)) (same_self key.items) in
    rw (← c.self.view_is)
    (back_insert c.args.count key c.args.row.now.items c.enter.new.self es c.insert.new.self.entries some none c.in_ok-insert.ensures.entries rows now)

pub returns-clause-ok : goal.returns-clause-ok
returns-clause-ok g c = λ k.
    let key = c.args.key in
    let es = c.self.inside.parts.entries in
    let none : is_some (lookup (is_at (key_cmp key)) es) ≡ false = sym c.contains_key.ensures ∙ c.if-contains_key.false in
    let rows = c.in_ok-enter.ensures.ok ∙ ap (λ (xs : List Row). last_of c.args.count (xs ++ c.args.row.now.items ∷ [])) (c.new-last.ensures ∙ sym (part-none key es none)) in
    rw (← c.self.view_is)
    (part-update key k _ (lookup (is_at (key_cmp k)) es) (lookup (is_at (key_cmp k)) c.insert.new.self.entries) (c.in_ok-insert.ensures.updates.0 k)
    ∙ ap (λ w. cond (is_eq (key_cmp key k)) w (part k es)) rows)

pub returns-then-count-eq0-clause-ok : goal.returns-then-count-eq0-clause-ok
returns-then-count-eq0-clause-ok g c = λ k. none_enters c.args.count c.args.key k c.args.row.now.items c.args.self.now c.if-count-eq0.true c.requires.few

pub invariant_of-self-then-contains_key : goal.invariant_of-self-then-contains_key
invariant_of-self-then-contains_key g c = record {
  narrow = c.self.invariant.narrow;
  some = set_some c.args.count c.args.key c.args.row.now.items c.self.inside.parts.entries c.enter_at.new.parts.entries (omega arith) c.self.invariant.some c.in_ok-enter_at.ensures.ok;
}

pub invariant_of-self-2 : goal.invariant_of-self-2
invariant_of-self-2 g c = record {
  narrow = c.self.invariant.narrow;
  some =
      insert_some c.args.count c.args.key c.args.row.now.items c.enter.new.self c.self.inside.parts.entries c.insert.new.self.entries (omega arith) c.self.invariant.some c.in_ok-insert.ensures.entries
      (c.in_ok-enter.ensures.ok ∙ ap (λ (xs : List Row). last_of c.args.count (xs ++ c.args.row.now.items ∷ [])) c.new-last.ensures);
}
