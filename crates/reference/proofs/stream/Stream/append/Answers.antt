use Rattle.std.proofs.Common.{◌≡◌, ◌≤◌, ◌++◌, arith, ap, sym, ◌∙◌, length, not, ◌==◌, refl}
use Rattle.std.specs.List.{list_any}
use Rattle.std.proofs.lemmas.List.{length-map}
use Rattle.cql_reader.specs.Names.{name_of}
use Rattle.reference.specs.Appended.{instants_of, values_of}
use Rattle.reference.specs.Machine.{Stream}
use Rattle.reference.proofs.StreamLemmas.{accepted_each}
use Rattle.reference.proofs.KeptLemmas.{AreWide, kept-elements, kept-values, flat-arrivals}
use Rattle.reference.proofs.stream.Stream.append.Goals as goal

pub copy_flat_to-requires-clause-good_instants : goal.copy_flat_to-requires-clause-good_instants
copy_flat_to-requires-clause-good_instants c = (accepted_each c.args.self.now c.args.rows.now c.requires).2

pub copy_flat_to-requires-clause-good_values : goal.copy_flat_to-requires-clause-good_values
copy_flat_to-requires-clause-good_values c = (accepted_each c.args.self.now c.args.rows.now c.requires).1

-- the rows have as many values as the stream has columns
wide : (c : goal.After-copy_flat_to) → AreWide (length c.self.inside.columns.items) c.args.rows.now
wide c =
    let columns = c.self.inside.columns.items in
    let same : length columns ≡ length c.args.self.now.columns
    = sym (length-map columns name_of) ∙ ap (λ (s : Stream). length s.columns) c.self.view_is in
    ap (λ width. list_any (λ r. not (length r.1 == width)) c.args.rows.now) same ∙ (accepted_each c.args.self.now c.args.rows.now c.requires).0

instants : (c : goal.After-copy_flat_to) → c.copy_flat_to.new.instants.items ≡ c.self.inside.instants.items ++ instants_of c.args.rows.now
instants c = c.copy_flat_to.ensures.instants ∙ ap (λ is. is ++ instants_of c.args.rows.now) c.in_ok-reserve.ensures.items

values : (c : goal.After-copy_flat_to) → c.copy_flat_to.new.values.items ≡ c.self.inside.values.items ++ values_of c.args.rows.now
values c = c.copy_flat_to.ensures.values ∙ ap (λ vs. vs ++ values_of c.args.rows.now) c.in_ok-reserve-2.ensures.items

pub returns-clause-ok : goal.returns-clause-ok
returns-clause-ok c =
    let s = c.self.inside in
    let rows = c.args.rows.now in
    let elements = kept-elements (length s.columns.items) s.instants.items s.values.items rows c.self.invariant.3 (wide c) in
    let arrivals = flat-arrivals s.instants.items rows in
    rw (← c.self.view_is, instants c, values c, elements, arrivals) refl

pub invariant_of-self-2 : goal.invariant_of-self-2
invariant_of-self-2 c =
    let s = c.self.inside in
    let rows = c.args.rows.now in
    let known : length s.instants.items ≡ c.args.self.now.arrivals = ap (λ (t : Stream). t.arrivals) c.self.view_is in
    let few : length (s.instants.items ++ instants_of rows) ≤ 1073741824
    = omega (arith, known, flat-arrivals s.instants.items rows, (accepted_each c.args.self.now rows c.requires).3) in
    rw (instants c, values c) (c.self.invariant.0, few, c.self.invariant.2, kept-values (length s.columns.items) s.instants.items s.values.items rows c.self.invariant.3 (wide c))
