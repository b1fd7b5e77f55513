use Rattle.std.proofs.Common.{◌≡◌, ◌∙◌, ap, sym, Some, List, rules}
use Rattle.std.specs.BTreeMap.{is_at}
use Rattle.std.specs.Map.{lookup, set_value}
use Rattle.std.specs.Option.{option_copied_mut}
use Rattle.std.proofs.lemmas.Map.Steps.{set_value_same}
use Rattle.std.proofs.lemmas.Result.{err_from_is_err_and}
use Rattle.values.specs.Row.{Row}
use Rattle.windows.specs.Latest.{key_cmp}
use Rattle.windows.proofs.keyed_parts.enter_at.Goals as goal

pub returns-in_err-enter-in-Some-clause-err : goal.returns-in_err-enter-in-Some-clause-err
returns-in_err-enter-in-Some-clause-err g c =
    let p = err_from_is_err_and c.from_residual.result c.from_residual.ensures.1 in
    let test = is_at (key_cmp c.args.key.now) in
    let es = c.args.parts.now.entries in
    let had : lookup test es ≡ Some c.in-Some.last.now = sym c.get_mut.ensures.value ∙ ap option_copied_mut c.in-Some.is in
    let written : (c.get_mut.follows.lender c.in-Some.last.now).entries ≡ set_value test es c.in-Some.last.now = search rules in
    rw p.1 (ap (λ (rows : List Row). (c.get_mut.follows.lender rows).entries) c.in_err-enter-in-Some.ensures.err ∙ written ∙ set_value_same test es c.in-Some.last.now had)
