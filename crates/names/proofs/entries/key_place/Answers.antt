use Rattle.std.proofs.Common.{◌∙◌, ◌≡◌, Option, ℕ, position, sym, ap}
use Rattle.std.specs.Option.{unwrap_or}
use Rattle.values.specs.Resolved.{column_of}
use Rattle.names.specs.Resolved.{same_column}
use Rattle.names.proofs.Lists.{position_map}
use Rattle.names.proofs.entries.key_place.Goals as goal

pub returns : goal.returns
returns c =
    let e : c.place_among.result ≡ position (λ k. same_column k (column_of c.args.column)) (Rattle.values.specs.Resolved.columns_of c.args.by.now) =
    c.place_among.ensures ∙ sym (position_map (λ k. same_column k (column_of c.args.column)) column_of c.args.by.now) in
    c.unwrap_or.ensures ∙ ap (λ (o : Option ℕ). unwrap_or o 0) e
