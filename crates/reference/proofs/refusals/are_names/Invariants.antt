use Rattle.std.proofs.Common.{◌≡◌, drop}
use Rattle.std.specs.List.{list_all}
use Rattle.cql_reader.specs.Lexis.{is_name}
use Rattle.reference.specs.CallViews.{texts_of}
use Rattle.reference.proofs.refusals.are_names.Given as goal

abbrev pub invariant-loop-name : goal.invariant-loop-name
invariant-loop-name l = list_all is_name (texts_of (drop l.name-index l.names)) ≡ list_all is_name (texts_of l.names)
