use Rattle.std.proofs.Common.{◌∙◌, ap, option_map}
use Rattle.std.specs.Option.{ok_or}
use Rattle.std.proofs.lemmas.Bool.{false≢true}
use Rattle.serde_json.specs.View.{view}
use Rattle.wire.specs.Requests.{call_in}
use Rattle.wire.specs.Calls.{call_of}
use Rattle.wire.specs.declared.request.WireFault.TheVariants.{BadRequest}
use Rattle.wire.proofs.Reading.{json_none, call_is}
use Rattle.wire.proofs.read.any_request.Goals as goal

pub returns-in-Err : goal.returns-in-Err
returns-in-Err c =
    ap call_in (json_none c.args.line.now (c.in-Err.ensures.err (λ m. false≢true (c.if-is_memory.ensures.1 m))))

pub returns-in-Ok-Some : goal.returns-in-Ok-Some
returns-in-Ok-Some c =
    call_is c.args.line.now (view c.in-Ok.value) c.in-Ok-Some.field-0 c.in-Ok.ensures.ok c.in-Ok-Some.ensures
    ∙ ap (λ o. ok_or (option_map call_of o) BadRequest) c.in-Ok-Some.field-0-is

pub returns-in-Ok-None : goal.returns-in-Ok-None
returns-in-Ok-None c =
    call_is c.args.line.now (view c.in-Ok.value) c.in-Ok-None.field-0 c.in-Ok.ensures.ok c.in-Ok-None.ensures
    ∙ ap (λ o. ok_or (option_map call_of o) BadRequest) c.in-Ok-None.field-0-is
