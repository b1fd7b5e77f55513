use Rattle.reference.proofs.plain.Plain.stream_number.Goals as goal

pub returns : goal.returns
returns c = let p = c.args.self.now in c.stream_place.ensures p.streams.items p.streams_are_named
