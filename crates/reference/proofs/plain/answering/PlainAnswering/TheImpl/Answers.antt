use Rattle.reference.specs.PlainViews.{world_of}
use Rattle.reference.proofs.DrainLemmas.{drains, not_wanted}
use Rattle.reference.proofs.plain.answering.PlainAnswering.TheImpl.Goals as goal

pub drain-tells : goal.drain-tells
drain-tells c = record {
  does = λ whole. drains (world_of c.args.self.now) (world_of c.new.self.now) c.args.rows c.result c.ensures.does;
  numbers = λ whole is some. not_wanted (world_of c.args.self.now) (world_of c.new.self.now) c.args.rows c.result c.ensures.does is;
  whole = λ w p. tt;
  spent = λ has. tt;
}
