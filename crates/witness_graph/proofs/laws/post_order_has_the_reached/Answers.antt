use Rattle.witness_graph.specs.Order.{post_order}
use Rattle.witness_graph.proofs.WalkLemmas.{walk_ends}
use Rattle.witness_graph.proofs.OrderLemmas.{order_reached, reached_order, order_once, last_of}
use Rattle.witness_graph.proofs.laws.post_order_has_the_reached.Goals as goal

pub returns-clause-reached : goal.returns-clause-reached
returns-clause-reached c = λ nodes root k all within. (order_reached nodes root k, reached_order nodes root all within k)

pub returns-clause-once : goal.returns-clause-once
returns-clause-once c = λ nodes root all within. order_once nodes root all within

pub returns-clause-last : goal.returns-clause-last
returns-clause-last c = λ nodes root all within. let ends = walk_ends nodes root in last_of (post_order nodes root) ends.0 root ends.1
