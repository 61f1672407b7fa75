use Rattle.std.proofs.Common.{arith}
use Rattle.genkill_weights.proofs.WidthLemmas.{least_of, width_4, width_8}
use Rattle.genkill_weights.proofs.width.words_for.Goals as goal

pub returns-in-129-to-256-clause-least : goal.returns-in-129-to-256-clause-least
returns-in-129-to-256-clause-least c =
    least_of c.args.facts 4 c.words-in-129-to-256.result c.words-in-129-to-256.ensures (width_4 c.args.facts (omega arith) (omega arith))

pub returns-in-257-to-512-clause-least : goal.returns-in-257-to-512-clause-least
returns-in-257-to-512-clause-least c =
    least_of c.args.facts 8 c.words-in-257-to-512.result c.words-in-257-to-512.ensures (width_8 c.args.facts (omega arith) (omega arith))
