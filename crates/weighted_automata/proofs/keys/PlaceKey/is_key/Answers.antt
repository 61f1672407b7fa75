use Rattle.std.proofs.Common.{sym, ◌∙◌}
use Rattle.weighted_automata.proofs.RowLemmas.{place_test}
use Rattle.weighted_automata.proofs.keys.PlaceKey.is_key.Goals as goal

pub returns : goal.returns
returns c = c.is.ensures ∙ sym (place_test c.args.self c.args.other)
