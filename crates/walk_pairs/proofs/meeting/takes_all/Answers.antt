use Rattle.std.proofs.Common.{◌≡◌, length, sym, ◌∙◌}
use Rattle.std.proofs.lemmas.Bool.{eqb-true}
use Rattle.walk_pairs.proofs.SetLemmas.{all_symbols}
use Rattle.walk_pairs.proofs.meeting.takes_all.Goals as goal

pub returns : goal.returns
returns c = λ is g low.
    let size : length c.args.item.now.set ≡ c.args.symbols = sym c.len.ensures ∙ eqb-true c.len.result c.args.symbols is in
    all_symbols c.args.symbols c.args.item.now.set c.requires.below c.requires.distinct size g low
