use Rattle.std.proofs.Common.{◌∙◌, ◌++◌, [], refl}
use Rattle.rule_reader.specs.private.Returns.{restored_in}
use Rattle.rule_reader.proofs.ReturnLemmas.{map_read, foreign_same}
use Rattle.rule_reader.proofs.returns.read_map.Goals as goal

pub returns : goal.returns
returns c =
    let restore = c.args.restore.now in
    let moves = c.args.moves.now in
    let names = c.in_ok-moved.ensures.once ([] ++ restored_in restore)
    (c.in_ok-restored.ensures.once [] c.new-names.ensures) in
    map_read c.args.weights c.args.items.now restore moves c.in_ok-restored.restored c.in_ok-moved.moved
    c.in_ok-restored.ensures.read c.in_ok-moved.ensures.read
    _ _ refl c.from_vec.ensures c.from_vec-2.ensures names.twice c.is_unknown.ensures
    (c.is_foreign.ensures ∙ foreign_same c.args.weights restore moves c.is_some.result c.is_some-2.result c.is_some.ensures c.is_some-2.ensures)
