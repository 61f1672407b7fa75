use Rattle.std.proofs.Common.{refl}
use Rattle.document_reader.proofs.SetLemmas.{item_read}
use Rattle.document_reader.proofs.items.read_item.Goals as goal

pub returns : goal.returns
returns c =
    item_read c.args.symbols.now _ c.in-Some.behind c.in-Some.set _ (rw c.in-Some.is at c.in_ok-set.ensures)
    c.split_star-star.ensures.words c.split_star-star.ensures.one refl
