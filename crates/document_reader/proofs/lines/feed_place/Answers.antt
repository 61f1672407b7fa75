use Rattle.document_reader.proofs.LineLemmas.{feed_at}
use Rattle.document_reader.proofs.lines.feed_place.Goals as goal

pub returns : goal.returns
returns c = feed_at c.args.bytes.now c.memchr.result c.memchr.ensures
