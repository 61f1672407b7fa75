use Rattle.rule_reader.proofs.NamesOnceLemmas.{seen_more, twice_more}
use Rattle.rule_reader.proofs.name_reads.NamesOnce.add.Goals as goal

pub returns : goal.returns
returns c = λ names h.
    let before = c.args.self.now in
    record {
      seen = seen_more before.seen c.add.new.self names c.args.name.now c.in_ok-added.added h.seen c.in_ok-added.ensures.added c.in_ok-added.ensures.names;
      twice = twice_more before.seen names c.args.name.now before.twice c.in_ok-added.added h.seen h.twice c.in_ok-added.ensures.added;
    }
