use Rattle.std.proofs.Common.{rules}
use Rattle.key_rows.proofs.MemberLemmas.{number_within}
use Rattle.key_rows.proofs.keyed.KeyedList.find.Goals as goal

pub returns-clause-within : goal.returns-clause-within
returns-clause-within g c =
    number_within g.K.Ord.cmp g.T.Keyed.key_of c.args.self.now.members c.args.key c.walk_chain.result.found (search rules)
