use Rattle.std.proofs.Common.{rules}
use Rattle.std.specs.Prelude.{Some}
use Rattle.key_rows.proofs.MemberLemmas.{number_within}
use Rattle.key_rows.proofs.keyed.KeyedList.find_made.Goals as goal

pub returns-in-Some-clause-number : goal.returns-in-Some-clause-number
returns-in-Some-clause-number g c = search rules

pub returns-in-Some-clause-within : goal.returns-in-Some-clause-within
returns-in-Some-clause-within g c = number_within g.K.Ord.cmp g.T.Keyed.key_of c.args.self.now.members c.args.key (Some c.in-Some.number) (returns-in-Some-clause-number g c)
