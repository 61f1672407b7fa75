use Rattle.std.proofs.Common.{sym, ◌∙◌, subst}
use Rattle.key_rows.specs.private.Chains.{IsFoundBy}
use Rattle.key_rows.proofs.MemberLemmas.{one_number}
use Rattle.key_rows.proofs.keyed.made_number.Goals as goal

pub returns-then-is_key : goal.returns-then-is_key
returns-then-is_key g c = λ members found.
    one_number g.K.Ord.cmp g.T.Keyed.key_of g.met.K.Ord.total members c.args.key c.in-Some.made.key (sym c.is_key.ensures ∙ c.if-is_key.true)
    ∙ subst (IsFoundBy g.K.Ord.cmp g.T.Keyed.key_of members) c.in-Some.is found
