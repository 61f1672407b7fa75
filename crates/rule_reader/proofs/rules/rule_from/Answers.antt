use Rattle.std.proofs.Common.{refl}
use Rattle.rule_reader.proofs.RuleLemmas.{rule_read}
use Rattle.rule_reader.proofs.rules.rule_from.Goals as goal

pub returns : goal.returns
returns c =
    λ a f p. rule_read a f c.args.parts p _ c.kind_of-kind.ensures refl refl refl c.in_ok-from_vec.ensures.symbols c.weight_value.ensures refl
