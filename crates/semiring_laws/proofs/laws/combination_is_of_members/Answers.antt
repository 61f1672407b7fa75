use Rattle.semiring_laws.proofs.CombinationLemmas.{combination-permutation, combination-repeated, combination_of_members, combination-append}
use Rattle.semiring_laws.proofs.laws.combination_is_of_members.Goals as goal

pub returns-clause-order : goal.returns-clause-order
returns-clause-order g c = λ x vs ws fit moved. combination-permutation (g.S.Semiring.laws x) vs ws fit moved

pub returns-clause-repeated : goal.returns-clause-repeated
returns-clause-repeated g c = λ x w ws fit member. combination-repeated (g.S.Semiring.laws x) w ws fit member

pub returns-clause-members : goal.returns-clause-members
returns-clause-members g c = λ x vs ws fit fits members others. combination_of_members (g.S.Semiring.laws x) vs ws fit fits members others

pub returns-clause-append : goal.returns-clause-append
returns-clause-append g c = λ x vs ws fit fits. combination-append (g.S.Semiring.laws x) vs ws fit fits
