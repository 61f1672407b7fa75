use Rattle.std.proofs.Common.{refl}
use Rattle.lowering_laws.proofs.MadeLemmas.{lowering_valid, lowering_is}
use Rattle.lowering_laws.proofs.weights.programs_have_lowerings.Goals as goal

pub returns-clause-system : goal.returns-clause-system
returns-clause-system c = λ p lawful few_symbols few. lowering_valid p lawful few_symbols few

pub returns-clause-lowering : goal.returns-clause-lowering
returns-clause-lowering c = λ p lawful. record { semiring = refl; lowering = lowering_is p lawful }
