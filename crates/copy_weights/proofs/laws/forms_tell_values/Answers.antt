use Rattle.copy_weights.proofs.ValueLemmas.{value_undefined, value_constant, value_copy, value_meet, known_of_parts}
use Rattle.copy_weights.proofs.laws.forms_tell_values.Goals as goal

pub returns-clause-undefined : goal.returns-clause-undefined
returns-clause-undefined c = value_undefined

pub returns-clause-constant : goal.returns-clause-constant
returns-clause-constant c = value_constant

pub returns-clause-copy : goal.returns-clause-copy
returns-clause-copy c = value_copy

pub returns-clause-meet : goal.returns-clause-meet
returns-clause-meet c = value_meet

pub returns-clause-parts : goal.returns-clause-parts
returns-clause-parts c = known_of_parts
