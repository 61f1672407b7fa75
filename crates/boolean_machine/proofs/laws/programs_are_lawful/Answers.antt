use Rattle.boolean_machine.proofs.ReadingLemmas.{read_is_lawful}
use Rattle.boolean_machine.proofs.TestLemmas.{lawful_passes}
use Rattle.boolean_machine.proofs.laws.programs_are_lawful.Goals as goal

pub returns-clause-read : goal.returns-clause-read
returns-clause-read c = λ p read. read_is_lawful p read

pub returns-clause-test : goal.returns-clause-test
returns-clause-test c = λ p h. lawful_passes p h
