use Rattle.program_laws.proofs.LawLemmas.{read_programs_lawful}
use Rattle.program_laws.proofs.laws.read_programs_are_lawful.Goals as goal

pub returns : goal.returns
returns c = read_programs_lawful c.programs_are_lawful.ensures.read
