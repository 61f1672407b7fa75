use Rattle.program_laws.proofs.RefusalLemmas.{refused_by_lines, one_of_both, never_both, one_refusal}
use Rattle.program_laws.proofs.laws.programs_are_refused_by_lines.Goals as goal

pub returns : goal.returns
returns c = record {
  refused = refused_by_lines;
  one = one_of_both;
  never_both = never_both;
  one_refusal = one_refusal;
}
