use Rattle.std.proofs.Common.{ap, sym, ◌∙◌, arith}
use Rattle.std.specs.Prelude.{nat_eq}
use Rattle.std.proofs.lemmas.Bool.{le-ltb}
use Rattle.std.proofs.lemmas.Nat.Bits.{shr_and_one}
use Rattle.copy_weights.specs.Forms.{has}
use Rattle.copy_weights.proofs.CallerLemmas.{has_above}
use Rattle.document_systems.proofs.constants.has_variable.Goals as goal

pub returns-then-variable-lt64 : goal.returns-then-variable-lt64
unfolding has
returns-then-variable-lt64 c = ap (λ b. nat_eq b 1) (shr_and_one c.args.from c.args.variable)

pub returns-else-variable-lt64 : goal.returns-else-variable-lt64
returns-else-variable-lt64 c = le-ltb c.args.variable 64 (omega (arith, c.if-variable-lt64.false)) ∙ sym (has_above c.args.from 64 c.args.variable c.ranges.from.fits (omega (arith, c.if-variable-lt64.false)))
