use Rattle.std.proofs.Common.{◌≡◌, ℕ, refl, sym}
use Rattle.std.proofs.lemmas.List.{length-map}
use Rattle.boolean_programs.specs.declared.statement.Choice.TheVariants.{Star, Is}
use Rattle.boolean_programs.specs.declared.statement.Statement.{Statement}
use Rattle.boolean_programs.specs.declared.statement.Statement.TheVariants.{Skip, Assign, Goto, Assume, Assert, Call, Return, If, Else, While, EndIf, EndWhile, EndProc}
use Rattle.boolean_programs.specs.Lines.{Instruction}
use Rattle.boolean_machine.specs.Machine.{always, action_of, returns_of}
use Rattle.program_laws.specs.ReadPrograms.{rules_by, ways}
use Rattle.program_laws.proofs.laws.rules_are_ways.Goals as goal

of_statement : (returns : ℕ) (i : Instruction) (s : Statement) → rules_by s ≡ ways (action_of returns i s)
of_statement returns i Skip = refl
of_statement returns i (Assign targets values) = refl
of_statement returns i (Goto lines) = sym (length-map lines always)
of_statement returns i (Assume e) = refl
of_statement returns i (Assert e) = refl
of_statement returns i (Call targets callee arguments) = refl
of_statement returns i (Return values) = refl
of_statement returns i (If Star) = refl
of_statement returns i (If (Is e)) = refl
of_statement returns i Else = refl
of_statement returns i (While Star) = refl
of_statement returns i (While (Is e)) = refl
of_statement returns i EndIf = refl
of_statement returns i EndWhile = refl
of_statement returns i EndProc = refl

pub returns : goal.returns
returns c = λ p i. of_statement (returns_of p i.procedure) i i.statement
