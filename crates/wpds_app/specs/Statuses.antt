-- The numbers with which the program ends.
use Rattle.std.specs.Prelude.{ℕ}
use Rattle.wpds_app.specs.declared.status.Status.{Status}
use Rattle.wpds_app.specs.declared.status.Status.TheVariants.{Answered, WordsRefused, ReadFault, WriteFault, DocumentRefused, OutOfMemory}

abbrev pub status_code : Status → ℕ
status_code Answered = 0
status_code WordsRefused = 2
status_code ReadFault = 3
status_code WriteFault = 4
status_code DocumentRefused = 5
status_code OutOfMemory = 6
