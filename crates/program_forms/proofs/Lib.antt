mod LockProgram
mod Rows
mod RefusalExamples
