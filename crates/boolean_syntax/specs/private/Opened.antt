-- Procedures that are read line by line.
use Rattle.boolean_programs.specs.declared.program.Proc.{Proc}
use Rattle.boolean_syntax.specs.declared.procs.OpenProc.{OpenProc}

abbrev pub proc_now : OpenProc → Proc
proc_now p = record {
  name = p.name;
  params = p.params;
  locals = p.locals.items;
  returns = p.returns;
  body = p.body.items;
}
