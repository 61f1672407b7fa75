-- The kind of a push's jobs.
use Rattle.saturation_laws.specs.declared.job.JobKind.{JobKind}
use Rattle.saturation_laws.specs.declared.job.JobKind.TheVariants.{PrePushControl, PrePushOther}
use Rattle.prestar.specs.declared.push.Callee.{Callee}
use Rattle.prestar.specs.declared.push.Callee.TheVariants.{Returns, StaysOpen}

abbrev pub kind_of : Callee → JobKind
kind_of Returns = PrePushControl
kind_of StaysOpen = PrePushOther
