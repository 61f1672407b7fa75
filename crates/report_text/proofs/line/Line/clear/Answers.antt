use Rattle.std.proofs.Common.{rules}
use Rattle.std.proofs.Math.ListN.{drop_of_length-le}
use Rattle.report_text.proofs.line.Line.clear.Goals as goal

pub returns-clause-text : goal.returns-clause-text
returns-clause-text c = drop_of_length-le c.self.inside.bytes {i = 160} (search rules)
