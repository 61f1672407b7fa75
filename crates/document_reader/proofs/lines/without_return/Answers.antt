use Rattle.document_reader.proofs.LineLemmas.{return-last, return-other, return-nothing}
use Rattle.document_reader.proofs.lines.without_return.Goals.{else-len-gt0-via-then-len-gt0+else-piece-len-eq13, else-len-gt0-via-else-len-gt0}
use Rattle.document_reader.proofs.lines.without_return.Goals as goal

pub returns-then-piece-len-eq13 : goal.returns-then-piece-len-eq13
returns-then-piece-len-eq13 c = return-last c.args.piece.now c.if-len-gt0.true c.if-piece-len-eq13.true

pub returns-else-len-gt0 : goal.returns-else-len-gt0
returns-else-len-gt0 c = elim c.else-len-gt0.branch [
  | else-len-gt0-via-then-len-gt0+else-piece-len-eq13 w ↦ return-other c.args.piece.now w.if-len-gt0.true w.if-piece-len-eq13.false
  | else-len-gt0-via-else-len-gt0 w ↦ return-nothing c.args.piece.now w.if-len-gt0.false
]
