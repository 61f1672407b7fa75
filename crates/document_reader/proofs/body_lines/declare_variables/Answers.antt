use Rattle.std.proofs.Common.{ap}
use Rattle.document_forms.specs.Above.{has_class}
use Rattle.document_forms.specs.Forms.{Variables}
use Rattle.document_reader.proofs.BodyLineLemmas.{names_answered}
use Rattle.document_reader.proofs.body_lines.declare_variables.Goals as goal

pub returns-in-Copy : goal.returns-in-Copy
returns-in-Copy c =
    names_answered Variables c.args.reading.now c.declare.new.table c.args.words.now c.declare.result
    (ap (λ u. has_class u Variables) c.in-Copy.is) (rw c.in-Copy.is c.declare.ensures.kind) c.declare.ensures.declares

pub returns-in-Relation : goal.returns-in-Relation
returns-in-Relation c =
    names_answered Variables c.args.reading.now c.declare-in-Relation.new.table c.args.words.now c.declare-in-Relation.result
    (ap (λ u. has_class u Variables) c.in-Relation.is) (rw c.in-Relation.is c.declare-in-Relation.ensures.kind) c.declare-in-Relation.ensures.declares
