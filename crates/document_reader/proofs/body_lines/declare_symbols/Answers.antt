use Rattle.std.proofs.Common.{refl}
use Rattle.document_forms.specs.Forms.{Symbols}
use Rattle.document_reader.proofs.BodyLineLemmas.{names_answered}
use Rattle.document_reader.proofs.body_lines.declare_symbols.Goals as goal

pub returns : goal.returns
returns c =
    names_answered Symbols c.args.reading.now c.declare.new.table c.args.words.now c.declare.result
    refl c.declare.ensures.kind c.declare.ensures.declares
