use Rattle.std.proofs.Common.{◌∙◌, sym, ap}
use Rattle.std.specs.Prelude.{is_some}
use Rattle.wpds_port.specs.Words.{word_of}
use Rattle.document_reader.proofs.NameLineLemmas.{stops_names, free_behind, ends_names, still_adds, ends_added}
use Rattle.document_reader.proofs.name_lines.add_free.Goals as goal

pub returns-then-not-is_free : goal.returns-then-not-is_free
returns-then-not-is_free c =
    sym (stops_names c.loop-lexeme.left c.in-Some.rest c.args.words.now (word_of c.in-Some.lexeme) c.in-Some.ensures
    c.loop-lexeme.invariant.free c.if-not-is_free.ensures)

pub loop-lexeme-preserved : goal.loop-lexeme-preserved
loop-lexeme-preserved c = record {
  free = free_behind c.loop-lexeme.left c.in-Some.rest c.args.words.now (word_of c.in-Some.lexeme) c.in-Some.ensures
      c.loop-lexeme.invariant.free c.if-not-is_free.ensures;
  adds = still_adds c.args.table.now c.loop-lexeme.table c.add_word.new.table c.loop-lexeme.left c.in-Some.rest c.args.words.now
      (word_of c.in-Some.lexeme) c.loop-lexeme.twice c.in_ok-twice.field-0 c.loop-lexeme.invariant.adds c.in-Some.ensures
      c.in_ok-twice.ensures;
}

pub returns-in-Some-split_first : goal.returns-in-Some-split_first
returns-in-Some-split_first c = (
  sym (ends_names c.loop-lexeme.left c.args.words.now c.split_first-2.result c.in_default.ensures
      c.loop-lexeme.invariant.free c.split_first-2.ensures) ∙ ap is_some c.in-Some-split_first.is,
  ends_added c.args.table.now c.loop-lexeme.table c.loop-lexeme.left c.args.words.now c.loop-lexeme.twice
      c.loop-lexeme.invariant.adds c.in_default.ensures,
)
