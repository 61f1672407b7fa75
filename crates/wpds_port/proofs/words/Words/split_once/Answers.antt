use Rattle.std.proofs.Common.{◌∙◌, ap}
use Rattle.wpds_port.specs.Words.{word_of, same_word, before, behind}
use Rattle.wpds_port.proofs.CuttingLemmas.{found, passed, ended, stuck, advanced}
use Rattle.wpds_port.proofs.words.Words.split_once.Goals as goal

pub invariant_of-front : goal.invariant_of-front
invariant_of-front c =
    (found (same_word (word_of c.args.at)) c.self.inside.text.now c.loop-lexeme.place c.loop-lexeme.invariant
    (word_of c.in-Word.lexeme) c.in-Word.rest.now c.in-Word.ensures c.if-is.ensures c.self.invariant).lawful

pub invariant_of-result : goal.invariant_of-result
invariant_of-result c =
    (found (same_word (word_of c.args.at)) c.self.inside.text.now c.loop-lexeme.place c.loop-lexeme.invariant
    (word_of c.in-Word.lexeme) c.in-Word.rest.now c.in-Word.ensures c.if-is.ensures c.self.invariant).lawful_rest

pub returns-then-is-clause-before : goal.returns-then-is-clause-before
returns-then-is-clause-before c =
    (found (same_word (word_of c.args.at)) c.self.inside.text.now c.loop-lexeme.place c.loop-lexeme.invariant
    (word_of c.in-Word.lexeme) c.in-Word.rest.now c.in-Word.ensures c.if-is.ensures c.self.invariant).front
    ∙ ap (before (same_word (word_of c.args.at))) c.self.view_is

pub returns-then-is-clause-behind : goal.returns-then-is-clause-behind
returns-then-is-clause-behind c =
    (found (same_word (word_of c.args.at)) c.self.inside.text.now c.loop-lexeme.place c.loop-lexeme.invariant
    (word_of c.in-Word.lexeme) c.in-Word.rest.now c.in-Word.ensures c.if-is.ensures c.self.invariant).back
    ∙ ap (behind (same_word (word_of c.args.at))) c.self.view_is

pub loop-lexeme-smaller : goal.loop-lexeme-smaller
loop-lexeme-smaller c =
    advanced c.self.inside.text.now c.loop-lexeme.place (word_of c.in-Word.lexeme) c.in-Word.rest.now
    c.in-Word.ensures c.loop-lexeme.invariant.within

pub loop-lexeme-preserved : goal.loop-lexeme-preserved
loop-lexeme-preserved c =
    passed (same_word (word_of c.args.at)) c.self.inside.text.now c.loop-lexeme.place c.loop-lexeme.invariant
    (word_of c.in-Word.lexeme) c.in-Word.rest.now c.in-Word.ensures c.if-is.ensures

pub returns-in-End-clause-before : goal.returns-in-End-clause-before
returns-in-End-clause-before c =
    (ended (same_word (word_of c.args.at)) c.self.inside.text.now c.loop-lexeme.place c.loop-lexeme.invariant
    c.in-End.ensures c.self.invariant).front
    ∙ ap (before (same_word (word_of c.args.at))) c.self.view_is

pub returns-in-End-clause-behind : goal.returns-in-End-clause-behind
returns-in-End-clause-behind c =
    (ended (same_word (word_of c.args.at)) c.self.inside.text.now c.loop-lexeme.place c.loop-lexeme.invariant
    c.in-End.ensures c.self.invariant).back
    ∙ ap (behind (same_word (word_of c.args.at))) c.self.view_is

pub returns-in-Unknown-clause-before : goal.returns-in-Unknown-clause-before
returns-in-Unknown-clause-before c =
    absurd (stuck (same_word (word_of c.args.at)) c.self.inside.text.now c.loop-lexeme.place
    c.loop-lexeme.invariant c.in-Unknown.ensures c.self.invariant)

pub returns-in-Unknown-clause-behind : goal.returns-in-Unknown-clause-behind
returns-in-Unknown-clause-behind c =
    absurd (stuck (same_word (word_of c.args.at)) c.self.inside.text.now c.loop-lexeme.place
    c.loop-lexeme.invariant c.in-Unknown.ensures c.self.invariant)
