use Rattle.std.proofs.Common.{◌∙◌, sym}
use Rattle.wpds_port.specs.Words.{word_of}
use Rattle.wpds_port.proofs.TextLemmas.{split, no_words, never_unknown}
use Rattle.wpds_port.proofs.words.Words.split_first.Goals as goal

pub invariant_of-result : goal.invariant_of-result
invariant_of-result c =
    (split c.self.inside.text.now (word_of c.in-Word.lexeme) c.in-Word.rest.now c.in-Word.ensures c.self.invariant).lawful

pub returns-in-Word : goal.returns-in-Word
returns-in-Word c =
    sym c.self.view_is
    ∙ (split c.self.inside.text.now (word_of c.in-Word.lexeme) c.in-Word.rest.now c.in-Word.ensures c.self.invariant).words

pub returns-in-End : goal.returns-in-End
returns-in-End c = sym c.self.view_is ∙ no_words c.self.inside.text.now c.in-End.ensures

pub returns-in-Unknown : goal.returns-in-Unknown
returns-in-Unknown c =
    absurd (never_unknown c.self.inside.text.now c.in-Unknown.ensures c.self.invariant)
