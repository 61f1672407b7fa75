use Rattle.std.proofs.Common.{◌≤◌, ◌-◌, ◌∙◌, sym, ap, subst, length, ℕ}
use Rattle.wpds_port.specs.Tokens.{Word}
use Rattle.wpds_port.specs.private.Fronts.{HasPassed, outside}
use Rattle.wpds_port.specs.Words.{word_of, same_word, before_outside, behind_outside}
use Rattle.wpds_port.proofs.CuttingLemmas.{outside_found, outside_passed, outside_ended, outside_stuck, advanced, brackets_below}
use Rattle.wpds_port.proofs.words.Words.split_outside.Goals as goal

pub invariant_of-front : goal.invariant_of-front
invariant_of-front c =
    (outside_found (same_word (word_of c.args.at)) c.self.inside.text.now c.loop-lexeme.brackets
    c.loop-lexeme.place c.loop-lexeme.invariant.passed
    (word_of c.in-Word.lexeme) c.in-Word.rest.now c.in-Word.ensures c.if-ends_outside.ensures c.self.invariant).lawful

pub invariant_of-result : goal.invariant_of-result
invariant_of-result c =
    (outside_found (same_word (word_of c.args.at)) c.self.inside.text.now c.loop-lexeme.brackets
    c.loop-lexeme.place c.loop-lexeme.invariant.passed
    (word_of c.in-Word.lexeme) c.in-Word.rest.now c.in-Word.ensures c.if-ends_outside.ensures c.self.invariant).lawful_rest

pub returns-then-ends_outside-clause-before : goal.returns-then-ends_outside-clause-before
returns-then-ends_outside-clause-before c =
    (outside_found (same_word (word_of c.args.at)) c.self.inside.text.now c.loop-lexeme.brackets
    c.loop-lexeme.place c.loop-lexeme.invariant.passed
    (word_of c.in-Word.lexeme) c.in-Word.rest.now c.in-Word.ensures c.if-ends_outside.ensures c.self.invariant).front
    ∙ ap (before_outside 0 (same_word (word_of c.args.at))) c.self.view_is

pub returns-then-ends_outside-clause-behind : goal.returns-then-ends_outside-clause-behind
returns-then-ends_outside-clause-behind c =
    (outside_found (same_word (word_of c.args.at)) c.self.inside.text.now c.loop-lexeme.brackets
    c.loop-lexeme.place c.loop-lexeme.invariant.passed
    (word_of c.in-Word.lexeme) c.in-Word.rest.now c.in-Word.ensures c.if-ends_outside.ensures c.self.invariant).back
    ∙ ap (behind_outside 0 (same_word (word_of c.args.at))) c.self.view_is

pub loop-lexeme-smaller : goal.loop-lexeme-smaller
loop-lexeme-smaller c =
    advanced c.self.inside.text.now c.loop-lexeme.place (word_of c.in-Word.lexeme) c.in-Word.rest.now
    c.in-Word.ensures c.loop-lexeme.invariant.passed.within

pub loop-lexeme-preserved : goal.loop-lexeme-preserved
loop-lexeme-preserved c =
    let text = c.self.inside.text.now in
    let place : ℕ = c.loop-lexeme.place in
    let w : Word = word_of c.in-Word.lexeme in
    let test = same_word (word_of c.args.at) in
    let next : ℕ = length text - length c.in-Word.rest.now in
    let same = sym c.brackets_behind-brackets.ensures in
    record {
      few = subst (λ d. d ≤ next) same
          (brackets_below c.loop-lexeme.brackets place w text c.in-Word.rest.now c.loop-lexeme.invariant.few
          c.in-Word.ensures c.loop-lexeme.invariant.passed.within);
      passed = subst (λ d. HasPassed (outside 0 test) (outside d test) text next) same
          (outside_passed test text c.loop-lexeme.brackets place c.loop-lexeme.invariant.passed
          w c.in-Word.rest.now c.in-Word.ensures c.if-ends_outside.ensures);
    }

pub returns-in-End-clause-before : goal.returns-in-End-clause-before
returns-in-End-clause-before c =
    (outside_ended (same_word (word_of c.args.at)) c.self.inside.text.now c.loop-lexeme.brackets
    c.loop-lexeme.place c.loop-lexeme.invariant.passed
    c.in-End.ensures c.self.invariant).front
    ∙ ap (before_outside 0 (same_word (word_of c.args.at))) c.self.view_is

pub returns-in-End-clause-behind : goal.returns-in-End-clause-behind
returns-in-End-clause-behind c =
    (outside_ended (same_word (word_of c.args.at)) c.self.inside.text.now c.loop-lexeme.brackets
    c.loop-lexeme.place c.loop-lexeme.invariant.passed
    c.in-End.ensures c.self.invariant).back
    ∙ ap (behind_outside 0 (same_word (word_of c.args.at))) c.self.view_is

pub returns-in-Unknown-clause-before : goal.returns-in-Unknown-clause-before
returns-in-Unknown-clause-before c =
    absurd (outside_stuck (same_word (word_of c.args.at)) c.self.inside.text.now c.loop-lexeme.brackets
    c.loop-lexeme.place c.loop-lexeme.invariant.passed c.in-Unknown.ensures c.self.invariant)

pub returns-in-Unknown-clause-behind : goal.returns-in-Unknown-clause-behind
returns-in-Unknown-clause-behind c =
    absurd (outside_stuck (same_word (word_of c.args.at)) c.self.inside.text.now c.loop-lexeme.brackets
    c.loop-lexeme.place c.loop-lexeme.invariant.passed c.in-Unknown.ensures c.self.invariant)
