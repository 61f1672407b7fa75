use Rattle.std.proofs.Common.{◌∷◌, ◌++◌, ◌∙◌, [], length, sym, ap, subst}
use Rattle.rule_reader.specs.private.Rules.{HasRight}
use Rattle.rule_reader.proofs.RuleLemmas.{right_none, right_more}
use Rattle.rule_reader.proofs.rules.read_right.Goals as goal

pub loop-name-init : goal.loop-name-init
loop-name-init c =
    let none = c.new-read.ensures c.args.symbols.now in
    let same = c.reserve.ensures.items in (
      [],
      record {
        count = ap length same ∙ none.count;
        unknown = none.unknown;
        numbers = λ known. same ∙ none.numbers known;
      },
      subst (HasRight c.args.words.now []) (sym c.reborrow-left.ensures.same) (right_none c.args.words.now),
    )

pub loop-name-preserved : goal.loop-name-preserved
loop-name-preserved c =
    let i = c.loop-name.invariant in
    let x = c.in-Some.name.now in (
      i.0 ++ x ∷ [],
      c.in_ok-add.ensures i.0 i.1,
      right_more c.args.words.now c.loop-name.left c.in-Some.rest i.0 x c.in-Some.ensures.0 c.in-Some.ensures.1 i.2,
    )
