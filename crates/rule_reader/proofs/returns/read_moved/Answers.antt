use Rattle.std.proofs.Common.{◌∙◌, ◌∷◌, ◌++◌, [], ap, subst, map}
use Rattle.rule_reader.specs.NameReads.{HasNames}
use Rattle.rule_reader.specs.private.Returns.{moves_said, move_form}
use Rattle.rule_reader.proofs.ReturnLemmas.{all_pairs, pairs_all, moves_go_on, pairs_go_on, names_none_yet, to_more}
use Rattle.rule_reader.proofs.returns.read_moved.Goals as goal

pub loop-pair-init : goal.loop-pair-init
loop-pair-init c = (
  [],
  ap moves_said c.reborrow-left.ensures.same,
  ap all_pairs c.reborrow-left.ensures.same ∙ pairs_all c.args.words.now c.requires,
  c.new-read.ensures c.args.items.now,
  λ seen h. names_none_yet seen c.args.names.now h,
)

pub loop-pair-preserved : goal.loop-pair-preserved
loop-pair-preserved c =
    let i = c.loop-pair.invariant in
    let m = move_form c.in-Some.pair in (
      i.0 ++ m ∷ [],
      moves_go_on c.loop-pair.left c.in-Some.rest m.to m.from i.0 (moves_said c.args.words.now) c.in-Some.ensures i.1,
      pairs_go_on c.loop-pair.left c.in-Some.rest m.to m.from c.in-Some.ensures i.2,
      c.in_ok-add-2.ensures i.0 i.3,
      λ seen h. subst (λ xs. HasNames xs c.add.new.self) (to_more seen i.0 m)
          (c.in_ok-add.ensures (seen ++ map (λ m. m.to) i.0) (i.4 seen h)),
    )
