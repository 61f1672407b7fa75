use Rattle.std.proofs.Common.{◌∙◌, ◌∷◌, ◌++◌, [], ap, sym}
use Rattle.rule_reader.specs.Names.{names_in_front, behind_names}
use Rattle.rule_reader.proofs.FrontNameLemmas.{front_goes_on}
use Rattle.rule_reader.proofs.name_reads.read_names.Goals as goal

pub loop-name-init : goal.loop-name-init
loop-name-init c = (
  [],
  c.new-read.ensures c.args.table.now,
  ap names_in_front c.reborrow-left.ensures.same,
  ap behind_names c.reborrow-left.ensures.same,
)

pub loop-name-preserved : goal.loop-name-preserved
loop-name-preserved c =
    let i = c.loop-name.invariant in
    let x = c.in-Some.name.now in (
      i.0 ++ x ∷ [],
      c.in_ok-add.ensures i.0 i.1,
      front_goes_on c.loop-name.left c.in-Some.rest x i.0 (names_in_front c.args.words.now) c.in-Some.ensures i.2,
      ap behind_names (sym c.in-Some.ensures) ∙ i.3,
    )
