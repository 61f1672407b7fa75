use Rattle.std.proofs.Common.{◌∷◌, ◌++◌, [], ap, sym, subst, append_assoc, append-nil}
use Rattle.rule_reader.specs.Names.{names_in_front}
use Rattle.rule_reader.specs.NameReads.{HasNames}
use Rattle.rule_reader.proofs.FrontNameLemmas.{front_goes_on}
use Rattle.rule_reader.proofs.name_reads.NamesOnce.add_names.Goals as goal

pub loop-name-init : goal.loop-name-init
loop-name-init c = (
  [],
  ap names_in_front c.reborrow-left.ensures.same,
  λ names h. subst (λ xs. HasNames xs c.args.self.now) (sym (append-nil names)) h,
)

pub loop-name-preserved : goal.loop-name-preserved
loop-name-preserved c =
    let i = c.loop-name.invariant in
    let x = c.in-Some.name.now in (
      i.0 ++ x ∷ [],
      front_goes_on c.loop-name.left c.in-Some.rest x i.0 (names_in_front c.args.words.now) c.in-Some.ensures i.1,
      λ names h. subst (λ xs. HasNames xs c.add.new.self) (append_assoc names i.0 (x ∷ []))
          (c.in_ok-add.ensures (names ++ i.0) (i.2 names h)),
    )
