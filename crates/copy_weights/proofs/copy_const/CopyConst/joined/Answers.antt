use Rattle.copy_weights.specs.CopyLaws.{copy_laws}
use Rattle.copy_weights.proofs.copy_const.CopyConst.joined.Goals as goal

pub returns-then-has_all : goal.returns-then-has_all
returns-then-has_all c =
    let held = c.has_all.ensures.0 c.if-has_all.true in
    rw ((copy_laws c.args.self.now).combine_comm c.args.a.now c.args.b.now c.requires.left c.requires.right, held) c.copied.ensures
