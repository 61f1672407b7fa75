use Rattle.copy_weights.specs.CopyLaws.{copy_laws}
use Rattle.copy_weights.proofs.copy_const.CopyConstSemiring.extend.Goals as goal

pub returns-then-is_one : goal.returns-then-is_one
returns-then-is_one c =
    let one = c.is_one.ensures c.if-is_one.true in
    rw (one, (copy_laws c.args.self.now).extend-one_right c.args.a.now c.requires.left) c.copied.ensures

pub returns-then-is_one-2 : goal.returns-then-is_one-2
returns-then-is_one-2 c =
    let one = c.is_one-2.ensures c.if-is_one-2.true in
    rw (one, (copy_laws c.args.self.now).extend-one_left c.args.b.now c.requires.right) c.copied-then-is_one-2.ensures
