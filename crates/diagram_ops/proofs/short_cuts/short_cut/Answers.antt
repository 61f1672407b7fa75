use Rattle.std.proofs.Common.{refl, inl, inr, arith}
use Rattle.std.proofs.lemmas.Bool.{iff_false}
use Rattle.diagram_ops.proofs.ShortCutLemmas.{made_true, made_first, made_second, made_third, taken, no_other}
use Rattle.diagram_ops.proofs.short_cuts.short_cut.Goals as goal

pub returns-then-are_same_on-2-clause-right : goal.returns-then-are_same_on-2-clause-right
returns-then-are_same_on-2-clause-right c =
    taken c.possible_rows-rows.result c.args.table 255 c.args.x c.args.y c.args.z 1 c.possible_rows-rows.ensures (made_true c.args.x c.args.y c.args.z)
    (c.are_same_on-2.ensures.0 c.if-are_same_on-2.true) (inl (omega arith))

pub returns-then-are_same_on-3-clause-right : goal.returns-then-are_same_on-3-clause-right
returns-then-are_same_on-3-clause-right c =
    taken c.possible_rows-rows.result c.args.table 240 c.args.x c.args.y c.args.z c.args.x c.possible_rows-rows.ensures (made_first c.args.x c.args.y c.args.z)
    (c.are_same_on-3.ensures.0 c.if-are_same_on-3.true) (inr (inl refl))

pub returns-then-are_same_on-4-clause-right : goal.returns-then-are_same_on-4-clause-right
returns-then-are_same_on-4-clause-right c =
    taken c.possible_rows-rows.result c.args.table 204 c.args.x c.args.y c.args.z c.args.y c.possible_rows-rows.ensures (made_second c.args.x c.args.y c.args.z)
    (c.are_same_on-4.ensures.0 c.if-are_same_on-4.true) (inr (inr (inl refl)))

pub returns-then-are_same_on-5-clause-right : goal.returns-then-are_same_on-5-clause-right
returns-then-are_same_on-5-clause-right c =
    taken c.possible_rows-rows.result c.args.table 170 c.args.x c.args.y c.args.z c.args.z c.possible_rows-rows.ensures (made_third c.args.x c.args.y c.args.z)
    (c.are_same_on-5.ensures.0 c.if-are_same_on-5.true) (inr (inr (inr refl)))

pub returns-clause-found : goal.returns-clause-found
returns-clause-found c =
    no_other c.possible_rows-rows.result c.args.table c.args.x c.args.y c.args.z c.possible_rows-rows.ensures
    (iff_false c.are_same_on.ensures c.if-are_same_on.false)
    (iff_false c.are_same_on-2.ensures c.if-are_same_on-2.false)
    (iff_false c.are_same_on-3.ensures c.if-are_same_on-3.false)
    (iff_false c.are_same_on-4.ensures c.if-are_same_on-4.false)
    (iff_false c.are_same_on-5.ensures c.if-are_same_on-5.false)
