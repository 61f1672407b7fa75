use Rattle.std.proofs.Common.{◌≡◌, Bool, List, [], ◌∷◌, ◌++◌, length, sym, ap, ap₂, ◌∙◌, arith}
use Rattle.boolean_machine.specs.Picks.{written}
use Rattle.boolean_meaning.specs.private.Outcomes.{bit_in}
use Rattle.boolean_meaning.proofs.ValueLemmas.{listed_next, length_listed}
use Rattle.boolean_meaning.proofs.picking.written.Goals as goal

pub push-requires : goal.push-requires
push-requires c =
    let long : length c.loop-name.bits ≡ c.loop-name.name =
    ap (λ bs. length bs) c.loop-name.invariant ∙ length_listed c.loop-name.name (written c.args.targets.now c.args.new.now (bit_in c.args.kept.now)) in
    omega arith

pub loop-name-preserved : goal.loop-name-preserved
loop-name-preserved c =
    c.push.ensures ∙ ap₂ (λ (bs : List Bool) (b : Bool). bs ++ b ∷ []) c.loop-name.invariant c.written_bit.ensures
    ∙ sym (listed_next c.loop-name.name (written c.args.targets.now c.args.new.now (bit_in c.args.kept.now)))
