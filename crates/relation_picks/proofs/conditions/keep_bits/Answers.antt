use Rattle.std.proofs.Common.{false, get_or}
use Rattle.std.proofs.lemmas.Option.{slice_get-get_or}
use Rattle.diagram_store.specs.Diagrams.{meaning}
use Rattle.relation_laws.specs.States.{new_state}
use Rattle.relation_picks.proofs.SideLemmas.{first_more, first_all}
use Rattle.relation_picks.proofs.conditions.keep_bits.Goals as goal

pub keep_bit-requires : goal.keep_bit-requires
keep_bit-requires c =
    let wanted = c.args.wanted.now in
    let i = c.loop-number.number-index in
    let t = get_or wanted i (0, false) in
    record { number = c.requires i t.0 t.1 (slice_get-get_or wanted i (0, false) c.loop-number-test.true) }

pub loop-number-preserved : goal.loop-number-preserved
loop-number-preserved c =
    let wanted = c.args.wanted.now in
    let i = c.loop-number.number-index in
    let t = get_or wanted i (0, false) in
    let at = slice_get-get_or wanted i (0, false) c.loop-number-test.true in record {
      value = λ bits.
          first_more wanted i t.0 t.1 at (new_state bits) (meaning c.args.d bits) (meaning c.loop-number.made bits) (meaning c.in_ok-made.made bits)
          (c.in_ok-made.ensures.value bits) (c.loop-number.invariant.value bits);
      variables = λ n below over. c.in_ok-made.ensures.variables n (below i t.0 t.1 at) (c.loop-number.invariant.variables n below over);
    }

pub returns-clause-value : goal.returns-clause-value
returns-clause-value c = λ bits.
    first_all c.args.wanted.now c.loop-number.number-index c.loop-number-test.false (new_state bits) (meaning c.args.d bits) (meaning c.loop-number.made bits) (c.loop-number.invariant.value bits)
