use Rattle.std.proofs.Common.{◌≡◌, ◌+◌, length, ap, ◌∙◌, arith}
use Rattle.boolean_meaning.specs.Bits.{bit_of}
use Rattle.boolean_meaning.specs.private.GivenValues.{values_of}
use Rattle.boolean_meaning.specs.private.Outcomes.{bit_in}
use Rattle.boolean_meaning.proofs.ValueLemmas.{length_picked, length_after}
use Rattle.boolean_meaning.proofs.stepping.entered.Goals as goal

pub from_slice-locals-requires : goal.from_slice-locals-requires
from_slice-locals-requires c =
    let long : length c.as_slice.result.now ≡ length (values_of c.args.arguments) =
    ap (λ bs. length bs) (c.as_slice.ensures.value ∙ c.in_ok-arguments.ensures.new)
    ∙ length_picked (bit_in c.args.old.now) (bit_of c.args.bits) 0 (values_of c.args.arguments) in
    let small = c.requires.small in
    omega arith

pub push_bits-requires : goal.push_bits-requires
push_bits-requires c =
    let long : length c.from_slice-locals.result ≡ length (values_of c.args.arguments) =
    ap (λ bs. length bs) (c.from_slice-locals.ensures ∙ c.as_slice.ensures.value ∙ c.in_ok-arguments.ensures.new)
    ∙ length_picked (bit_in c.args.old.now) (bit_of c.args.bits) 0 (values_of c.args.arguments) in
    let small = c.requires.small in
    omega arith

pub number_of-requires : goal.number_of-requires
number_of-requires c =
    let long : length c.from_slice-locals.result ≡ length (values_of c.args.arguments) =
    ap (λ bs. length bs) (c.from_slice-locals.ensures ∙ c.as_slice.ensures.value ∙ c.in_ok-arguments.ensures.new)
    ∙ length_picked (bit_in c.args.old.now) (bit_of c.args.bits) 0 (values_of c.args.arguments) in
    let all : length c.as_slice-2.result.now ≡ length c.from_slice-locals.result + c.args.others =
    ap (λ bs. length bs) (c.as_slice-2.ensures ∙ c.push_bits.ensures) ∙ length_after c.from_slice-locals.result c.args.others (bit_of c.picked.new.bits) in
    let small = c.requires.small in
    omega arith
