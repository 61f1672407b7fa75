use Rattle.std.proofs.Common.{◌≤◌, ◌++◌, ◌∷◌, [], length, refl, sym, ap, ◌∙◌, subst, arith}
use Rattle.std.specs.Prelude.{option_map}
use Rattle.wpds_port.specs.Words.{word_of}
use Rattle.document_forms.specs.Weights.{PairForm, PairsForm, copy_of}
use Rattle.rule_reader.proofs.PairLemmas.{all_pairs, pair_none, from_shorter, pairs_go_on, pairs_end}
use Rattle.rule_reader.proofs.weights.forms.read_forms.Goals as goal

pub loop-name-init : goal.loop-name-init
loop-name-init c =
    ([], c.new-forms.ensures c.args.items.now, ap copy_of (sym c.reborrow-left.ensures.same) ∙ all_pairs c.reborrow-left.result)

pub returns-in_default-read_parts : goal.returns-in_default-read_parts
returns-in_default-read_parts c =
    let done = c.loop-name.invariant.0 in
    c.loop-name.invariant.2
    ∙ ap (option_map (λ more. PairsForm (done ++ more)))
    (pair_none c.loop-name.left c.in-Some.name.now c.in-Some.text c.in-Some.ensures c.in_default-read_parts.ensures.parts)

pub loop-name-smaller : goal.loop-name-smaller
loop-name-smaller c =
    let size = ap length c.in-Some.ensures in
    let rest : length c.in-Some-read_parts.rest ≤ length c.in-Some.text = subst (λ ws. length ws ≤ length c.in-Some.text) (sym c.in-Some-read_parts.ensures.rest) (from_shorter c.in-Some.text) in
    omega arith

pub loop-name-preserved : goal.loop-name-preserved
loop-name-preserved c =
    let done = c.loop-name.invariant.0 in
    let parts = c.in-Some-read_parts.ensures.parts in
    let p : PairForm = record { variable = c.in-Some.name.now; parts = parts.0 } in
    let first = c.in-Some-split_first.field-0 in (
      done ++ p ∷ [],
      c.in_ok-add.ensures done p c.loop-name.invariant.1 refl parts.2,
      pairs_go_on c.args.words.now c.loop-name.left done c.in-Some.name.now c.in-Some.text parts.0 c.in-Some-read_parts.rest
          c.loop-name.invariant.2 c.in-Some.ensures parts.1 c.in-Some-read_parts.ensures.rest (word_of first.0) first.1 c.in-Some-split_first.ensures,
    )

pub returns-in-None : goal.returns-in-None
returns-in-None c =
    let done = c.loop-name.invariant.0 in
    let parts = c.in-Some-read_parts.ensures.parts in
    let p : PairForm = record { variable = c.in-Some.name.now; parts = parts.0 } in (
      PairsForm (done ++ p ∷ []),
      pairs_end c.args.words.now c.loop-name.left done c.in-Some.name.now c.in-Some.text parts.0 c.in-Some-read_parts.rest
          c.loop-name.invariant.2 c.in-Some.ensures parts.1 c.in-Some-read_parts.ensures.rest c.in-None.ensures,
      c.into_read.ensures c.args.items.now (done ++ p ∷ []) (c.in_ok-add.ensures done p c.loop-name.invariant.1 refl parts.2),
    )
