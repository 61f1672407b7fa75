use Rattle.std.proofs.Common.{◌++◌, ◌∷◌, [], ap, ◌∙◌, sym}
use Rattle.wpds_port.specs.Words.{word_of}
use Rattle.document_forms.specs.Weights.{genkill_of, SignsForm}
use Rattle.rule_reader.specs.private.FactReads.{sign_form}
use Rattle.rule_reader.proofs.FactLemmas.{all_signs, signs_end, signs_go_on}
use Rattle.rule_reader.proofs.weights.facts.read_facts.Goals as goal

pub loop-sign-init : goal.loop-sign-init
loop-sign-init c =
    ([], c.new-facts.ensures c.args.items.now, ap genkill_of (sym c.reborrow-left.ensures.same) ∙ all_signs c.reborrow-left.result)

pub loop-sign-preserved : goal.loop-sign-preserved
loop-sign-preserved c =
    let done = c.loop-sign.invariant.0 in
    let s = sign_form c.in-Some.sign in
    let first = c.in-Some-split_first.field-0 in (
      done ++ s ∷ [],
      c.in_ok-add.ensures done c.loop-sign.invariant.1,
      signs_go_on c.args.words.now c.loop-sign.left c.in-Some.rest done s (word_of first.0) first.1 c.loop-sign.invariant.2 c.in-Some.ensures.signs c.in-Some-split_first.ensures,
    )

pub returns-in-None : goal.returns-in-None
returns-in-None c =
    let done = c.loop-sign.invariant.0 in
    let s = sign_form c.in-Some.sign in (
      SignsForm (done ++ s ∷ []),
      signs_end c.args.words.now c.loop-sign.left c.in-Some.rest done s c.loop-sign.invariant.2 c.in-Some.ensures.signs c.in-None.ensures,
      c.into_read.ensures c.args.items.now (done ++ s ∷ []) (c.in_ok-add.ensures done c.loop-sign.invariant.1),
    )
