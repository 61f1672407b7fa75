use Rattle.std.proofs.Common.{◌≡◌, ◌≢◌, ℕ, List, refl, ◌∙◌}
use Rattle.std.proofs.lemmas.Result.{IfOk-weaker}
use Rattle.genkill_weights.specs.declared.weight.GenKillW.{GenKillW}
use Rattle.genkill_weights.specs.declared.weight.GenKillW.TheVariants.{Zero as NoRun, Map}
use Rattle.document_forms.specs.Writing.{spaced}
use Rattle.document_systems.specs.FactWeights.{effect_words, genkill_text}
use Rattle.document_systems.proofs.facts.GenKillDocumentWeights.text_of.Goals as goal

text_of_runs : (n : ℕ) (items : List (List ℕ)) (w : GenKillW n) → w ≢ NoRun → spaced (effect_words n items w) ≡ genkill_text n items w
text_of_runs n items NoRun differs = absurd (differs refl)
text_of_runs n items (Map keep gens) differs = refl

pub returns : goal.returns
returns g c =
    IfOk-weaker c.effects_text.result _ _
    (λ t is. is ∙ text_of_runs g.row.N c.args.items.now c.args.value.now (λ e.
    let zero = c.is_zero.ensures.1 e in
    let other = c.if-is_zero.false in
    cc))
    c.effects_text.ensures
