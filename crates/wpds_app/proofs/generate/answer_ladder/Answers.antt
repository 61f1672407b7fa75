use Rattle.std.proofs.Common.{◌≡◌, ◌∙◌, ap, ap₂, get_or, length, [], ℕ, Option}
use Rattle.semiring_laws.specs.declared.reach.NoMap.{NoMap}
use Rattle.pushdown_rules.specs.Pushdown.{Pushdown}
use Rattle.document_forms.specs.Documents.{Document}
use Rattle.document_forms.specs.declared.document.QueryLine.{QueryLine}
use Rattle.document_systems.specs.Weights.{cost_kind}
use Rattle.document_systems.specs.Systems.{system_of, pattern_of}
use Rattle.ladder.specs.Ladders.{ladder_cap, question}
use Rattle.wpds_app.proofs.LadderLemmas.{asked_lawful, from_over, to_over, told}
use Rattle.wpds_app.proofs.generate.answer_ladder.Goals as goal

pub pattern_from-requires : goal.pattern_from-requires
pattern_from-requires g c =
    let rungs = c.args.generation.rungs in
    let is = c.in_ok-system.ensures ∙ ap₂ (system_of cost_kind) c.costs.ensures c.in_ok-document.ensures in
    let q = c.index-as_slice-0.result in
    let queries = c.as_slice.ensures ∙ ap (λ (x : Document). x.queries) c.in_ok-document.ensures in
    let query : q ≡ question = c.index-as_slice-0.is ∙ ap (λ xs. get_or xs 0 q) queries in
    (asked_lawful rungs c.in_ok-system.system q (c.ladders_are_documents.ensures.lawful rungs c.requires.0.1) is query).from

pub pattern_from-requires-2 : goal.pattern_from-requires-2
pattern_from-requires-2 g c =
    let rungs = c.args.generation.rungs in
    let is = c.in_ok-system.ensures ∙ ap₂ (system_of cost_kind) c.costs.ensures c.in_ok-document.ensures in
    let q = c.index-as_slice-0.result in
    let queries = c.as_slice.ensures ∙ ap (λ (x : Document). x.queries) c.in_ok-document.ensures in
    let query : q ≡ question = c.index-as_slice-0.is ∙ ap (λ xs. get_or xs 0 q) queries in
    (asked_lawful rungs c.in_ok-system.system q (c.ladders_are_documents.ensures.lawful rungs c.requires.0.1) is query).to

pub value-requires-clause-from : goal.value-requires-clause-from
value-requires-clause-from g c κs within =
    let is = c.in_ok-system.ensures ∙ ap₂ (system_of cost_kind) c.costs.ensures c.in_ok-document.ensures in
    let symbols = ap (λ (p : Pushdown ℕ (Option ℕ) NoMap). p.symbols) is in
    let q = c.index-as_slice-0.result in
    let queries = c.as_slice.ensures ∙ ap (λ (x : Document). x.queries) c.in_ok-document.ensures in
    let query : q ≡ question = c.index-as_slice-0.is ∙ ap (λ xs. get_or xs 0 q) queries in
    let begin = c.in_ok-from.ensures ∙ ap₂ pattern_of symbols (ap (λ (x : QueryLine). x.from) query) in
    from_over c.args.generation.rungs c.in_ok-system.system c.in_ok-from.from is begin

pub value-requires-clause-to : goal.value-requires-clause-to
value-requires-clause-to g c κs within =
    let is = c.in_ok-system.ensures ∙ ap₂ (system_of cost_kind) c.costs.ensures c.in_ok-document.ensures in
    let symbols = ap (λ (p : Pushdown ℕ (Option ℕ) NoMap). p.symbols) is in
    let q = c.index-as_slice-0.result in
    let queries = c.as_slice.ensures ∙ ap (λ (x : Document). x.queries) c.in_ok-document.ensures in
    let query : q ≡ question = c.index-as_slice-0.is ∙ ap (λ xs. get_or xs 0 q) queries in
    let end = c.in_ok-to.ensures ∙ ap₂ pattern_of symbols (ap (λ (x : QueryLine). x.to) query) in
    to_over c.args.generation.rungs c.in_ok-system.system c.in_ok-to.to is end

pub returns : goal.returns
returns g c =
    let is = c.in_ok-system.ensures ∙ ap₂ (system_of cost_kind) c.costs.ensures c.in_ok-document.ensures in
    let symbols = ap (λ (p : Pushdown ℕ (Option ℕ) NoMap). p.symbols) is in
    let semiring = c.semiring.ensures.value ∙ ap (λ (p : Pushdown ℕ (Option ℕ) NoMap). p.semiring) is in
    let q = c.index-as_slice-0.result in
    let queries = c.as_slice.ensures ∙ ap (λ (x : Document). x.queries) c.in_ok-document.ensures in
    let query : q ≡ question = c.index-as_slice-0.is ∙ ap (λ xs. get_or xs 0 q) queries in
    let begin = c.in_ok-from.ensures ∙ ap₂ pattern_of symbols (ap (λ (x : QueryLine). x.from) query) in
    let end = c.in_ok-to.ensures ∙ ap₂ pattern_of symbols (ap (λ (x : QueryLine). x.to) query) in
    let rules = c.len.ensures ∙ ap (λ (x : Document). length x.rules) c.in_ok-document.ensures in
    let items = ap (λ (x : Document). x.items) c.in_ok-document.ensures in
    let asked = c.in_ok-cost.ensures in
    let a = asked.0 in
    let value = c.in_ok-text.ensures ∙ ap₂ (λ s xs. cost_kind.written s xs c.in_ok-cost.cost) semiring items ∙ ap (cost_kind.written ladder_cap []) asked.2 in
    told c.args.generation c.in_ok-system.system c.in_ok-from.from c.in_ok-to.to a c.len.result c.in_ok-text.text c.ladder_line.result is begin end asked.1 rules value c.ladder_line.ensures
