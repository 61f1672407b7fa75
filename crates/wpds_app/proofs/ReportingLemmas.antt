-- The parts of a report over one semiring.
use Rattle.std.proofs.Common.{◌≡◌, ◌<◌, ℕ, List, length, refl, sym, ap, ap₂, subst, ◌∙◌, arith, append-nil}
use Rattle.std.specs.Prelude.{Result, Ok, Err, IfOk}
use Rattle.config_patterns.specs.Membership.{PatternValue}
use Rattle.pushdown_rules.specs.Pushdown.{Pushdown}
use Rattle.document_forms.specs.Documents.{Document}
use Rattle.document_forms.specs.Lawful.{IsQueryOf, IsPatternText}
use Rattle.document_forms.specs.declared.document.QueryLine.{QueryLine}
use Rattle.document_systems.specs.Kinds.{Kind}
use Rattle.report_text.specs.Listings.{query_line}
use Rattle.path_sum.specs.Answers.{IsValueOf}
use Rattle.path_sum.specs.declared.answer.Answer.{Answer}
use Rattle.query_answers.specs.Answering.{IsAnswer, opened_of, summed_of}
use Rattle.witness_graph.specs.declared.node.Side.{Side}
use Rattle.witness_graph.specs.declared.node.Side.TheVariants.{Pre, Post}
use Rattle.document_systems.specs.Systems.{system_of, side_of}
use Rattle.wpds_app.specs.private.Kept.{opened_text, summed_text}
use Rattle.report_text.specs.declared.options.Options.{Options}
use Rattle.report_text.specs.Reports.{IsBrief, query_text}
use Rattle.report_text.proofs.CallerLemmas.{brief_text}
use Rattle.wpds_app.specs.Reports.{IsQueryText}

-- ---- the sides of a query, by direction

pub opened_side : (by : Side) (d : Document) (q : QueryLine) → opened_of by (side_of d q.from) (side_of d q.to) ≡ side_of d (opened_text by q)
opened_side Pre d q = refl
opened_side Post d q = refl

pub summed_side : (by : Side) (d : Document) (q : QueryLine) → summed_of by (side_of d q.from) (side_of d q.to) ≡ side_of d (summed_text by q)
summed_side Pre d q = refl
summed_side Post d q = refl

pub opened_lawful : (by : Side) (d : Document) (q : QueryLine) → IsQueryOf d q → IsPatternText (length d.symbols) (length d.controls) (length d.symbols) (opened_text by q)
opened_lawful Pre d q is = is.to
opened_lawful Post d q is = is.from

pub summed_lawful : (by : Side) (d : Document) (q : QueryLine) → IsQueryOf d q → IsPatternText (length d.symbols) (length d.controls) (length d.symbols) (summed_text by q)
summed_lawful Pre d q is = is.from
summed_lawful Post d q is = is.to

-- the pattern that a query opens is over the system's controls
pub opened_below : {S W Map : Type 0} (kind : Kind S W Map) (by : Side) (p : Pushdown S W Map) (d : Document) (q : QueryLine) → p ≡ system_of kind p.semiring d → IsQueryOf d q
    → (opened_of by (side_of d q.from) (side_of d q.to)).control < p.controls
opened_below kind by p d q system is =
    let count : p.controls ≡ length d.controls = ap (λ (s : Pushdown _ _ _). s.controls) system in
    let opened = opened_lawful by d q is in
    let within : (opened_text by q).control < p.controls = omega (arith, count, opened.control) in
    subst (λ (x : PatternValue). x.control < p.controls) (sym (opened_side by d q)) within

-- the lines of an answer are the text of its query
pub lines_told : {S W Map E : Type 0} (kind : Kind S W Map) (options : Options) (p : Pushdown S W Map) (items : List (List ℕ)) (i : ℕ) (from to : PatternValue) (a : Answer S W Map) (r : Result (List ℕ) E)
    (kept : S) → IsAnswer kind.operations p options.by options.workers from to a → kept ≡ p.semiring → IfOk r (λ t. t ≡ query_text i options (kind.written kept items a.value) a.listing)
    → IfOk r (IsQueryText kind options p items i from to)
lines_told kind options p items i from to a (Ok t) kept is same text =
    record { answer = a; is_answer = is; told = text ∙ ap (λ s. query_text i options (kind.written s items a.value) a.listing) same }
lines_told kind options p items i from to a (Err e) kept is same text = tt

-- and so is the line of its value where values alone are written
pub line_told : {S W Map E : Type 0} (kind : Kind S W Map) (options : Options) (p : Pushdown S W Map) (items : List (List ℕ)) (i : ℕ) (from to : PatternValue) (v : W) (r : Result (List ℕ) E)
    (kept : S) → IsBrief options → IsValueOf (IsAnswer kind.operations p options.by options.workers from to) v → kept ≡ p.semiring → IfOk r (λ t. t ≡ query_line i (kind.written kept items v))
    → IfOk r (IsQueryText kind options p items i from to)
line_told kind options p items i from to v (Ok t) kept brief (a, is, value) same text = record {
  answer = a;
  is_answer = is;
  told =
      text
      ∙ ap₂ (λ s w. query_line i (kind.written s items w)) same value
      ∙ sym (brief_text i options (kind.written p.semiring items a.value) a.listing brief ∙ append-nil (query_line i (kind.written p.semiring items a.value)));
}
line_told kind options p items i from to v (Err e) kept brief is same text = tt
