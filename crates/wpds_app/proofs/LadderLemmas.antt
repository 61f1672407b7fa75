-- Answers to ladders.
use Rattle.std.proofs.Common.{◌≡◌, ℕ, zero, suc, ◌<◌, List, [], ◌∷◌, length, sym, ap, ◌∙◌, subst, arith, Option}
use Rattle.std.specs.Prelude.{All, Result, Ok, Err, IfOk, false}
use Rattle.std.proofs.lemmas.List.Elements.{All-nil, All-cons, All-head}
use Rattle.semiring_laws.specs.declared.reach.NoMap.{NoMap}
use Rattle.cost_weights.specs.Cost.{cost_operations}
use Rattle.pushdown_rules.specs.Pushdown.{Pushdown}
use Rattle.config_patterns.specs.declared.item.Item.{Item}
use Rattle.config_patterns.specs.Membership.{PatternValue}
use Rattle.pattern_openings.specs.PatternOpenings.{IsOver}
use Rattle.document_forms.specs.Lawful.{IsQueryLine, IsQueryOf, IsDocument}
use Rattle.document_forms.specs.declared.document.QueryLine.{QueryLine}
use Rattle.document_systems.specs.Weights.{cost_kind}
use Rattle.document_systems.specs.Systems.{system_of, side_of}
use Rattle.path_sum.specs.declared.answer.Answer.{Answer}
use Rattle.query_answers.specs.Answering.{IsAnswer}
use Rattle.ladder.specs.Ladders.{symbols_from, ladder_document, ladder_cap, question}
use Rattle.command_words.specs.declared.options.Generation.{Generation}
use Rattle.wpds_app.specs.Generating.{ladder_line, IsLadderAnswer}

some_symbol : (n : ℕ) → 0 < length (symbols_from 0 n)
some_symbol zero = omega arith
some_symbol (suc n) = omega arith

-- the patterns of the question are over one control and any symbols, of which there is one
module _ (symbols : ℕ) (some : 0 < symbols) where
  first : Item
  first = record { set = 0 ∷ []; star = false }

  begins : IsOver 1 symbols (record { control = 0; symbols = symbols; items = record { set = 0 ∷ []; star = false } ∷ [] })
  begins = record {
    control = omega arith;
    sets = All-cons (λ (x : Item). All (λ g. g < symbols) x.set) (record { set = 0 ∷ []; star = false }) []
        (All-cons (λ g. g < symbols) 0 [] some (All-nil (λ g. g < symbols))) (All-nil (λ (x : Item). All (λ g. g < symbols) x.set));
  }

  ends : IsOver 1 symbols (record { control = 0; symbols = symbols; items = [] })
  ends = record { control = omega arith; sets = All-nil (λ (x : Item). All (λ g. g < symbols) x.set) }

module _ (n : ℕ) (p : Pushdown ℕ (Option ℕ) NoMap) (x : PatternValue) (is : p ≡ system_of cost_kind ladder_cap (ladder_document n)) where
  abbrev symbols : ℕ
  symbols = length (symbols_from 0 n)

  over : IsOver 1 symbols x → IsOver p.controls p.symbols x
  over here = subst (λ (q : Pushdown ℕ (Option ℕ) NoMap). IsOver q.controls q.symbols x) (sym is) here

  pub from_over : x ≡ side_of (ladder_document n) question.from → IsOver p.controls p.symbols x
  from_over begin = over (subst (IsOver 1 symbols) (sym begin) (begins symbols (some_symbol n)))

  pub to_over : x ≡ side_of (ladder_document n) question.to → IsOver p.controls p.symbols x
  to_over end = over (subst (IsOver 1 symbols) (sym end) (ends symbols (some_symbol n)))

-- the question is a query over the ladder's system
pub asked_lawful : (n : ℕ) (p : Pushdown ℕ (Option ℕ) NoMap) (q : QueryLine) → IsDocument (ladder_document n) → p ≡ system_of cost_kind ladder_cap (ladder_document n)
    → q ≡ question → IsQueryLine p.symbols p.controls p.symbols q
asked_lawful n p q lawful is query =
    let d = ladder_document n in
    let one : IsQueryOf d question = All-head (IsQueryOf d) question [] lawful.queries in
    subst (λ (x : Pushdown ℕ (Option ℕ) NoMap). IsQueryLine x.symbols x.controls x.symbols q) (sym is)
    (subst (λ (x : QueryLine). IsQueryOf d x) (sym query) one)

pub told : {E : Type 0} (g : Generation) (p : Pushdown ℕ (Option ℕ) NoMap) (from to : PatternValue) (a : Answer ℕ (Option ℕ) NoMap) (rules : ℕ) (value : List ℕ) (r : Result (List ℕ) E)
    → p ≡ system_of cost_kind ladder_cap (ladder_document g.rungs) → from ≡ side_of (ladder_document g.rungs) question.from → to ≡ side_of (ladder_document g.rungs) question.to
    → IsAnswer cost_operations p g.by g.workers from to a → rules ≡ length (ladder_document g.rungs).rules → value ≡ cost_kind.written ladder_cap [] a.value
    → IfOk r (λ t. t ≡ ladder_line g.rungs rules value) → IfOk r (IsLadderAnswer g)
told g p from to a rules value (Err e) is begin end answers count written line = tt
told g p from to a rules value (Ok t) is begin end answers count written line =
    let d = ladder_document g.rungs in
    record {
      answer = a;
      is_answer =
          subst (λ q. IsAnswer cost_operations q g.by g.workers (side_of d question.from) (side_of d question.to) a) is
          (subst (λ x. IsAnswer cost_operations p g.by g.workers x (side_of d question.to) a) begin
          (subst (λ x. IsAnswer cost_operations p g.by g.workers from x a) end answers));
      told = line ∙ ap (λ k. ladder_line g.rungs k value) count ∙ ap (ladder_line g.rungs (length d.rules)) written;
    }
