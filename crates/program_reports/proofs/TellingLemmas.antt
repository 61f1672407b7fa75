-- What the text of a query tells.
use Rattle.std.proofs.Common.{◌≡◌, ◌≢◌, ◌↔◌, inl, inr, ℕ, Bool, true, false, not, List, [], ◌++◌, refl, sym, ap, ap₂, ◌∙◌, subst, append-nil, is_some}
use Rattle.std.specs.Prelude.{◌⊎◌, Option, Some, None, codes, if◌then◌else◌}
use Rattle.pushdown_rules.specs.Pushdown.{Pushdown}
use Rattle.relation_laws.specs.Building.{Parts}
use Rattle.relation_weights.specs.declared.rel_map.RelMap.{RelMap}
use Rattle.relation_weights.specs.Relations.{relation_operations}
use Rattle.witness_graph.specs.declared.listing.Listing.{Listing}
use Rattle.boolean_programs.specs.declared.point.Point.{Point}
use Rattle.boolean_programs.specs.declared.program.Program.{Program as ParsedProgram}
use Rattle.boolean_programs.specs.Programs.{program_of}
use Rattle.boolean_machine.specs.Machine.{IsReached}
use Rattle.lowering_laws.specs.Lowering.{variables}
use Rattle.lowering_laws.specs.Queries.{entry_pattern, point_pattern}
use Rattle.path_sum.specs.declared.answer.Answer.{Answer}
use Rattle.query_answers.specs.Answering.{IsAnswer}
use Rattle.report_text.specs.declared.options.Options.{Options}
use Rattle.report_text.specs.Listings.{query_line}
use Rattle.report_text.specs.Reports.{ByQuery, IsBrief, listed, shown}
use Rattle.program_reports.specs.ProgramReports.{IsTraced, IsReachedText, TellsPoint, IsProgramReport}
use Rattle.program_reports.specs.declared.asked.Asked.{Asked}
use Rattle.program_reports.specs.private.Asked.{IsAsked}
use Rattle.program_reports.specs.private.Verdicts.{verdict}

-- one exactly where the second, and the second exactly where the third
pub through : {A B C : Type 0} → (A ↔ B) → (B ↔ C) → A ↔ C
through first second = ((λ a. second.0 (first.0 a)), (λ c. first.1 (second.1 c)))

nothing_listed : (b : Bool) → (if b then [] else shown None) ≡ []
nothing_listed true = refl
nothing_listed false = refl

-- nothing is traced where nothing is listed, or where it is not asked for
nothing_traced : (b : Bool) (p : ParsedProgram) (system : Pushdown ℕ Parts RelMap) (trace : List ℕ) → IsTraced b p system None trace → trace ≡ []
nothing_traced true p system trace is = is
nothing_traced false p system trace is = is

untraced : (b : Bool) (p : ParsedProgram) (system : Pushdown ℕ Parts RelMap) (listing : Option Listing) → b ≡ false → IsTraced b p system listing []
untraced true p system listing is = cc
untraced false p system listing is = refl

-- a value is not zero where a test says that it is not
tested : {X : Type 0} (b : Bool) (v z : X) → (b ≡ true) ↔ (v ≡ z) → (not b ≡ true) ↔ (v ≢ z)
tested true v z is = ((λ bad. cc), (λ other. absurd (other (is.0 refl))))
tested false v z is = ((λ _ zero. let bad : false ≡ true = is.1 zero in cc), (λ _. refl))

module _ (i : ℕ) (options : Options) (p : ParsedProgram) (system : Pushdown ℕ Parts RelMap) (reached : Type 0) where
  abbrev Told : Option Listing → List ℕ → Type 0
  Told listing text = (reached × IsReachedText options p system i listing text) ⊎ ((reached → ⊥) × (text ≡ query_line i (codes "unreachable")))

  -- the lines tell whether the point is reached, by whether there is a listing
  told : (text trace : List ℕ) (listing : Option Listing) → text ≡ (query_line i (verdict (is_some listing)) ++ listed options listing) ++ trace
      → IsTraced options.traces p system listing trace → ((listing ≡ None → ⊥) ↔ reached) → Told listing text
  told text trace None is traced tells =
      let line = query_line i (codes "unreachable") in
      let bare = ap (λ l. line ++ l) (nothing_listed options.brief) ∙ append-nil line in
      inr (
        (λ yes. tells.1 yes refl),
        is ∙ ap₂ (λ a b. a ++ b) bare (nothing_traced options.traces p system trace traced) ∙ append-nil line,
      )
  told text trace (Some l) is traced tells =
      inl (
        tells.0 (λ none. cc),
        record {
          trace = trace;
          traced = traced;
          lines = is;
        },
      )

  -- so does the line alone, where neither listings nor runs are written
  told_alone : (text : List ℕ) (b : Bool) (listing : Option Listing) → IsBrief options → text ≡ query_line i (verdict b) → ((b ≡ true) ↔ reached) → Told listing text
  told_alone text true listing brief is tells =
      let line = query_line i (codes "reachable") in
      let bare : line ++ listed options listing ≡ line = ap (λ b. line ++ (if b then [] else shown listing)) brief.0 ∙ append-nil line in
      inl (
        tells.0 refl,
        record {
          trace = [];
          traced = untraced options.traces p system listing brief.1;
          lines = is ∙ sym bare ∙ sym (append-nil (line ++ listed options listing));
        },
      )
  told_alone text false listing brief is tells = inr ((λ yes. let bad : false ≡ true = tells.1 yes in cc), is)

-- the lines of an answer tell of the point
pub tells : (options : Options) (p : ParsedProgram) (system : Pushdown ℕ Parts RelMap) (i : ℕ) (point : Point) (text trace : List ℕ) (a : Answer ℕ Parts RelMap)
    → system.semiring ≡ variables (program_of p)
    → IsAnswer relation_operations system options.by options.workers (entry_pattern (program_of p)) (point_pattern (program_of p) point) a
    → (a.value ≢ (relation_operations (variables (program_of p))).zero) ↔ IsReached (program_of p) point
    → IsTraced options.traces p system a.listing trace
    → text ≡ (query_line i (verdict (is_some a.listing)) ++ listed options a.listing) ++ trace → TellsPoint options p system i point text
tells options p system i point text trace a semiring is decided traced lines_are =
    let unlisted : (a.listing ≡ None) ↔ (a.value ≡ (relation_operations (variables (program_of p))).zero) =
    subst (λ n. (a.listing ≡ None) ↔ (a.value ≡ (relation_operations n).zero)) semiring is.shows.unlisted in
    record {
      answer = a;
      is_answer = is;
      decided = decided;
      told = told i options p system (IsReached (program_of p) point) text trace a.listing lines_are traced
          ((λ some. decided.0 (λ zero. some (unlisted.1 zero))), (λ yes none. decided.1 yes (unlisted.0 none)));
    }

-- and so does the line of its value alone
pub tells_alone : (options : Options) (p : ParsedProgram) (system : Pushdown ℕ Parts RelMap) (i : ℕ) (point : Point) (text : List ℕ) (a : Answer ℕ Parts RelMap) (zero : Bool)
    → IsAnswer relation_operations system options.by options.workers (entry_pattern (program_of p)) (point_pattern (program_of p) point) a
    → (a.value ≢ (relation_operations (variables (program_of p))).zero) ↔ IsReached (program_of p) point
    → IsBrief options → (zero ≡ true) ↔ (a.value ≡ (relation_operations (variables (program_of p))).zero)
    → text ≡ query_line i (verdict (not zero)) → TellsPoint options p system i point text
tells_alone options p system i point text a zero is decided brief test line_is = record {
  answer = a;
  is_answer = is;
  decided = decided;
  told = told_alone i options p system (IsReached (program_of p) point) text (not zero) a.listing brief line_is
      (through (tested zero a.value (relation_operations (variables (program_of p))).zero test) decided);
}

-- what is told of each query over a lowering is the report
pub reported : (a : Asked) (options : Options) (p : ParsedProgram) (text : List ℕ) → IsAsked a → a.program.now ≡ p → a.options ≡ options
    → ByQuery (TellsPoint a.options a.program.now a.lowering.system) 1 a.program.now.queries text → IsProgramReport options p text
reported a options p text is program_is options_are told =
    let report : IsProgramReport a.options a.program.now text = record {
      system = a.lowering.system;
      is_system = is.valid;
      lowering = is.lowering;
      told = told;
    } in
    subst (λ q. IsProgramReport options q text) program_is (subst (λ o. IsProgramReport o a.program.now text) options_are report)
